-- A word and its four bytes: a spelled number is read back, and what is read spells its bytes. Assumes nothing.
use Rattle.std.proofs.Common.{◌≡◌, ℕ, zero, suc, ◌+◌, ◌*◌, ◌<◌, ◌≤◌, List, [], ◌∷◌, ◌++◌}
use Rattle.std.proofs.Common.{◌∙◌, length, drop, get_or, refl, sym, ap, arith}
use Rattle.std.proofs.lemmas.Nat.{le_bytes_4, from_le_bytes-to_le_bytes_4}
use Rattle.std.proofs.lemmas.List.{get_or-append-add, drop_more}
use lib.Seq.{get_or-append_seam}
use Rattle.scene.specs.Scene.{word}
use Rattle.scene.specs.Spelled.{spell}

-- each element of the list is a byte
abbrev pub Bytes : List ℕ → Type 0
Bytes s = (i : ℕ) → get_or s i 0 < 256

word_of : (a b : List ℕ) (x y z w : ℕ)
    → word (a ++ (x ∷ y ∷ z ∷ w ∷ b)) (length a) ≡ x + 256 * y + 65536 * z + 16777216 * w
unfolding word
word_of a b x y z w = simp (get_or-append_seam, get_or-append-add)

-- the word that stands where it was spelled
pub word_spelled : (a b : List ℕ) (n i : ℕ) → n < 4294967296 → length a ≡ i → word (a ++ (spell n ++ b)) i ≡ n
unfolding spell
word_spelled a b n i h e = rw (← e) (word_of a b _ _ _ _ ∙ omega (arith, from_le_bytes-to_le_bytes_4 n h))

-- four bytes are what their word spells
module _ (x y z w : ℕ) (hx : x < 256) (hy : y < 256) (hz : z < 256) (hw : w < 256) where
  small : (i : ℕ) → get_or (x ∷ y ∷ z ∷ w ∷ []) i 0 < 256
  small zero = hx
  small (suc zero) = hy
  small (suc (suc zero)) = hz
  small (suc (suc (suc zero))) = hw
  small (suc (suc (suc (suc i)))) = omega arith

  spelled_word : spell (x + 256 * y + 65536 * z + 16777216 * w) ≡ x ∷ y ∷ z ∷ w ∷ []
  unfolding spell
  spelled_word = le_bytes_4 (x ∷ y ∷ z ∷ w ∷ []) _ refl small (omega arith)

-- the four bytes from place i on spell the word there
four_dropped : (s : List ℕ) (i : ℕ) → i + 4 ≤ length s
    → drop i s ≡ get_or s i 0 ∷ get_or s (i + 1) 0 ∷ get_or s (i + 2) 0 ∷ get_or s (i + 3) 0 ∷ drop (i + 4) s
four_dropped s i h = grind (arith, drop_more)

pub spell_dropped : (s : List ℕ) → Bytes s → (i : ℕ) → i + 4 ≤ length s → drop i s ≡ spell (word s i) ++ drop (i + 4) s
unfolding word
spell_dropped s b i h =
    four_dropped s i h
    ∙ ap (λ (l : List ℕ). l ++ drop (i + 4) s)
    (sym (spelled_word (get_or s i 0) (get_or s (i + 1) 0) (get_or s (i + 2) 0) (get_or s (i + 3) 0)
    (b i) (b (i + 1)) (b (i + 2)) (b (i + 3))))

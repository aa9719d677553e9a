-- The two ways to say that a file is laid out as a scene are one: the test of its counts and its length (`laid_out`),
-- and the sections put together (`Spelled`). Assumes nothing.
use Prim.Native.Nat.{ℕ, ◌+◌, ◌*◌, ◌≤◌, ◌<◌}
use native.Mathlib.Omega.{arith}
use mathlib.Core.Path.{◌≡◌, refl, sym, ap, subst, ◌∙◌}
use mathlib.Core.Bool.{Bool, true, false, cond, ◌&&◌}
use mathlib.Core.List.{List, [], ◌∷◌, ◌++◌, append_assoc, append-nil}
use borrow.Author.Tests.{le-leb, eq-eqb, leb-true, eqb-true}
use lib.Dec.{T, leb, eqb}
use lib.Ieee.Fits.{and_l, and_r}
use lib.Ieee.Bits.{is_true}
use lib.ListN.{length, take, drop, length-append, length-drop, take-append-drop, drop_of_length-le}
use lib.Seq.{drop-drop, length-take-le}
use Rattle.scene.specs.Scene.{word, displacements_at, pair_at, point_count, pair_count, limits_at, laid_out, are_pairs}
use Rattle.scene.specs.Scene.{scene_of}
use Rattle.scene.specs.declared.layout.Scene.{Scene}
use Rattle.number.specs.declared.refusal.Refusal.{Refusal}
use Rattle.number.specs.declared.refusal.Refusal.TheVariants.{NoScene, BadPair}
use Rattle.std.specs.Prelude.{Result, Ok, Err, is_ok}
use Rattle.std.proofs.lemmas.Bool.{false≢true}
use Rattle.scene.specs.Spelled.{spell, sections, Joined, Spelled, Taken}
use Rattle.scene.proofs.FourBytes.{Bytes, word_spelled, spell_dropped}

-- ---- sections, one after the other
-- from place i on each count stands where it must, and the file ends after the last entry
abbrev Fits : List ℕ → ℕ → List (ℕ × ℕ) → Type 0
Fits s i [] = length s ≡ i
Fits s i ((size, count) ∷ others) = (word s i ≡ count) × Fits s (i + 4 + size * count) others

fits_within : (s : List ℕ) (i : ℕ) (t : List (ℕ × ℕ)) → Fits s i t → i ≤ length s
fits_within s i [] f = omega arith
fits_within s i ((size, count) ∷ others) f =
    let within = fits_within s (i + 4 + size * count) others f.1 in
    omega arith

-- k bytes from place i on, and the rest
cut : (s : List ℕ) (i k : ℕ) → drop i s ≡ take k (drop i s) ++ drop (i + k) s
cut s i k = sym (ap (λ (l : List ℕ). take k (drop i s) ++ l) (sym (drop-drop k i s)) ∙ take-append-drop k (drop i s))

cut_length : (s : List ℕ) (i k : ℕ) → i + k ≤ length s → length (take k (drop i s)) ≡ k
cut_length s i k h = length-take-le k (drop i s) (rw length-drop (omega arith))

-- what fits is put together so
joined_of : (s : List ℕ) → Bytes s → (i : ℕ) (t : List (ℕ × ℕ)) → Fits s i t → Joined (drop i s) t
joined_of s b i [] f = drop_of_length-le s {i = i} (omega arith)
joined_of s b i ((size, count) ∷ others) f =
    let k = size * count in
    let within : i + 4 + k ≤ length s = fits_within s (i + 4 + k) others f.1 in
    let bytes =
    spell_dropped s b i (omega arith)
    ∙ ap (λ (w : ℕ). spell w ++ drop (i + 4) s) f.0
    ∙ ap (λ (l : List ℕ). spell count ++ l) (cut s (i + 4) k) in (
      take k (drop (i + 4) s),
      drop (i + 4 + k) s,
      bytes,
      cut_length s (i + 4) k within,
      joined_of s b (i + 4 + k) others f.1,
    )

-- each count fits a word
abbrev Words : List (ℕ × ℕ) → Type 0
Words [] = Unit
Words ((size, count) ∷ others) = (count < 4294967296) × Words others

spell_length : (k : ℕ) → length (spell k) ≡ 4
unfolding spell
spell_length k = refl

-- what is put together so fits, after any bytes
fits_of : (a s : List ℕ) (t : List (ℕ × ℕ)) → Words t → Joined s t → Fits (a ++ s) (length a) t
fits_of a s [] w j = rw (j, append-nil)
fits_of a s ((size, count) ∷ others) w (entries, rest, bytes, long, more) = (
  rw bytes (word_spelled a (entries ++ rest) count (length a) w.0 refl),
  subst (λ (i : ℕ). Fits (a ++ s) i others) place
      (subst (λ (l : List ℕ). Fits l (length front) others) whole (fits_of front rest others w.1 more)),
)
  where
    front : List ℕ
    front = (a ++ spell count) ++ entries

    place : length front ≡ length a + 4 + size * count
    place = simp (length-append, spell_length) (rw long)

    whole : front ++ rest ≡ a ++ s
    whole = simp append_assoc (rw bytes)

-- ---- what the test says
record Laid (s : List ℕ) : Type 0 where
  few_points : point_count s ≤ 1024
  same_count : word s (displacements_at (point_count s)) ≡ point_count s
  few_pairs : pair_count s ≤ 1024
  one_limits : word s (limits_at s) ≡ 1
  whole : length s ≡ limits_at s + 16

laid_facts : (s : List ℕ) → laid_out s ≡ true → Laid s
unfolding laid_out
laid_facts s h =
    let a = leb (point_count s) 1024 in
    let b = eqb (word s (displacements_at (point_count s))) (point_count s) in
    let c = leb (pair_count s) 1024 in
    let d = eqb (word s (limits_at s)) 1 in
    let e = eqb (length s) (limits_at s + 16) in
    let all = subst T (sym h) tt in
    let abcd = and_l (a && b && c && d) e all in
    let abc = and_l (a && b && c) d abcd in
    let ab = and_l (a && b) c abc in
    record {
      few_points = leb-true _ 1024 (is_true a (and_l a b ab));
      same_count = eqb-true _ _ (is_true b (and_r a b ab));
      few_pairs = leb-true _ 1024 (is_true c (and_r (a && b) c abc));
      one_limits = eqb-true _ 1 (is_true d (and_r (a && b && c) d abcd));
      whole = eqb-true _ _ (is_true e (and_r (a && b && c && d) e all));
    }

-- what passes the test is put together so
pub spelled_of : (s : List ℕ) → Bytes s → laid_out s ≡ true → Spelled s (point_count s) (pair_count s)
spelled_of s b h =
    let f = laid_facts s h in
    let whole = f.whole in
    record {
      few_points = f.few_points;
      few_pairs = f.few_pairs;
      joined = joined_of s b 0 (sections (point_count s) (pair_count s))
          (refl, (f.same_count, (refl, (f.one_limits, omega arith))));
    }

-- ---- what is put together so passes the test, with these counts
module _ (s : List ℕ) (n m : ℕ) (x : Spelled s n m) where
  fits : Fits s 0 (sections n m)
  fits =
      let few = x.few_points in
      let few-too = x.few_pairs in
      fits_of [] s (sections n m) (omega arith, (omega arith, (omega arith, (omega arith, tt)))) x.joined

  pub laid_of : laid_out s ≡ true
  unfolding laid_out
  laid_of =
      rw (
        fits.0,
        fits.1.0,
        fits.1.1.0,
        fits.1.1.1.0,
        fits.1.1.1.1,
        le-leb n 1024 x.few_points,
        le-leb m 1024 x.few_pairs,
        eq-eqb n n refl,
        eq-eqb (pair_at n m + 4 + 12) (pair_at n m + 16) (omega arith),
      )

  taken_whole : are_pairs s n m ≡ true → scene_of s ≡ Ok (record { points = n; pairs = m })
  unfolding scene_of
  taken_whole h = rw (laid_of, fits.0, fits.1.1.0, h)

  taken_bad : are_pairs s n m ≡ false → scene_of s ≡ Err BadPair
  unfolding scene_of
  taken_bad h = rw (laid_of, fits.0, fits.1.1.0, h)

-- ---- what is read of a file
counts : Result Scene Refusal → ℕ × ℕ
counts (Ok x) = (x.points, x.pairs)
counts (Err r) = (0, 0)

-- what a scene says of the two tests, and its counts
record Told (b d : Bool) (p q : ℕ) (x : Scene) : Type 0 where
  laid : b ≡ true
  good : d ≡ true
  points : p ≡ x.points
  pairs : q ≡ x.pairs

told : (b d : Bool) (p q : ℕ) (x : Scene)
    → cond b (cond d (Ok (record { points = p; pairs = q })) (Err BadPair)) (Err NoScene) ≡ Ok x → Told b d p q x
unfolding counts
told true true p q x h =
    record {
      laid = refl;
      good = refl;
      points = ap (λ (r : Result Scene Refusal). (counts r).0) h;
      pairs = ap (λ (r : Result Scene Refusal). (counts r).1) h;
    }
told true false p q x h = absurd (false≢true (ap is_ok h))
told false d p q x h = absurd (false≢true (ap is_ok h))

told_of : (s : List ℕ) (x : Scene) → scene_of s ≡ Ok x
    → Told (laid_out s) (are_pairs s (point_count s) (pair_count s)) (point_count s) (pair_count s) x
unfolding scene_of
told_of s x h = told (laid_out s) (are_pairs s (point_count s) (pair_count s)) (point_count s) (pair_count s) x h

sound_of : (s : List ℕ) → Bytes s → (n m : ℕ) → scene_of s ≡ Ok (record { points = n; pairs = m })
    → Spelled s n m × (are_pairs s n m ≡ true)
sound_of s b n m h =
    let t = told_of s (record { points = n; pairs = m }) h in
    rw (← t.points, ← t.pairs) (spelled_of s b t.laid, t.good)

pub taken_of : (s : List ℕ) → Bytes s → (r : Result Scene Refusal) → r ≡ scene_of s → Taken s r
taken_of s b r e = rw e (record { sound = sound_of s b; whole = taken_whole s; bad = taken_bad s })

-- a scene has at most 1,024 pairs
pub few_pairs : (s : List ℕ) (x : Scene) → scene_of s ≡ Ok x → x.pairs ≤ 1024
few_pairs s x h =
    let t = told_of s x h in
    rw (← t.pairs) ((laid_facts s t.laid).few_pairs)

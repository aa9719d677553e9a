-- A text that is set into a list from a place on. Assumes nothing.
use Prim.Native.Nat.{ℕ, suc, ◌+◌, ◌-◌, ◌≤◌}
use native.Mathlib.Nat.{add-zero, add-suc, suc-add}
use native.Mathlib.Omega.{arith}
use mathlib.Core.Path.{◌≡◌, refl, sym, ap, ◌∙◌}
use mathlib.Core.Bool.{Bool, true, false}
use mathlib.Core.List.{List, [], ◌∷◌, ◌++◌}
use borrow.Author.Tests.{ltb-true, ltb-false}
use borrow.Rule.Slice.PartMut.{put_mid}
use lib.Dec.{ltb}
use lib.ListN.{length, set, take, drop, length-set, length-take}
use lib.Seq.{sets, sets-eq, length-sets, set_out}
use Rattle.std.specs.Prelude.{min}
use Rattle.std.proofs.lemmas.List.{take_all, drop_all, take-append-drop}
use Rattle.std.proofs.lemmas.Slice.{put_mid-paste}
use Rattle.text.specs.Text.{most}

pub sets_append : (a b l : List ℕ) (i : ℕ) → sets (sets l i a) (i + length a) b ≡ sets l i (a ++ b)
sets_append [] b l i = ap (λ (k : ℕ). sets l k b) (add-zero i)
sets_append (x ∷ a) b l i =
    ap (λ (k : ℕ). sets (sets l i (x ∷ a)) k b) (add-suc i (length a) ∙ sym (suc-add i (length a)))
    ∙ sets_append a b _ (suc i)

-- past the end nothing is written
pub sets_past : (a l : List ℕ) (i : ℕ) → length l ≤ i → sets l i a ≡ l
sets_past [] l i h = refl
sets_past (x ∷ a) l i h =
    sets_past a (set l i x) (suc i) (omega (arith, length-set l i x)) ∙ set_out l i x h

-- a text that goes on where the place stops behind another one
pub sets_on : (a b l : List ℕ) (i j : ℕ) → length l ≤ most → j ≡ i + min (length a) (most - i)
    → sets (sets l i a) j b ≡ sets l i (a ++ b)
sets_on a b l i j h e = pick (ltb (most - i) (length a)) refl
  where
    pick : (t : Bool) → ltb (most - i) (length a) ≡ t → sets (sets l i a) j b ≡ sets l i (a ++ b)
    pick true f =
        let past = ltb-true (most - i) (length a) f in
        sets_past b (sets l i a) j (omega (arith, length-sets l i a))
        ∙ sym (sets_past b (sets l i a) (i + length a) (omega (arith, length-sets l i a)))
        ∙ sets_append a b l i
    pick false f =
        let within = ltb-false (most - i) (length a) f in
        let same : j ≡ i + length a = omega arith in
        ap (λ (k : ℕ). sets (sets l i a) k b) same ∙ sets_append a b l i

-- the first n bytes of a text that has n at least, where they fill the buffer or are all
sets_cut : (a l : List ℕ) (i n : ℕ) → i ≤ length l → n ≡ min (length a) (length l - i)
    → sets l i a ≡ take i l ++ take n a ++ drop (i + n) l
sets_cut a l i n h e = sym split ∙ pick (ltb (length l - i) (length a)) refl ∙ fits
  where
    cut : length (take n a) ≡ n
    cut = omega (arith, length-take n a)

    split : sets (sets l i (take n a)) (i + length (take n a)) (drop n a) ≡ sets l i a
    split = sets_append (take n a) (drop n a) l i ∙ ap (sets l i) (take-append-drop n a)

    fits : sets l i (take n a) ≡ take i l ++ take n a ++ drop (i + n) l
    fits =
        sets-eq (take n a) l i (omega (arith, cut))
        ∙ ap (λ (k : ℕ). take i l ++ take n a ++ drop (i + k) l) cut

    pick : (t : Bool) → ltb (length l - i) (length a) ≡ t
        → sets (sets l i (take n a)) (i + length (take n a)) (drop n a) ≡ sets l i (take n a)
    pick true f =
        let less = ltb-true (length l - i) (length a) f in
        sets_past (drop n a) (sets l i (take n a)) (i + length (take n a))
        (omega (arith, cut, length-sets l i (take n a)))
    pick false f =
        let all = ltb-false (length l - i) (length a) f in
        ap (sets (sets l i (take n a)) (i + length (take n a))) (drop_all n a (omega arith))

-- what a page writes of a text: what stands before the end
pub sets_shown : (a c l : List ℕ) (i s n k : ℕ) → s ≡ min i (length l) → n ≡ min (length a) (length l - s)
    → c ≡ take n a → n ≡ k → put_mid s k l c ≡ sets l i a
sets_shown a c l i s n k f e g m =
    put_mid-paste s k l c (take n a) n g m (sym cut)
    ∙ ap (λ (b : List ℕ). take s l ++ b ++ drop (s + n) l) (take_all n (take n a) (omega (arith, cut)))
    ∙ sym (sets_cut a l s n (omega arith) e)
    ∙ pick (ltb i (length l)) refl
  where
    cut : length (take n a) ≡ n
    cut = omega (arith, length-take n a)

    pick : (t : Bool) → ltb i (length l) ≡ t → sets l s a ≡ sets l i a
    pick true h =
        let less = ltb-true i (length l) h in
        let same : s ≡ i = omega arith in
        ap (λ (k : ℕ). sets l k a) same
    pick false h =
        let past = ltb-false i (length l) h in
        sets_past a l s (omega arith) ∙ sym (sets_past a l i past)

-- The choice as the code makes it, over the list of candidates: it keeps the least squared distance so far, and
-- answers the last candidate that is below the least of those before it, else the first. Proved once for both splits.
-- Assumes nothing.
use mathlib.Core.Path.{◌≡◌, refl, sym, ap, ◌∙◌}
use mathlib.Core.Bool.{Bool, true, false, ◌&&◌, cond, false≢true}
use mathlib.Core.List.{List, [], ◌∷◌, ◌++◌}
use Rattle.std.proofs.Common.{ℕ, zero, suc, ◌+◌, ◌<◌, ◌≤◌, length, take, get_or, add-one, arith, take_all}
use mathlib.Core.Logic.{inl, inr}
use native.Mathlib.Nat.{eq-or-lt_of_le}
use Rattle.std.proofs.Math.ListN.{set}
use Rattle.std.proofs.lemmas.List.{get_or-set_other}
use Rattle.std.proofs.lemmas.Grind.{get_or-set_at}
use lib.Ieee.{Float, lt}
use Rattle.number.specs.Number.{smaller}
use Rattle.distance.specs.declared.candidate.Nearest.{Nearest}
use Rattle.distance.specs.Distance.{nearer, nearest_from, only}

-- the nearer of a and b, where m is the squared distance of a
module _ (a b : Nearest) (m : Float) (is_least : m ≡ a.squared) where
  pub nearer_takes : lt b.squared m ≡ true → b ≡ nearer a b
  unfolding nearer
  nearer_takes t = rw (← is_least, t)

  pub nearer_stays : lt b.squared m ≡ false → a ≡ nearer a b
  unfolding nearer
  nearer_stays t = rw (← is_least, t)

  nearer_least : smaller m b.squared ≡ (nearer a b).squared
  unfolding nearer smaller
  nearer_least = rw is_least (go (lt b.squared a.squared))
    where
      go : (t : Bool) → cond t b.squared a.squared ≡ (cond t b a).squared
      go true = refl
      go false = refl

-- after a comes the interior candidate b, where it is there
module _ (a b : Nearest) (m : Float) (is_least : m ≡ a.squared) where
  last_taken : (there : Bool) → there && lt b.squared m ≡ true → b ≡ nearest_from a (only there b)
  unfolding nearest_from only
  last_taken true h = nearer_takes a b m is_least h
  last_taken false h = absurd (false≢true h)

  last_passed : (there : Bool) → there && lt b.squared m ≡ false → a ≡ nearest_from a (only there b)
  unfolding nearest_from only
  last_passed true h = nearer_stays a b m is_least h
  last_passed false h = refl

-- ---- a list of candidates after a first one, one by one
pub nearest_append : (first : Nearest) (xs ys : List Nearest)
    → nearest_from first (xs ++ ys) ≡ nearest_from (nearest_from first xs) ys
unfolding nearest_from
nearest_append first [] ys = refl
nearest_append first (x ∷ xs) ys = nearest_append (nearer first x) xs ys

pub nearest_next : (first : Nearest) (xs : List Nearest) (i : ℕ) (d : Nearest) → i < length xs
    → nearest_from first (take (suc i) xs) ≡ nearer (nearest_from first (take i xs)) (get_or xs i d)
unfolding nearest_from
nearest_next first [] i d h = absurd (omega arith)
nearest_next first (x ∷ xs) zero d h = refl
nearest_next first (x ∷ xs) (suc i) d h = nearest_next (nearer first x) xs i d (omega arith)

-- the least squared distance of the first candidate and i others
abbrev pub least_of : Nearest → List Nearest → ℕ → Float
least_of first others i = (nearest_from first (take i others)).squared

module _ (first : Nearest) (others : List Nearest) where
  pub least_next : (i : ℕ) (d : Nearest) (m n : Float) → i < length others → m ≡ least_of first others i
      → n ≡ smaller m (get_or others i d).squared → n ≡ least_of first others (i + 1)
  least_next i d m n h e f =
      f ∙ nearer_least (nearest_from first (take i others)) (get_or others i d) m e
      ∙ rw add-one (sym (ap (λ (b : Nearest). b.squared) (nearest_next first others i d h)))

  -- what stands before each other, with one more
  pub least_kept : (before : List Float) (i : ℕ) (m : Float) → i < length before → m ≡ least_of first others i
      → ((k : ℕ) (d : Float) → k < i → get_or before k d ≡ least_of first others k)
      → (k : ℕ) (d : Float) → k < i + 1 → get_or (set before i m) k d ≡ least_of first others k
  least_kept before i m h e each k d l =
      let below : k ≤ i = omega arith in
      elim (eq-or-lt_of_le below) [
        | inl same ↦ get_or-set_at before i k m d same h ∙ e ∙ sym (ap (least_of first others) same)
        | inr less ↦ get_or-set_other before i k m d (λ same. absurd (omega arith)) ∙ each k d less
      ]

  pub none_before : (i : ℕ) → i ≤ 0 → nearest_from first others ≡ nearest_from first (take i others)
      → first ≡ nearest_from first others
  unfolding nearest_from
  none_before i z e =
      let none : i ≡ 0 = omega arith in
      sym (e ∙ ap (λ (j : ℕ). nearest_from first (take j others)) none)

  -- from the last to the first: one that is below the least of all before it, or is not
  module _ (i k : ℕ) (d : Nearest) (m : Float) (next : i ≡ suc k) (h : k < length others)
      (is_least : m ≡ least_of first others k)
      (after : nearest_from first others ≡ nearest_from first (take i others)) where
    all : nearest_from first others ≡ nearer (nearest_from first (take k others)) (get_or others k d)
    all = after ∙ ap (λ (j : ℕ). nearest_from first (take j others)) next ∙ nearest_next first others k d h

    pub taken_at : lt (get_or others k d).squared m ≡ true → get_or others k d ≡ nearest_from first others
    taken_at t = nearer_takes _ _ m is_least t ∙ sym all

    pub passed_at : lt (get_or others k d).squared m ≡ false
        → nearest_from first others ≡ nearest_from first (take k others)
    passed_at t = all ∙ sym (nearer_stays _ _ m is_least t)

  -- the interior candidate comes last
  module _ (there : Bool) (inner : Nearest) (i : ℕ) (m : Float) (full : length others ≤ i)
      (is_least : m ≡ least_of first others i) where
    of_all : m ≡ (nearest_from first others).squared
    of_all = is_least ∙ ap (λ (xs : List Nearest). (nearest_from first xs).squared) (take_all i others full)

    pub inner_taken : there && lt inner.squared m ≡ true → inner ≡ nearest_from first (others ++ only there inner)
    inner_taken t = last_taken _ inner m of_all there t ∙ sym (nearest_append first others (only there inner))

    pub inner_passed : there && lt inner.squared m ≡ false → (r : Nearest) → r ≡ nearest_from first others
        → r ≡ nearest_from first (others ++ only there inner)
    inner_passed t r e = e ∙ last_passed _ inner m of_all there t ∙ sym (nearest_append first others (only there inner))

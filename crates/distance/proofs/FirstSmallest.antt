-- What is answered for a pair (specs/Distance.antt) is the first smallest of its candidates: those before it are not at
-- or below it, those after it are not below it. A NaN is passed over, unless it comes first. Proved once for both
-- splits. Assumes nothing.
use Prim.Native.Nat.{ℕ}
use mathlib.Core.Path.{◌≡◌, refl, sym, ap, ◌∙◌, subst}
use mathlib.Core.Logic.{◌⊎◌, inl, inr}
use mathlib.Core.Bool.{Bool, true, false, not}
use mathlib.Core.List.{List, [], ◌∷◌}
use lib.Dec.{T, T_not}
use lib.Ieee.{Float, lt, le, is_nan}
use Rattle.number.proofs.NoNan.{no_nan_lt, no_nan_le}
use Rattle.number.proofs.Comparing.{not_lt_le}
use Rattle.number.proofs.Transitive.{lt_trans, le_lt_trans, lt_not_le}
use Rattle.distance.specs.declared.candidate.Nearest.{Nearest}
use Rattle.distance.specs.Distance.{nearer, nearest_from, candidates_of, nearest_of}
use Rattle.distance.proofs.Choice.{nearer_takes, nearer_stays}
use Rattle.distance.proofs.Listed.{listed, Each}

-- r is an entry of the list that none after it is below, and that none before it is at or below
unfoldable pub FirstOf : List Nearest → Nearest → Type 0
FirstOf [] r = ⊥
FirstOf (c ∷ rest) r =
    ((r ≡ c) × Each (λ (d : Nearest). lt d.squared r.squared ≡ false) rest)
    ⊎ ((le c.squared r.squared ≡ false) × FirstOf rest r)

is_false : (b : Bool) → (T b → ⊥) → b ≡ false
is_false true f = absurd (f tt)
is_false false f = refl

none : (b : Bool) → b ≡ false → T b → ⊥
none b e t = subst T e t

-- ---- numbers
-- of two that are no NaN, what is not at or below is above
not_le_lt : (x y : Float) → T (not (is_nan x)) → T (not (is_nan y)) → le x y ≡ false → T (lt y x)
not_le_lt x y p q e = decide (lt y x) (not_lt_le y x q p)
  where
    decide : (b : Bool) → (T (not b) → T (le x y)) → T b
    decide true f = tt
    decide false f = absurd (none (le x y) e (f tt))

-- y is below x, and not at or below z: then x is not at or below z
over : (x y z : Float) → T (lt y x) → le y z ≡ false → le x z ≡ false
over x y z h e =
    is_false (le x z)
    (λ k. lt_not_le z x (lt_trans z y x (not_le_lt y z (no_nan_lt y x h).0 (no_nan_le x z k).1 e) h) k)

-- neither y is below x nor x at or below z, and x is no NaN: then y is not at or below z
under : (x y z : Float) → T (not (is_nan x)) → lt y x ≡ false → le x z ≡ false → le y z ≡ false
under x y z p e f =
    is_false (le y z)
    (λ k. none (lt y x) e (le_lt_trans y z x k (not_le_lt x z p (no_nan_le y z k).1 f)))

-- ---- a NaN that comes first stays
nan_keeps : (a b : Nearest) → T (is_nan a.squared) → nearer a b ≡ a
unfolding nearer
nan_keeps a b h = rw (is_false (lt b.squared a.squared) no)
  where
    no : T (lt b.squared a.squared) → ⊥
    no k = T_not (is_nan a.squared) (no_nan_lt b.squared a.squared k).1 h

nan_stays : (a : Nearest) (rest : List Nearest) → T (is_nan a.squared) → nearest_from a rest ≡ a
unfolding nearest_from
nan_stays a [] h = refl
nan_stays a (b ∷ rest) h = ap (λ (c : Nearest). nearest_from c rest) (nan_keeps a b h) ∙ nan_stays a rest h

-- ---- one more candidate
module _ (a b r : Nearest) (rest : List Nearest) where
  taken : T (lt b.squared a.squared) → FirstOf (b ∷ rest) r → FirstOf (a ∷ b ∷ rest) r
  unfolding FirstOf
  taken h (inl (e, f)) = inr (
    subst (λ (c : Nearest). le a.squared c.squared ≡ false) (sym e)
        (is_false (le a.squared b.squared) (lt_not_le b.squared a.squared h)),
    inl (e, f),
  )
  taken h (inr (e, f)) = inr (over a.squared b.squared r.squared h e, inr (e, f))

  kept : lt b.squared a.squared ≡ false → (T (is_nan a.squared) → r ≡ a) → FirstOf (a ∷ rest) r
      → FirstOf (a ∷ b ∷ rest) r
  unfolding FirstOf Each
  kept h s (inl (e, f)) = inl (e, (subst (λ (c : Nearest). lt b.squared c.squared ≡ false) (sym e) h, f))
  kept h s (inr (e, f)) = inr (e, inr (past (is_nan a.squared) refl, f))
    where
      past : (n : Bool) → is_nan a.squared ≡ n → le b.squared r.squared ≡ false
      past true i =
          let n : T (is_nan a.squared) = subst T (sym i) tt in
          is_false (le b.squared r.squared) (λ k. T_not (is_nan r.squared)
          (no_nan_le b.squared r.squared k).1 (subst (λ (c : Nearest). T (is_nan c.squared)) (sym (s n)) n))
      past false i =
          under a.squared b.squared r.squared (subst (λ (n : Bool). T (not n)) (sym i) tt) h e

-- ---- the list
step : (a b : Nearest) (rest : List Nearest) → ((c : Nearest) → FirstOf (c ∷ rest) (nearest_from c rest)) → (t : Bool)
    → lt b.squared a.squared ≡ t → FirstOf (a ∷ b ∷ rest) (nearest_from (nearer a b) rest)
step a b rest tail true e =
    subst (λ (n : Nearest). FirstOf (a ∷ b ∷ rest) (nearest_from n rest)) (nearer_takes a b a.squared refl e)
    (taken a b (nearest_from b rest) rest (subst T (sym e) tt) (tail b))
step a b rest tail false e =
    subst (λ (n : Nearest). FirstOf (a ∷ b ∷ rest) (nearest_from n rest)) (nearer_stays a b a.squared refl e)
    (kept a b (nearest_from a rest) rest e (nan_stays a rest) (tail a))

from_first : (a : Nearest) (rest : List Nearest) → FirstOf (a ∷ rest) (nearest_from a rest)
unfolding FirstOf nearest_from Each
from_first a [] = inl (refl, tt)
from_first a (b ∷ rest) = step a b rest (λ (c : Nearest). from_first c rest) (lt b.squared a.squared) refl

pub nearest_first : (split : ℕ) (x : List (List Float)) → FirstOf (listed (candidates_of split x)) (nearest_of split x)
unfolding nearest_of
nearest_first split x = from_first (candidates_of split x).first (candidates_of split x).others

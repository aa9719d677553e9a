-- Candidates in a list, and a fact of each of them: what holds of all candidates holds of the answered one.
-- Assumes nothing.
use mathlib.Core.Bool.{Bool, true, false, cond}
use mathlib.Core.List.{List, [], ◌∷◌}
use lib.Dec.{T}
use lib.Ieee.{lt}
use Rattle.distance.specs.declared.candidate.Nearest.{Nearest}
use Rattle.distance.specs.Distance.{Candidates, only, nearer, nearest_from, first_smallest}

-- the candidates of a pair as one list
abbrev pub listed : Candidates → List Nearest
listed c = c.first ∷ c.others

module _ (P : Nearest → Type 0) where
  unfoldable pub Each : List Nearest → Type 0
  Each [] = Unit
  Each (c ∷ rest) = P c × Each rest

  pub each_only : (t : Bool) (c : Nearest) → (T t → P c) → Each (only t c)
  unfolding Each only
  each_only true c f = (f tt, tt)
  each_only false c f = tt

  nearer_keeps : (a b : Nearest) → P a → P b → P (nearer a b)
  unfolding nearer
  nearer_keeps a b p q = go (lt b.squared a.squared)
    where
      go : (t : Bool) → P (cond t b a)
      go true = q
      go false = p

  from_keeps : (a : Nearest) (rest : List Nearest) → P a → Each rest → P (nearest_from a rest)
  unfolding Each nearest_from
  from_keeps a [] p ps = p
  from_keeps a (b ∷ rest) p ps = from_keeps (nearer a b) rest (nearer_keeps a b p ps.0) ps.1

  pub smallest_keeps : (c : Candidates) → Each (listed c) → P (first_smallest c)
  unfolding Each
  smallest_keeps c ps = from_keeps c.first c.others ps.0 ps.1

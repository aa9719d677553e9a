-- A property of each root that a step gives is one of each answered root: over the quadratic's roots, the kept ones
-- and the spans one after another. Assumes nothing.
use mathlib.Core.Path.{◌≡◌, refl}
use mathlib.Core.Bool.{Bool, true, false, cond}
use lib.Ieee.{Float}
use Rattle.std.specs.Prelude.{Option, None, Some, Result, Ok, Err, IfOk, IfSome}
use Rattle.number.specs.Number.{zero32, between, written}
use Rattle.number.specs.declared.refusal.Refusal.{Refusal}
use Rattle.polynomial_root.specs.Roots.{none, push, keep, kept_roots, joined, after, solved_roots}
use Rattle.polynomial_root.specs.declared.answer.Roots.{Roots}
use Rattle.polynomial_root.proofs.Places.{Holds, none_holds, push_holds}

-- what Newton's steps, a span or a quadratic gives has the property
abbrev pub Finds : (Float → Type 0) → Result Float Refusal → Type 0
Finds P f = IfOk f (λ r. P (written r))

abbrev pub Gives : (Float → Type 0) → Result (Option Float) Refusal → Type 0
Gives P f = IfOk f (λ o. IfSome o (λ r. P (written r)))

abbrev pub Solves : (Float → Type 0) → Option (Float × Float) → Type 0
Solves P s = IfSome s (λ e. P (written e.0) × P (written e.1))

module _ (P : Float → Type 0) where
  pub solved_holds : (s : Option (Float × Float)) → Solves P s → Holds P (solved_roots s)
  unfolding solved_roots
  solved_holds None h = none_holds P
  solved_holds (Some (a, b)) (p, q) = push_holds P (push none a) b (push_holds P none a (none_holds P) p) q

  -- ---- the spans one after another
  joined_holds : (a : Roots) (f : Option Float) → Holds P a → Gives P (Ok f) → Holds P (joined a f)
  unfolding joined
  joined_holds a None h g = h
  joined_holds a (Some r) h g = push_holds P a r h g

  pub after_holds : (a : Result Roots Refusal) (f : Result (Option Float) Refusal) → IfOk a (Holds P) → Gives P f
      → IfOk (after a f) (Holds P)
  unfolding after
  after_holds (Err n) f h g = h
  after_holds (Ok a) (Err n) h g = g
  after_holds (Ok a) (Ok f) h g = joined_holds a f h g

  -- ---- the quadratic's roots in 0..t
  module _ (t : Float) (fine : (r : Float) → between zero32 t r ≡ true → P (written r)) where
    keep_holds : (a : Roots) (r : Float) → Holds P a → Holds P (keep t a r)
    unfolding keep
    keep_holds a r h = go (between zero32 t r) (fine r)
      where
        go : (b : Bool) → (b ≡ true → P (written r)) → Holds P (cond b (push a r) a)
        go true p = push_holds P a r h (p refl)
        go false p = h

    pub kept_holds : (s : Option (Float × Float)) → Holds P (kept_roots t s)
    unfolding kept_roots
    kept_holds None = none_holds P
    kept_holds (Some (a, b)) = keep_holds (keep t none a) b (keep_holds none a (none_holds P))

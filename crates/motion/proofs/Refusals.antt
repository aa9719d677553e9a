-- The roots of a cubic, once its numbers are admitted, are refused by 6, 7 or 8, or not at all. Assumes nothing.
use Rattle.std.proofs.Common.{ℕ, zero, suc, Bool, true, false, cond, ◌&&◌, ◌||◌, Float}
use Rattle.std.proofs.Common.{Option, None, Some, Result, Ok, Err}
use Rattle.std.specs.Float.Ieee.{lt, le, eq}
use Rattle.number.specs.Number.{◌⊖◌, ◌⊗◌, ◌⊘◌, zero32, size, smaller, larger, clamp, between, numbered}
use Rattle.number.specs.declared.refusal.Refusal.{Refusal}
use Rattle.polynomial_root.specs.declared.answer.Roots.{Roots}
use Rattle.polynomial_root.specs.declared.cubic.Cubic.{Cubic}
use Rattle.polynomial_root.specs.declared.span.End.{End}
use Rattle.polynomial_root.specs.Roots.{none, refused, push, two32, solved, three32, value_at, slope_at, stepped}
use Rattle.polynomial_root.specs.Roots.{both_zero, descend, newton_steps, found, end_at, started, span_root, vanishes}
use Rattle.polynomial_root.specs.Roots.{opposite, fraction, linear_roots, kept_roots, lower_roots, after, start}
use Rattle.polynomial_root.specs.Roots.{span_roots, cubic_roots}

-- a property of the refusals with the numbers 6, 7 and 8
module _ (P : Refusal → Type 0) (p6 : P (numbered 6)) (p7 : P (numbered 7)) (p8 : P (numbered 8)) where
  -- an answer has it where it is a refusal
  abbrev pub Has : {A : Type 0} → Result A Refusal → Type 0
  Has (Ok v) = Unit {0}
  Has (Err r) = P r

  module _ (p : Cubic) (t epsilon : Float) where
    descend_has : (k : ℕ) (r : Float) → Has (descend p t epsilon k r)
    unfolding descend
    descend_has zero r = tt
    descend_has (suc k) r =
        go (lt (size (value_at p r)) epsilon) (both_zero (value_at p r) (slope_at p r)) (descend_has k (stepped p t r))
      where
        go : (b c : Bool) → Has (descend p t epsilon k (stepped p t r))
            → Has (cond b (Ok r) (cond c (refused 8) (descend p t epsilon k (stepped p t r))))
        go true c h = tt
        go false true h = p8
        go false false h = h

    found_has : (a : Result Float Refusal) → Has a → Has (found a)
    found_has (Ok r) h = tt
    found_has (Err n) h = h

    span_has : (a b : End) → Has (span_root p t epsilon a b)
    unfolding span_root started
    span_has a b =
        go ((lt a.f zero32 && lt b.f zero32) || (lt zero32 a.f && lt zero32 b.f)) (eq a.x b.x)
        (both_zero a.f b.f) (between zero32 t guess)
      where
        guess : Float
        guess = (a.f ⊗ b.x ⊖ b.f ⊗ a.x) ⊘ (a.f ⊖ b.f)

        point : Option Float
        point = cond (eq a.f zero32) (Some a.x) None

        go : (k l m n : Bool)
            → Has (cond k (Ok None) (cond l (Ok point) (cond m (refused 6)
            (found (cond n (descend p t epsilon newton_steps guess) (refused 7))))))
        go true l m n = tt
        go false true m n = tt
        go false false true n = p6
        go false false false true = found_has _ (descend_has newton_steps guess)
        go false false false false = p7

    maybe_has : (b : Bool) (f : Result (Option Float) Refusal) → Has f → Has (cond b f (Ok None))
    maybe_has true f h = h
    maybe_has false f h = tt

    after_has : (a : Result Roots Refusal) (f : Result (Option Float) Refusal) → Has a → Has f → Has (after a f)
    unfolding after
    after_has (Err n) f h k = h
    after_has (Ok a) (Err n) h k = k
    after_has (Ok a) (Ok f) h k = tt

    spans_has : (s : Option (Float × Float)) → Has (span_roots p t epsilon s)
    unfolding span_roots
    spans_has None = after_has (Ok none) _ tt (span_has (start p) (end_at p t))
    spans_has (Some (e0, e1)) =
        after_has _ _
        (after_has _ _
        (after_has (Ok none) _ tt
        (maybe_has (le zero32 e0) _ (span_has (start p) (end_at p (smaller t e0)))))
        (maybe_has (le e0 t && le zero32 e1) _ (span_has (end_at p (larger zero32 e0)) (end_at p (smaller t e1)))))
        (maybe_has (le e1 t) _ (span_has (end_at p (larger zero32 e1)) (end_at p t)))

  -- ---- degree two at most
  linear_has : (t a b : Float) → Has (linear_roots t a b)
  unfolding linear_roots
  linear_has t a b = go (opposite a b) (both_zero a b) (clamp (fraction a b ⊗ t) zero32 t)
    where
      go : (k l : Bool) (r : Float) → Has (cond k (cond l (refused 6) (Ok (push none r))) (Ok none))
      go true true r = p6
      go true false r = tt
      go false l r = tt

  lower_has : (p : Cubic) (t : Float) → Has (lower_roots p t)
  unfolding lower_roots
  lower_has p t = go (vanishes p.c2) (vanishes p.c1)
    where
      constant : Roots
      constant = cond (vanishes p.c0) (push none zero32) none

      two : Roots
      two = kept_roots t (solved p.c0 p.c1 p.c2)

      go : (k l : Bool) → Has (cond k (cond l (Ok constant) (linear_roots t p.c0 (value_at p t))) (Ok two))
      go true true = tt
      go true false = linear_has t p.c0 (value_at p t)
      go false l = tt

  pub cubic_has : (p : Cubic) (t epsilon : Float) → Has (cubic_roots p t epsilon)
  unfolding cubic_roots
  cubic_has p t epsilon = go (vanishes p.c3)
    where
      slope : Option (Float × Float)
      slope = solved p.c1 (two32 ⊗ p.c2) (three32 ⊗ p.c3)

      go : (b : Bool) → Has (cond b (lower_roots p t) (span_roots p t epsilon slope))
      go true = lower_has p t
      go false = spans_has p t epsilon slope

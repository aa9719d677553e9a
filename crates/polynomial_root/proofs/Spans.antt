-- Newton's steps and the spans stay in 0..t: what they give lies there, and no step is NaN. Assumes nothing.
use Prim.Native.Nat.{ℕ, zero, suc}
use mathlib.Core.Path.{◌≡◌, refl}
use mathlib.Core.Bool.{Bool, true, false, cond, ◌&&◌, ◌||◌}
use lib.Dec.{T}
use lib.Ieee.{Float, lt, le, eq}
use lib.Ieee.Fits.{and_i, and_l}
use Rattle.std.specs.Prelude.{Option, None, Some, Result, Ok, Err, IfOk}
use Rattle.std.proofs.lemmas.Float.{T_from_true}
use Rattle.number.specs.Number.{◌⊖◌, ◌⊗◌, ◌⊘◌, zero32, size, smaller, larger, between}
use Rattle.number.specs.declared.refusal.Refusal.{Refusal}
use Rattle.number.proofs.Within.{Within, within_finite}
use Rattle.number.proofs.Comparing.{lt_le}
use Rattle.polynomial_root.specs.Roots.{none, refused, value_at, slope_at, stepped, both_zero, descend, newton_steps}
use Rattle.polynomial_root.specs.Roots.{started, end_at, found, span_root, start, part_root, span_roots}
use Rattle.polynomial_root.specs.declared.cubic.Cubic.{Cubic}
use Rattle.polynomial_root.specs.declared.span.End.{End}
use Rattle.polynomial_root.proofs.Orders.{zero_in_range, written_in_range, clamp_in_range}
use Rattle.polynomial_root.proofs.Orders.{within_range}
use Rattle.polynomial_root.proofs.Defined.{quotient_no_nan, difference_no_nan, value_within, slope_within}
use Rattle.polynomial_root.proofs.Places.{Holds, none_holds}
use Rattle.polynomial_root.proofs.Gathered.{Finds, Gives, after_holds}

-- coefficients of size 2 ^ 20 at most, and a range from 0 to 1 at most
pub record Allowed (p : Cubic) (t : Float) : Type 0 where
  pub w0 : Within 20 p.c0
  pub w1 : Within 20 p.c1
  pub w2 : Within 20 p.c2
  pub w3 : Within 20 p.c3
  pub above : T (lt zero32 t)
  pub small : Within 0 t

module _ (p : Cubic) (t epsilon : Float) (h : Allowed p t) where
  abbrev In : Float → Type 0
  In r = T (between zero32 t r)

  step_in_range : (r : Float) → In r → both_zero (value_at p r) (slope_at p r) ≡ false → In (stepped p t r)
  step_in_range r i n =
      let w = within_range 0 r t i h.small in
      let v = within_finite 23 (value_at p r) (value_within p r h.w0 h.w1 h.w2 h.w3 w) in
      let s = within_finite 23 (slope_at p r) (slope_within p r h.w0 h.w1 h.w2 h.w3 w) in
      clamp_in_range t h.above (r ⊖ value_at p r ⊘ slope_at p r)
      (difference_no_nan r (value_at p r ⊘ slope_at p r) (within_finite 0 r w)
      (quotient_no_nan (value_at p r) (slope_at p r) v s n))

  descend_in_range : (k : ℕ) (r : Float) → In r → Finds In (descend p t epsilon k r)
  unfolding descend
  descend_in_range zero r i = written_in_range t h.above r i
  descend_in_range (suc k) r i =
      go (lt (size (value_at p r)) epsilon) (both_zero (value_at p r) (slope_at p r))
      (λ n. descend_in_range k (stepped p t r) (step_in_range r i n))
    where
      go : (a b : Bool) → (b ≡ false → Finds In (descend p t epsilon k (stepped p t r)))
          → Finds In (cond a (Ok r) (cond b (refused 8) (descend p t epsilon k (stepped p t r))))
      go true b f = written_in_range t h.above r i
      go false true f = tt
      go false false f = f refl

  started_in_range : (r : Float) → Finds In (started p t epsilon r)
  unfolding started
  started_in_range r = go (between zero32 t r) (λ e. descend_in_range newton_steps r (T_from_true _ e))
    where
      go : (b : Bool) → (b ≡ true → Finds In (descend p t epsilon newton_steps r))
          → Finds In (cond b (descend p t epsilon newton_steps r) (refused 7))
      go true f = f refl
      go false f = tt

  found_in_range : (f : Result Float Refusal) → Finds In f → Gives In (found f)
  found_in_range (Ok r) g = g
  found_in_range (Err n) g = g

  span_in_range : (a b : End) → In a.x → Gives In (span_root p t epsilon a b)
  unfolding span_root
  span_in_range a b i =
      go ((lt a.f zero32 && lt b.f zero32) || (lt zero32 a.f && lt zero32 b.f)) (eq a.x b.x)
      (eq a.f zero32) (both_zero a.f b.f)
    where
      secant : Float
      secant = (a.f ⊗ b.x ⊖ b.f ⊗ a.x) ⊘ (a.f ⊖ b.f)

      go : (o s z d : Bool)
          → Gives In (cond o (Ok None) (cond s (Ok (cond z (Some a.x) None))
          (cond d (refused 6) (found (started p t epsilon secant)))))
      go true s z d = tt
      go false true true d = written_in_range t h.above a.x i
      go false true false d = tt
      go false false z true = tt
      go false false z false = found_in_range (started p t epsilon secant) (started_in_range secant)

  larger_in_range : (e : Float) → T (le e t) → In (larger zero32 e)
  unfolding larger
  larger_in_range e l = go (lt zero32 e) refl
    where
      go : (b : Bool) → lt zero32 e ≡ b → In (cond b e zero32)
      go true q = and_i (le zero32 e) (le e t) (lt_le zero32 e (T_from_true _ q)) l
      go false q = zero_in_range t h.above

  part_in_range : (there : Bool) (a b : End) → (there ≡ true → In a.x) → Gives In (part_root p t epsilon there a b)
  part_in_range true a b i = span_in_range a b (i refl)
  part_in_range false a b i = tt

  pub spans_in_range : (s : Option (Float × Float)) → IfOk (span_roots p t epsilon s) (Holds In)
  unfolding span_roots
  spans_in_range None =
      after_holds In (Ok none) (span_root p t epsilon (start p) (end_at p t)) (none_holds In)
      (span_in_range (start p) (end_at p t) (zero_in_range t h.above))
  spans_in_range (Some (e0, e1)) =
      let there = le e0 t && le zero32 e1 in
      let first = part_in_range (le zero32 e0) (start p) (end_at p (smaller t e0)) (λ e. zero_in_range t h.above) in
      let middle =
      part_in_range there (end_at p (larger zero32 e0)) (end_at p (smaller t e1))
      (λ e. larger_in_range e0 (and_l (le e0 t) (le zero32 e1) (T_from_true _ e))) in
      let last =
      part_in_range (le e1 t) (end_at p (larger zero32 e1)) (end_at p t) (λ e. larger_in_range e1 (T_from_true _ e)) in
      after_holds In _ _ (after_holds In _ _ (after_holds In (Ok none) _ (none_holds In) first) middle) last

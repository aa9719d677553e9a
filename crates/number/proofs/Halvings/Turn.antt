-- One halving between a time where the test holds and a later one where it does not: what holds before it holds after
-- it, and the window is two thirds of what it was, or less, unless it repeats. Assumes nothing.
use mathlib.Core.Path.{◌≡◌, refl, sym, ap, ◌∙◌, subst}
use mathlib.Core.Logic.{inl, inr}
use mathlib.Core.Bool.{Bool, true, false, cond, true≢false}
use Prim.Native.Nat.{ℕ, suc, ◌+◌, ◌-◌, ◌*◌, ◌^◌, ◌≤◌, ◌<◌}
use native.Mathlib.Nat.{le_trans, le_of_eq, le_of_lt, not-le_of_lt, one-mul, mul-le-mul_right, pow-suc}
use native.Mathlib.Omega.{arith}
use lib.Dec.{T, lt→ltb, eqb_refl, lit<}
use lib.Arith.{lt_of_le-ne}
use lib.Ieee.{Float, binary32, add, lt, eq, fits, to_bits}
use lib.Ieee.Fits.{mul-fits}
use Rattle.number.specs.Number.{half32, midpoint, window, next_lower, next_upper, repeats}
use Rattle.number.proofs.Rounding.{rnd}
use Rattle.number.proofs.Middle.{mid, mid_between}
use Rattle.number.proofs.Units.{L, Is, plus, lt_is, eq_is, same_float}
use Rattle.number.proofs.Choice.{pick}
use Rattle.number.proofs.Plus.{mid_plus}
use Rattle.number.proofs.Neighbours.{next_bits}
use Rattle.number.proofs.Window.{Span, Split, Step, step_at, mid_at, window_at}

-- what holds before the halving n + 1
pub record Inv (p : Float → Bool) (n : ℕ) (lo hi : Float) : Type 0 where
  pub u : ℕ
  pub v : ℕ
  pub span : Span lo hi u v
  pub fit_lo : T (fits binary32 lo)
  pub fit_hi : T (fits binary32 hi)
  pub plus_lo : T (plus lo)
  pub plus_hi : T (plus hi)
  pub at_lo : p lo ≡ true
  pub at_hi : p hi ≡ false
  pub width : (v - u) * 3 ^ n ≤ L * 2 ^ n

pub halved : (p : Float → Bool) (lo hi : Float) → Split lo hi (next_lower p lo hi) (next_upper p lo hi)
halved p lo hi = go (p (midpoint lo hi))
  where
    go : (b : Bool) → Split lo hi (cond b (midpoint lo hi) lo) (cond b hi (midpoint lo hi))
    go true = inl (refl, refl)
    go false = inr (refl, refl)

pub side_lo : (p : Float → Bool) (lo m : Float) → p lo ≡ true → p (cond (p m) m lo) ≡ true
side_lo p lo m h = go (p m) refl
  where
    go : (b : Bool) → p m ≡ b → p (cond b m lo) ≡ true
    go true e = e
    go false e = h

pub side_hi : (p : Float → Bool) (hi m : Float) → p hi ≡ false → p (cond (p m) hi m) ≡ false
side_hi p hi m h = go (p m) refl
  where
    go : (b : Bool) → p m ≡ b → p (cond b hi m) ≡ false
    go true e = h
    go false e = e

module _ (p : Float → Bool) (n : ℕ) (lo hi : Float) (i : Inv p n lo hi) where
  pub step : (u' : ℕ) × (v' : ℕ) × Step (next_lower p lo hi) (next_upper p lo hi) i.u i.v u' v'
  step = step_at lo hi (next_lower p lo hi) (next_upper p lo hi) i.u i.v i.span (halved p lo hi)

  fit_m : T (fits binary32 (midpoint lo hi))
  fit_m = mul-fits binary32 half32 (add binary32 hi lo)

  plus_m : T (plus (midpoint lo hi))
  plus_m = mid_plus lo hi i.u i.v i.span.low.is i.span.high.is i.plus_hi

  new_fit_lo : T (fits binary32 (next_lower p lo hi))
  new_fit_lo = pick (λ x. T (fits binary32 x)) (p (midpoint lo hi)) (midpoint lo hi) lo fit_m i.fit_lo

  pub new_fit_hi : T (fits binary32 (next_upper p lo hi))
  new_fit_hi = pick (λ x. T (fits binary32 x)) (p (midpoint lo hi)) hi (midpoint lo hi) i.fit_hi fit_m

  pub new_plus_lo : T (plus (next_lower p lo hi))
  new_plus_lo = pick (λ x. T (plus x)) (p (midpoint lo hi)) (midpoint lo hi) lo plus_m i.plus_lo

  new_plus_hi : T (plus (next_upper p lo hi))
  new_plus_hi = pick (λ x. T (plus x)) (p (midpoint lo hi)) hi (midpoint lo hi) i.plus_hi plus_m

  -- the new ends differ, since the test tells them apart
  new_order : step.0 < step.1
  new_order = lt_of_le-ne step.2.order (λ (e : step.0 ≡ step.1).
      true≢false (sym (side_lo p lo (midpoint lo hi) i.at_lo)
      ∙ ap p (same_float (next_lower p lo hi) (next_upper p lo hi) step.0 new_fit_lo new_fit_hi new_plus_lo
      new_plus_hi step.2.low.is (subst (λ (x : ℕ). Is (next_upper p lo hi) x) (sym e) step.2.high.is))
      ∙ side_hi p hi (midpoint lo hi) i.at_hi))

  new_span : Span (next_lower p lo hi) (next_upper p lo hi) step.0 step.1
  new_span = record {
    low = step.2.low;
    high = step.2.high;
    order = new_order;
    top = le_trans step.2.to i.span.top;
  }

  pub new_lt : T (lt (next_lower p lo hi) (next_upper p lo hi))
  new_lt =
      subst T (sym (lt_is (next_lower p lo hi) (next_upper p lo hi) step.0 step.1 step.2.low.is
      step.2.high.is)) (lt→ltb step.0 step.1 new_order)

  pub new_bits : ((w : Float) → T (fits binary32 w) → T (lt (next_lower p lo hi) w) → T (lt w (next_upper p lo hi)) → ⊥)
      → to_bits binary32 (next_upper p lo hi) ≡ suc (to_bits binary32 (next_lower p lo hi))
  new_bits none =
      next_bits (next_lower p lo hi) (next_upper p lo hi) step.0 step.1 new_fit_lo new_fit_hi new_plus_lo
      new_plus_hi step.2.low step.2.high new_order none

  -- where the midpoint is an end, nothing moves
  still : (lo' hi' : Float) → lo' ≡ lo → hi' ≡ hi → T (eq (window lo' hi') (window lo hi))
  still lo' hi' a b =
      let s = i.span in
      let w = window_at lo hi i.u i.v s.low.is s.high.is (le_of_lt s.order) s.top in
      let r = rnd (i.v - i.u) 1 in
      subst (λ (x : Float). T (eq (window x hi') (window lo hi))) (sym a)
      (subst (λ (x : Float). T (eq (window lo x) (window lo hi))) (sym b)
      (subst T (sym (eq_is (window lo hi) (window lo hi) r r w w)) (eqb_refl r)))

  at_lower : mid (i.u + i.v) ≡ i.u → T (repeats p lo hi)
  at_lower e =
      let s : midpoint lo hi ≡ lo =
      same_float (midpoint lo hi) lo i.u fit_m i.fit_lo plus_m i.plus_lo
      (subst (λ (x : ℕ). Is (midpoint lo hi) x) e (mid_at lo hi i.u i.v i.span).is) i.span.low.is in
      let b : p (midpoint lo hi) ≡ true = ap p s ∙ i.at_lo in
      still (next_lower p lo hi) (next_upper p lo hi) (ap (λ (t : Bool). cond t (midpoint lo hi) lo) b ∙ s)
      (ap (λ (t : Bool). cond t hi (midpoint lo hi)) b)

  at_upper : mid (i.u + i.v) ≡ i.v → T (repeats p lo hi)
  at_upper e =
      let s : midpoint lo hi ≡ hi =
      same_float (midpoint lo hi) hi i.v fit_m i.fit_hi plus_m i.plus_hi
      (subst (λ (x : ℕ). Is (midpoint lo hi) x) e (mid_at lo hi i.u i.v i.span).is) i.span.high.is in
      let b : p (midpoint lo hi) ≡ false = ap p s ∙ i.at_hi in
      still (next_lower p lo hi) (next_upper p lo hi) (ap (λ (t : Bool). cond t (midpoint lo hi) lo) b)
      (ap (λ (t : Bool). cond t hi (midpoint lo hi)) b ∙ s)

  -- so where the window changes it is two thirds of what it was, or less
  narrows : (T (repeats p lo hi) → ⊥) → (step.1 - step.0) * 3 ≤ (i.v - i.u) * 2
  narrows f =
      let b = mid_between i.u i.v i.span.low.rep i.span.high.rep (le_of_lt i.span.order) in
      step.2.shrinks (mid (i.u + i.v)) (mid_at lo hi i.u i.v i.span).rep
      (lt_of_le-ne b.0 (λ (e : i.u ≡ mid (i.u + i.v)). f (at_lower (sym e))))
      (lt_of_le-ne b.1 (λ (e : mid (i.u + i.v) ≡ i.v). f (at_upper e)))

  pub next : (T (repeats p lo hi) → ⊥) → Inv p (suc n) (next_lower p lo hi) (next_upper p lo hi)
  next f = record {
    u = step.0;
    v = step.1;
    span = new_span;
    fit_lo = new_fit_lo;
    fit_hi = new_fit_hi;
    plus_lo = new_plus_lo;
    plus_hi = new_plus_hi;
    at_lo = side_lo p lo (midpoint lo hi) i.at_lo;
    at_hi = side_hi p hi (midpoint lo hi) i.at_hi;
    width =
        grow (step.1 - step.0) (i.v - i.u) (3 ^ n) (2 ^ n) (3 ^ suc n) (2 ^ suc n) L (pow-suc 3 n) (pow-suc 2 n)
        (narrows f) i.width;
  }
    where
      grow : (d' d a b a' b' l : ℕ) → a' ≡ a * 3 → b' ≡ b * 2 → d' * 3 ≤ d * 2 → d * a ≤ l * b → d' * a' ≤ l * b'
      grow d' d a b a' b' l p q h k =
          omega (arith, mul-le-mul_right a h, ap (λ (x : ℕ). d' * x) p, ap (λ (x : ℕ). l * x) q)

  -- 2 ^ 404 is below 3 ^ 255
  pub few : n ≡ 255 → ⊥
  few e =
      let w : (i.v - i.u) * 3 ^ 255 ≤ L * 2 ^ 255 =
      subst (λ (x : ℕ). (i.v - i.u) * 3 ^ x ≤ L * 2 ^ x) e i.width in
      not-le_of_lt (lit< {m = L * 2 ^ 255} {n = 3 ^ 255} tt)
      (le_trans (le_of_eq (sym (one-mul (3 ^ 255))))
      (le_trans (mul-le-mul_right (3 ^ 255) (some i.u i.v i.span.order)) w))
    where
      some : (u v : ℕ) → u < v → 1 ≤ v - u
      some u v h = omega arith

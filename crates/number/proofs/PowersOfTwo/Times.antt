-- `Times t x y`: y is 2 ^ t times x, exactly. Sums, differences and the larger of two are multiplied with their
-- numbers. A sum needs only to stay finite: in units of 2 ^ -149 the exact one is whole, so what is rounded off is
-- multiplied, too. Assumes nothing.
use mathlib.Core.Path.{◌≡◌, refl, sym, ap, ◌∙◌, subst}
use mathlib.Core.Bool.{Bool, true, false, not, cond}
use Prim.Native.Nat.{ℕ, ◌*◌, ◌^◌, ◌≤◌, ◌<◌}
use native.Mathlib.Nat.{lt_of_not-le, lt_of_lt_of_le, zero-mul, mul-one, mul-le-mul_right}
use native.Mathlib.Omega.{arith}
use native.Mathlib.Decide.{dec_le}
use lib.Dec.{T}
use lib.Pow.{pow_pos}
use lib.Ieee.{Float, binary32, round, neg, sub, lt, of_bits}
use lib.Ieee.Exact.{HasValue}
use lib.Ieee.Scale.{finite, grid_scale, normal_of_fraction}
use Rattle.number.specs.Number.{◌⊕◌, ◌⊖◌, zero32, larger, units_apart}
use Rattle.number.proofs.Rounding.{rnd, rnd_own}
use Rattle.number.proofs.Units.{L, plus, lt_is}
use Rattle.number.proofs.Signed.{rnd_whole, round_value, value_neg, value_plus}
use Rattle.number.proofs.Signed.Sums.{ltb_times, summed, sum_over, add_units}

-- ---- rounding
pub rnd_power : (n t : ℕ) → rnd (n * 2 ^ t) 1 ≡ rnd n 1 * 2 ^ t
rnd_power n t = go (dec_le (2 ^ 23) n)
  where
    go : Dec (2 ^ 23 ≤ n) → rnd (n * 2 ^ t) 1 ≡ rnd n 1 * 2 ^ t
    go (yes h) =
        sym (rnd_whole (n * 2 ^ t))
        ∙ grid_scale binary32 n L t (pow_pos 149) (normal_of_fraction binary32 n L (pow_pos 149) (mul-le-mul_right L h))
        ∙ ap (λ (m : ℕ). m * 2 ^ t) (rnd_whole n)
    go (no f) =
        let small : n < 2 ^ 24 = lt_of_lt_of_le (lt_of_not-le f) (omega arith) in
        rnd_own (n * 2 ^ t) (n, t, small, refl)
        ∙ ap (λ (m : ℕ). m * 2 ^ t) (sym (rnd_own n (n, 0, small, sym (mul-one n))))

-- ---- y is 2 ^ t times x, exactly
pub record Times (t : ℕ) (x y : Float) : Type 0 where
  pub sign : Bool
  pub units : ℕ
  pub small : HasValue x sign units L
  pub large : HasValue y sign (units * 2 ^ t) L

pub zero_times : (t : ℕ) → Times t zero32 zero32
unfolding of_bits
zero_times t = record {
  sign = false;
  units = 0;
  small = (refl, refl);
  large = (refl, sym (mul-one (0 * 2 ^ t) ∙ zero-mul (2 ^ t)));
}

-- what a fraction is rounded to, and 2 ^ t times the fraction, where the rounding is multiplied
pub round_times : (t : ℕ) (x y : Float) (s : Bool) (n c : ℕ) → rnd (n * 2 ^ t * L) c ≡ rnd (n * L) c * 2 ^ t
    → x ≡ round binary32 s n c → y ≡ round binary32 s (n * 2 ^ t) c → T (finite x) → T (finite y) → Times t x y
round_times t x y s n c scaled small large f g = record {
  sign = s;
  units = rnd (n * L) c;
  small = value x n small f;
  large = subst (λ (w : ℕ). HasValue y s w L) scaled (value y (n * 2 ^ t) large g);
}
  where
    value : (z : Float) (m : ℕ) → z ≡ round binary32 s m c → T (finite z) → HasValue z s (rnd (m * L) c) L
    value z m e h =
        subst (λ (w : Float). HasValue w s (rnd (m * L) c) L) (sym e)
        (round_value s m c (subst (λ (w : Float). T (finite w)) e h))

module _ (t : ℕ) (x x' y y' : Float) (p : Times t x x') (q : Times t y y') where
  pub add_times : T (finite (x ⊕ y)) → T (finite (x' ⊕ y')) → Times t (x ⊕ y) (x' ⊕ y')
  add_times f g =
      let (o, is) = summed p.sign p.units q.sign q.units in
      let n = units_apart p.sign p.units (not q.sign) q.units in
      let small : x ⊕ y ≡ round binary32 o n L =
      add_units x y p.sign q.sign p.units q.units p.small q.small
      ∙ sum_over p.sign p.units q.sign q.units L 1 (pow_pos 149) (pow_pos 0)
      ∙ is 1 (L * 1) (pow_pos 0) ∙ ap (λ (w : ℕ). round binary32 o w (L * 1)) (mul-one n)
      in
      let large : x' ⊕ y' ≡ round binary32 o (n * 2 ^ t) L =
      add_units x' y' p.sign q.sign (p.units * 2 ^ t) (q.units * 2 ^ t) p.large q.large
      ∙ is (2 ^ t) L (pow_pos t)
      in
      round_times t (x ⊕ y) (x' ⊕ y') o n L
      (rnd_whole (n * 2 ^ t) ∙ rnd_power n t ∙ ap (λ (m : ℕ). m * 2 ^ t) (sym (rnd_whole n))) small large f g

neg_times : (t : ℕ) (x y : Float) → Times t x y → Times t (neg x) (neg y)
neg_times t x y p = record {
  sign = not p.sign;
  units = p.units;
  small = value_neg x p.sign p.units p.small;
  large = value_neg y p.sign (p.units * 2 ^ t) p.large;
}

pub sub_times : (t : ℕ) (x x' y y' : Float) → Times t x x' → Times t y y' → T (finite (x ⊖ y)) → T (finite (x' ⊖ y'))
    → Times t (x ⊖ y) (x' ⊖ y')
unfolding sub
sub_times t x x' y y' p q f g = add_times t x x' (neg y) (neg y') p (neg_times t y y' q) f g

-- ---- the larger of two of sign plus
lt_times : (t : ℕ) (x x' y y' : Float) → Times t x x' → Times t y y' → T (plus x) → T (plus y) → T (plus x')
    → T (plus y') → lt x' y' ≡ lt x y
lt_times t x x' y y' p q h k h' k' =
    let u = p.units in
    let v = q.units in
    lt_is x' y' (u * 2 ^ t) (v * 2 ^ t) (value_plus x' p.sign (u * 2 ^ t) h' p.large)
    (value_plus y' q.sign (v * 2 ^ t) k' q.large)
    ∙ ltb_times u v (2 ^ t) (pow_pos t)
    ∙ sym (lt_is x y u v (value_plus x p.sign u h p.small) (value_plus y q.sign v k q.small))

pub larger_times : (t : ℕ) (x x' y y' : Float) → Times t x x' → Times t y y' → T (plus x) → T (plus y) → T (plus x')
    → T (plus y') → Times t (larger x y) (larger x' y')
unfolding larger
larger_times t x x' y y' p q h k h' k' = rw (lt_times t x x' y y' p q h k h' k') (go (lt x y))
  where
    go : (b : Bool) → Times t (cond b y x) (cond b y' x')
    go true = q
    go false = p

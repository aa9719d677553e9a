-- Numbers of which one is 2 ^ k times the other, exactly, and both are raised or neither is: so are the raised ones.
-- Assumes nothing.
use Prim.Native.Nat.{ℕ, suc, ◌*◌, ◌^◌, ◌≤◌}
use native.Mathlib.Nat.{le_trans, mul-le-mul_right}
use mathlib.Core.Path.{◌≡◌, refl, sym, ◌∙◌, subst}
use mathlib.Core.Bool.{Bool, true, false}
use lib.Dec.{T, lit≤}
use lib.IntN.{ℤ, pos, negsuc}
use lib.Ieee.{Float, binary32, lt, fits, of_bits}
use borrow.Author.Tests.{ltb-false}
use Rattle.number.specs.Number.{◌⊗◌, least_speed, units_of}
use Rattle.number.proofs.Units.Compared.{L, lt_is}
use Rattle.number.proofs.Units.{plus}
use Rattle.number.proofs.Within.{Within, within_finite, mul_within}
use Rattle.number.proofs.Signed.{value_plus}
use Rattle.number.proofs.PowersOfTwo.Times.{Times}
use Rattle.number.proofs.PowersOfTwo.Squares.{factor_times}
use Rattle.number.proofs.PowersOfTwo.Products.{times_up, times_down}
use Rattle.pair.specs.Points.{upward, raised}
use Rattle.pair.specs.SamePair.{power_of}
use Rattle.pair.proofs.Norms.{raised_small, raised_large, upward_within, least_is, factor}
use Rattle.pair.proofs.SamePair.Tested.{ByPower}

-- the product with 2 ^ k
pub product_by : (k : ℤ) (m n : Float) → T (fits binary32 n) → ByPower k m n → n ≡ m ⊗ power_of k
product_by (pos t) m n f h = sym (times_up t m n h f)
product_by (negsuc p) m n f h = sym (times_down p n m h f)

-- ---- the product with 1 + 2 ^ -21
module _ (t : ℕ) (m n : Float) (p : Times t m n) (s : T (plus m)) (a : Within 64 m) (b : Within 64 n)
    (h : lt m least_speed ≡ false) where
  large : 2 ^ 89 ≤ p.units
  large =
      ltb-false p.units (2 ^ 89)
      (sym (lt_is m least_speed p.units (2 ^ 89) (value_plus m p.sign p.units s p.small) least_is) ∙ h)

  upward_times : Times t (m ⊗ upward) (n ⊗ upward)
  unfolding of_bits units_of
  upward_times =
      factor_times t m n upward false factor p (refl, refl)
      (le_trans (lit≤ {m = 2 ^ 23 * L} tt) (mul-le-mul_right factor large))
      (within_finite 65 (m ⊗ upward) (mul_within 64 1 m upward (lit≤ tt) a upward_within))
      (within_finite 65 (n ⊗ upward) (mul_within 64 1 n upward (lit≤ tt) b upward_within))

-- ---- raised
module _ (k : ℤ) (m n : Float) (s : T (plus m)) (r : T (plus n)) (a : Within 64 m) (b : Within 64 n)
    (h : lt m least_speed ≡ lt n least_speed) where
  product_times : (k : ℤ) → lt m least_speed ≡ false → ByPower k m n → ByPower k (m ⊗ upward) (n ⊗ upward)
  product_times (pos t) e p = upward_times t m n p s a b e
  product_times (negsuc q) e p = upward_times (suc q) n m p r b a (sym h ∙ e)

  pub raised_by : ByPower k m n → ByPower k (raised m) (raised n)
  raised_by p = go (lt m least_speed) refl
    where
      both : (u v : Float) → raised m ≡ u → raised n ≡ v → ByPower k u v → ByPower k (raised m) (raised n)
      both u v x y q = subst (λ (w : Float). ByPower k w (raised n)) (sym x) (subst (ByPower k u) (sym y) q)

      go : (b : Bool) → lt m least_speed ≡ b → ByPower k (raised m) (raised n)
      go true e = both m n (raised_small m e) (raised_small n (sym h ∙ e)) p
      go false e =
          both (m ⊗ upward) (n ⊗ upward) (raised_large m e) (raised_large n (sym h ∙ e)) (product_times k e p)

-- The order of f32 as the root finders use it: what lies in 0..t, held there by the clamp, and how large it can be; a
-- part of t as it is computed. Assumes nothing.
use Prim.Native.Nat.{ℕ, ◌*◌, ◌^◌, ◌≤◌, ◌<◌, zero-le}
use native.Mathlib.Nat.{le_trans, le_of_eq, lt_of_le_of_lt, mul_comm, mul_right_comm, mul-le-mul_right}
use native.Mathlib.Nat.{le_of_mul-le-mul_right}
use native.Mathlib.Omega.{arith}
use mathlib.Core.Path.{◌≡◌, refl}
use mathlib.Core.Bool.{Bool, true, false, not, ◌&&◌, ◌||◌, cond}
use lib.Dec.{T, ltb, eqb, eqb→eq}
use lib.Pow.{pow_pos}
use lib.Ieee.{Float, nan, inf, fin, binary32, up, down, lt, le, eq, is_nan, fits, of_bits}
use lib.Ieee.Fits.{down_pos, and_i, and_l, and_r}
use lib.Ieee.Scale.{finite}
use Rattle.number.specs.Number.{◌⊗◌, zero32, one32, clamp, between, written}
use Rattle.number.proofs.Rounding.{rnd, rnd_mono, rnd_fix}
use Rattle.number.proofs.Units.{Unit32, of_float, of_range, zero_is, one_is}
use Rattle.number.proofs.Products.{mul_is}
use Rattle.number.proofs.Within.{Within}
use Rattle.number.proofs.Comparing.{not_lt_le, le_self, lt_le}
use Rattle.number.proofs.Units.Compared.{L, no_size, le_says, says_le}
use Rattle.number.proofs.Signs.{le_of_tests}
use Rattle.number.proofs.NoNan.{no_nan_lt}
use Rattle.number.proofs.Transitive.{lt_not_le}
use Rattle.polynomial_root.proofs.Zeros.{high_zero}

-- ---- the range 0..t
module _ (t : Float) (above : T (lt zero32 t)) where
  pub zero_in_range : T (between zero32 t zero32)
  zero_in_range =
      and_i (le zero32 zero32) (le zero32 t) (le_self zero32 (no_nan_lt zero32 t above).0) (lt_le zero32 t above)

  pub end_in_range : T (between zero32 t t)
  end_in_range = and_i (le zero32 t) (le t t) (lt_le zero32 t above) (le_self t (no_nan_lt zero32 t above).1)

  pub written_in_range : (r : Float) → T (between zero32 t r) → T (between zero32 t (written r))
  unfolding written
  written_in_range r h = go (eq r zero32)
    where
      go : (b : Bool) → T (between zero32 t (cond b zero32 r))
      go true = zero_in_range
      go false = h

  pub clamp_in_range : (x : Float) → T (not (is_nan x)) → T (between zero32 t (clamp x zero32 t))
  unfolding clamp
  clamp_in_range x n =
      go (lt x zero32) (lt t x) (not_lt_le x zero32 n (no_nan_lt zero32 t above).0)
      (not_lt_le t x (no_nan_lt zero32 t above).1 n)
    where
      go : (a b : Bool) → (T (not a) → T (le zero32 x)) → (T (not b) → T (le x t))
          → T (between zero32 t (cond a zero32 (cond b t x)))
      go true b f g = zero_in_range
      go false true f g = end_in_range
      go false false f g = and_i (le zero32 x) (le x t) (f tt) (g tt)

-- the clamp leaves what lies in the range as it is
clamp_stands : (x low high : Float) → T (between low high x) → clamp x low high ≡ x
unfolding clamp
clamp_stands x low high h =
    go (lt x low) (lt high x) (λ l. lt_not_le x low l (and_l (le low x) (le x high) h))
    (λ l. lt_not_le high x l (and_r (le low x) (le x high) h))
  where
    go : (a b : Bool) → (T a → ⊥) → (T b → ⊥) → cond a low (cond b high x) ≡ x
    go true b f g = absurd (f tt)
    go false true f g = absurd (g tt)
    go false false f g = refl

-- ---- sizes: what lies in 0..t is no larger than t
pub tested : (a b : ℕ) → T (ltb a b || (eqb a b && true)) → a ≤ b
tested a b h = le_of_tests a b (eqb a b) (eqb→eq a b) h

nothing : (a b : ℕ) → T (eqb a b && eqb a 0) → a ≤ b
nothing a b h = le_of_eq (eqb→eq a b (and_l (eqb a b) (eqb a 0) h))

module _ (a : ℕ) (m u v : ℕ) where
  small : m * u * 1 ≡ 0 → m * u ≤ 2 ^ a * v
  small z = omega arith

  smaller_by : (n w x : ℕ) → 0 < x → m * u * x ≤ n * w * v → n * w ≤ 2 ^ a * x → m * u ≤ 2 ^ a * v
  smaller_by n w x X h k =
      le_of_mul-le-mul_right
      (le_trans h (le_trans (mul-le-mul_right v k) (le_of_eq (mul_right_comm (2 ^ a) x v))))
      X

pub within_range : (a : ℕ) (x t : Float) → T (between zero32 t x) → Within a t → Within a x
unfolding le lt eq of_bits
within_range a nan nan h k = elim h [ ]
within_range a nan (inf _) h k = elim h [ ]
within_range a (inf false) nan h k = elim h [ ]
within_range a (inf false) (inf _) h k = elim k [ ]
within_range a (inf true) nan h k = elim h [ ]
within_range a (inf true) (inf _) h k = elim h [ ]
within_range a (fin false m e) nan h k = elim k [ ]
within_range a (fin false m e) (inf _) h k = elim k [ ]
within_range a (fin true m e) nan h k = elim k [ ]
within_range a (fin true m e) (inf _) h k = elim k [ ]
within_range a nan (fin t n d) h k = absurd h
within_range a (inf true) (fin t n d) h k = absurd h
within_range a (inf false) (fin true n d) h k = absurd h
within_range a (inf false) (fin false n d) h k = absurd h
within_range a (fin true m e) (fin t n d) h k =
    small a m (up e) (down e)
    (no_size m (up e) 1 (high_zero m e (and_l (le zero32 (fin true m e)) (le (fin true m e) (fin t n d)) h)))
within_range a (fin false m e) (fin true n d) h k =
    smaller_by a m (up e) (down e) n (up d) (down d) (down_pos d)
    (nothing (m * up e * down d) (n * up d * down e)
    (and_r (le zero32 (fin false m e)) (le (fin false m e) (fin true n d)) h))
    k
within_range a (fin false m e) (fin false n d) h k =
    smaller_by a m (up e) (down e) n (up d) (down d) (down_pos d)
    (tested (m * up e * down d) (n * up d * down e)
    (and_r (le zero32 (fin false m e)) (le (fin false m e) (fin false n d)) h))
    k

-- ---- a part of t, from nothing to the whole of it, computed: it lies in 0..t, and the clamp leaves it
part_in_range : (x t : Float) → T (fits binary32 x) → T (fits binary32 t) → T (finite t) → T (le zero32 t)
    → T (between zero32 one32 x) → T (between zero32 t (x ⊗ t))
part_in_range x t f g k z h = in_units a.0 b.0 a.1 b.1
  where
    low : T (le zero32 x)
    low = and_l (le zero32 x) (le x one32) h

    high : T (le x one32)
    high = and_r (le zero32 x) (le x one32) h

    a : (u : ℕ) × Unit32 x u
    a = of_range x one32 L f low high one_is

    b : (v : ℕ) × Unit32 t v
    b = of_float t g k z

    in_units : (u v : ℕ) → Unit32 x u → Unit32 t v → T (between zero32 t (x ⊗ t))
    in_units u v p q =
        let l = le_says x one32 u L p.is one_is high in
        let r =
        le_trans (rnd_mono (u * v) L (v * L) L (pow_pos 149) (pow_pos 149)
        (mul-le-mul_right L (le_trans (mul-le-mul_right v l) (le_of_eq (mul_comm L v)))))
        (le_of_eq (rnd_fix v L (pow_pos 149) q.rep)) in
        let i = mul_is x t u v p.is q.is (lt_of_le_of_lt r q.under) in
        and_i (le zero32 (x ⊗ t)) (le (x ⊗ t) t) (says_le zero32 (x ⊗ t) 0 (rnd (u * v) L) zero_is i zero-le)
        (says_le (x ⊗ t) t (rnd (u * v) L) v i q.is r)

pub part_stands : (x t : Float) → T (fits binary32 x) → T (fits binary32 t) → T (finite t) → T (le zero32 t)
    → T (between zero32 one32 x) → clamp (x ⊗ t) zero32 t ≡ x ⊗ t
part_stands x t f g k z h = clamp_stands (x ⊗ t) zero32 t (part_in_range x t f g k z h)

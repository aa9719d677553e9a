-- Every positive finite f32 has the digits of its root, so the definition's search ends at them: `found`.
-- Assumes nothing.
use mathlib.Core.Path.{◌≡◌, refl}
use mathlib.Core.Logic.{inl, inr}
use mathlib.Core.Bool.{false}
use Prim.Native.Nat.{ℕ, zero, suc, ◌+◌, ◌-◌, ◌*◌, ◌/◌, ◌^◌, ◌≤◌, ◌<◌}
use native.Mathlib.Nat.{eq-zero-or-pos, eq-or-lt_of_le}
use native.Mathlib.Omega.{arith}
use lib.Dec.{T}
use lib.Ieee.{Float, fin, binary32, lt, fits, of_bits, to_bits, inf, nan}
use Rattle.number.specs.Number.{zero32, is_finite, inf_bits, units_of, root_of}
use Rattle.number.specs.Inner.{RootBits, whole_of}
use Rattle.number.proofs.Units.{L, shift, fin_false}
use Rattle.number.proofs.Patterns.{weight}
use Rattle.number.proofs.Neighbours.{bits_lt, some_bits}
use Rattle.number.proofs.SquareRoot.Squares.{square_next}
use Rattle.number.proofs.SquareRoot.Digits.{rounded}
use Rattle.number.proofs.SquareRoot.Bits.{root_is}
use Rattle.number.proofs.SquareRoot.Argument.{scale_normal, lift, raised, scale_subnormal}

-- ---- every number has a whole root, and less is left than makes the next one
abbrev Whole : ℕ → Type 0
Whole n = (root : ℕ) × (left : ℕ) × (root * root + left ≡ n) × (left < 2 * root + 1)

whole : (n : ℕ) → Whole n
whole zero = (0, 0, refl, omega arith)
whole (suc n) = next (whole n)
  where
    next : Whole n → Whole (suc n)
    next (r, q, e, l) = elim (eq-or-lt_of_le l) [
      | inl f ↦ (r + 1, 0, (let s = square_next r in omega arith), omega arith)
      | inr f ↦ (r, q + 1, omega arith, omega arith)
    ]

bits_exist : (p k : ℕ) → 2 ^ 23 ≤ p → p < 2 ^ 24 → (b : ℕ) × RootBits p k b
bits_exist p k low high =
    let (r, q, e, l) = whole (4 * whole_of p k) in
    ((k / 2 + 51) * 2 ^ 23 + (r + 1) / 2, rounded p k low high r q e l _ refl)

-- ---- the digits of the root of x
pub record Found (x : Float) : Type 0 where
  pub p : ℕ
  pub k : ℕ
  pub b : ℕ
  pub low : 2 ^ 23 ≤ p
  pub high : p < 2 ^ 24
  pub short : k < 300
  pub bits : RootBits p k b
  pub scale : units_of x * L ≡ p * 2 ^ (k + 125)

finite_lt : (x : Float) → T (fits binary32 x) → T (lt zero32 x) → T (is_finite x) → to_bits binary32 x < inf_bits
unfolding lt is_finite of_bits
finite_lt nan f a h = elim a [ ]
finite_lt (inf _) f a h = elim h [ ]
finite_lt (fin mathlib.Core.Bool.true m e) f a h = elim a [ ]
finite_lt (fin false m e) f a h = bits_lt (fin false m e) (m * 2 ^ shift e) f tt (fin_false m e f)

module _ (x : Float) (f : T (fits binary32 x)) (a : T (lt zero32 x)) (h : T (is_finite x)) where
  abbrev own : ℕ
  own = to_bits binary32 x

  subnormal : own / 8388608 ≡ 0 → Found x
  subnormal z =
      let s = some_bits x f a in
      let u = raised own (omega arith) (omega arith) in
      let r = bits_exist (own * 2 ^ lift own) (24 - lift own) u.low u.high in
      record {
        p = own * 2 ^ lift own;
        k = 24 - lift own;
        b = r.0;
        low = u.low;
        high = u.high;
        short = omega arith;
        bits = r.1;
        scale = scale_subnormal x f a (lift own) u.within z;
      }

  normal : 0 < own / 8388608 → Found x
  normal l =
      let t = finite_lt x f a h in
      let q = own - weight own * 8388608 in
      let low : 2 ^ 23 ≤ q = omega arith in
      let high : q < 2 ^ 24 = omega arith in
      let r = bits_exist q (own / 8388608 + 23) low high in
      record {
        p = q;
        k = own / 8388608 + 23;
        b = r.0;
        low = low;
        high = high;
        short = omega arith;
        bits = r.1;
        scale = scale_normal x f a t l;
      }

  pub found : Found x
  found = elim (eq-zero-or-pos (own / 8388608)) [ inl z ↦ subnormal z | inr l ↦ normal l ]

-- the definition names it
pub found_root : (x : Float) (r : Found x) → T (lt zero32 x) → T (is_finite x) → root_of x ≡ of_bits binary32 r.b
found_root x r a f = root_is r.p r.k r.b r.low r.high r.short r.bits x r.scale a f

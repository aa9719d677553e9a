-- The finite f32 values: `is_finite` (specs/Number.antt) is a comparison with the largest of them, either way; and what lies
-- in its range is finite. Assumes nothing.
use mathlib.Core.Path.{◌≡◌, refl, sym, subst}
use mathlib.Core.Bool.{true, false}
use Prim.Native.Nat.{ℕ, ◌*◌, ◌^◌}
use native.Mathlib.Nat.{le_trans, le_of_eq, le_of_suc-le-suc}
use lib.Dec.{T, lit<}
use lib.IntN.{ℤ, pos}
use lib.Ieee.{Float, nan, inf, fin, binary32, neg, le, fits, to_bits, of_bits}
use lib.Ieee.Bits.{is_true}
use lib.Ieee.Fits.{and_i}
use lib.Ieee.Scale.{finite}
use Rattle.number.specs.Number.{largest32, is_finite, between, in_bound}
use Rattle.number.proofs.Units.{shift, fin_false, says_le}
use Rattle.number.proofs.Comparing.{minus_plus, turned}
use Rattle.number.proofs.Sizes.{fits_plus}
use Rattle.number.proofs.Within.{Within, within_finite}
use Rattle.number.proofs.Ranges.{in_bound_lem}
use Rattle.number.proofs.Patterns.{val, val_le, bits_are}
use Rattle.number.proofs.Neighbours.{bits_lt, bits_val}

pub is_finite_lem : (x : Float) → is_finite x ≡ finite x
unfolding is_finite
is_finite_lem nan = refl
is_finite_lem (inf s) = refl
is_finite_lem (fin s m e) = refl

-- no f32 of sign plus is above the largest
abbrev most : ℕ
most = 0x7f7f_ffff

under : (m : ℕ) (e : ℤ) → T (fits binary32 (fin false m e)) → T (le (fin false m e) largest32)
under m e f =
    let x = fin false m e in
    let u = m * 2 ^ shift e in
    let i = fin_false m e f in
    says_le x largest32 u (val most) i.is (bits_are most (lit< tt))
    (le_trans (le_of_eq (sym (bits_val x u f tt i)))
    (val_le (to_bits binary32 x) most (le_of_suc-le-suc (bits_lt x u f tt i))))

-- the finite numbers are those between the two largest
pub finite_test : (x : Float) → T (fits binary32 x) → between (neg largest32) largest32 x ≡ is_finite x
unfolding le is_finite neg of_bits
finite_test nan f = refl
finite_test (inf true) f = refl
finite_test (inf false) f = refl
finite_test (fin false m e) f =
    let x = fin false m e in
    is_true (between (neg largest32) largest32 x)
    (and_i (le (neg largest32) x) (le x largest32) (minus_plus 16777215 (pos 104) m e) (under m e f))
finite_test (fin true m e) f =
    let x = fin true m e in
    is_true (between (neg largest32) largest32 x)
    (and_i (le (neg largest32) x) (le x largest32)
    (turned m e 16777215 (pos 104) (under m e (fits_plus true m e f))) (minus_plus m e 16777215 (pos 104)))

-- ---- what lies in its range is finite
pub within_real : (a : ℕ) (x : Float) → Within a x → T (is_finite x)
within_real a x h = subst T (sym (is_finite_lem x)) (within_finite a x h)

pub bound_real : (x : Float) → T (in_bound x) → T (is_finite x)
bound_real x h = within_real 20 x (in_bound_lem x h)

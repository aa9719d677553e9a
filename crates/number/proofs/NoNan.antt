-- Where a value is no NaN: by a program's own tests, where it was rounded, and a quotient; and which patterns are a
-- NaN's. Assumes nothing.
use mathlib.Core.Path.{◌≡◌, refl, sym, ◌∙◌, subst, ap}
use mathlib.Core.Bool.{Bool, true, false, not, true≢false, cond}
use Prim.Native.Nat.{ℕ, ◌%◌, zero, suc, ◌*◌, ◌^◌, ◌<◌}
use native.Mathlib.Omega.{arith}
use lib.Dec.{T, ltb, eqb, ltb→lt, eqb→eq}
use lib.Ieee.{Float, nan, inf, fin, binary32, lt, le, is_nan, of_bits, round, units, odd, up, down}
use lib.Ieee.{div, unlike}
use borrow.Author.Tests.{lt-ltb}
use lib.Ieee.Bits.{nan_bits_is, nan_bits_above}
use lib.Ieee.Fits.{round_is}
use lib.Ieee.Order.{drop, kept}
use lib.Ieee.Scale.{finite}
use Rattle.number.specs.Number.{zero32}
use Rattle.number.proofs.Units.{L}
use Rattle.number.proofs.Numbers.{zero_size}

-- any comparison that holds
pub no_nan_lt : (x y : Float) → T (lt x y) → T (not (is_nan x)) × T (not (is_nan y))
unfolding lt is_nan
no_nan_lt nan y h = elim h [ ]
no_nan_lt (inf s) nan h = elim h [ ]
no_nan_lt (fin s m e) nan h = elim h [ ]
no_nan_lt (inf s) (inf t) h = (tt, tt)
no_nan_lt (inf s) (fin t n d) h = (tt, tt)
no_nan_lt (fin s m e) (inf t) h = (tt, tt)
no_nan_lt (fin s m e) (fin t n d) h = (tt, tt)

pub no_nan_le : (x y : Float) → T (le x y) → T (not (is_nan x)) × T (not (is_nan y))
unfolding le is_nan
no_nan_le nan y h = elim h [ ]
no_nan_le (inf s) nan h = elim h [ ]
no_nan_le (fin s m e) nan h = elim h [ ]
no_nan_le (inf s) (inf t) h = (tt, tt)
no_nan_le (inf s) (fin t n d) h = (tt, tt)
no_nan_le (fin s m e) (inf t) h = (tt, tt)
no_nan_le (fin s m e) (fin t n d) h = (tt, tt)

-- what is finite
pub no_nan_finite : (x : Float) → T (finite x) → T (not (is_nan x))
unfolding is_nan
no_nan_finite nan f = elim f [ ]
no_nan_finite (inf _) f = elim f [ ]
no_nan_finite (fin s m e) f = tt

-- ---- what is rounded
odd_no_nan : (d : ℕ) (s : Bool) (q k l : ℕ) → T (not (is_nan (odd d s q k l)))
unfolding odd is_nan
odd_no_nan d s zero k l = tt
odd_no_nan d s (suc q) k l = tt

units_no_nan : (s : Bool) (q k : ℕ) → T (not (is_nan (units binary32 s q k)))
unfolding units
units_no_nan s q k = go (ltb (q * 2 ^ k) (2 ^ 277))
  where
    go : (b : Bool) → T (not (is_nan (cond b (odd 25 s q k 149) (inf s))))
    go true = odd_no_nan 25 s q k 149
    go false = unfold is_nan in tt

pub round_no_nan : (s : Bool) (a c : ℕ) → T (not (is_nan (round binary32 s a c)))
round_no_nan s a c =
    subst (λ (z : Float). T (not (is_nan z))) (sym (round_is binary32 s a c))
    (units_no_nan s (kept 24 (a * L) c) (drop 24 (a * L) c))

-- ---- a quotient, where the divisor is finite and above zero
pub div_no_nan : (x y : Float) → T (finite x) → T (finite y) → T (lt zero32 y) → T (not (is_nan (div binary32 x y)))
unfolding div lt of_bits
div_no_nan nan y f g h = elim f [ ]
div_no_nan (inf _) y f g h = elim f [ ]
div_no_nan (fin s m e) nan f g h = elim g [ ]
div_no_nan (fin s m e) (inf _) f g h = elim g [ ]
div_no_nan (fin s m e) (fin true n d) f g h = absurd h
div_no_nan (fin s m e) (fin false n d) f g h = go (eqb n 0) (eqb→eq n 0)
  where
    clash : (a : ℕ) (b : ℕ) → a < b → b ≡ 0 → ⊥
    clash a b h e = omega arith

    go : (b : Bool) → (T b → n ≡ 0)
        → T (not (is_nan (cond b (cond (eqb m 0) nan (inf (unlike s false)))
        (round binary32 (unlike s false) (m * up e * down d) (n * up d * down e)))))
    go true z =
        absurd (clash (0 * down d) (n * up d * 1) (ltb→lt (0 * down d) (n * up d * 1) h)
        (ap (λ (x : ℕ). x * up d * 1) (z tt) ∙ zero_size (up d) 1))
    go false z = round_no_nan (unlike s false) (m * up e * down d) (n * up d * down e)

-- ---- where it is
nan_is : (x : Float) → is_nan x ≡ true → x ≡ nan
unfolding is_nan
nan_is nan h = refl
nan_is (inf s) h = absurd (true≢false (sym h))
nan_is (fin s m e) h = absurd (true≢false (sym h))

-- a pattern past the infinity's, the sign left out
pub nan_of : (b : ℕ) → 2139095040 < b % 2147483648 → of_bits binary32 b ≡ nan
nan_of b h =
    nan_is (of_bits binary32 b)
    (sym (nan_bits_is binary32 b) ∙ nan_bits_above binary32 b ∙ lt-ltb 2139095040 (b % 2147483648) h)

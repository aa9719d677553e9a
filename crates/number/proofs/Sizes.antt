-- The absolute value `size` (specs/Number.antt): what `0 - x` is for an x not above zero, and that any other number is
-- its own size. Assumes nothing.
use mathlib.Core.Path.{◌≡◌, refl, sym, ap, ◌∙◌, subst}
use mathlib.Core.Bool.{Bool, true, false, not, true≢false}
use Prim.Native.Nat.{ℕ, zero, suc, ◌+◌, ◌*◌, ◌^◌, ◌<◌}
use native.Mathlib.Nat.{lt_irrefl, lt_of_lt_of_le, mul-one, mul-pos, zero-add}
use native.Mathlib.Omega.{arith}
use lib.Dec.{T}
use lib.IntN.{ℤ}
use lib.Pow.{pow_pos}
use lib.Ieee.{Float, nan, inf, fin, binary32, sub, neg, le, fits, is_nan, of_bits}
use lib.Ieee.Bits.{of_bits-fits}
use lib.Ieee.Fits.{add-fits}
use Rattle.number.specs.Number.{◌⊕◌, ◌⊖◌, zero32, size}
use Rattle.number.proofs.Rounding.{rnd, rnd_fix}
use Rattle.number.proofs.Units.{none_is, zero_is, Top, Is, plus, shift, fin_false, same_float, le_says}
use Rattle.number.proofs.Sums.{add_is}
use Rattle.number.proofs.Within.{not_lt_le}
use Rattle.number.proofs.Signs.{sum_plus}

zero_plus : T (plus zero32)
unfolding of_bits
zero_plus = tt

-- ---- what `0 - x` is
sum_zero : (m : ℕ) (e : ℤ) → T (fits binary32 (fin false m e)) → zero32 ⊕ fin false m e ≡ fin false m e
sum_zero m e f =
    let u = m * 2 ^ shift e in
    let i = fin_false m e f in
    let r : rnd (0 + u) 1 ≡ u =
    ap (λ (x : ℕ). rnd x 1) (zero-add u ∙ sym (mul-one u)) ∙ rnd_fix u 1 (pow_pos 0) i.rep in
    same_float (zero32 ⊕ fin false m e) (fin false m e) u (add-fits binary32 zero32 (fin false m e)) f
    (sum_plus zero32 (fin false m e) zero_plus tt) tt
    (subst (λ (x : ℕ). Is (zero32 ⊕ fin false m e) x) r
    (add_is zero32 (fin false m e) 0 u zero_is i.is (subst (λ (x : ℕ). x < Top) (sym r) i.under)))
    i.is

only_zero : (e : ℤ) → T (fits binary32 (fin false 0 e)) → fin false 0 e ≡ zero32
only_zero e f =
    same_float (fin false 0 e) zero32 0 f (of_bits-fits binary32 0) tt zero_plus (none_is e) zero_is

zero_sub : zero32 ⊖ zero32 ≡ zero32
unfolding sub of_bits
zero_sub = refl

not_above : (m : ℕ) (e : ℤ) → T (fits binary32 (fin false (suc m) e)) → T (le (fin false (suc m) e) zero32) → ⊥
not_above m e f h =
    let u = suc m * 2 ^ shift e in
    lt_irrefl 0 (lt_of_lt_of_le (mul-pos (some m) (pow_pos (shift e)))
    (le_says (fin false (suc m) e) zero32 u 0 (fin_false (suc m) e f).is zero_is h))
  where
    some : (m : ℕ) → 0 < suc m
    some m = omega arith

pub fits_plus : (s : Bool) (m : ℕ) (e : ℤ) → T (fits binary32 (fin s m e)) → T (fits binary32 (fin false m e))
unfolding fits
fits_plus s zero e f = f
fits_plus s (suc m) e f = f

-- of a number not above zero, `0 - x` is the size
pub minus_size : (x : Float) → T (fits binary32 x) → le x zero32 ≡ true → zero32 ⊖ x ≡ size x
unfolding size sub neg le of_bits
minus_size nan f h = refl
minus_size (inf true) f h = refl
minus_size (inf false) f h = absurd (true≢false (sym h))
minus_size (fin true m e) f h = sum_zero m e (fits_plus true m e f)
minus_size (fin false zero e) f h =
    ap (λ (x : Float). zero32 ⊖ x) (only_zero e f) ∙ zero_sub ∙ sym (only_zero e f)
minus_size (fin false (suc m) e) f h = absurd (not_above m e f (subst T (sym h) tt))

zero_nan : T (not (is_nan zero32))
unfolding is_nan of_bits
zero_nan = tt

-- any other number is its own size
pub own_size : (x : Float) → le x zero32 ≡ false → x ≡ size x
unfolding size le of_bits is_nan
own_size nan h = refl
own_size (inf true) h = absurd (true≢false h)
own_size (inf false) h = refl
own_size (fin false m e) h = refl
own_size (fin true m e) h = absurd (subst T h (not_lt_le zero32 (fin true m e) zero_nan tt tt))

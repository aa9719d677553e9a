-- A finite f32 is what its own fraction rounds to. So a number times one is itself, bit for bit, and one moved by zero
-- times a finite number is alike (`Alike`) to itself: only the sign of a zero can change. Assumes nothing.
use mathlib.Core.Path.{◌≡◌, refl, sym, ap, ◌∙◌, subst}
use Prim.Native.Nat.{ℕ, zero, suc, ◌*◌, ◌^◌, ◌<◌}
use native.Mathlib.Nat.{zero-mul, mul-one, mul-pos, zero-lt-suc}
use mathlib.Core.Bool.{Bool, true, false}
use lib.Dec.{T, lit<}
use lib.IntN.{ℤ}
use lib.Ieee.{Float, nan, inf, fin, binary32, up, down, unlike, round, add, mul, fits, of_bits}
use lib.Ieee.Exact.{HasValue}
use lib.Ieee.Fits.{up_pos, down_pos, round-fits}
use lib.Ieee.Scale.{finite}
use Rattle.number.specs.Number.{◌⊕◌, ◌⊗◌, zero32, one32}
use Rattle.number.proofs.Rounding.{rnd, rnd_fix}
use Rattle.number.proofs.Units.{L, Top, Unit32, shift, fin_false, same_float}
use Rattle.number.proofs.Sums.{round_at}
use Rattle.number.proofs.Sizes.{fits_plus}
use Rattle.number.proofs.Zeros.{Zero, zero_of, round_none, sum_first, sum_none}
use Rattle.number.proofs.Alike.{Alike, zeros, alike_of}

-- ---- a finite f32 is what its own fraction rounds to
abbrev signed : Bool → Float → Float
signed s nan = nan
signed s (inf t) = inf t
signed s (fin t m e) = fin s m e

pub round_own : (s : Bool) (m : ℕ) (e : ℤ) → T (fits binary32 (fin s m e))
    → round binary32 s (m * up e) (down e) ≡ fin s m e
round_own s m e f = go (round binary32 s (m * up e) (down e)) (round-fits binary32 s (m * up e) (down e)) own
  where
    u : ℕ
    u = m * 2 ^ shift e

    i : Unit32 (fin false m e) u
    i = fin_false m e (fits_plus s m e f)

    exact : rnd (m * up e * L) (down e) ≡ u
    exact = ap (λ (x : ℕ). rnd x (down e)) i.is ∙ rnd_fix u (down e) (down_pos e) i.rep

    own : HasValue (round binary32 s (m * up e) (down e)) s u L
    own =
        subst (λ (x : ℕ). HasValue (round binary32 s (m * up e) (down e)) s x L) exact
        (round_at s (m * up e) (down e) (subst (λ (x : ℕ). x < Top) (sym exact) i.under))

    go : (x : Float) → T (fits binary32 x) → HasValue x s u L → x ≡ fin s m e
    go nan g h = elim h [ ]
    go (inf _) g h = elim h [ ]
    go (fin t n d) g h =
        ap (λ (b : Bool). fin b n d) h.0
        ∙ ap (signed s)
        (same_float (fin false n d) (fin false m e) u (fits_plus t n d g) (fits_plus s m e f) tt tt h.1 i.is)

-- ---- a number times one, NaN and infinities too
pub times_one : (x : Float) → T (fits binary32 x) → x ⊗ one32 ≡ x
unfolding mul of_bits
times_one nan f = refl
times_one (inf true) f = refl
times_one (inf false) f = refl
times_one (fin s m e) f =
    ap (λ (b : Bool). round binary32 b (m * up e * 1) (down e * 1)) (own_sign s)
    ∙ ap (λ (x : ℕ). round binary32 s x (down e * 1)) (mul-one (m * up e))
    ∙ ap (λ (x : ℕ). round binary32 s (m * up e) x) (mul-one (down e))
    ∙ round_own s m e f
  where
    own_sign : (s : Bool) → unlike s false ≡ s
    own_sign true = refl
    own_sign false = refl

-- a number without digits that fits is a zero
fits_zero : (s : Bool) (e : ℤ) → T (fits binary32 (fin s 0 e)) → Zero (fin s 0 e)
fits_zero s e f = subst Zero (round_own s 0 e f) (round_none s (0 * up e) (down e) (zero-mul (up e)) (down_pos e))

-- ---- a finite number moved by zero times a finite number
zero_times : (d : Float) → T (finite d) → Zero (zero32 ⊗ d)
unfolding mul of_bits
zero_times nan h = elim h [ ]
zero_times (inf _) h = elim h [ ]
zero_times (fin t n d) h =
    round_none (unlike false t) (0 * (n * up d)) (1 * down d) (zero-mul (n * up d)) (mul-pos (lit< tt) (down_pos d))

add_zero_alike : (x : Float) {z : Float} → T (fits binary32 x) → T (finite x) → Zero z → Alike (x ⊕ z) x
unfolding add
add_zero_alike nan {z = z} f h _ = elim h [ ]
add_zero_alike (inf _) {z = z} f h _ = elim h [ ]
add_zero_alike (fin s zero e) f h (zero_of {s = t}) =
    zeros
    (sum_none s (0 * up e * 1) t (0 * down e) (down e * 1) (mul-one (0 * up e) ∙ zero-mul (up e)) (zero-mul (down e))
    (mul-pos (down_pos e) (lit< tt)))
    (fits_zero s e f)
add_zero_alike (fin s (suc m) e) f h (zero_of {s = t}) =
    let a = suc m * up e in
    alike_of
    (sum_first s (a * 1) t (0 * down e) (down e * 1) (zero-mul (down e))
    (mul-pos (mul-pos (zero-lt-suc m) (up_pos e)) (lit< tt))
    ∙ ap (λ (x : ℕ). round binary32 s x (down e * 1)) (mul-one a)
    ∙ ap (λ (x : ℕ). round binary32 s a x) (mul-one (down e))
    ∙ round_own s (suc m) e f)

pub unmoved_alike : (x d : Float) → T (fits binary32 x) → T (finite x) → T (finite d) → Alike (x ⊕ zero32 ⊗ d) x
unmoved_alike x d f h k = add_zero_alike x f h (zero_times d k)

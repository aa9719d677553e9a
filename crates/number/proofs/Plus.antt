-- Where the sign is plus: what is rounded with it, a sum, a half, a midpoint. Assumes nothing.
use mathlib.Core.Path.{◌≡◌, refl, sym, ◌∙◌, subst}
use mathlib.Core.Bool.{Bool, true, false, cond}
use Prim.Native.Nat.{ℕ, zero, suc, ◌+◌, ◌-◌, ◌*◌, ◌^◌}
use lib.Dec.{T, ltb}
use lib.IntN.{ℤ}
use lib.Ieee.Order.{drop, kept}
use lib.Ieee.{Float, inf, fin, binary32, up, down, round, units, odd, add, mul, of_bits, nan}
use lib.Ieee.Fits.{round_is}
use Rattle.number.specs.Number.{half32, midpoint}
use Rattle.number.proofs.Units.{L, Is, plus, no_size}
use Rattle.number.proofs.Sums.{add_opens, sum_ff, sum_ft, none_le}

-- ---- `round` with the sign plus
odd_plus : (d q k l : ℕ) → T (plus (odd d false q k l))
unfolding odd
odd_plus d zero k l = tt
odd_plus d (suc q) k l = tt

units_plus : (q k : ℕ) → T (plus (units binary32 false q k))
unfolding units
units_plus q k = go (ltb (q * 2 ^ k) (2 ^ 277))
  where
    go : (b : Bool) → T (plus (cond b (odd 25 false q k 149) (inf false)))
    go true = odd_plus 25 q k 149
    go false = tt

pub round_plus : (a c : ℕ) → T (plus (round binary32 false a c))
round_plus a c =
    subst (λ (z : Float). T (plus z)) (sym (round_is binary32 false a c))
    (units_plus (kept 24 (a * L) c) (drop 24 (a * L) c))

pub add_plus : (x y : Float) (u v : ℕ) → Is x u → Is y v → T (plus x) → T (plus (add binary32 x y))
add_plus nan y u v p q h = elim p [ ]
add_plus (inf _) y u v p q h = elim p [ ]
add_plus (fin false m e) nan u v p q h = elim q [ ]
add_plus (fin false m e) (inf _) u v p q h = elim q [ ]
add_plus (fin true m e) y u v p q h = elim h [ ]
add_plus (fin false m e) (fin false n d) u v p q h =
    subst (λ (z : Float). T (plus z))
    (sym (add_opens false m e false n d ∙ sum_ff (m * up e * down d) (n * up d * down e) (down e * down d)))
    (round_plus (m * up e * down d + n * up d * down e) (down e * down d))
add_plus (fin false m e) (fin true n d) u v p q h =
    subst (λ (z : Float). T (plus z))
    (sym (add_opens false m e true n d
    ∙ sum_ft (m * up e * down d) (n * up d * down e) (down e * down d)
    (none_le (m * up e * down d) (n * up d * down e) (no_size n (up d) (down e) q.0))))
    (round_plus (m * up e * down d - n * up d * down e) (down e * down d))

half_opens : (t : Bool) (n : ℕ) (d : ℤ)
    → mul binary32 half32 (fin t n d) ≡ round binary32 t (1 * 1 * (n * up d)) (2 * down d)
unfolding mul of_bits
half_opens true n d = refl
half_opens false n d = refl

pub half_plus : (y : Float) → T (plus y) → T (plus (mul binary32 half32 y))
unfolding mul of_bits
half_plus nan h = elim h [ ]
half_plus (inf true) h = elim h [ ]
half_plus (fin true n d) h = elim h [ ]
half_plus (inf false) h = tt
half_plus (fin false n d) h =
    subst (λ (z : Float). T (plus z)) (sym (half_opens false n d)) (round_plus (1 * 1 * (n * up d)) (2 * down d))

pub mid_plus : (lo hi : Float) (u v : ℕ) → Is lo u → Is hi v → T (plus hi) → T (plus (midpoint lo hi))
mid_plus lo hi u v p q h = half_plus (add binary32 hi lo) (add_plus hi lo v u q p h)

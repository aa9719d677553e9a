-- The rounded midpoint of two numbers that need no rounding, in units of 2 ^ -149: it lies between the two, and where
-- a number that needs no rounding lies strictly between, it lies in the middle third.
-- Assumes nothing.
use mathlib.Core.Path.{◌≡◌, refl, sym, ap, ◌∙◌, subst}
use mathlib.Core.Logic.{◌⊎◌, inl, inr}
use Prim.Native.Nat.{ℕ, zero, suc, ◌+◌, ◌-◌, ◌*◌, ◌/◌, ◌^◌, ◌≤◌, ◌<◌}
use native.Mathlib.Nat.{le_trans, le_of_eq, mul_assoc, mul-one, mul-pos, mul-le-mul_right, le_of_mul-le-mul_right}
use native.Mathlib.Nat.{lt_of_mul-lt-mul_right, pow-suc}
use native.Mathlib.Omega.{arith}
use native.Mathlib.Decide.{dec_le}
use lib.Pow.{pow-add, pow_pos}
use lib.Ieee.{size}
use lib.Ieee.Order.{drop, kept}
use Rattle.number.proofs.Rounding.{rnd, Rep, rnd_mono, rnd_fix, rep_le, rep_grid, rnd_near, closest_near}
use Rattle.number.proofs.Rounding.{drop_reaches, kept_le, size_mono, Near}

-- the computed midpoint of u and v, by their sum
abbrev pub mid : ℕ → ℕ
mid s = rnd (rnd s 1) 2

-- M is a multiple of 2 ^ k and half of s to within a half of 2 ^ k; and where k is above 0, s is so large that 2 ^ k
-- is the step of the numbers about half of s
abbrev Mid : ℕ → ℕ → Type 0
Mid s M =
    (k : ℕ) × (q : ℕ) × (M ≡ q * 2 ^ k) × (M * 2 ≤ s + 2 ^ k) × (s ≤ M * 2 + 2 ^ k) × ((k ≡ 0) ⊎ (2 ^ (24 + k) ≤ s))

less_drop : (a b : ℕ) → a ≤ b → b - 24 ≡ 0 → a - 24 ≡ 0
less_drop a b h e = omega arith

small_sum : (s p r : ℕ) → p ≡ 1 → r * 2 ≤ s * 2 + p → s * 2 ≤ r * 2 + p → r ≡ s
small_sum s p r e a b = omega arith

-- no digit of s is dropped: the sum is exact, and its half is rounded to a whole number
mid_small : (s : ℕ) → drop 24 s 1 ≡ 0 → Mid s (mid s)
mid_small s e =
    let h = rnd_near s in
    let r : rnd s 1 ≡ s = small_sum s (2 ^ drop 24 s 1) (rnd s 1) (ap (λ (x : ℕ). 2 ^ x) e) h.0 h.1 in
    let z : drop 24 s 2 ≡ 0 = less_drop (size (s / 2)) (size (s / 1)) (size_mono (s / 2) (s / 1) (halves s)) e in
    let n : Near (kept 24 s 2) s (2 * 2 ^ drop 24 s 2) =
    closest_near s (2 * 2 ^ drop 24 s 2) (mul-pos (pow_pos 1) (pow_pos (drop 24 s 2))) in
    let p : 2 ^ drop 24 s 2 ≡ 1 = ap (λ (x : ℕ). 2 ^ x) z in
    subst (λ (x : ℕ). Mid s (rnd x 2)) (sym r) (
      0,
      rnd s 2,
      sym (mul-one (rnd s 2)),
      up (kept 24 s 2) (2 ^ drop 24 s 2) p n.0,
      down (kept 24 s 2) (2 ^ drop 24 s 2) p n.1,
      inl refl,
    )
  where
    halves : (s : ℕ) → s / 2 ≤ s / 1
    halves s = omega arith

    up : (c p : ℕ) → p ≡ 1 → c * (2 * p) * 2 ≤ s * 2 + 2 * p → c * p * 2 ≤ s + 1
    up c p e h = omega arith

    down : (c p : ℕ) → p ≡ 1 → s * 2 ≤ c * (2 * p) * 2 + 2 * p → s ≤ c * p * 2 + 1
    down c p e h = omega arith

-- k + 1 digits of s are dropped: the half of the rounded sum needs no rounding
mid_large : (s k : ℕ) → drop 24 s 1 ≡ suc k → Mid s (mid s)
mid_large s k e =
    let h = rnd_near s in
    let c = kept 24 s 1 in
    let t : 2 ^ drop 24 s 1 ≡ 2 ^ k * 2 = ap (λ (x : ℕ). 2 ^ x) e ∙ pow-suc 2 k in
    let r : rnd s 1 ≡ c * 2 ^ k * 2 = ap (λ (x : ℕ). c * x) t ∙ sym (mul_assoc c (2 ^ k) 2) in
    let m : mid s ≡ c * 2 ^ k =
    ap (λ (x : ℕ). rnd x 2) r ∙ rnd_fix (c * 2 ^ k) 2 (pow_pos 1) (rep_le c k (kept_le s 1)) in
    let big : 2 ^ (23 + drop 24 s 1) * 1 ≤ s =
    drop_reaches s 1 (pow_pos 0) (subst (λ (x : ℕ). 0 < x) (sym e) (some k)) in (
      k,
      c,
      m,
      up (mid s) (c * 2 ^ k) (rnd s 1) (2 ^ drop 24 s 1) (2 ^ k) m r t h.0,
      down (mid s) (c * 2 ^ k) (rnd s 1) (2 ^ drop 24 s 1) (2 ^ k) m r t h.1,
      inr (le_trans (le_of_eq reach) big),
    )
  where
    shift : (k : ℕ) → 24 + k ≡ 23 + suc k
    shift k = omega arith

    reach : 2 ^ (24 + k) ≡ 2 ^ (23 + drop 24 s 1) * 1
    reach =
        ap (λ (x : ℕ). 2 ^ x) (shift k) ∙ ap (λ (x : ℕ). 2 ^ (23 + x)) (sym e) ∙ sym (mul-one (2 ^ (23 + drop 24 s 1)))

    some : (k : ℕ) → 0 < suc k
    some k = omega arith

    up : (m c r w p : ℕ) → m ≡ c → r ≡ c * 2 → w ≡ p * 2 → r * 2 ≤ s * 2 + w → m * 2 ≤ s + p
    up m c r w p a b d h = omega arith

    down : (m c r w p : ℕ) → m ≡ c → r ≡ c * 2 → w ≡ p * 2 → s * 2 ≤ r * 2 + w → s ≤ m * 2 + p
    down m c r w p a b d h = omega arith

mid_is : (s : ℕ) → Mid s (mid s)
mid_is s = go (drop 24 s 1) refl
  where
    go : (k : ℕ) → drop 24 s 1 ≡ k → Mid s (mid s)
    go zero e = mid_small s e
    go (suc k) e = mid_large s k e

-- ---- between
twice_rep : (u : ℕ) → Rep u → Rep (u * 2)
twice_rep u (q, k, l, e) =
    (q, suc k, l, ap (λ (x : ℕ). x * 2) e ∙ mul_assoc q (2 ^ k) 2 ∙ ap (λ (x : ℕ). q * x) (sym (pow-suc 2 k)))

mid_twice : (u : ℕ) → Rep u → mid (u * 2) ≡ u
mid_twice u r =
    ap (λ (x : ℕ). rnd x 2) (ap (λ (x : ℕ). rnd x 1) (sym (mul-one (u * 2)))
    ∙ rnd_fix (u * 2) 1 (pow_pos 0) (twice_rep u r)) ∙ rnd_fix u 2 (pow_pos 1) r

mid_mono : (s t : ℕ) → s ≤ t → mid s ≤ mid t
mid_mono s t h =
    rnd_mono (rnd s 1) 2 (rnd t 1) 2 (pow_pos 1) (pow_pos 1)
    (mul-le-mul_right 2 (rnd_mono s 1 t 1 (pow_pos 0) (pow_pos 0) (mul-le-mul_right 1 h)))

pub mid_between : (u v : ℕ) → Rep u → Rep v → u ≤ v → (u ≤ mid (u + v)) × (mid (u + v) ≤ v)
mid_between u v p q h = (
  le_trans (le_of_eq (sym (mid_twice u p))) (mid_mono (u * 2) (u + v) (low u v h)),
  le_trans (mid_mono (u + v) (v * 2) (high u v h)) (le_of_eq (mid_twice v q)),
)
  where
    low : (u v : ℕ) → u ≤ v → u * 2 ≤ u + v
    low u v h = omega arith

    high : (u v : ℕ) → u ≤ v → u + v ≤ v * 2
    high u v h = omega arith

-- ---- the middle third
abbrev pub Third : ℕ → ℕ → ℕ → Type 0
Third u v m = (m * 3 ≤ u + v * 2) × (u * 2 + v ≤ m * 3)

-- all on one grid, two steps apart at least
third_grid : (u v m : ℕ) → u + 2 ≤ v → m * 2 ≤ u + v + 1 → u + v ≤ m * 2 + 1 → Third u v m
third_grid u v m h a b = omega arith

scale_third : (u v m g U W q : ℕ) → u ≡ U * g → v ≡ W * g → m ≡ q * g → Third U W q → Third u v m
scale_third u v m g U W q a b c h = omega (arith, mul-le-mul_right g h.0, mul-le-mul_right g h.1)

third_far : (u v m g : ℕ) → u + g * 3 ≤ v → m * 2 ≤ u + v + g → u + v ≤ m * 2 + g → Third u v m
third_far u v m g h a b = omega arith

-- u below a power of two and v above it, on a grid of half the step
third_edge : (U W q : ℕ) → U < 16777216 → 33554432 ≤ U + W * 2 → W * 2 < U + 6 → q * 4 ≤ U + W * 2 + 2
    → U + W * 2 ≤ q * 4 + 2 → Third U (W * 2) (q * 2)
third_edge U W q a b c d e = omega arith

third_zero : (u v r m p : ℕ) → p ≡ 1 → u < r → r < v → m * 2 ≤ u + v + p → u + v ≤ m * 2 + p → Third u v m
third_zero u v r m p e a b c d = third_grid u v m (apart u v r a b) (up c) (down d)
  where
    apart : (u v r : ℕ) → u < r → r < v → u + 2 ≤ v
    apart u v r a b = omega arith

    up : m * 2 ≤ u + v + p → m * 2 ≤ u + v + 1
    up c = omega arith

    down : u + v ≤ m * 2 + p → u + v ≤ m * 2 + 1
    down d = omega arith

-- u is at least 2 ^ (23 + k), and the step is g = 2 ^ k from there on
third_same : (u v r m g U W R q : ℕ) → 0 < g → u ≡ U * g → v ≡ W * g → r ≡ R * g → m ≡ q * g → u < r → r < v
    → m * 2 ≤ u + v + g → u + v ≤ m * 2 + g → Third u v m
third_same u v r m g U W R q G a b c d l h x y =
    let L : U < R = lt_of_mul-lt-mul_right g (omega arith) in
    let H : R < W = lt_of_mul-lt-mul_right g (omega arith) in
    let X : q * 2 ≤ U + W + 1 = le_of_mul-le-mul_right (omega arith) G in
    let Y : U + W ≤ q * 2 + 1 = le_of_mul-le-mul_right (omega arith) G in
    scale_third u v m g U W q a b d (third_zero U W R q 1 refl L H X Y)

-- u is below 2 ^ 24 * h, the step is h there and 2 * h above
third_across : (u v m h U W q : ℕ) → 0 < h → u ≡ U * h → v ≡ W * (h * 2) → m ≡ q * (h * 2) → u < 16777216 * h
    → 33554432 * h ≤ u + v → v < u + h * 6
    → m * 2 ≤ u + v + h * 2 → u + v ≤ m * 2 + h * 2 → Third u v m
third_across u v m h U W q H a b d l s f x y =
    let A : U < 16777216 = lt_of_mul-lt-mul_right h (omega arith) in
    let B : 33554432 ≤ U + W * 2 = le_of_mul-le-mul_right (omega arith) H in
    let C : W * 2 < U + 6 = lt_of_mul-lt-mul_right h (omega arith) in
    let X : q * 4 ≤ U + W * 2 + 2 = le_of_mul-le-mul_right (omega arith) H in
    let Y : U + W * 2 ≤ q * 4 + 2 = le_of_mul-le-mul_right (omega arith) H in
    scale_third u v m h U (W * 2) (q * 2) a (omega arith) (omega arith) (third_edge U W q A B C X Y)

third_step : (u v r m k q : ℕ) → Rep u → Rep v → Rep r → u < r → r < v → m ≡ q * 2 ^ suc k → m * 2 ≤ u + v + 2 ^ suc k
    → u + v ≤ m * 2 + 2 ^ suc k → 2 ^ (24 + suc k) ≤ u + v → Third u v m
third_step u v r m k q pu pv pr l h e x y big =
    let g = 2 ^ suc k in
    let w : (z : ℕ) × (v ≡ z * g) =
    rep_grid v (suc k) pv (half u v (2 ^ (23 + suc k)) (2 ^ (24 + suc k)) (lower u v r l h)
    (pow_suc' (23 + suc k) (24 + suc k) (next (suc k))) big) in
    go w (dec_le (2 ^ (23 + suc k)) u) (dec_le (u + g * 3) v)
  where
    lower : (u v r : ℕ) → u < r → r < v → u < v
    lower u v r a b = omega arith

    next : (k : ℕ) → 24 + k ≡ suc (23 + k)
    next k = omega arith

    pow_suc' : (i j : ℕ) → j ≡ suc i → 2 ^ j ≡ 2 ^ i * 2
    pow_suc' i j e = ap (λ (x : ℕ). 2 ^ x) e ∙ pow-suc 2 i

    half : (u v a b : ℕ) → u < v → b ≡ a * 2 → b ≤ u + v → a ≤ v
    half u v a b p e h = omega arith

    go : (z : ℕ) × (v ≡ z * 2 ^ suc k) → Dec (2 ^ (23 + suc k) ≤ u) → Dec (u + 2 ^ suc k * 3 ≤ v) → Third u v m
    go (z, w) (yes a) f =
        let U = rep_grid u (suc k) pu a in
        let R = rep_grid r (suc k) pr (le_trans a (under u r l)) in
        third_same u v r m (2 ^ suc k) U.0 z R.0 q (pow_pos (suc k)) U.1 w R.1 e l h x y
      where
        under : (u r : ℕ) → u < r → u ≤ r
        under u r l = omega arith
    go (z, w) (no n) (yes f) = third_far u v m (2 ^ suc k) f x y
    go (z, w) (no n) (no f) =
        let p = 2 ^ k in
        let P : 2 ^ suc k ≡ p * 2 = pow-suc 2 k in
        let A : 2 ^ (23 + suc k) ≡ 8388608 * 2 ^ suc k = pow-add 2 23 (suc k) in
        let B : 2 ^ (24 + suc k) ≡ 16777216 * 2 ^ suc k = pow-add 2 24 (suc k) in
        let C : 2 ^ (23 + k) ≡ 8388608 * p = pow-add 2 23 k in
        let g : 2 ^ (23 + k) ≤ u = omega arith in
        let U = rep_grid u k pu g in
        third_across u v m p U.0 z q (pow_pos k) U.1 (w ∙ ap (λ (t : ℕ). z * t) P) (e ∙ ap (λ (t : ℕ). q * t) P)
        (omega arith) (omega arith) (omega arith) (omega arith) (omega arith)

-- where a number that needs no rounding lies strictly between u and v, the midpoint lies in the middle third
pub mid_third : (u v r : ℕ) → Rep u → Rep v → Rep r → u < r → r < v → Third u v (mid (u + v))
mid_third u v r pu pv pr l h = go (mid_is (u + v))
  where
    go : Mid (u + v) (mid (u + v)) → Third u v (mid (u + v))
    go (k, q, e, x, y, inl z) = third_zero u v r (mid (u + v)) (2 ^ k) (ap (λ (t : ℕ). 2 ^ t) z) l h x y
    go (zero, q, e, x, y, inr b) = third_zero u v r (mid (u + v)) (2 ^ 0) refl l h x y
    go (suc k, q, e, x, y, inr b) = third_step u v r (mid (u + v)) k q pu pv pr l h e x y b

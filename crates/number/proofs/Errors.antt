-- How far what is computed is off what is exact, in parts of 2 ^ -28 (a rounding is off by 16 of them at most): a rounded
-- fraction, the sum of three squares of rounded numbers, its root. Whole numbers, and nothing of floats. Assumes
-- nothing.
use mathlib.Core.Path.{◌≡◌, sym, ap}
use mathlib.Core.Logic.{◌⊎◌, inl, inr}
use Prim.Native.Nat.{ℕ, ◌+◌, ◌-◌, ◌*◌, ◌^◌, ◌≤◌, ◌<◌}
use native.Mathlib.Nat.{le_trans, le_of_eq, eq-zero-or-pos, mul-pos, mul-mul-mul_comm, mul-le-mul, mul-le-mul_right}
use native.Mathlib.Omega.{arith}
use lib.Pow.{pow-add, pow_pos}
use lib.Ieee.Order.{drop, kept}
use Rattle.number.proofs.Rounding.{Near, rnd, closest_near, drop_reaches, rnd_part}
use Rattle.number.proofs.Units.{L}
use Rattle.number.proofs.Products.{Root}

-- ---- a rounded fraction is off by a part of 2 ^ 24, or by a half
abbrev pub Off : ℕ → ℕ → ℕ → Type 0
Off r n d = (r * d * 2 ^ 24 ≤ n * 2 ^ 24 + n + d * 2 ^ 23) × (n * 2 ^ 24 ≤ r * d * 2 ^ 24 + n + d * 2 ^ 23)

pub rnd_off : (n d : ℕ) → 0 < d → Off (rnd n d) n d
rnd_off n d D = go (eq-zero-or-pos k) (closest_near n (d * 2 ^ k) (mul-pos D (pow_pos k)))
  where
    k : ℕ
    k = drop 24 n d

    whole : (c n d p : ℕ) → p ≡ 1 → Near c n (d * p) → Off (c * p) n d
    whole c n d p e h =
        let a : c * p ≡ c = omega (arith, ap (λ (x : ℕ). c * x) e) in
        let b : c * (d * p) ≡ c * p * d = omega arith in
        let f : d * p ≡ d = omega (arith, ap (λ (x : ℕ). d * x) e) in
        (omega arith, omega arith)

    part : (c n d p w : ℕ) → w ≡ 2 ^ 23 * p → w * d ≤ n → Near c n (d * p) → Off (c * p) n d
    part c n d p w e l h =
        let b : c * (d * p) ≡ c * p * d = omega arith in
        let f : w * d ≡ d * p * 2 ^ 23 = omega (arith, ap (λ (x : ℕ). x * d) e) in
        (omega arith, omega arith)

    go : (k ≡ 0) ⊎ (0 < k) → Near (kept 24 n d) n (d * 2 ^ k) → Off (rnd n d) n d
    go (inl z) h = whole (kept 24 n d) n d (2 ^ k) (ap (λ (x : ℕ). 2 ^ x) z) h
    go (inr l) h = part (kept 24 n d) n d (2 ^ k) (2 ^ (23 + k)) (pow-add 2 23 k) (drop_reaches n d D l) h

-- ---- squares
pub squares : (a b p q : ℕ) → a * p ≤ b * q → a * a * (p * p) ≤ b * b * (q * q)
squares a b p q h =
    le_trans (le_of_eq (mul-mul-mul_comm a a p p))
    (le_trans (mul-le-mul h h) (le_of_eq (sym (mul-mul-mul_comm b b q q))))

-- the computed square of a rounded number, in units
abbrev pub squared : ℕ → ℕ
squared n = rnd (rnd n 1 * rnd n 1) L

-- q, times l, is a but for 50 parts and a half of l
abbrev OfSquare : ℕ → ℕ → ℕ → Type 0
OfSquare q a l = (q * 2 ^ 28 ≤ a * (2 ^ 28 + 50) + l * 2 ^ 27) × (a * (2 ^ 28 - 50) ≤ q * 2 ^ 28 + l * 2 ^ 27)

square_off : (n : ℕ) → OfSquare (squared n * L) (n * n) L
square_off n =
    let d = rnd n 1 in
    let p = rnd_part n in
    let q = rnd_off (d * d) L (pow_pos 149) in
    by (n * n) (d * d) (squared n * L) L (squares d n (2 ^ 24) (2 ^ 24 + 1) (omega arith))
    (squares n d (2 ^ 24 - 1) (2 ^ 24) (omega arith)) q.0 q.1
  where
    by : (a e q l : ℕ) → e * (2 ^ 24 * 2 ^ 24) ≤ a * ((2 ^ 24 + 1) * (2 ^ 24 + 1))
        → a * ((2 ^ 24 - 1) * (2 ^ 24 - 1)) ≤ e * (2 ^ 24 * 2 ^ 24)
        → q * 2 ^ 24 ≤ e * 2 ^ 24 + e + l * 2 ^ 23 → e * 2 ^ 24 ≤ q * 2 ^ 24 + e + l * 2 ^ 23 → OfSquare q a l
    by a e q l over under high low = (omega arith, omega arith)

-- ---- the sum of three: s, times l, is n but for 84 parts and two l
abbrev pub OfSum : ℕ → ℕ → ℕ → Type 0
OfSum s n l = (s * 2 ^ 28 ≤ n * (2 ^ 28 + 84) + l * 2 ^ 29) × (n * (2 ^ 28 - 84) ≤ s * 2 ^ 28 + l * 2 ^ 29)

pub sum_off : (a b c : ℕ)
    → OfSum (rnd (rnd (squared a + squared b) 1 + squared c) 1 * L) (a * a + b * b + c * c) L
sum_off a b c =
    let p = squared a in
    let q = squared b in
    let r = squared c in
    let t = rnd (p + q) 1 in
    let s = rnd (t + r) 1 in
    let h = sums p q r t s (rnd_part (p + q)) (rnd_part (t + r)) in
    by (p * L + q * L + r * L) (s * L) (a * a + b * b + c * c) L
    (all (a * a) (b * b) (c * c) (p * L) (q * L) (r * L) L (square_off a) (square_off b) (square_off c))
    (times s p q r (2 ^ 28) (2 ^ 28 + 33) L h.0) (back s p q r (2 ^ 28) (2 ^ 28 - 33) L h.1)
  where
    sums : (p q r t s : ℕ)
        → (t * 2 ^ 24 ≤ (p + q) * 2 ^ 24 + (p + q)) × ((p + q) * 2 ^ 24 ≤ t * 2 ^ 24 + (p + q))
        → (s * 2 ^ 24 ≤ (t + r) * 2 ^ 24 + (t + r)) × ((t + r) * 2 ^ 24 ≤ s * 2 ^ 24 + (t + r))
        → (s * 2 ^ 28 ≤ (p + q + r) * (2 ^ 28 + 33)) × ((p + q + r) * (2 ^ 28 - 33) ≤ s * 2 ^ 28)
    sums p q r t s two three = (omega arith, omega arith)

    times : (s p q r i k l : ℕ) → s * i ≤ (p + q + r) * k → s * l * i ≤ (p * l + q * l + r * l) * k
    times s p q r i k l h =
        let g : s * i * l ≤ (p + q + r) * k * l = mul-le-mul_right l h in
        omega arith

    back : (s p q r i k l : ℕ) → (p + q + r) * k ≤ s * i → (p * l + q * l + r * l) * k ≤ s * l * i
    back s p q r i k l h =
        let g : (p + q + r) * k * l ≤ s * i * l = mul-le-mul_right l h in
        omega arith

    all : (a b c p q r l : ℕ) → OfSquare p a l → OfSquare q b l → OfSquare r c l
        → OfSquare (p + q + r) (a + b + c) (l * 3)
    all a b c p q r l x y z = (omega arith, omega arith)

    by : (m s n l : ℕ) → OfSquare m n (l * 3) → s * 2 ^ 28 ≤ m * (2 ^ 28 + 33) → m * (2 ^ 28 - 33) ≤ s * 2 ^ 28
        → OfSum s n l
    by m s n l x over under = (omega arith, omega arith)

-- ---- the root: its square is the number but for 33 parts
abbrev pub OfRoot : ℕ → ℕ → Type 0
OfRoot r n = (r * r * (2 ^ 28 - 33) ≤ n * 2 ^ 28) × (n * 2 ^ 28 ≤ r * r * (2 ^ 28 + 33))

from_less : (n r l : ℕ) → r * ((2 ^ 24 - 1) * (2 ^ 24 - 1)) ≤ l * (2 ^ 23 * 2 ^ 23) → l ≤ n * 4
    → r * (2 ^ 28 - 33) ≤ n * 2 ^ 28
from_less n r l under high = omega arith

from_more : (n r m : ℕ) → m * (2 ^ 23 * 2 ^ 23) ≤ r * ((2 ^ 24 + 1) * (2 ^ 24 + 1)) → n * 4 ≤ m
    → n * 2 ^ 28 ≤ r * (2 ^ 28 + 33)
from_more n r m over low = omega arith

pub root_off : (n r : ℕ) → Root n r → OfRoot r n
root_off n r h =
    let w = 2 ^ h.k in
    let l : 2 ^ 23 * w ≤ r = le_trans (mul-le-mul_right w h.digits) (le_of_eq (sym h.is)) in
    let more = r * 2 + w in
    let less = r * 2 - w in (
      from_less n (r * r) (less * less) (squares r less (2 ^ 24 - 1) (2 ^ 23) (narrow r w l)) h.high,
      from_more n (r * r) (more * more) (squares more r (2 ^ 23) (2 ^ 24 + 1) (wide r w l)) h.low,
    )
  where
    wide : (r w : ℕ) → 2 ^ 23 * w ≤ r → (r * 2 + w) * 2 ^ 23 ≤ r * (2 ^ 24 + 1)
    wide r w l = omega arith

    narrow : (r w : ℕ) → 2 ^ 23 * w ≤ r → r * (2 ^ 24 - 1) ≤ (r * 2 - w) * 2 ^ 23
    narrow r w l = omega arith

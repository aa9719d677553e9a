-- `round` in units of 2 ^ -149, of either sign, overflow included, and what sums and differences hand to it. Assumes
-- nothing.
use mathlib.Core.Path.{◌≡◌, refl, sym, ap, ◌∙◌, subst}
use mathlib.Core.Logic.{inl, inr}
use mathlib.Core.Bool.{Bool, true, false, not, cond, true≢false, false≢true}
use Prim.Native.Nat.{ℕ, ◌+◌, ◌-◌, ◌*◌, ◌^◌, ◌≤◌, ◌<◌}
use native.Mathlib.Nat.{not-le_of_lt, eq-or-lt_of_le, zero-mul, mul-one}
use native.Mathlib.Omega.{arith}
use lib.IntN.{ℤ}
use lib.Dec.{T, ltb, ltb→lt, lt→ltb, lit<}
use lib.Pow.{pow_pos}
use lib.Ieee.{Float, inf, fin, binary32, up, down, round, units, odd, sum, add, sub, nan}
use lib.Ieee.Fits.{up_pos, round_is}
use lib.Ieee.Exact.{HasValue, units_val}
use lib.Ieee.Order.{drop, kept}
use Rattle.number.proofs.Rounding.{rnd, rnd_same, rnd_fix}
use Rattle.number.proofs.Units.{L, Top, Is, none_of}

-- ---- `round`, of either sign
pub round_at : (s : Bool) (a c : ℕ) → rnd (a * L) c < Top → HasValue (round binary32 s a c) s (rnd (a * L) c) L
round_at s a c h =
    subst (λ (z : Float). HasValue z s (rnd (a * L) c) L) (sym (round_is binary32 s a c))
    (units_val binary32 s (kept 24 (a * L) c) (drop 24 (a * L) c) h)

pub to_is : (x : Float) (w : ℕ) → HasValue x false w L → Is x w
to_is nan w h = elim h [ ]
to_is (inf _) w h = elim h [ ]
to_is (fin false m e) w h = h.1
to_is (fin true m e) w h = absurd (true≢false h.0)

pub to_is_minus : (x : Float) (w : ℕ) → w ≡ 0 → HasValue x true w L → Is x w
to_is_minus nan w z h = elim h [ ]
to_is_minus (inf _) w z h = elim h [ ]
to_is_minus (fin false m e) w z h = absurd (false≢true h.0)
to_is_minus (fin true m e) w z h =
    (none_of m (up e) L (up_pos e) (pow_pos 149) (h.1 ∙ ap (λ (x : ℕ). x * down e) z ∙ zero-mul (down e)), z)

cond_of : {X : Type 0} (b : Bool) (x y : X) → (T b → ⊥) → cond b x y ≡ y
cond_of true x y f = absurd (f tt)
cond_of false x y f = refl

units_over : (s : Bool) (q k : ℕ) → Top ≤ q * 2 ^ k → units binary32 s q k ≡ inf s
unfolding units
units_over s q k h =
    cond_of (ltb (q * 2 ^ k) Top) (odd 25 s q k 149) (inf s) (λ t. not-le_of_lt (ltb→lt (q * 2 ^ k) Top t) h)

-- what is too large rounds to the infinity
pub round_over : (s : Bool) (a c : ℕ) → Top ≤ rnd (a * L) c → round binary32 s a c ≡ inf s
round_over s a c h = round_is binary32 s a c ∙ units_over s (kept 24 (a * L) c) (drop 24 (a * L) c) h

-- num / den is w units
pub round_units : (num den w : ℕ) → 0 < den → num * L ≡ w * den → rnd (num * L) den ≡ rnd w 1
round_units num den w D e = rnd_same (num * L) den w 1 D (pow_pos 0) (mul-one (num * L) ∙ e)

pub rounded : (num den w : ℕ) → 0 < den → num * L ≡ w * den → rnd w 1 < Top
    → Is (round binary32 false num den) (rnd w 1)
rounded num den w D e h =
    let k = round_units num den w D e in
    subst (λ (z : ℕ). Is (round binary32 false num den) z) k
    (to_is (round binary32 false num den) (rnd (num * L) den)
    (round_at false num den (subst (λ (z : ℕ). z < Top) (sym k) h)))

rnd_zero : rnd 0 1 ≡ 0
rnd_zero = rnd_fix 0 1 (pow_pos 0) (0, 0, lit< tt, refl)

pub rounded_minus : (num den w : ℕ) → 0 < den → num * L ≡ w * den → w ≡ 0
    → Is (round binary32 true num den) (rnd w 1)
rounded_minus num den w D e z =
    let k = round_units num den w D e in
    let n : rnd w 1 ≡ 0 = ap (λ (x : ℕ). rnd x 1) z ∙ rnd_zero in
    subst (λ (y : ℕ). Is (round binary32 true num den) y) k
    (to_is_minus (round binary32 true num den) (rnd (num * L) den) (k ∙ n)
    (round_at true num den (subst (λ (y : ℕ). y < Top) (sym (k ∙ n)) (pow_pos 277))))

-- ---- the branches of `sum`
pub sum_ff : (a b c : ℕ) → sum binary32 false a false b c ≡ round binary32 false (a + b) c
unfolding sum
sum_ff a b c = refl

pub sum_tt : (a b c : ℕ) → sum binary32 true a true b c ≡ round binary32 true (a + b) c
unfolding sum
sum_tt a b c = refl

pub sum_ft : (a b c : ℕ) → b ≤ a → sum binary32 false a true b c ≡ round binary32 false (a - b) c
unfolding sum
sum_ft a b c h = go (ltb a b) (ltb→lt a b)
  where
    go : (t : Bool) → (T t → a < b)
        → cond t (round binary32 true (b - a) c) (round binary32 false (a - b) c) ≡ round binary32 false (a - b) c
    go true k = absurd (not-le_of_lt (k tt) h)
    go false k = refl

pub sum_ft_over : (a b c : ℕ) → a < b → sum binary32 false a true b c ≡ round binary32 true (b - a) c
unfolding sum
sum_ft_over a b c h = go (ltb a b) (lt→ltb a b h)
  where
    go : (t : Bool) → T t
        → cond t (round binary32 true (b - a) c) (round binary32 false (a - b) c) ≡ round binary32 true (b - a) c
    go false k = elim k [ ]
    go true k = refl

pub sum_tf : (a b c : ℕ) → a ≤ b → sum binary32 true a false b c ≡ round binary32 false (b - a) c
unfolding sum
sum_tf a b c h = go (ltb a b) (ltb b a) (ltb→lt b a) (lt→ltb a b)
  where
    swap : (a b : ℕ) → a ≡ b → a - b ≡ b - a
    swap a b e = omega arith

    go : (t s : Bool) → (T s → b < a) → (a < b → T t)
        → cond t (round binary32 false (b - a) c) (round binary32 s (a - b) c) ≡ round binary32 false (b - a) c
    go true s k l = refl
    go false true k l = absurd (not-le_of_lt (k tt) h)
    go false false k l =
        elim (eq-or-lt_of_le h) [
          | inl e ↦ ap (λ (x : ℕ). round binary32 false x c) (swap a b e)
          | inr n ↦ absurd (l n)
        ]

pub add_opens : (s : Bool) (m : ℕ) (e : ℤ) (t : Bool) (n : ℕ) (d : ℤ)
    → add binary32 (fin s m e) (fin t n d)
    ≡ sum binary32 s (m * up e * down d) t (n * up d * down e) (down e * down d)
unfolding add
add_opens s m e t n d = refl

pub sub_opens : (s : Bool) (m : ℕ) (e : ℤ) (t : Bool) (n : ℕ) (d : ℤ)
    → sub binary32 (fin s m e) (fin t n d)
    ≡ sum binary32 s (m * up e * down d) (not t) (n * up d * down e) (down e * down d)
unfolding sub
sub_opens s m e t n d = refl

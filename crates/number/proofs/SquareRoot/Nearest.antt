-- The definition of the square root (specs/Number.antt) taken apart: the middles grow with the patterns, so every
-- pattern up to the nearest is reached and none after it, and the search finds it. Assumes nothing.
use mathlib.Core.Path.{◌≡◌, sym, ap, ◌∙◌, subst}
use mathlib.Core.Logic.{inl, inr}
use mathlib.Core.Bool.{Bool, true, false, cond, not, ◌&&◌, ◌||◌}
use Prim.Native.Nat.{ℕ, zero, suc, ◌+◌, ◌-◌, ◌*◌, ◌/◌, ◌%◌, ◌^◌, ◌≤◌, ◌<◌, zero-le}
use native.Mathlib.Nat.{lt_irrefl, le_of_eq, le_of_lt, lt_of_lt_of_le, lt_of_le_of_lt, lt_of_not-le, eq-or-lt_of_le}
use native.Mathlib.Nat.{add-lt-add_of_le_of_lt, mul-div_cancel, pow-succ'}
use native.Mathlib.Omega.{arith}
use native.Mathlib.Decide.{dec_le}
use lib.Dec.{T, ltb, eqb, ltb→lt, lt→ltb, eqb→eq, not_T, T_not}
use lib.Ieee.{Float, fin, binary32, down, lt, of_bits, inf, nan}
use lib.Ieee.Bits.{is_true, is_false}
use lib.Ieee.Fits.{and_i, and_l, and_r, eq→eqb, down_pos}
use Rattle.number.specs.Number.{zero32, is_finite, inf_bits, units_of, twice_middle, twice_root_squared, root_at_least}
use Rattle.number.specs.Number.{last, root_of}
use Rattle.number.proofs.Numbers.{le_of_not_lt, square_mono}
use Rattle.number.proofs.Units.{Is, size_is}
use Rattle.number.proofs.Within.{or_l, or_r, or_cases}
use Rattle.number.proofs.Patterns.{val, val_lt, val_le, bits_are}

-- ---- counts
pub units_is : (x : Float) (u : ℕ) → Is x u → units_of x ≡ u
unfolding units_of
units_is nan u h = elim h [ ]
units_is (inf _) u h = elim h [ ]
units_is (fin s m e) u h = ap (λ (n : ℕ). n / down e) (size_is s m e u h) ∙ mul-div_cancel u (down_pos e)

pub units_bits : (b : ℕ) → b < inf_bits → units_of (of_bits binary32 b) ≡ val b
units_bits b h = units_is (of_bits binary32 b) (val b) (bits_are b h)

-- ---- middles
pub middle_is : (b : ℕ) → b < inf_bits → twice_middle b ≡ val (b - 1) + val b
unfolding twice_middle
middle_is b h =
    ap (λ (n : ℕ). n + units_of (of_bits binary32 b)) (units_bits (b - 1) (omega arith))
    ∙ ap (λ (n : ℕ). val (b - 1) + n) (units_bits b h)

middle_lt : (b c : ℕ) → b < c → c < inf_bits → twice_middle b < twice_middle c
middle_lt b c h l =
    lt_of_le_of_lt (le_of_eq (middle_is b (omega arith)))
    (lt_of_lt_of_le (add-lt-add_of_le_of_lt (val_le (b - 1) (c - 1) (omega arith)) (val_lt b c h))
    (le_of_eq (sym (middle_is c l))))

-- ---- what the test says
module _ (x : Float) (b : ℕ) where
  abbrev m : ℕ
  m = twice_middle b * twice_middle b

  abbrev n : ℕ
  n = twice_root_squared x

  abbrev tie : Bool
  tie = eqb m n && eqb (b % 2) 0

  pub reached : T (root_at_least x b) → (b < inf_bits) × (m ≤ n)
  unfolding root_at_least
  reached t = (
    ltb→lt b inf_bits (and_l (ltb b inf_bits) (ltb m n || tie) t),
    elim (or_cases (ltb m n) tie (and_r (ltb b inf_bits) (ltb m n || tie) t)) [
      | inl u ↦ le_of_lt (ltb→lt m n u)
      | inr u ↦ le_of_eq (eqb→eq m n (and_l (eqb m n) (eqb (b % 2) 0) u))
    ],
  )

  pub reach : b < inf_bits → m < n → T (root_at_least x b)
  unfolding root_at_least
  reach h l = and_i (ltb b inf_bits) (ltb m n || tie) (lt→ltb b inf_bits h) (or_l (ltb m n) tie (lt→ltb m n l))

  -- on the middle itself it is reached by the even one alone
  pub reached_tie : T (root_at_least x b) → m ≡ n → b % 2 ≡ 0
  unfolding root_at_least
  reached_tie t e = elim (or_cases (ltb m n) tie (and_r (ltb b inf_bits) (ltb m n || tie) t)) [
    | inl u ↦ absurd (lt_irrefl n (subst (λ (k : ℕ). k < n) e (ltb→lt m n u)))
    | inr u ↦ eqb→eq (b % 2) 0 (and_r (eqb m n) (eqb (b % 2) 0) u)
  ]

  pub missed : b < inf_bits → T (not (root_at_least x b)) → n ≤ m
  missed h t = le_of_not_lt (λ (l : m < n). T_not (root_at_least x b) t (reach h l))

  pub missed_tie : b < inf_bits → T (not (root_at_least x b)) → m ≡ n → b % 2 ≡ 0 → ⊥
  unfolding root_at_least
  missed_tie h t e z =
      T_not (root_at_least x b) t
      (and_i (ltb b inf_bits) (ltb m n || tie) (lt→ltb b inf_bits h)
      (or_r (ltb m n) tie (and_i (eqb m n) (eqb (b % 2) 0) (eq→eqb e) (eq→eqb z))))

-- whatever lies below a pattern that is reached is reached
at_least_down : (x : Float) (b c : ℕ) → b ≤ c → T (root_at_least x c) → T (root_at_least x b)
at_least_down x b c h t = elim (eq-or-lt_of_le h) [
  | inl e ↦ subst (λ (d : ℕ). T (root_at_least x d)) (sym e) t
  | inr l ↦
      let r = reached x c t in
      reach x b (lt_of_le_of_lt h r.0)
      (lt_of_lt_of_le (square_mono (twice_middle b) (twice_middle c) (middle_lt b c l r.0)) r.1)
]

-- ---- the search
pub search_finds : (p : ℕ → Bool) (b : ℕ) → ((c : ℕ) → c ≤ b → T (p c)) → ((c : ℕ) → b < c → T (not (p c)))
    → (k a : ℕ) → a ≤ b → b < a + 2 ^ k → last p k a ≡ b
unfolding last
search_finds p b yes· no· zero a h l = omega arith
search_finds p b yes· no· (suc k) a h l = go (search_finds p b yes· no· k) (dec_le (a + 2 ^ k) b)
  where
    twice : b < a + 2 ^ suc k → b < a + 2 ^ k + 2 ^ k
    twice u = let e = pow-succ' 2 k in omega arith

    by : (t : Bool) → p (a + 2 ^ k) ≡ t
        → last p k (cond (p (a + 2 ^ k)) (a + 2 ^ k) a) ≡ last p k (cond t (a + 2 ^ k) a)
    by t e = ap (λ (t : Bool). last p k (cond t (a + 2 ^ k) a)) e

    go : ((d : ℕ) → d ≤ b → b < d + 2 ^ k → last p k d ≡ b) → Dec (a + 2 ^ k ≤ b)
        → last p k (cond (p (a + 2 ^ k)) (a + 2 ^ k) a) ≡ b
    go ih (yes u) = by true (is_true (p (a + 2 ^ k)) (yes· (a + 2 ^ k) u)) ∙ ih (a + 2 ^ k) u (twice l)
    go ih (no f) =
        by false (is_false (p (a + 2 ^ k)) (no· (a + 2 ^ k) (lt_of_not-le f))) ∙ ih a h (lt_of_not-le f)

-- the pattern that is reached, where the next one is not, is the one that the search finds
pub root_at_lem : (x : Float) (b : ℕ) → T (lt zero32 x) → T (is_finite x) → T (root_at_least x b)
    → T (not (root_at_least x (b + 1))) → root_of x ≡ of_bits binary32 b
unfolding root_of
root_at_lem x b p f t n =
    ap (λ (c : Bool). cond c (of_bits binary32 (last (root_at_least x) 31 0)) zero32)
    (is_true (lt zero32 x && is_finite x) (and_i (lt zero32 x) (is_finite x) p f))
    ∙ ap (of_bits binary32)
    (search_finds (root_at_least x) b (λ c h. at_least_down x c b h t)
    (λ c h. not_T (root_at_least x c) (λ (u : T (root_at_least x c)).
    T_not (root_at_least x (b + 1)) n (at_least_down x (b + 1) c (omega arith) u)))
    31 0 zero-le (lt_of_lt_of_le (reached x b t).0 (omega arith)))

-- The difference of two numbers on opposite sides of zero, or of a number and a zero: it is the sum of their sizes,
-- rounded, or infinite where that overflows, and has the sign of the first, where that is not zero. Assumes nothing.
use Prim.Native.Nat.{ℕ, ◌+◌, ◌*◌, ◌^◌, ◌<◌}
use native.Mathlib.Nat.{le_trans, le_of_eq, mul-one, zero-mul, add-mul, mul-pos, eq-zero-or-pos}
use native.Mathlib.Omega.{arith}
use native.Mathlib.Decide.{dec_lt}
use mathlib.Core.Path.{◌≡◌, refl, sym, ap, ◌∙◌, subst}
use mathlib.Core.Logic.{◌⊎◌, inl, inr}
use mathlib.Core.Bool.{Bool, true, false, not}
use lib.IntN.{ℤ}
use lib.Dec.{T}
use lib.Pow.{pow_pos}
use lib.Ieee.{Float, inf, fin, binary32, up, down, round, sum, sub, fits}
use lib.Ieee.Fits.{down_pos}
use lib.Ieee.Exact.{HasValue}
use Rattle.number.specs.Number.{◌⊖◌}
use Rattle.number.proofs.Numbers.{le_of_not_lt}
use Rattle.number.proofs.Rounding.{rnd}
use Rattle.number.proofs.Units.Compared.{L, left, right, no_size}
use Rattle.number.proofs.Units.{Top, Unit32, shift, fin_false, none_of}
use Rattle.number.proofs.Sums.Rounded.{round_at, round_over, round_units}
use Rattle.number.proofs.Zeros.{sum_first, sum_second}
use Rattle.number.proofs.Sizes.{fits_plus}

sum_same : (s : Bool) (a b c : ℕ) → sum binary32 s a s b c ≡ round binary32 s (a + b) c
unfolding sum
sum_same true a b c = refl
sum_same false a b c = refl

-- ---- whole numbers
pub zero_of : (a b : ℕ) → 0 < b → a * b ≡ 0 → a ≡ 0
zero_of a b p h = none_of a b 1 p (pow_pos 0) (mul-one (a * b) ∙ h)

pub pos_of : (a b c d : ℕ) → 0 < c → 0 < d → a * b ≡ c * d → 0 < a
pos_of a b c d p q h = elim (eq-zero-or-pos a) [
  | inl z ↦ absurd (clash (c * d) (mul-pos p q) (sym h ∙ ap (λ (x : ℕ). x * b) z ∙ zero-mul b))
  | inr l ↦ l
]
  where
    clash : (x : ℕ) → 0 < x → x ≡ 0 → ⊥
    clash x l z = omega arith

-- ---- units
pub units_of_lem : (s : Bool) (m : ℕ) (e : ℤ) → T (fits binary32 (fin s m e)) → Unit32 (fin false m e) (m * 2 ^ shift e)
units_of_lem s m e f = fin_false m e (fits_plus s m e f)

-- ---- two numbers on opposite sides of zero
-- opposite signs, or a zero
abbrev pub Sides : Bool → Bool → ℕ → ℕ → Type 0
Sides s t m n = (s ≡ not t) ⊎ ((m ≡ 0) ⊎ (n ≡ 0))

module _ (s : Bool) (m : ℕ) (e : ℤ) (t : Bool) (n : ℕ) (d : ℤ) (u v : ℕ)
    (P : m * up e * L ≡ u * down e) (Q : n * up d * L ≡ v * down d) where
  abbrev A : ℕ
  A = m * up e * down d

  abbrev B : ℕ
  B = n * up d * down e

  abbrev C : ℕ
  C = down e * down d

  C-pos : 0 < C
  C-pos = mul-pos (down_pos e) (down_pos d)

  in_left : A * L ≡ u * C
  in_left = left (m * up e) (n * up d) (down e) (down d) L u v (down_pos e) (down_pos d) (pow_pos 149) P Q

  in_right : B * L ≡ v * C
  in_right = right (m * up e) (n * up d) (down e) (down d) L u v (down_pos e) (down_pos d) (pow_pos 149) P Q

  in_all : (A + B) * L ≡ (u + v) * C
  in_all =
      add-mul A B L ∙ ap (λ (x : ℕ). x + B * L) in_left ∙ ap (λ (x : ℕ). u * C + x) in_right ∙ sym (add-mul u v C)

  no_left : m ≡ 0 → (A ≡ 0) × (u ≡ 0)
  no_left z = (no_size m (up e) (down d) z, zero_of u (down e) (down_pos e) (sym P ∙ no_size m (up e) L z))

  no_right : n ≡ 0 → (B ≡ 0) × (v ≡ 0)
  no_right z = (no_size n (up d) (down e) z, zero_of v (down d) (down_pos d) (sym Q ∙ no_size n (up d) L z))

  -- the sum of the sizes, rounded, or the infinity
  abbrev pub Sum : Bool → Float → Type 0
  Sum b x = HasValue x b (rnd (u + v) 1) L ⊎ (x ≡ inf b)

  rounds : (b : Bool) (x : Float) → x ≡ round binary32 b (A + B) C → Sum b x
  rounds b x q = subst (Sum b) (sym q) (go (dec_lt (rnd (u + v) 1) Top))
    where
      k : rnd ((A + B) * L) C ≡ rnd (u + v) 1
      k = round_units (A + B) C (u + v) C-pos in_all

      go : Dec (rnd (u + v) 1 < Top) → Sum b (round binary32 b (A + B) C)
      go (yes l) =
          inl (subst (λ (w : ℕ). HasValue (round binary32 b (A + B) C) b w L) k
          (round_at b (A + B) C (subst (λ (w : ℕ). w < Top) (sym k) l)))
      go (no n) = inr (round_over b (A + B) C (le_trans (le_of_not_lt n) (le_of_eq (sym k))))

  pub difference : Sides s t m n → 0 < u + v → (b : Bool) × Sum b (fin s m e ⊖ fin t n d) × (0 < u → b ≡ s)
  unfolding sub
  difference (inl q) some = (
    s,
    rounds s _ (ap (λ (b : Bool). sum binary32 s A b B C) (sym q) ∙ sum_same s A B C),
    λ l. refl,
  )
  difference (inr (inl z)) some = (
    not t,
    rounds (not t) _
        (sum_second s A (not t) B C (no_left z).0 (pos_of B L v C (rest (no_left z).1) C-pos in_right)
        ∙ ap (λ (x : ℕ). round binary32 (not t) x C) (alone (no_left z).0)),
    λ l. absurd (none (no_left z).1 l),
  )
    where
      rest : u ≡ 0 → 0 < v
      rest q = omega (arith, some)

      alone : A ≡ 0 → B ≡ A + B
      alone q = omega arith

      none : u ≡ 0 → 0 < u → ⊥
      none q l = omega arith
  difference (inr (inr z)) some = (
    s,
    rounds s _
        (sum_first s A (not t) B C (no_right z).0 (pos_of A L u C (rest (no_right z).1) C-pos in_left)
        ∙ ap (λ (x : ℕ). round binary32 s x C) (alone (no_right z).0)),
    λ l. refl,
  )
    where
      rest : v ≡ 0 → 0 < u
      rest q = omega (arith, some)

      alone : B ≡ 0 → A ≡ A + B
      alone q = omega arith

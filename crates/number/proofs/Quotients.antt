-- How large a quotient can be, by a divisor that is not too small or by 8. Assumes nothing.
use mathlib.Core.Path.{◌≡◌, sym, ap, ◌∙◌, subst}
use mathlib.Core.Bool.{Bool, true, false, cond}
use mathlib.Core.Logic.{inl, inr}
use Prim.Native.Nat.{ℕ, ◌+◌, ◌*◌, ◌^◌, ◌≤◌, ◌<◌}
use native.Mathlib.Nat.{le_trans, le_of_eq, mul-one, mul_assoc, mul_comm, mul-pos, mul-le-mul, eq-zero-or-pos}
use native.Mathlib.Omega.{arith}
use lib.Dec.{T, eqb, eqb→eq}
use lib.Pow.{pow-add, pow_pos}
use lib.Ieee.{Float, nan, inf, fin, binary32, up, down, round, div, unlike}
use lib.Ieee.Fits.{down_pos, up_pos}
use lib.IntN.{pos}
use Rattle.number.proofs.Within.{Within, round_within}

-- ---- a quotient by what is 2 ^ -b at least
abbrev pub AtLeast : ℕ → Float → Type 0
AtLeast b nan = ⊥
AtLeast b (inf s) = ⊥
AtLeast b (fin s n d) = down d ≤ n * up d * 2 ^ b

pub div_within : (a b : ℕ) (x y : Float) → a + b ≤ 127 → Within a x → AtLeast b y → Within (a + b) (div binary32 x y)
unfolding div
div_within a b nan y l h k = elim h [ ]
div_within a b (inf _) y l h k = elim h [ ]
div_within a b (fin s m e) nan l h k = elim k [ ]
div_within a b (fin s m e) (inf _) l h k = elim k [ ]
div_within a b (fin s m e) (fin t n d) l h k = go (eqb n 0) (eqb→eq n 0)
  where
    none : (u v p : ℕ) → 0 < p → p ≤ 0 * u * v → ⊥
    none u v p h l = omega arith

    some : 0 < n
    some =
        elim (eq-zero-or-pos n) [
          | inl z ↦ absurd
              (none (up d) (2 ^ b) (down d) (down_pos d) (subst (λ (x : ℕ). down d ≤ x * up d * 2 ^ b) z k))
          | inr q ↦ q
        ]

    no : (n : ℕ) → 0 < n → n ≡ 0 → ⊥
    no n h e = omega arith

    bound : m * up e * down d ≤ 2 ^ (a + b) * (n * up d * down e)
    bound =
        le_trans (mul-le-mul h k) (le_of_eq
        (ap (λ (z : ℕ). z * (n * up d * 2 ^ b)) (mul_comm (2 ^ a) (down e))
        ∙ shuffle (down e) (2 ^ a) (n * up d) (2 ^ b)
        ∙ ap (λ (z : ℕ). z * (n * up d * down e)) (sym (pow-add 2 a b))))
      where
        shuffle : (p q r s : ℕ) → p * q * (r * s) ≡ q * s * (r * p)
        shuffle p q r s = omega arith

    go : (c : Bool) → (T c → n ≡ 0)
        → Within (a + b) (cond c (cond (eqb m 0) nan (inf (unlike s t)))
        (round binary32 (unlike s t) (m * up e * down d) (n * up d * down e)))
    go true z = absurd (no n some (z tt))
    go false z =
        round_within (a + b) (unlike s t) (m * up e * down d) (n * up d * down e)
        (mul-pos (mul-pos some (up_pos d)) (down_pos e)) l bound

-- ---- an eighth
abbrev pub eight : Float
eight = fin false 1 (pos 3)

pub eighth_within : (a : ℕ) (x : Float) → a ≤ 127 → Within (a + 3) x → Within a (div binary32 x eight)
unfolding div
eighth_within a nan l h = elim h [ ]
eighth_within a (inf _) l h = elim h [ ]
eighth_within a (fin s m e) l h =
    round_within a (unlike s false) (m * up e * 1) (1 * 8 * down e) (mul-pos (pow_pos 3) (down_pos e)) l
    (le_trans (le_of_eq (mul-one (m * up e)))
    (le_trans h (le_of_eq (ap (λ (z : ℕ). z * down e) (pow-add 2 a 3) ∙ mul_assoc (2 ^ a) 8 (down e)))))

-- Two numbers that are not below zero and whose computed sum is at most 1: each is at most 1. So the weights of a
-- place in a face are ratios. Assumes nothing.
use mathlib.Core.Path.{◌≡◌, sym, ap, ◌∙◌, subst}
use Prim.Native.Nat.{ℕ, ◌+◌, ◌≤◌, ◌<◌}
use native.Mathlib.Nat.{le_trans, lt_of_lt_of_le, lt_irrefl, add_comm, zero-add, mul-one}
use native.Mathlib.Omega.{arith}
use native.Mathlib.Decide.{dec_lt}
use mathlib.Core.Bool.{true, false}
use lib.Dec.{T}
use lib.Pow.{pow_pos}
use lib.Ieee.{Float, nan, inf, fin, binary32, add, le, fits, of_bits}
use lib.Ieee.Scale.{finite}
use Rattle.number.specs.Number.{◌⊕◌, zero32, one32}
use Rattle.number.proofs.Rounding.{rnd, rnd_fix}
use Rattle.number.proofs.Units.{Top, Unit32, of_float, one_is}
use Rattle.number.proofs.Units.Compared.{L, Is, le_says, says_le}
use Rattle.number.proofs.Sums.{add_is}
use Rattle.number.proofs.Later.{grows, add_over}

abbrev Both : Float → Float → Type 0
Both v w = T (le v one32) × T (le w one32)

no_inf : T (le (inf false) one32) → ⊥
unfolding le of_bits
no_inf h = h

-- v and w as whole numbers of 2 ^ -149
module _ (v w : Float) (a b : ℕ) (p : Unit32 v a) (q : Unit32 w b) (h : T (le (v ⊕ w) one32)) where
  exact : rnd (a + b) 1 < Top → Both v w
  exact l =
      let sum : Is (v ⊕ w) (rnd (a + b) 1) = add_is v w a b p.is q.is l in
      let s : rnd (a + b) 1 ≤ L = le_says (v ⊕ w) one32 (rnd (a + b) 1) L sum one_is h in
      let other : b ≤ rnd (a + b) 1 = subst (λ (n : ℕ). b ≤ rnd n 1) (add_comm b a) (grows b a q.rep) in (
        says_le v one32 a L p.is one_is (le_trans (grows a b p.rep) s),
        says_le w one32 b L q.is one_is (le_trans other s),
      )

  alone : a ≡ 0 → rnd (a + b) 1 ≡ b
  alone z =
      ap (λ (n : ℕ). rnd (n + b) 1) z ∙ ap (λ (n : ℕ). rnd n 1) (zero-add b ∙ sym (mul-one b))
      ∙ rnd_fix b 1 (pow_pos 0) q.rep

-- the sum does not overflow: it would be the infinity
overflows : (v w : Float) (a b : ℕ) → Unit32 v a → Unit32 w b → T (le (v ⊕ w) one32) → Top ≤ rnd (a + b) 1 → ⊥
overflows nan w a b p q h l = p.is
overflows (inf s) w a b p q h l = p.is
overflows (fin false m e) w a b p q h l =
    no_inf (subst (λ (x : Float). T (le x one32)) (add_over (fin false m e) w a b tt p.is q.is l) h)
overflows (fin true m e) w a b p q h l =
    lt_irrefl b
    (lt_of_lt_of_le q.under (subst (λ (n : ℕ). Top ≤ n) (alone (fin true m e) w a b p q h p.is.1) l))

finite_in : (v w : Float) → T (fits binary32 v) → T (fits binary32 w) → T (finite v) → T (finite w) → T (le zero32 v)
    → T (le zero32 w) → T (le (v ⊕ w) one32) → Both v w
finite_in v w f g i j h k l =
    let a = of_float v f i h in
    let b = of_float w g j k in
    go a.0 b.0 a.1 b.1 (dec_lt (rnd (a.0 + b.0) 1) Top)
  where
    reaches : (x y : ℕ) → ¬ (x < y) → y ≤ x
    reaches x y n = omega arith

    go : (a b : ℕ) → Unit32 v a → Unit32 w b → Dec (rnd (a + b) 1 < Top) → Both v w
    go a b p q (yes u) = exact v w a b p q l u
    go a b p q (no n) = absurd (overflows v w a b p q l (reaches (rnd (a + b) 1) Top n))

pub weights_in : (v w : Float) → T (fits binary32 v) → T (fits binary32 w) → T (le zero32 v) → T (le zero32 w)
    → T (le (v ⊕ w) one32) → T (le v one32) × T (le w one32)
unfolding add le of_bits
weights_in (inf false) nan f g h k l = absurd k
weights_in (inf false) (inf true) f g h k l = absurd k
weights_in (inf false) (inf false) f g h k l = absurd l
weights_in (inf false) (fin t n d) f g h k l = absurd l
weights_in (fin s m e) nan f g h k l = absurd k
weights_in (fin s m e) (inf true) f g h k l = absurd k
weights_in (fin s m e) (inf false) f g h k l = absurd l
weights_in (fin s m e) (fin t n d) f g h k l = finite_in (fin s m e) (fin t n d) f g tt tt h k l
weights_in nan w f g h k l = absurd h
weights_in (inf true) w f g h k l = absurd h

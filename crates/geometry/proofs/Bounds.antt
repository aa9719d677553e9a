-- Vectors and points by how large their numbers can be: finite and at most 2 ^ a in size. What is computed from them
-- stays within a bound too, so no infinity and no NaN arises. Assumes nothing.
use Prim.Native.Nat.{ℕ, zero, suc, ◌+◌, ◌≤◌, ◌<◌}
use native.Mathlib.Nat.{zero-add, add-zero}
use native.Mathlib.Omega.{arith}
use mathlib.Core.Path.{subst}
use mathlib.Core.Bool.{Bool}
use mathlib.Core.List.{List}
use lib.Dec.{T, lit<, lit≤}
use lib.Ieee.{Float, of_bits, binary32}
use Rattle.number.specs.Number.{◌⊕◌, ◌⊖◌, ◌⊗◌}
use Rattle.number.proofs.Within.{Within, within_more, add_within, sub_within, mul_within}
use Rattle.number.proofs.Within as W
use Rattle.number.proofs.Ranges.{bits_within}
use Rattle.geometry.specs.Geometry.{at, col, vec, minus, dot, along, lerp_of, columns, moved, centre_of, centred}
use Rattle.geometry.specs.Geometry.{times, scaled}

-- each number of four points passes a test
abbrev pub Each : (Float → Bool) → List (List Float) → Type 0
Each test x = (i j : ℕ) → i < 4 → j < 3 → T (test (at (col x i) j))

-- each of the three numbers; each number of each of the four columns
abbrev pub VecWithin : ℕ → List Float → Type 0
VecWithin a v = (j : ℕ) → j < 3 → Within a (at v j)

abbrev pub PointsWithin : ℕ → List (List Float) → Type 0
PointsWithin a x = (i j : ℕ) → i < 4 → j < 3 → Within a (at (col x i) j)

vec_within : (a : ℕ) (p q r : Float) → Within a p → Within a q → Within a r → VecWithin a (vec p q r)
vec_within a p q r hp hq hr zero l = hp
vec_within a p q r hp hq hr (suc zero) l = hq
vec_within a p q r hp hq hr (suc (suc zero)) l = hr
vec_within a p q r hp hq hr (suc (suc (suc j))) l = absurd (omega arith)

columns_within : (a : ℕ) (f : ℕ → List Float) → ((i : ℕ) → i < 4 → VecWithin a (f i)) → PointsWithin a (columns f)
columns_within a f h zero j k l = h 0 k j l
columns_within a f h (suc zero) j k l = h 1 k j l
columns_within a f h (suc (suc zero)) j k l = h 2 k j l
columns_within a f h (suc (suc (suc zero))) j k l = h 3 k j l
columns_within a f h (suc (suc (suc (suc i)))) j k l = absurd (omega arith)

pub col_within : (a i : ℕ) (x : List (List Float)) → i < 4 → PointsWithin a x → VecWithin a (col x i)
col_within a i x k h j l = h i j k l

pub vec_more : (a b : ℕ) (v : List Float) → a ≤ b → VecWithin a v → VecWithin b v
vec_more a b v l h j k = within_more a b (at v j) l (h j k)

-- ---- differences, dot products, places along a vector
pub minus_within : (a : ℕ) (u v : List Float) → suc a ≤ 127 → VecWithin a u → VecWithin a v
    → VecWithin (suc a) (minus u v)
minus_within a u v l h k = vec_within (suc a) _ _ _ (one 0 (lit< tt)) (one 1 (lit< tt)) (one 2 (lit< tt))
  where
    one : (j : ℕ) → j < 3 → Within (suc a) (at u j ⊖ at v j)
    one j m = sub_within a (at u j) (at v j) l (h j m) (k j m)

pub dot_within : (a : ℕ) (u v : List Float) → suc (suc (a + a)) ≤ 127 → VecWithin a u → VecWithin a v
    → Within (suc (suc (a + a))) (dot u v)
dot_within a u v l h k =
    W.dot_within a (at u 0) (at u 1) (at u 2) (at v 0) (at v 1) (at v 2) l
    (h 0 (lit< tt)) (h 1 (lit< tt)) (h 2 (lit< tt)) (k 0 (lit< tt)) (k 1 (lit< tt)) (k 2 (lit< tt))

-- p + t v, for t from 0 to 1
pub along_within : (a : ℕ) (p : List Float) (t : Float) (v : List Float) → suc a ≤ 127 → VecWithin a p → Within 0 t
    → VecWithin a v → VecWithin (suc a) (along p t v)
along_within a p t v l h k m = vec_within (suc a) _ _ _ (one 0 (lit< tt)) (one 1 (lit< tt)) (one 2 (lit< tt))
  where
    less : suc a ≤ 127 → 0 + a ≤ 127
    less l = omega arith

    one : (j : ℕ) → j < 3 → Within (suc a) (at p j ⊕ t ⊗ at v j)
    one j n =
        add_within a (at p j) (t ⊗ at v j) l (h j n)
        (subst (λ (b : ℕ). Within b (t ⊗ at v j)) (zero-add a) (mul_within 0 a t (at v j) (less l) k (m j n)))

pub lerp_within : (a : ℕ) (p0 p1 : List Float) (s : Float) → suc (suc a) ≤ 127 → VecWithin a p0 → VecWithin a p1
    → Within 0 s → VecWithin (suc (suc a)) (lerp_of p0 p1 s)
lerp_within a p0 p1 s l h k m =
    along_within (suc a) p0 s (minus p1 p0) l (vec_more a (suc a) p0 (omega arith) h) m
    (minus_within a p1 p0 (omega arith) k h)

-- ---- four points as a whole
pub moved_within : (a : ℕ) (x dx : List (List Float)) (t : Float) → suc a ≤ 127 → PointsWithin a x → PointsWithin a dx
    → Within 0 t → PointsWithin (suc a) (moved x dx t)
moved_within a x dx t l h k m =
    columns_within (suc a) (λ i. along (col x i) t (col dx i)) one
  where
    one : (i : ℕ) → i < 4 → VecWithin (suc a) (along (col x i) t (col dx i))
    one i n = along_within a (col x i) t (col dx i) l (col_within a i x n h) m (col_within a i dx n k)

pub scaled_within : (a b : ℕ) (x : List (List Float)) (s : Float) → a + b ≤ 127 → PointsWithin a x → Within b s
    → PointsWithin (a + b) (scaled x s)
scaled_within a b x s l h k =
    columns_within (a + b) (λ i. times (col x i) s) one
  where
    one : (i : ℕ) → i < 4 → VecWithin (a + b) (times (col x i) s)
    one i n = vec_within (a + b) _ _ _ (number 0 (lit< tt)) (number 1 (lit< tt)) (number 2 (lit< tt))
      where
        number : (j : ℕ) → j < 3 → Within (a + b) (at (col x i) j ⊗ s)
        number j m = mul_within a b (at (col x i) j) s l (h i j n m) k

-- a quarter of the sum of four
abbrev quarter : Float → Float → Float → Float → Float
quarter p q r s = (p ⊕ q ⊕ r ⊕ s) ⊗ of_bits binary32 0x3e80_0000

quarter_within : (a : ℕ) (p q r s : Float) → suc (suc (suc a)) ≤ 127 → Within a p → Within a q → Within a r
    → Within a s → Within (suc (suc (suc a))) (quarter p q r s)
quarter_within a p q r s l hp hq hr hs =
    subst (λ (b : ℕ). Within b (quarter p q r s)) (add-zero (suc (suc (suc a))))
    (mul_within (suc (suc (suc a))) 0 (p ⊕ q ⊕ r ⊕ s) (of_bits binary32 0x3e80_0000) (omega arith) sum
    (bits_within 0 0x3e80_0000 (lit≤ tt) (lit≤ tt)))
  where
    sum : Within (suc (suc (suc a))) (p ⊕ q ⊕ r ⊕ s)
    sum =
        add_within (suc (suc a)) (p ⊕ q ⊕ r) s l
        (add_within (suc a) (p ⊕ q) r (omega arith) (add_within a p q (omega arith) hp hq)
        (within_more a (suc a) r (omega arith) hr))
        (within_more a (suc (suc a)) s (omega arith) hs)

pub centred_within : (a : ℕ) (x : List (List Float)) → suc (suc (suc (suc a))) ≤ 127 → PointsWithin a x
    → PointsWithin (suc (suc (suc (suc a)))) (centred x)
centred_within a x l h =
    columns_within (suc (suc (suc (suc a)))) (λ i. minus (col x i) centre) one
  where
    middle : (j : ℕ) → j < 3
        → Within (suc (suc (suc a))) (quarter (at (col x 0) j) (at (col x 1) j) (at (col x 2) j) (at (col x 3) j))
    middle j m =
        quarter_within a _ _ _ _ (omega arith)
        (h 0 j (lit< tt) m) (h 1 j (lit< tt) m) (h 2 j (lit< tt) m) (h 3 j (lit< tt) m)

    centre : List Float
    centre = centre_of (col x 0) (col x 1) (col x 2) (col x 3)

    one : (i : ℕ) → i < 4 → VecWithin (suc (suc (suc (suc a)))) (minus (col x i) centre)
    one i n =
        minus_within (suc (suc (suc a))) (col x i) centre l
        (vec_more a (suc (suc (suc a))) (col x i) (omega arith) (col_within a i x n h))
        (vec_within (suc (suc (suc a))) _ _ _ (middle 0 (lit< tt)) (middle 1 (lit< tt)) (middle 2 (lit< tt)))

-- What a function is told of four points that it is handed, an array of arrays: each number is an f32. Assumes nothing.
use mathlib.Core.Path.{sym, subst}
use mathlib.Core.List.{List, [], ◌∷◌}
use Prim.Native.Nat.{ℕ, zero, suc, ◌<◌}
use native.Mathlib.Nat.{le_of_suc-le-suc}
use native.Mathlib.Omega.{arith}
use lib.Dec.{T}
use lib.ListN.{length}
use lib.Ieee.{Float, binary32, fits}
use package.mir.Val.{Val}
use denote.Shadow.{shadow}
use denote.Array.{Array, each}
use denote.Builtin.{f32}
use denote.Laws.{Is}
use Rattle.geometry.specs.Geometry.{at, col}

-- each number of four points is an f32
abbrev pub PointsFit : List (List Float) → Type 0
PointsFit x = (i j : ℕ) → i < 4 → j < 3 → T (fits binary32 (at (col x i) j))

each_number : (v : List Float) (us : List Val) → shadow (each Float f32.own_val v us) → (j : ℕ) → j < length v
    → T (fits binary32 (at v j))
each_number [] us s j l = absurd (omega arith)
each_number (x ∷ v) [] s j l = absurd s
each_number (x ∷ v) (u ∷ us) s zero l = subst T (sym s.0.1) tt
each_number (x ∷ v) (u ∷ us) s (suc j) l = each_number v us s.1 j (le_of_suc-le-suc l)

three_numbers : (v : List Float) (vs : List Val) → Is (Array f32 3) v vs → (j : ℕ) → j < 3 → T (fits binary32 (at v j))
three_numbers v vs p j l = each_number v p.0 p.1.1 j (subst (λ (n : ℕ). j < n) (sym p.1.0.1) l)

each_column : (x : List (List Float)) (us : List Val) → shadow (each (List Float) (Array f32 3).own_val x us)
    → (i j : ℕ) → i < length x → j < 3 → T (fits binary32 (at (col x i) j))
each_column [] us s i j k l = absurd (omega arith)
each_column (v ∷ x) [] s i j k l = absurd s
each_column (v ∷ x) (u ∷ us) s zero j k l = three_numbers v (u ∷ []) s.0 j l
each_column (v ∷ x) (u ∷ us) s (suc i) j k l = each_column x us s.1 i j (le_of_suc-le-suc k) l

pub points_fit : (x : List (List Float)) (vs : List Val) → Is (Array (Array f32 3) 4) x vs → PointsFit x
points_fit x vs p i j k l =
    each_column x p.0 p.1.1 i j (subst (λ (n : ℕ). i < n) (sym p.1.0.1) k) l

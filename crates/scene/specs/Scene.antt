-- A scene file: its words, whether it is a scene, and the safe time of each of its pairs (docs/01-scope.md, "The scene
-- file"). A file is the list of its bytes; where it ends, zeros follow. Definitions only.
use Rattle.std.specs.Prelude.{ℕ, ◌+◌, ◌*◌, zero, suc, Bool, true, cond, ◌&&◌, ◌||◌, List, [], ◌∷◌, ltb, leb, eqb}
use Rattle.std.specs.Prelude.{length, get_or, Result, Ok, Err, Float}
use Rattle.std.specs.Float.{binary32}
use Rattle.std.specs.Float.Ieee.{of_bits}
use Rattle.geometry.specs.Geometry.{vec}
use Rattle.ccd3.specs.declared.SafeTime.{SafeTime}
use Rattle.own_time.specs.OwnTime.{own_safe_time, OwnPromises, OwnSpeed}
use Rattle.scene.specs.declared.layout.Scene.{Scene}
use Rattle.number.specs.declared.refusal.Refusal.{Refusal}
use Rattle.number.specs.declared.refusal.Refusal.TheVariants.{NoScene, BadPair}

-- ---- words and numbers
-- the four bytes from place i on, the least significant first
unfoldable pub word : List ℕ → ℕ → ℕ
word s i = get_or s i 0 + 256 * get_or s (i + 1) 0 + 65536 * get_or s (i + 2) 0 + 16777216 * get_or s (i + 3) 0

-- the f32 with these bits; each pattern of a NaN is NaN
abbrev pub number : List ℕ → ℕ → Float
number s i = of_bits binary32 (word s i)

abbrev pub point : List ℕ → ℕ → List Float
point s i = vec (number s i) (number s (i + 4)) (number s (i + 8))

-- ---- whether a file is a scene
-- where the displacements begin, and the pairs, with their counts, in a file of n points
abbrev pub displacements_at : ℕ → ℕ
displacements_at n = 4 + 12 * n

abbrev pub pairs_at : ℕ → ℕ
pairs_at n = displacements_at n + 4 + 12 * n

-- where pair i begins; the limits, with their count, stand after the last pair
abbrev pub pair_at : ℕ → ℕ → ℕ
pair_at n i = pairs_at n + 4 + 20 * i

abbrev pub point_count : List ℕ → ℕ
point_count s = word s 0

abbrev pub pair_count : List ℕ → ℕ
pair_count s = word s (pairs_at (point_count s))

abbrev pub limits_at : List ℕ → ℕ
limits_at s = pair_at (point_count s) (pair_count s)

-- the counts are as they must be, and the file is as long as they say: nothing is cut, nothing is left over
unfoldable pub laid_out : List ℕ → Bool
laid_out s =
    leb (point_count s) 1024
    && eqb (word s (displacements_at (point_count s))) (point_count s)
    && leb (pair_count s) 1024
    && eqb (word s (limits_at s)) 1
    && eqb (length s) (limits_at s + 16)

-- the pair at place p, in a file of n points: its split is 2 or 3, each of its point numbers is below n
unfoldable pub is_pair : List ℕ → ℕ → ℕ → Bool
is_pair s p n =
    (eqb (word s p) 2 || eqb (word s p) 3)
    && ltb (word s (p + 4)) n
    && ltb (word s (p + 8)) n
    && ltb (word s (p + 12)) n
    && ltb (word s (p + 16)) n

-- each of the first k pairs is so
unfoldable pub are_pairs : List ℕ → ℕ → ℕ → Bool
are_pairs s n zero = true
are_pairs s n (suc k) = is_pair s (pair_at n k) n && are_pairs s n k

-- what the file is: 10 before 11
unfoldable pub scene_of : List ℕ → Result Scene Refusal
scene_of s =
    cond (laid_out s)
    (cond (are_pairs s (point_count s) (pair_count s))
    (Ok (record { points = point_count s; pairs = pair_count s }))
    (Err BadPair))
    (Err NoScene)

-- ---- a pair and its safe time
-- the point whose number stands at place p, out of the points that begin at place b
unfoldable pub chosen : List ℕ → ℕ → ℕ → List Float
chosen s b p = point s (b + 12 * word s p)

-- the four points whose numbers pair i has
unfoldable pub gathered : List ℕ → ℕ → ℕ → List (List Float)
gathered s b i =
    let p = pair_at (point_count s) i in
    chosen s b (p + 4) ∷ chosen s b (p + 8) ∷ chosen s b (p + 12) ∷ chosen s b (p + 16) ∷ []

-- offset, clearance and time limit, for k from 1 to 3
unfoldable pub limit_of : List ℕ → ℕ → Float
limit_of s k = number s (limits_at s + 4 * k)

module _ (s : List ℕ) (i : ℕ) where
  -- pair i: its points, its displacements, its split
  abbrev pub points_of : List (List Float)
  points_of = gathered s 4 i

  abbrev pub displacements_of : List (List Float)
  displacements_of = gathered s (displacements_at (point_count s) + 4) i

  unfoldable pub split_of : ℕ
  split_of = word s (pair_at (point_count s) i)

  -- its safe time, and what that promises
  unfoldable pub safe_time_at : SafeTime
  safe_time_at = own_safe_time points_of displacements_of split_of (limit_of s 1) (limit_of s 2) (limit_of s 3)

  abbrev pub PromisesAt : SafeTime → Type 0
  PromisesAt = OwnPromises points_of displacements_of split_of (limit_of s 1) (limit_of s 2) (limit_of s 3)

  abbrev pub SpeedAt : SafeTime → Type 0
  SpeedAt = OwnSpeed points_of displacements_of split_of (limit_of s 1) (limit_of s 2) (limit_of s 3)

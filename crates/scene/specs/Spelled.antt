-- A scene file as it is put together, section after section (docs/01-scope.md, "The scene file"). Definitions only.
use Rattle.std.specs.Prelude.{ℕ, ◌*◌, ◌/◌, ◌%◌, ◌≤◌, ◌≡◌, true, false, List, [], ◌∷◌, ◌++◌, length, Result, Ok, Err}
use Rattle.scene.specs.declared.layout.Scene.{Scene}
use Rattle.number.specs.declared.refusal.Refusal.{Refusal}
use Rattle.number.specs.declared.refusal.Refusal.TheVariants.{BadPair}
use Rattle.scene.specs.Scene.{are_pairs}

-- a count as its four bytes, the least significant first
unfoldable pub spell : ℕ → List ℕ
spell n = (n % 256) ∷ (n / 256 % 256) ∷ (n / 65536 % 256) ∷ (n / 16777216 % 256) ∷ []

-- The sections of a scene of n points and m pairs (points, displacements, pairs, limits): how many bytes an entry has,
-- and how many entries there are.
abbrev pub sections : ℕ → ℕ → List (ℕ × ℕ)
sections n m = (12, n) ∷ (12, n) ∷ (20, m) ∷ (12, 1) ∷ []

-- the bytes are these sections, one after the other: each is its count, and then its entries
abbrev pub Joined : List ℕ → List (ℕ × ℕ) → Type 0
Joined file [] = file ≡ []
Joined file ((size, count) ∷ others) =
    (entries : List ℕ) × (rest : List ℕ) × (file ≡ spell count ++ (entries ++ rest))
    × (length entries ≡ size * count) × Joined rest others

-- The file is laid out as a scene of n points and m pairs. Of bytes that have come so far, that they can still become
-- such a file is `(rest : List ℕ) × Spelled (so_far ++ rest) n m`.
pub record Spelled (file : List ℕ) (n m : ℕ) : Type 0 where
  pub few_points : n ≤ 1024
  pub few_pairs : m ≤ 1024
  pub joined : Joined file (sections n m)

-- What is read of a file: it is taken as a scene only if it is one of these counts; each such scene is taken; each that
-- is laid out so and has a bad pair is refused by 11.
pub record Taken (file : List ℕ) (r : Result Scene Refusal) : Type 0 where
  pub sound : (n m : ℕ) → r ≡ Ok (record { points = n; pairs = m }) → Spelled file n m × (are_pairs file n m ≡ true)
  pub whole : (n m : ℕ) → Spelled file n m → are_pairs file n m ≡ true → r ≡ Ok (record { points = n; pairs = m })
  pub bad : (n m : ℕ) → Spelled file n m → are_pairs file n m ≡ false → r ≡ Err BadPair

-- What only inner functions of `scene` say: a file's parts, and what is read of one. A part is the bytes from its place
-- on. Definitions only.
use Rattle.std.specs.Prelude.{ℕ, ◌+◌, ◌*◌, List, [], ◌∷◌, drop, map, Float}
use Rattle.scene.specs.Scene.{word, point, point_count, displacements_at, pair_at}

-- point after point, displacement after displacement, and pair i
abbrev pub points_part : List ℕ → List ℕ
points_part s = drop 4 s

abbrev pub displacements_part : List ℕ → List ℕ
displacements_part s = drop (displacements_at (point_count s) + 4) s

abbrev pub pair_part : List ℕ → ℕ → List ℕ
pair_part s i = drop (pair_at (point_count s) i) s

-- the four point numbers of a pair
abbrev pub corners_of : List ℕ → List ℕ
corners_of pair = word pair 4 ∷ word pair 8 ∷ word pair 12 ∷ word pair 16 ∷ []

-- point k of a section, and the points of a pair's numbers
abbrev pub chosen_of : List ℕ → ℕ → List Float
chosen_of section k = point section (12 * k)

abbrev pub gathered_of : List ℕ → List ℕ → List (List Float)
gathered_of section pair = map (chosen_of section) (corners_of pair)

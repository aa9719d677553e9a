-- The library's answers as records of numbers, the refusal's number first, 0 for none (docs/01-scope.md, "Refusal
-- numbers", "The walk"). What a refusal does not have is zero. Definitions only.
use Rattle.std.specs.Prelude.{List, [], ◌∷◌, Float, Result, Ok, Err}
use Rattle.number.specs.Number.{zero32, refusal_of, value_of}
use Rattle.number.specs.declared.refusal.Refusal.{Refusal}
use Rattle.distance.specs.declared.candidate.Nearest.{Nearest}
use Rattle.polynomial_root.specs.declared.answer.Roots as Found
use Rattle.polynomial_root.specs.Roots.{none}
use Rattle.motion.specs.declared.record.Pair.{Pair}
use Rattle.ccd3.specs.declared.SafeTime as Walked
use Rattle.ccd3.specs.SafeTime.{numbers_of}
use Rattle.urtemval.specs.declared.answer.{SafeTime.SafeTime, Measured.Measured, Roots.Roots, Value.Value}

abbrev pub pair_of : List (List Float) → List (List Float) → Pair
pair_of x dx = record { x = x; dx = dx }

-- one number, or a refusal
unfoldable pub told : Result Float Refusal → Value
told a = record { refusal = refusal_of a; value = value_of a }

-- a refusal, a kind and a time, with the counts that the walk made
unfoldable pub safe_time : Walked.SafeTime → SafeTime
safe_time s =
    let n = numbers_of s.answer in
    record { refusal = n.0; kind = n.1; time = n.2; probes = s.probes; halvings = s.halvings }

-- what an answer holds, or zeros where it is a refusal
abbrev pub or_zeros : {A : Type 0} → A → Result A Refusal → A
or_zeros zeros (Ok v) = v
or_zeros zeros (Err r) = zeros

abbrev pub no_distance : Nearest
no_distance = record { squared = zero32; direction = zero32 ∷ zero32 ∷ zero32 ∷ []; candidate = 0 }

-- a distance, or a refusal
unfoldable pub measured_of : Result Nearest Refusal → Measured
measured_of a =
    let n = or_zeros no_distance a in
    record { refusal = refusal_of a; squared = n.squared; direction = n.direction; candidate = n.candidate }

-- the roots in their places, or a refusal
unfoldable pub roots_of : Result Found.Roots Refusal → Roots
roots_of a = let found = or_zeros none a in record { refusal = refusal_of a; count = found.count; roots = found.roots }

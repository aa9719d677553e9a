-- A pair's own safe time: that of the walk, with the norm of the pair's displacements as u_max (docs/01-scope.md, "The
-- scene file"). A norm beyond the range of u_max is refused by 2, as any u_max is. Definitions only.
use Rattle.std.specs.Prelude.{ℕ, ◌*◌, ◌≤◌, ◌≡◌, List, Float}
use Rattle.number.specs.Number.{units_of}
use Rattle.pair.specs.Points.{largest_exact, norm_of}
use Rattle.admission.specs.{declared.Limits.Limits, Admission.full_allowance}
use Rattle.ccd3.specs.declared.SafeTime.{SafeTime}
use Rattle.ccd3.specs.SafeTime.{numbers_of, safe_time_of, Promises}

module _ (x₀ dx : List (List Float)) (split : ℕ) (offset clearance max_t : Float) where
  abbrev pub own_limits : Limits
  own_limits = record { offset = offset; clearance = clearance; max_t = max_t; u_max = norm_of dx split }

  abbrev pub own_safe_time : SafeTime
  own_safe_time = safe_time_of x₀ dx split own_limits full_allowance

  abbrev pub OwnPromises : SafeTime → Type 0
  OwnPromises = Promises x₀ dx split own_limits full_allowance

  -- where it is not refused, u_max is not below the exact largest distance of two displacements, in whole numbers
  abbrev pub OwnSpeed : SafeTime → Type 0
  OwnSpeed s =
      let u = units_of own_limits.u_max in
      (numbers_of s.answer).0 ≡ 0 → largest_exact dx split ≤ u * u

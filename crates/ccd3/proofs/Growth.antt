-- Times only grow: no step is below zero, from any place within the time limit, whatever the distance there; and the
-- time after the step is not before this one, and no NaN (specs/SafeTime.antt). Assumes nothing.
use mathlib.Core.Path.{◌≡◌, refl, sym, subst}
use mathlib.Core.Bool.{Bool, true, false, cond, not}
use mathlib.Core.List.{List, [], ◌∷◌}
use Prim.Native.Nat.{ℕ}
use lib.Dec.{eqb, T, T_not, not_T}
use lib.Ieee.{Float, binary32, lt, le, fits, is_nan, of_bits}
use lib.Ieee.Fits.{add-fits, mul-fits, div-fits}
use lib.Ieee.Bits.{of_bits-fits}
use lib.Ieee.Scale.{finite}
use Rattle.number.specs.Number.{◌⊕◌, ◌⊖◌, ◌⊗◌, ◌⊘◌, zero32, one32, largest32, smaller, larger, root_of}
use Rattle.number.proofs.Choice.{larger_keeps, smaller_keeps, smaller_by}
use Rattle.number.proofs.Comparing.{not_lt_le}
use Rattle.number.proofs.Later.{later_any, earlier}
use Rattle.number.proofs.Largest.{larger_reaches}
use Rattle.number.proofs.NoNan.{no_nan_lt, no_nan_le, no_nan_finite}
use Rattle.number.proofs.Signs.{quotient_up}
use Rattle.number.proofs.Transitive.{le_le_trans}
use Rattle.number.proofs.Units.{plus}
use Rattle.number.proofs.Within.{Within}
use Rattle.geometry.specs.Geometry.{Cross, cross_pairs}
use Rattle.admission.specs.declared.Limits.{Limits}
use Rattle.ccd3.specs.declared.Aim.{Aim}
use Rattle.ccd3.specs.SafeTime.{time_to_park, left_of, speed_of, stops, least_over, directional, dip, plain}
use Rattle.ccd3.specs.declared.Visit.{Visit}
use Rattle.ccd3.specs.SafeTime.{aim, Step, step_from, next}

-- a squared distance that a walk can compute with: an f32 with the sign plus, and not too large
pub record Sound (d : Float) : Type 0 where
  pub fit : T (fits binary32 d)
  pub sign : T (plus d)
  pub bound : Within 60 d

zero_up : T (le zero32 zero32) × T (le zero32 largest32)
unfolding le of_bits
zero_up = (tt, tt)

-- ---- the directional step is an f32, and not below zero
module _ (x dx : List (List Float)) (a : Aim) where
  abbrev F : Float → Type 0
  F t = T (fits binary32 t)

  abbrev Up : Float → Type 0
  Up t = T (le zero32 t)

  -- a time to park that takes the least one's place is not below zero
  time_up : (left speed least : Float) → T (lt zero32 speed) → Up least → Up (smaller least (time_to_park a left speed))
  unfolding time_to_park
  time_up left speed least h k =
      let rest = left ⊖ a.park ⊗ a.norm in
      let time = larger rest zero32 ⊘ speed in
      smaller_by Up least time
      (λ t. quotient_up (larger rest zero32) speed (larger_reaches rest zero32) h (no_nan_lt time least t).0) (λ n. k)

  time_fits : (left speed : Float) → F (time_to_park a left speed)
  unfolding time_to_park
  time_fits left speed = div-fits binary32 (larger (left ⊖ a.park ⊗ a.norm) zero32) speed

  least_step : (ps : List Cross) (least : Float) → F least → Up least
      → F (least_over a x dx ps least) × Up (least_over a x dx ps least)
  unfolding least_over
  least_step [] least h k = (h, k)
  least_step (p ∷ ps) least h k =
      go (stops a x dx p) (lt zero32 (speed_of a x dx p)) refl (λ least h k. least_step ps least h k)
    where
      time : Float
      time = time_to_park a (left_of a x dx p) (speed_of a x dx p)

      go : (b c : Bool) → lt zero32 (speed_of a x dx p) ≡ c
          → ((least : Float) → F least → Up least → F (least_over a x dx ps least) × Up (least_over a x dx ps least))
          → let r = cond b zero32 (least_over a x dx ps (cond c (smaller least time) least)) in F r × Up r
      go true c e rest = (of_bits-fits binary32 0, zero_up.0)
      go false true e rest =
          rest (smaller least time) (smaller_keeps F least time h (time_fits (left_of a x dx p) (speed_of a x dx p)))
          (time_up (left_of a x dx p) (speed_of a x dx p) least (subst T (sym e) tt) k)
      go false false e rest = rest least h k

  directional_step : (split : ℕ) → F (directional x dx split a).length × Up (directional x dx split a).length
  unfolding directional
  directional_step split =
      least_step (cross_pairs (cond (eqb split 2) 2 3)) largest32 (of_bits-fits binary32 0x7f7f_ffff) zero_up.1

-- the larger of a number and one that is not below zero is not below zero
larger_up : (p d : Float) → T (not (is_nan p)) → T (le zero32 d) → T (le zero32 (larger p d))
larger_up p d n h =
    let k = (no_nan_le zero32 d h).1 in
    le_le_trans zero32 d (larger p d) h
    (not_lt_le (larger p d) d (larger_keeps (λ t. T (not (is_nan t))) p d n k) k (larger_reaches p d))

-- ---- the step, and the next time
module _ (dx : List (List Float)) (split : ℕ) (l : Limits) (v : Visit) where
  abbrev p : Float
  p = plain l (root_of v.near.squared)

  abbrev d : Float
  d = (directional v.points dx split (aim l v.near)).length

  abbrev tried : Bool
  tried = le (v.time ⊕ p) l.max_t

  p_fits : T (fits binary32 p)
  p_fits = mul-fits binary32 (root_of v.near.squared ⊖ dip l) (one32 ⊘ l.u_max)

  d_step : T (fits binary32 d) × T (le zero32 d)
  d_step = directional_step v.points dx (aim l v.near) split

  -- by whether the directional step is tried
  by_trial : (P : Float → Type 0) → P (larger p d) → (T (not tried) → P p) → P (step_from dx split l v).length
  unfolding step_from
  by_trial P h k = go tried refl
    where
      go : (b : Bool) → tried ≡ b
          → P (cond {A = Step} b (record { length = larger p d; tried = true; directed = lt p d })
          (record { length = p; tried = false; directed = false })).length
      go true e = h
      go false e = k (subst (λ (c : Bool). T (not c)) (sym e) tt)

  step_fits : T (fits binary32 (step_from dx split l v).length)
  step_fits =
      by_trial (λ t. T (fits binary32 t)) (larger_keeps (λ t. T (fits binary32 t)) p d p_fits d_step.0) (λ n. p_fits)

  -- at a time with the sign plus and within the time limit, from where the plain step is finite
  module _ (f : T (fits binary32 v.time)) (k : T (finite v.time)) (q : T (plus v.time))
      (in_limit : T (le v.time l.max_t)) (number : T (finite p)) where
    -- where the directional step is not tried, the plain one is not below zero: it leads past the time limit
    plain_up : T (not tried) → T (le zero32 p)
    plain_up n =
        not_lt_le p zero32 (no_nan_finite p number) (no_nan_le zero32 zero32 zero_up.0).0
        (not_T (lt p zero32) (λ h. T_not tried n
        (le_le_trans (v.time ⊕ p) v.time l.max_t (earlier v.time p f k q p_fits number h) in_limit)))

    step_up : T (le zero32 (step_from dx split l v).length)
    step_up = by_trial (λ t. T (le zero32 t)) (larger_up p d (no_nan_finite p number) d_step.1) plain_up

    -- the next time is not before this one; with the sign plus, so no NaN
    pub next_later : T (le v.time (next dx split l v)) × T (plus (next dx split l v))
    next_later = later_any v.time (step_from dx split l v).length f k q step_fits step_up

  pub next_fits : T (fits binary32 (next dx split l v))
  next_fits = add-fits binary32 v.time (step_from dx split l v).length

-- Where a walk can stand: at a time from 0 to the time limit where the squared distance is above the threshold. Each
-- probe above the threshold is such a place, and one that is not makes a bracket. Of any threshold. Assumes nothing.
use mathlib.Core.Path.{◌≡◌, refl, sym, ap, ◌∙◌, subst}
use mathlib.Core.Logic.{inl, inr}
use mathlib.Core.Bool.{Bool, true, false, not, true≢false}
use mathlib.Core.List.{List}
use Prim.Native.Nat.{ℕ, ◌≤◌}
use native.Mathlib.Nat.{le_trans, eq-or-lt_of_le}
use lib.Dec.{T}
use lib.Ieee.{Float, binary32, lt, le, fits, is_nan, of_bits}
use lib.Ieee.Bits.{of_bits-fits}
use lib.Ieee.Fits.{and_l, and_r}
use Rattle.number.specs.Number.{zero32, one32, zero_to_one}
use Rattle.number.proofs.Comparing.{not_lt_le}
use Rattle.number.proofs.NoNan.{no_nan_le}
use Rattle.number.proofs.Signs.{plus_up}
use Rattle.number.proofs.Transitive.{le_le_trans}
use Rattle.number.proofs.Units.{one_is, Unit32, plus, of_float, of_range, same_float}
use Rattle.number.proofs.Units.Compared.{L, Is, finite_is, le_says, says_le, says_lt}
use Rattle.number.proofs.Ranges.{zero_to_one_lem}
use Rattle.number.proofs.Within.{within_finite}
use Rattle.geometry.specs.Geometry.{moved}
use Rattle.distance.specs.Distance.{nearest_of}
use Rattle.admission.specs.declared.Limits.{Limits}
use Rattle.ccd3.specs.declared.Visit.{Visit}
use Rattle.ccd3.specs.SafeTime.{next, squared_at, above, start, visit}
use Rattle.ccd3.proofs.Bracket.{Timely, Bracket}
use Rattle.ccd3.proofs.Growth.{Sound, next_later, next_fits}
use Rattle.ccd3.proofs.PlainStep.{Given, plain_finite}

number : {d : Float} → Sound d → T (not (is_nan d))
number {d} s = (no_nan_le zero32 d (plus_up d s.sign)).1

pub zero_timely : Timely zero32
unfolding of_bits
zero_timely = record { units = 0; is = refl; fit = of_bits-fits binary32 0; sign = tt }

-- what is known of an admitted call: its limits, the time limit among them an f32 from 0 to 1, and that the squared
-- distances at the start, which is time 0, and at every time from 0 to 1 are sound
pub record Ground (x₀ dx : List (List Float)) (split : ℕ) (l : Limits) : Type 0 where
  pub given : Given l
  pub limit_fits : T (fits binary32 l.max_t)
  pub limit_in : T (zero_to_one l.max_t)
  pub sound_start : Sound (nearest_of split x₀).squared
  pub sound_at : (t : Float) → T (le zero32 t) → T (le t one32) → Sound (nearest_of split (moved x₀ dx t)).squared
  pub zero_start : squared_at x₀ dx split zero32 ≡ (nearest_of split x₀).squared

module _ (x₀ dx : List (List Float)) (split : ℕ) (l : Limits) (g : Ground x₀ dx split l) where
  -- ---- the time limit
  pub limit_from : T (le zero32 l.max_t)
  limit_from = and_l (le zero32 l.max_t) (le l.max_t one32) g.limit_in

  limit_to : T (le l.max_t one32)
  limit_to = and_r (le zero32 l.max_t) (le l.max_t one32) g.limit_in

  pub limit_units : (u : ℕ) × Unit32 l.max_t u
  limit_units =
      of_float l.max_t g.limit_fits (within_finite 0 l.max_t (zero_to_one_lem l.max_t g.limit_in).2)
      limit_from

  under_one : (t : Float) (u : ℕ) → Is t u → T (le t l.max_t) → T (le t one32)
  under_one t u i h =
      let m = limit_units in
      let a : u ≤ m.0 = le_says t l.max_t u m.0 i m.1.is h in
      let b : m.0 ≤ L = le_says l.max_t one32 m.0 L m.1.is one_is limit_to in
      says_le t one32 u L i one_is (le_trans a b)

  -- ---- no squared distance is NaN, and those in time are sound
  pub start_number : T (not (is_nan (nearest_of split x₀).squared))
  start_number = number g.sound_start

  pub sound_in_time : (t : Float) → T (le zero32 t) → T (le t l.max_t) → Sound (squared_at x₀ dx split t)
  unfolding squared_at
  sound_in_time t a b = g.sound_at t a (le_le_trans t l.max_t one32 b limit_to)

  pub number_at : (t : Float) → T (le zero32 t) → T (le t l.max_t) → T (not (is_nan (squared_at x₀ dx split t)))
  number_at t a b = number (sound_in_time t a b)

  -- ---- over a threshold
  module _ (threshold : Float) where
    abbrev far : Float → Bool
    far = above x₀ dx split threshold

    pub record Standing (v : Visit) : Type 0 where
      pub time : Timely v.time
      pub in_limit : T (le v.time l.max_t)
      pub sound : Sound v.near.squared
      pub apart : lt threshold v.near.squared ≡ true
      pub apart_at : far v.time ≡ true

    pub start_stands : lt threshold (nearest_of split x₀).squared ≡ true → Standing (start x₀ dx split)
    unfolding above
    start_stands h = record {
      time = zero_timely;
      in_limit = limit_from;
      sound = g.sound_start;
      apart = h;
      apart_at = ap (lt threshold) g.zero_start ∙ h;
    }

    -- ---- the next time
    module _ (v : Visit) (s : Standing v) where
      abbrev t : Float
      t = next dx split l v

      pub later : T (le v.time t) × T (plus t)
      later =
          next_later dx split l v s.time.fit (finite_is v.time s.time.units s.time.is) s.time.sign
          s.in_limit (plain_finite l g.given v.near.squared s.sound)

      module _ (p : lt l.max_t t ≡ false) where
        pub next_limit : T (le t l.max_t)
        next_limit =
            not_lt_le l.max_t t (no_nan_le zero32 l.max_t limit_from).1
            (no_nan_le zero32 t (plus_up t later.1)).1
            (subst (λ (b : Bool). T (not b)) (sym p) tt)

        pub next_timely : Timely t
        next_timely =
            let f = next_fits dx split l v in
            let i = of_range t l.max_t limit_units.0 f (plus_up t later.1) next_limit limit_units.1.is in
            record {
              units = i.0;
              is = i.1.is;
              fit = f;
              sign = later.1;
            }

        -- a probe above the threshold is a place to stand
        pub stands_on : far t ≡ true → Standing (visit x₀ dx split t)
        unfolding above squared_at
        stands_on a = record {
          time = next_timely;
          in_limit = next_limit;
          sound = g.sound_at t (plus_up t later.1) (under_one t next_timely.units next_timely.is next_limit);
          apart = a;
          apart_at = a;
        }

        -- one that is not makes a bracket
        pub brackets : far t ≡ false → Bracket far v.time t
        brackets b =
            let i = s.time in
            let j = next_timely in
            let h : i.units ≤ j.units = le_says v.time t i.units j.units i.is j.is later.0 in
            record {
              low = i;
              high = j;
              order = elim (eq-or-lt_of_le h) [
                | inl e ↦ absurd (true≢false (sym s.apart_at
                    ∙ ap far (same_float v.time t i.units i.fit j.fit i.sign j.sign i.is
                    (subst (λ (u : ℕ). Is t u) (sym e) j.is)) ∙ b))
                | inr k ↦ says_lt v.time t i.units j.units i.is j.is k
              ];
              top = under_one t j.units j.is next_limit;
              far = s.apart_at;
              near = b;
            }

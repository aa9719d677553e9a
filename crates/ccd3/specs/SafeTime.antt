-- The safe time of a pair, refused ones too: the walk from a start that is apart, with steps that are safe by the
-- distance, a probe at the end of each, and a halving once a probe is not apart any more (docs/01-scope.md, "The
-- directional step", "The walk", "The allowance", "Refusal numbers"); and what every answer promises
-- (docs/GUARANTEES.md). Definitions only.
use Prim.Native.Nat.{ℕ, zero, suc, ◌≤◌}
use mathlib.Core.{Path.◌≡◌, Logic.◌⊎◌, Option.Option, Option.none, Option.some, List.List, List.[], List.◌∷◌}
use Rattle.std.specs.Prelude.{Bool, cond, ◌&&◌, not, Float}
use Rattle.std.proofs.Math.Bool.{true, false}
use lib.{Dec.T, Dec.eqb, ListN.length}
use Rattle.std.specs.Float.{binary32}
use Rattle.std.specs.Float.Ieee.{lt, le, eq, is_nan, of_bits}
use Rattle.number.specs.Number.{◌⊕◌, ◌⊖◌, ◌⊗◌, ◌⊘◌, zero32, half32, one32, largest32, size, smaller, larger, written}
use Rattle.number.specs.Number.{next_up, next_down, root_of, Halved, halve}
use Rattle.geometry.specs.Geometry.{at, col, vec, minus, dot, moved, Cross, cross_pairs}
use Rattle.distance.specs.{declared.candidate.Nearest.Nearest, Distance.nearest_of}
use Rattle.admission.specs.{declared.Limits.Limits, Admission.full_allowance, Admission.walk_refusal}
use Rattle.ccd3.specs.declared.{Visit.Visit, Aim.Aim, Answer.Answer, SafeTime.SafeTime, Ending.Ending}
use Rattle.ccd3.specs.declared.Answer.TheVariants.{Touching, Contact, Clear, Budget, Refused}

-- ---- the directional step: how far the pair may move before some column of the first side can come near some column
-- of the second along the direction w
abbrev pub rel : List (List Float) → Cross → List Float
rel dx p = minus (col dx p.first) (col dx p.second)

abbrev pub sizes : List Float → List Float
sizes v = vec (size (at v 0)) (size (at v 1)) (size (at v 2))

module _ (a : Aim) where
  -- a gap along w, less what rounding may have added to it: 2 ^ -22 is the slack for rounding, 6.2e-7 for coordinates
  unfoldable pub projected : List Float → List Float → Float
  projected g r =
      dot a.w g
      ⊖ (of_bits binary32 0x3480_0000
      ⊗ (dot (sizes a.w) (sizes g) ⊕ a.max_t ⊗ dot (sizes a.w) (sizes r) ⊕ a.park ⊗ a.norm)
      ⊕ of_bits binary32 0x3526_6e13 ⊗ a.norm)

  -- the time in which a pair at this projected gap comes to park, at this speed
  unfoldable pub time_to_park : Float → Float → Float
  time_to_park left speed = larger (left ⊖ a.park ⊗ a.norm) zero32 ⊘ speed

  module _ (x dx : List (List Float)) where
    -- what is left of a pair's gap, and how fast the pair closes in
    abbrev pub left_of : Cross → Float
    left_of p = projected (minus (col x p.second) (col x p.first)) (rel dx p)

    abbrev pub speed_of : Cross → Float
    speed_of p = dot a.w (rel dx p)

    -- a pair that is not beyond dip
    abbrev pub stops : Cross → Bool
    stops p = le (left_of p) (a.dip ⊗ a.norm)

    -- the least time over pairs that close in; the first pair that is not beyond dip ends it all with 0
    unfoldable pub least_over : List Cross → Float → Float
    least_over [] least = least
    least_over (p ∷ rest) least =
        cond (stops p) zero32
        (least_over rest (cond (lt zero32 (speed_of p)) (smaller least (time_to_park (left_of p) (speed_of p))) least))

    -- a pair that closes in to park in the time t
    abbrev pub takes : Float → Cross → Bool
    takes t p = lt zero32 (speed_of p) && eq (time_to_park (left_of p) (speed_of p)) t

-- the first pair that passes a test
unfoldable pub first_of : (Cross → Bool) → List Cross → Option Cross
first_of test [] = none
first_of test (p ∷ rest) = cond (test p) (some p) (first_of test rest)

-- a directional step: its length, and the pair that set it: the one that ended it all, else the first of the least time;
-- none where no time is finite
pub record Advance : Type 0 where
  pub length : Float
  pub by : Option Cross

-- over the split as the distance rules take it: 2, and any other as 3
unfoldable pub directional : List (List Float) → List (List Float) → ℕ → Aim → Advance
unfolding cross_pairs least_over
directional x dx split a =
    let pairs = cross_pairs (cond (eqb split 2) 2 3) in
    let least = least_over a x dx pairs largest32 in
    record {
      length = least;
      by = elim (first_of (stops a x dx) pairs) [ none ↦ first_of (takes a x dx least) pairs | some p ↦ some p ];
    }

-- ---- the step
abbrev pub park : Limits → Float
park l = l.offset ⊕ l.clearance

abbrev pub dip : Limits → Float
dip l = l.offset ⊕ l.clearance ⊗ half32

-- safe whatever the direction: what the distance leaves above dip, at the greatest speed
abbrev pub plain : Limits → Float → Float
plain l distance = (distance ⊖ dip l) ⊗ (one32 ⊘ l.u_max)

-- along the direction of the distance; its norm is 1 + 2 ^ -22 times the distance
abbrev pub aim : Limits → Nearest → Aim
aim l near = record {
  w = near.direction;
  norm = root_of near.squared ⊗ of_bits binary32 0x3f80_0002;
  dip = dip l;
  park = park l;
  max_t = l.max_t;
}

-- a step: its length, whether the directional one was tried, and whether that was the longer
pub record Step : Type 0 where
  pub length : Float
  pub tried : Bool
  pub directed : Bool

-- the directional step is tried only where the plain one ends within the time limit
unfoldable pub step_from : List (List Float) → ℕ → Limits → Visit → Step
step_from dx split l v =
    let p = plain l (root_of v.near.squared) in
    let d = (directional v.points dx split (aim l v.near)).length in
    cond (le (v.time ⊕ p) l.max_t) (record { length = larger p d; tried = true; directed = lt p d })
    (record { length = p; tried = false; directed = false })

-- the time after the step
abbrev pub next : List (List Float) → ℕ → Limits → Visit → Float
next dx split l v = v.time ⊕ (step_from dx split l v).length

-- ---- the walk
-- an answer in numbers: the refusal, 0 for none; the kind; the time, zero with a refusal
unfoldable pub numbers_of : Answer → ℕ × ℕ × Float
numbers_of (Touching t) = (0, 0, t)
numbers_of (Contact t) = (0, 1, t)
numbers_of (Clear t) = (0, 2, t)
numbers_of (Budget t) = (0, 3, t)
numbers_of (Refused n) = (n, 4, zero32)

module _ (x₀ dx : List (List Float)) (split : ℕ) where
  -- the start is where the points are handed over
  abbrev pub start : Visit
  start = record { time = zero32; points = x₀; near = nearest_of split x₀ }

  abbrev pub visit : Float → Visit
  visit t = record { time = t; points = moved x₀ dx t; near = nearest_of split (moved x₀ dx t) }

  -- the computed squared distance at a time
  unfoldable pub squared_at : Float → Float
  squared_at t = (nearest_of split (moved x₀ dx t)).squared

  -- whether it is above a threshold there
  unfoldable pub above : Float → Float → Bool
  unfolding squared_at
  above threshold t = lt threshold (squared_at t)

  -- the halving between the last time above the threshold and the first that is not; it ends by itself
  unfoldable pub closing : Float → Float → Float → Halved
  unfolding above halve
  closing threshold lower upper = halve (above threshold) 255 0 lower upper

-- an ending with no bracket, at the visit of this time: the last step was taken from there, the last probe made there
abbrev pub unbracketed : Answer → Float → Ending
unbracketed a t = record { answer = a; from = t; to = t; lower = zero32; upper = zero32; halvings = 0 }

-- the step ends past the time limit
abbrev pub cleared : Limits → Visit → Ending
cleared l v = unbracketed (Clear (written l.max_t)) v.time

-- no probe is left
abbrev pub spent : Visit → Ending
spent v = unbracketed (Budget v.time) v.time

-- all that a walk tells: how it ended, and the times that it probed, in order
pub record Walked : Type 0 where
  pub ending : Ending
  pub probed : List Float

-- a walk that ends with no probe more; one that probed the time t first
abbrev pub ends : Ending → Walked
ends e = record { ending = e; probed = [] }

abbrev pub probing : Float → Walked → Walked
probing t w = record { ending = w.ending; probed = t ∷ w.probed }

module _ (x₀ dx : List (List Float)) (split : ℕ) (threshold : Float) where
  -- the probe at `to` is not above the threshold any more
  abbrev pub met : Float → Float → Ending
  met from to =
      let h = closing x₀ dx split threshold from to in
      record { answer = Contact h.lower; from = from; to = to; lower = h.lower; upper = h.upper; halvings = h.count }

  -- from a visit above the threshold, with so many probes left
  unfoldable pub walk : Limits → ℕ → Visit → Walked
  unfolding step_from above closing
  walk l zero v = elim (lt l.max_t (next dx split l v)) [ true ↦ ends (cleared l v) | false ↦ ends (spent v) ]
  walk l (suc left) v =
      let t = next dx split l v in
      elim (lt l.max_t t) [
        | true ↦ ends (cleared l v)
        | false ↦ probing t (elim (above x₀ dx split threshold t) [
          | true ↦ walk l left (visit x₀ dx split t)
          | false ↦ ends (met v.time t)
        ])
      ]

-- ---- the safe time
abbrev pub squared_offset : Limits → Float
squared_offset l = l.offset ⊗ l.offset

abbrev pub squared_park : Limits → Float
squared_park l = park l ⊗ park l

-- what the squared distance has to stay above, from the one at the start: the squared park distance, or the f32 just
-- below the first where that is smaller
unfoldable pub threshold_from : Limits → Float → Float
unfolding next_down
threshold_from l first = smaller (squared_park l) (next_down first)

-- an answer with no walk
abbrev pub still : Answer → Walked
still a = ends (unbracketed a zero32)

-- what an answer tells of a walk
abbrev pub told_of : Walked → SafeTime
told_of w = record { answer = w.ending.answer; probes = length w.probed; halvings = w.ending.halvings }

module _ (x₀ dx : List (List Float)) (split : ℕ) (l : Limits) where
  unfoldable pub first_squared : Float
  first_squared = (nearest_of split x₀).squared

  abbrev pub touches : Bool
  touches = le first_squared (squared_offset l)

  abbrev pub threshold : Float
  threshold = threshold_from l first_squared

  -- of any numbers, with so many probes allowed
  unfoldable pub safe_walk : ℕ → Walked
  unfolding first_squared threshold_from walk
  safe_walk allowed = elim (walk_refusal x₀ dx split l allowed) [
    | zero ↦ elim touches [
      | true ↦ still (Touching zero32)
      | false ↦ walk x₀ dx split threshold l allowed (start x₀ dx split)
    ]
    | suc n ↦ still (Refused (suc n))
  ]

  unfoldable pub safe_time_of : ℕ → SafeTime
  unfolding safe_walk
  safe_time_of allowed = told_of (safe_walk allowed)

-- ---- the promises, over the numbers of the answer and the walk of the definition
-- a time from 0 to the time limit, a zero with the sign plus
pub record InTime (l : Limits) (t : Float) : Type 0 where
  pub from : T (le zero32 t)
  pub to : T (le t l.max_t)
  pub plus : t ≡ written t

-- a fact of every time of a list
unfoldable pub Every : (Float → Type 0) → List Float → Type 0
Every fact [] = Unit
Every fact (t ∷ ts) = fact t × Every fact ts

-- times in time, none before the one before it, the first not before t
unfoldable pub Rising : Limits → Float → List Float → Type 0
Rising l t [] = Unit
Rising l t (u ∷ us) = T (le t u) × InTime l u × Rising l u us

-- contact: far at the time, and at the next f32 time, within the limit, not far
pub record Stopped (is_far : Float → Bool) (l : Limits) (t : Float) : Type 0 where
  pub far : is_far t ≡ true
  pub next_near : is_far (next_up t) ≡ false
  pub next_in_time : T (le (next_up t) l.max_t)

module _ (x₀ dx : List (List Float)) (split : ℕ) (l : Limits) (allowed : ℕ) where
  -- whether the computed squared distance at a time exceeds the threshold
  abbrev pub is_far : Float → Bool
  is_far t = above x₀ dx split (threshold x₀ dx split l) t

  -- the times that the definition's walk probes
  abbrev pub probed : List Float
  probed = (safe_walk x₀ dx split l allowed).probed

  -- not refused: no step goes back in time, and no squared distance from 0 to the time limit is NaN
  pub record Steady : Type 0 where
    pub rising : Rising l zero32 probed
    pub start_number : T (not (is_nan (first_squared x₀ dx split l)))
    pub number_at : (t : Float) → T (le zero32 t) → T (le t l.max_t)
        → T (not (is_nan (squared_at x₀ dx split t)))

  -- clear: it exceeded it at the start and at every probe made
  pub record Passed (t : Float) : Type 0 where
    pub is_limit : t ≡ written l.max_t
    pub start_far : lt (threshold x₀ dx split l) (first_squared x₀ dx split l) ≡ true
    pub probes_far : Every (λ (u : Float). is_far u ≡ true) probed

  -- a walk's threshold: not below the squared offset, nor above the squared park distance. From a start that is not
  -- above the latter, to exceed it is to be not below the start's
  pub record Placed : Type 0 where
    pub over_offset : T (le (squared_offset l) (threshold x₀ dx split l))
    pub under_park : T (le (threshold x₀ dx split l) (squared_park l))
    pub no_nearer : le (first_squared x₀ dx split l) (squared_park l) ≡ true → (t : Float) → T (le zero32 t)
        → T (le t l.max_t) → is_far t ≡ le (first_squared x₀ dx split l) (squared_at x₀ dx split t)

  -- the numbers of an answer; kinds are 0 touching, 1 contact, 2 clear, 3 budget, 4 refused. A refused call has no time
  -- and zero counts; any other, an allowance in its range. Touching: at the start it is at most the squared offset.
  -- Budget: it exceeds the threshold at the time, and every probe allowed was made. After contact and budget it exceeds
  -- the squared offset at the time. From a start above the squared park distance the walk is the one over that
  -- distance.
  pub record Promised (refusal kind : ℕ) (time : Float) (probes halvings : ℕ) : Type 0 where
    pub number : refusal ≡ walk_refusal x₀ dx split l allowed
    pub probes_counted : probes ≡ length probed
    pub halvings_counted : halvings ≡ (safe_walk x₀ dx split l allowed).ending.halvings
    pub few_probes : probes ≤ allowed
    pub in_range : refusal ≡ 0 → (1 ≤ allowed) × (allowed ≤ full_allowance)
    pub few_halvings : halvings ≤ 256
    pub refused : (refusal ≡ 0 → ⊥) → (kind ≡ 4) × (time ≡ zero32) × (probes ≡ 0) × (halvings ≡ 0)
    pub answered : refusal ≡ 0 → kind ≤ 3
    pub timed : refusal ≡ 0 → InTime l time
    pub steady : refusal ≡ 0 → Steady
    pub touching : kind ≡ 0 → (time ≡ zero32) × (touches x₀ dx split l ≡ true)
    pub contact : kind ≡ 1 → Stopped is_far l time
    pub clear : kind ≡ 2 → Passed time
    pub budget : kind ≡ 3 → (is_far time ≡ true) × (probes ≡ allowed)
    pub placed : refusal ≡ 0 → (kind ≡ 0 → ⊥) → Placed
    pub apart : (kind ≡ 1) ⊎ (kind ≡ 3) → lt (squared_offset l) (squared_at x₀ dx split time) ≡ true
    pub above_park : refusal ≡ 0 → lt (squared_park l) (first_squared x₀ dx split l) ≡ true
        → safe_walk x₀ dx split l allowed ≡ walk x₀ dx split (squared_park l) l allowed (start x₀ dx split)

-- of an answer as the library gives it
abbrev pub Promises : List (List Float) → List (List Float) → ℕ → Limits → ℕ → SafeTime → Type 0
Promises x₀ dx split l allowed s =
    let n = numbers_of s.answer in Promised x₀ dx split l allowed n.0 n.1 n.2 s.probes s.halvings

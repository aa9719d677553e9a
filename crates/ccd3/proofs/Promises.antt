-- Every answer of the safe time keeps its promises (specs/SafeTime.antt): a theorem of the definition, for any numbers
-- that are handed over as f32 and any number of probes allowed. Assumes nothing.
use mathlib.Core.Path.{◌≡◌, refl, sym, ap, ◌∙◌, subst}
use mathlib.Core.Logic.{inl, inr}
use mathlib.Core.Bool.{Bool, true, false}
use mathlib.Core.List.{List}
use Prim.Native.Nat.{ℕ, zero, suc, ◌≤◌, zero-le}
use native.Mathlib.Omega.{arith}
use lib.Dec.{T, lit≤, not_T}
use lib.ListN.{length}
use lib.Ieee.{Float, lt}
use lib.Ieee.Bits.{is_true, is_false}
use Rattle.number.specs.Number.{zero32}
use Rattle.number.proofs.Transitive.{le_lt_trans, lt_not_le}
use Rattle.admission.specs.declared.Limits.{Limits}
use Rattle.admission.specs.Admission.{full_allowance, walk_refusal}
use Rattle.admission.proofs.Admitted.{Walkable, allowance_range, walk_admits}
use Rattle.ccd3.specs.declared.Answer.{Answer}
use Rattle.ccd3.specs.declared.Answer.TheVariants.{Touching, Contact, Clear, Budget, Refused}
use Rattle.ccd3.specs.SafeTime.{numbers_of, squared_at, above, Walked, start, walk, squared_offset, squared_park}
use Rattle.ccd3.specs.SafeTime.{still, first_squared, touches, threshold, safe_walk, safe_time_of, InTime, Every}
use Rattle.ccd3.specs.SafeTime.{Rising, is_far, Stopped, Passed, Placed, Promised, Promises}
use Rattle.ccd3.proofs.StartLaws.{walked, safe_refused, safe_touches, safe_walks}
use Rattle.ccd3.proofs.Standing.{zero_timely, Ground, limit_from, start_number, sound_in_time, number_at}
use Rattle.ccd3.proofs.Standing.{start_stands}
use Rattle.ccd3.proofs.Kept.{Says, Kept, in_time, clear_in_time, walk_keeps}
use Rattle.ccd3.proofs.Growth.{Sound}
use Rattle.ccd3.proofs.Threshold.{squares_ordered, over_offset, under_park, under_start, in_band, at_park}
use Rattle.ccd3.proofs.Admitted.{Fitting, ground}

module _ (x₀ dx : List (List Float)) (split : ℕ) (l : Limits) (allowed : ℕ) where
  abbrev Keeps : Walked → Type 0
  Keeps w =
      let n = numbers_of w.ending.answer in
      Promised x₀ dx split l allowed n.0 n.1 n.2 (length w.probed) w.ending.halvings

  refused_keeps : (n : ℕ) → walk_refusal x₀ dx split l allowed ≡ suc n
      → safe_walk x₀ dx split l allowed ≡ still (Refused (suc n)) → Keeps (still (Refused (suc n)))
  unfolding numbers_of
  refused_keeps n e is = record {
    number = sym e;
    probes_counted = sym (ap (λ (w : Walked). length w.probed) is);
    halvings_counted = sym (ap (λ (w : Walked). w.ending.halvings) is);
    few_probes = zero-le;
    in_range = λ h. absurd (omega arith);
    few_halvings = zero-le;
    refused = λ h. (refl, refl, refl, refl);
    answered = λ h. absurd (omega arith);
    timed = λ h. absurd (omega arith);
    steady = λ h. absurd (omega arith);
    touching = λ h. absurd (omega arith);
    contact = λ h. absurd (omega arith);
    clear = λ h. absurd (omega arith);
    budget = λ h. absurd (omega arith);
    placed = λ h. absurd (omega arith);
    apart = λ k. elim k [ inl h ↦ absurd (omega (arith, h)) | inr h ↦ absurd (omega (arith, h)) ];
    above_park = λ h. absurd (omega arith);
  }

  module _ (e : walk_refusal x₀ dx split l allowed ≡ 0) (adm : Walkable x₀ dx split l)
      (ranged : (1 ≤ allowed) × (allowed ≤ full_allowance)) (fit : Fitting x₀ l) where
    abbrev g : Ground x₀ dx split l
    g = ground x₀ dx split l adm fit

    -- ---- the threshold, where it walks
    abbrev first : Float
    first = first_squared x₀ dx split l

    module _ (walks : touches x₀ dx split l ≡ false) where
      sound_first : Sound first
      unfolding first_squared
      sound_first = g.sound_start

      walk_placed : Placed x₀ dx split l allowed
      unfolding above squared_at
      walk_placed = record {
        over_offset = over_offset l g.given first sound_first walks;
        under_park = under_park l g.given first sound_first walks;
        no_nearer = λ h t a b.
            in_band l g.given first sound_first walks h (squared_at x₀ dx split t)
            (sound_in_time x₀ dx split l g t a b).fit;
      }

      begins : lt (threshold x₀ dx split l) first ≡ true
      begins = under_start l g.given first sound_first walks

      -- what is above the threshold is above the squared offset
      beyond : (t : Float) → is_far x₀ dx split l allowed t ≡ true
          → lt (squared_offset l) (squared_at x₀ dx split t) ≡ true
      unfolding above
      beyond t h =
          is_true (lt (squared_offset l) (squared_at x₀ dx split t))
          (le_lt_trans (squared_offset l) (threshold x₀ dx split l) (squared_at x₀ dx split t) walk_placed.over_offset
          (subst T (sym h) tt))

    -- a start above the squared park distance does not touch
    apart_of : lt (squared_park l) first ≡ true → touches x₀ dx split l ≡ false
    apart_of h =
        is_false (touches x₀ dx split l)
        (not_T (touches x₀ dx split l)
        (lt_not_le (squared_offset l) first
        (le_lt_trans (squared_offset l) (squared_park l) first (squares_ordered l g.given) (subst T (sym h) tt))))

    over_park : lt (squared_park l) first ≡ true
        → safe_walk x₀ dx split l allowed ≡ walk x₀ dx split (squared_park l) l allowed (start x₀ dx split)
    over_park h =
        let walks = apart_of h in
        safe_walks x₀ dx split l allowed e walks
        ∙ ap (λ (t : Float). walk x₀ dx split t l allowed (start x₀ dx split))
        (at_park l g.given first (sound_first walks) walks h)

    -- not refused: what every kind promises, with the clauses of the kinds
    module _ (w : Walked) (is : safe_walk x₀ dx split l allowed ≡ w) (few : length w.probed ≤ allowed)
        (halves : w.ending.halvings ≤ 256) (rises : Rising l zero32 w.probed) where
      unrefused : (kind : ℕ) (t : Float) → kind ≤ 3 → InTime l t
          → (kind ≡ 0 → (t ≡ zero32) × (touches x₀ dx split l ≡ true)) → (kind ≡ 1 → Stopped (is_far x₀ dx split l allowed) l t)
          → (kind ≡ 2 → Passed x₀ dx split l allowed t)
          → (kind ≡ 3 → (is_far x₀ dx split l allowed t ≡ true) × (length w.probed ≡ allowed))
          → ((kind ≡ 0 → ⊥) → touches x₀ dx split l ≡ false)
          → Promised x₀ dx split l allowed 0 kind t (length w.probed) w.ending.halvings
      unfolding first_squared
      unrefused kind t small i touched stopped passed paused walks = record {
        number = sym e;
        probes_counted = sym (ap (λ (v : Walked). length v.probed) is);
        halvings_counted = sym (ap (λ (v : Walked). v.ending.halvings) is);
        few_probes = few;
        in_range = λ n. ranged;
        few_halvings = halves;
        refused = λ n. absurd (n refl);
        answered = λ n. small;
        timed = λ n. i;
        steady = λ n. record {
          rising = subst (λ (v : Walked). Rising l zero32 v.probed) (sym is) rises;
          start_number = start_number x₀ dx split l g;
          number_at = number_at x₀ dx split l g;
        };
        touching = touched;
        contact = stopped;
        clear = passed;
        budget = paused;
        placed = λ n m. walk_placed (walks m);
        apart = λ k. elim k [
          | inl h ↦ beyond (walks (λ z. omega (arith, h, z))) t (stopped h).far
          | inr h ↦ beyond (walks (λ z. omega (arith, h, z))) t (paused h).0
        ];
        above_park = λ n. over_park;
      }

    touching_keeps : touches x₀ dx split l ≡ true → safe_walk x₀ dx split l allowed ≡ still (Touching zero32)
        → Keeps (still (Touching zero32))
    unfolding numbers_of Rising
    touching_keeps t is =
        unrefused (still (Touching zero32)) is zero-le zero-le tt 0 zero32 zero-le
        (in_time x₀ dx split l g zero32 zero_timely (limit_from x₀ dx split l g))
        (λ n. (refl, t)) (λ n. absurd (omega arith)) (λ n. absurd (omega arith))
        (λ n. absurd (omega arith)) (λ n. absurd (n refl))

    -- a walk, by its answer
    module _ (t : touches x₀ dx split l ≡ false) where
      abbrev w : Walked
      w = walked x₀ dx split l allowed

      is : safe_walk x₀ dx split l allowed ≡ w
      is = safe_walks x₀ dx split l allowed e t

      kept : Kept x₀ dx split l g (threshold x₀ dx split l) allowed (start x₀ dx split) w
      unfolding first_squared
      kept =
          walk_keeps x₀ dx split l g (threshold x₀ dx split l) allowed (start x₀ dx split)
          (start_stands x₀ dx split l g (threshold x₀ dx split l) (begins t))

      by_answer : (a : Answer) → Says x₀ dx split l g (threshold x₀ dx split l) allowed w.probed a
          → Promised x₀ dx split l allowed (numbers_of a).0 (numbers_of a).1 (numbers_of a).2 (length w.probed)
          w.ending.halvings
      unfolding numbers_of
      by_answer (Touching _) h = elim h [ ]
      by_answer (Refused _) h = elim h [ ]
      by_answer (Contact u) h =
          unrefused w is kept.probes kept.halvings kept.rising 1 u (lit≤ tt) h.0
          (λ n. absurd (omega arith)) (λ n. h.1) (λ n. absurd (omega arith)) (λ n. absurd (omega arith)) (λ n. t)
      by_answer (Clear u) h =
          unrefused w is kept.probes kept.halvings kept.rising 2 u (lit≤ tt)
          (clear_in_time x₀ dx split l g u h.0) (λ n. absurd (omega arith)) (λ n. absurd (omega arith))
          (λ n. record {
            is_limit = h.0;
            start_far = begins t;
            probes_far =
                subst (λ (v : Walked). Every (λ (u : Float). is_far x₀ dx split l allowed u ≡ true) v.probed) (sym is)
                h.1;
          })
          (λ n. absurd (omega arith)) (λ n. t)
      by_answer (Budget u) h =
          unrefused w is kept.probes kept.halvings kept.rising 3 u (lit≤ tt) h.0
          (λ n. absurd (omega arith)) (λ n. absurd (omega arith)) (λ n. absurd (omega arith))
          (λ n. (h.1, h.2)) (λ n. t)

      walk_promised : Keeps w
      walk_promised = by_answer w.ending.answer kept.says

  -- what is not refused
  pub admitted : walk_refusal x₀ dx split l allowed ≡ 0
      → Walkable x₀ dx split l × ((1 ≤ allowed) × (allowed ≤ full_allowance))
  admitted e =
      let w = walk_admits x₀ dx split l allowed e in
      (w.0, allowance_range allowed w.1)

  -- the promises of every walk
  walk_promised_all : Fitting x₀ l → Keeps (safe_walk x₀ dx split l allowed)
  walk_promised_all f = go (walk_refusal x₀ dx split l allowed) (touches x₀ dx split l) refl refl
    where
      go : (n : ℕ) (t : Bool) → walk_refusal x₀ dx split l allowed ≡ n → touches x₀ dx split l ≡ t
          → Keeps (safe_walk x₀ dx split l allowed)
      go (suc n) t e h =
          let is = safe_refused x₀ dx split l allowed (suc n) e (λ k. omega arith) in
          subst Keeps (sym is) (refused_keeps n e is)
      go zero true e h =
          let is = safe_touches x₀ dx split l allowed e h in
          let k = admitted e in
          subst Keeps (sym is) (touching_keeps e k.0 k.1 f h is)
      go zero false e h =
          let k = admitted e in
          subst Keeps (sym (safe_walks x₀ dx split l allowed e h)) (walk_promised e k.0 k.1 f h)

-- the promises of every answer
pub safe_time_promised : (x₀ dx : List (List Float)) (split : ℕ) (l : Limits) (allowed : ℕ) → Fitting x₀ l
    → Promises x₀ dx split l allowed (safe_time_of x₀ dx split l allowed)
unfolding safe_time_of
safe_time_promised x₀ dx split l allowed f = walk_promised_all x₀ dx split l allowed f

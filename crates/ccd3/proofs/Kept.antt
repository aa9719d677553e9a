-- Every walk from a place to stand keeps the promises (specs/SafeTime.antt): the counts, the range of the time, and the
-- computed squared distance at the time, at its neighbour and at the probes; and its time is not before that place. Of any
-- number of probes allowed, and any threshold. Assumes nothing.
use mathlib.Core.Path.{◌≡◌, refl, sym, ap, ◌∙◌, subst}
use mathlib.Core.Bool.{Bool, true, false, cond}
use mathlib.Core.List.{List, ◌∷◌}
use Prim.Native.Nat.{ℕ, zero, suc, ◌≤◌, ◌<◌, zero-le, suc-le-suc}
use native.Mathlib.Nat.{le_trans, le_of_lt, lt_of_lt_of_le}
use native.Mathlib.Omega.{arith}
use lib.Dec.{T, eqb, eqb→eq, lit≤}
use lib.ListN.{length}
use lib.Ieee.{Float, binary32, lt, le, eq, of_bits}
use lib.Ieee.Bits.{of_bits-fits}
use lib.Ieee.Fits.{eq→eqb}
use Rattle.number.specs.Number.{zero32, next_up, written, halve}
use Rattle.number.proofs.NextUp.{next_of}
use Rattle.number.proofs.Signs.{plus_up, above_plus}
use Rattle.number.proofs.Transitive.{le_le_trans}
use Rattle.number.proofs.Units.{Unit32, zero_is, same_float}
use Rattle.number.proofs.Units.Compared.{Is, finite_is, eq_is, lt_says, says_lt, le_says, says_le}
use Rattle.admission.specs.declared.Limits.{Limits}
use Rattle.ccd3.specs.declared.Answer.{Answer}
use Rattle.ccd3.specs.declared.Answer.TheVariants.{Touching, Contact, Clear, Budget, Refused}
use Rattle.ccd3.specs.declared.Visit.{Visit}
use Rattle.ccd3.specs.SafeTime.{numbers_of, next, Walked, visit, above, closing, walk}
use Rattle.ccd3.specs.SafeTime.{InTime, Every, Rising, Stopped}
use Rattle.ccd3.proofs.WalkLaws.{walk_clears, walk_spends, walk_meets, walk_steps}
use Rattle.ccd3.proofs.Bracket.{Timely, timely_refl, Bracket, bracket_ends}
use Rattle.ccd3.proofs.Standing.{zero_timely, Ground, Standing, limit_from, limit_units, stands_on}
use Rattle.ccd3.proofs.Standing.{brackets, next_limit, next_timely, later}

-- ---- a time with the sign plus is written as it is
is_zero : (t : Float) (i : Timely t) → i.units ≡ 0 → t ≡ zero32
unfolding of_bits
is_zero t i e =
    same_float t zero32 0 i.fit (of_bits-fits binary32 0) i.sign tt (subst (λ (u : ℕ). Is t u) e i.is) zero_is

written_plus : (t : Float) → Timely t → t ≡ written t
unfolding written
written_plus t i = go (eq t zero32) (eq_is t zero32 i.units 0 i.is zero_is)
  where
    go : (b : Bool) → b ≡ eqb i.units 0 → t ≡ cond b zero32 t
    go true e = is_zero t i (eqb→eq i.units 0 (subst T e tt))
    go false e = refl

module _ (x₀ dx : List (List Float)) (split : ℕ) (l : Limits) (g : Ground x₀ dx split l) where
  pub in_time : (t : Float) → Timely t → T (le t l.max_t) → InTime l t
  in_time t i h = record { from = plus_up t i.sign; to = h; plus = written_plus t i }

  -- the time limit as it is answered
  pub clear_in_time : (t : Float) → t ≡ written l.max_t → InTime l t
  unfolding written
  clear_in_time t e = subst (InTime l) (sym e) (go (eq l.max_t zero32) is)
    where
      m : (u : ℕ) × Is l.max_t u
      m = ((limit_units x₀ dx split l g).0, (limit_units x₀ dx split l g).1.is)

      is : eq l.max_t zero32 ≡ eqb m.0 0
      is = eq_is l.max_t zero32 m.0 0 m.1 zero_is

      some : (u : ℕ) → (u ≡ 0 → ⊥) → 0 < u
      some u h = omega arith

      go : (b : Bool) → b ≡ eqb m.0 0 → InTime l (cond b zero32 l.max_t)
      go true h = in_time zero32 zero_timely (limit_from x₀ dx split l g)
      go false h =
          let up = says_lt zero32 l.max_t 0 m.0 zero_is m.1
          (some m.0 (λ k. subst T (sym h) (eq→eqb k))) in
          let i : Timely l.max_t = record {
            units = m.0;
            is = m.1;
            fit = g.limit_fits;
            sign = above_plus zero32 l.max_t zero_timely.sign up;
          } in
          in_time l.max_t i (timely_refl l.max_t i)

  -- it is not before a time that is in time
  limit_after : (t : Float) → Timely t → T (le t l.max_t) → T (le t (written l.max_t))
  unfolding written
  limit_after t i h = go (eq l.max_t zero32) (eq_is l.max_t zero32 m.0 0 m.1.is zero_is)
    where
      m : (u : ℕ) × Unit32 l.max_t u
      m = limit_units x₀ dx split l g

      go : (b : Bool) → b ≡ eqb m.0 0 → T (le t (cond b zero32 l.max_t))
      go true e =
          let z : m.0 ≡ 0 = eqb→eq m.0 0 (subst T e tt) in
          says_le t zero32 i.units 0 i.is zero_is
          (subst (λ (u : ℕ). i.units ≤ u) z (le_says t l.max_t i.units m.0 i.is m.1.is h))
      go false e = h

  -- ---- over a threshold
  module _ (threshold : Float) where
    abbrev far : Float → Bool
    far = above x₀ dx split threshold

    -- what an answer says of a walk that had so many probes left and probed these times
    abbrev pub Says : ℕ → List Float → Answer → Type 0
    Says left probed (Contact t) = InTime l t × Stopped far l t
    Says left probed (Clear t) = (t ≡ written l.max_t) × Every (λ (u : Float). far u ≡ true) probed
    Says left probed (Budget t) = InTime l t × (far t ≡ true) × (length probed ≡ left)
    Says left probed (Touching t) = ⊥
    Says left probed (Refused n) = ⊥

    pub record Kept (left : ℕ) (v : Visit) (w : Walked) : Type 0 where
      pub probes : length w.probed ≤ left
      pub halvings : w.ending.halvings ≤ 256
      pub rising : Rising l v.time w.probed
      pub since : T (le v.time (numbers_of w.ending.answer).2)
      pub says : Says left w.probed w.ending.answer

    -- a bracket within the limit stops well
    stopped : (lower upper : Float) → T (le upper l.max_t) → Bracket far lower upper
        → InTime l (closing x₀ dx split threshold lower upper).lower
        × Stopped far l (closing x₀ dx split threshold lower upper).lower
        × ((closing x₀ dx split threshold lower upper).count ≤ 256)
        × T (le lower (closing x₀ dx split threshold lower upper).lower)
    unfolding closing
    stopped lower upper h b =
        let r = bracket_ends far lower upper b in
        let e = r.0 in
        let k = r.1 in
        let c = halve far 255 0 lower upper in
        let n : c.upper ≡ next_up c.lower =
        next_of c.lower c.upper (finite_is c.lower k.lower.units k.lower.is) k.lower.sign
        k.upper.fit e.next_pattern in
        let m = limit_units x₀ dx split l g in
        let a : k.upper.units ≤ b.high.units =
        le_says c.upper upper k.upper.units b.high.units k.upper.is b.high.is k.under in
        let a' : b.high.units ≤ m.0 = le_says upper l.max_t b.high.units m.0 b.high.is m.1.is h in
        let o : k.lower.units < k.upper.units =
        lt_says c.lower c.upper k.lower.units k.upper.units k.lower.is k.upper.is e.in_order in
        let under : T (le c.upper l.max_t) =
        says_le c.upper l.max_t k.upper.units m.0 k.upper.is m.1.is (le_trans a a') in (
          in_time c.lower k.lower
              (says_le c.lower l.max_t k.lower.units m.0 k.lower.is m.1.is
              (le_of_lt (lt_of_lt_of_le o (le_trans a a')))),
          record {
            far = e.true_below;
            next_near = ap far (sym n) ∙ e.false_above;
            next_in_time = subst (λ (t : Float). T (le t l.max_t)) n under;
          },
          le_trans e.bounded (lit≤ tt),
          k.over,
        )

    -- ---- every walk
    every : (left : ℕ) (t : Float) (ps : List Float) → far t ≡ true → (a : Answer) → Says left ps a
        → Says (suc left) (t ∷ ps) a
    unfolding Every
    every left t ps f (Touching _) h = elim h [ ]
    every left t ps f (Refused _) h = elim h [ ]
    every left t ps f (Contact u) h = h
    every left t ps f (Clear u) h = (h.0, (f, h.1))
    every left t ps f (Budget u) h = (h.0, h.1, ap suc h.2)

    abbrev W : ℕ → Visit → Walked
    W = walk x₀ dx split threshold l

    abbrev Stands : Visit → Type 0
    Stands = Standing x₀ dx split l g threshold

    module _ (v : Visit) (s : Stands v) where
      abbrev t : Float
      t = next dx split l v

      -- a probe is made in time, and not before the time where the walk stands
      probe_rises : lt l.max_t t ≡ false → T (le v.time t) × InTime l t
      probe_rises p = (
        (later x₀ dx split l g threshold v s).0,
        in_time t (next_timely x₀ dx split l g threshold v s p)
            (next_limit x₀ dx split l g threshold v s p),
      )

      clear_keeps : (left : ℕ) → lt l.max_t t ≡ true → Kept left v (W left v)
      unfolding Every Rising numbers_of
      clear_keeps left p =
          subst (Kept left v) (sym (walk_clears x₀ dx split threshold l left v p))
          (record {
            probes = zero-le;
            halvings = zero-le;
            rising = tt;
            since = limit_after v.time s.time s.in_limit;
            says = (refl, tt);
          })

      spent_keeps : lt l.max_t t ≡ false → Kept 0 v (W 0 v)
      unfolding Rising numbers_of
      spent_keeps p =
          subst (Kept 0 v) (sym (walk_spends x₀ dx split threshold l v p))
          (record {
            probes = zero-le;
            halvings = zero-le;
            rising = tt;
            since = timely_refl v.time s.time;
            says = (in_time v.time s.time s.in_limit, s.apart_at, refl);
          })

      met_keeps : (left : ℕ) → lt l.max_t t ≡ false → far t ≡ false → Kept (suc left) v (W (suc left) v)
      unfolding Rising numbers_of
      met_keeps left p a =
          let r = stopped v.time t (next_limit x₀ dx split l g threshold v s p)
          (brackets x₀ dx split l g threshold v s p a) in
          let q = probe_rises p in
          subst (Kept (suc left) v) (sym (walk_meets x₀ dx split threshold l left v p a))
          (record {
            probes = suc-le-suc zero-le;
            halvings = r.2;
            rising = (q.0, q.1, tt);
            since = r.3;
            says = (r.0, r.1);
          })

      step_keeps : (left : ℕ) → lt l.max_t t ≡ false → far t ≡ true
          → Kept left (visit x₀ dx split t) (W left (visit x₀ dx split t)) → Kept (suc left) v (W (suc left) v)
      unfolding Rising
      step_keeps left p a k =
          let w = W left (visit x₀ dx split t) in
          let q = probe_rises p in
          subst (Kept (suc left) v) (sym (walk_steps x₀ dx split threshold l left v p a))
          (record {
            probes = suc-le-suc k.probes;
            halvings = k.halvings;
            rising = (q.0, q.1, k.rising);
            since = le_le_trans v.time t _ q.0 k.since;
            says = every left t w.probed a w.ending.answer k.says;
          })

    pub walk_keeps : (left : ℕ) (v : Visit) → Stands v → Kept left v (W left v)
    walk_keeps zero v s = go (lt l.max_t (next dx split l v)) refl
      where
        go : (b : Bool) → lt l.max_t (next dx split l v) ≡ b → Kept 0 v (W 0 v)
        go true p = clear_keeps v s 0 p
        go false p = spent_keeps v s p
    walk_keeps (suc left) v s =
        go (lt l.max_t (next dx split l v)) (far (next dx split l v)) refl refl
        (walk_keeps left (visit x₀ dx split (next dx split l v)))
      where
        go : (b c : Bool) → lt l.max_t (next dx split l v) ≡ b → far (next dx split l v) ≡ c
            → (Stands (visit x₀ dx split (next dx split l v))
            → Kept left (visit x₀ dx split (next dx split l v)) (W left (visit x₀ dx split (next dx split l v))))
            → Kept (suc left) v (W (suc left) v)
        go true c p a h = clear_keeps v s (suc left) p
        go false true p a h = step_keeps v s left p a (h (stands_on x₀ dx split l g threshold v s p a))
        go false false p a h = met_keeps v s left p a

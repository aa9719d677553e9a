-- The loop follows the definition's walk.
use mathlib.Core.Path.{◌≡◌, sym, ap, ◌∙◌, subst}
use mathlib.Core.Bool.{Bool, true, false, ◌&&◌}
use mathlib.Core.List.{List}
use Prim.Native.Nat.{ℕ, ◌+◌, ◌-◌}
use native.Mathlib.Omega.{arith}
use lib.Dec.{T, ltb, ltb→lt, eqb→eq}
use lib.Ieee.{Float, binary32, lt, fits, to_bits}
use lib.Ieee.Fits.{and_l, and_r}
use Rattle.number.proofs.Capped.{capped_spent, capped_ends, capped_goes_on}
use Rattle.number.proofs.Units.{same_bits}
use Rattle.ccd3.specs.declared.Visit.{Visit}
use Rattle.ccd3.specs.declared.Ending.{Ending}
use Rattle.ccd3.specs.declared.Counted.{Counted}
use Rattle.ccd3.specs.declared.Answer.TheVariants.{Clear, Budget}
use Rattle.ccd3.specs.SafeTime.{next, squared_at, above, visit, unbracketed}
use Rattle.ccd3.proofs.WalkLoop.{walk_from, clears, spends, meets, steps, rests}
use Rattle.ccd3.proofs.Growth.{next_fits}
use Rattle.ccd3.proofs.walk.Walk.walk.Invariants.{Probed}
use Rattle.ccd3.proofs.walk.Walk.walk.Goals as goal

-- an ending, as the code has it, with the probes made
ended : (e d : Ending) (n : ℕ) (end : Counted) → e ≡ d → record { ending = d; probes = n } ≡ end
    → record { ending = e; probes = n } ≡ end
ended e d n end h k = ap (λ (z : Ending). record { ending = z; probes = n }) h ∙ k

-- the budget, as the code has it
counted : (time : Float) (n m : ℕ) (r end : Counted)
    → r ≡ record { ending = unbracketed (Budget time) time; probes = m } → n ≡ m
    → record { ending = unbracketed (Budget time) time; probes = n } ≡ end → r ≡ end
counted time n m r end h e k =
    h ∙ ap (λ (p : ℕ). record { ending = unbracketed (Budget time) time; probes = p }) (sym e) ∙ k

-- whether the probe is above the threshold, by what the visit has
probe : (x₀ dx : List (List Float)) (split : ℕ) (threshold time : Float) (v : Visit) → v ≡ visit x₀ dx split time
    → (b : Bool) → lt threshold v.near.squared ≡ b → above x₀ dx split threshold time ≡ b
unfolding above squared_at
probe x₀ dx split threshold time v e b t = ap (λ (u : Visit). lt threshold u.near.squared) (sym e) ∙ t

pub returns-then-max_t-next : goal.returns-then-max_t-next
returns-then-max_t-next c =
    let w = c.args.self.now in
    let l = c.loop-ending in
    ended _ _ _ _
    (c.unbracketed-ending.ensures ∙ ap (λ (m : Float). unbracketed (Clear m) l.here.time) c.written.ensures)
    (sym (clears w.x0 w.dx w.split w.threshold w.limits l.probes l.here _ c.next_time-next.ensures
    (c.args.allowance - l.probes) c.if-max_t-next.true)
    ∙ l.invariant.0.rest)

pub returns-then-probes-allowance : goal.returns-then-probes-allowance
returns-then-probes-allowance c =
    let w = c.args.self.now in
    let l = c.loop-ending in
    counted _ l.probes c.args.allowance _ _ c.spent.ensures c.if-probes-allowance.true
    (sym (spends w.x0 w.dx w.split w.threshold w.limits l.probes l.here _ c.next_time-next.ensures
    c.if-max_t-next.false)
    ∙ capped_spent (walk_from w.x0 w.dx w.split w.threshold w.limits) c.args.allowance _ l.probes _ l.invariant.0
    (λ m. omega (arith, c.if-probes-allowance.true)))

-- the step from a probe leads nowhere
pub returns-then-probes-stays : goal.returns-then-probes-stays
returns-then-probes-stays c =
    let w = c.args.self.now in
    let l = c.loop-ending in
    let both : T (ltb 0 l.probes && c.stays.result) = subst T (sym c.if-probes-stays.true) tt in
    let p : Probed w.x0 w.dx w.split w.threshold l.here =
    l.invariant.1 (ltb→lt 0 l.probes (and_l (ltb 0 l.probes) _ both)) in
    let same : next w.dx w.split w.limits l.here ≡ l.here.time =
    same_bits _ l.here.time (next_fits w.dx w.split w.limits l.here) p.fit
    (ap (to_bits binary32) (sym c.next_time-next.ensures)
    ∙ eqb→eq _ _ (subst T c.stays.ensures (and_r (ltb 0 l.probes) _ both))) in
    let in_time : lt w.limits.max_t l.here.time ≡ false =
    ap (lt w.limits.max_t) (sym (c.next_time-next.ensures ∙ same)) ∙ c.if-max_t-next.false in
    counted _ (l.probes + (c.args.allowance - l.probes)) c.args.allowance _ _ c.spent-then-probes-stays.ensures
    (omega (arith, l.invariant.0.small))
    (sym (rests w.x0 w.dx w.split w.threshold w.limits (c.args.allowance - l.probes) l.probes l.here p.own same
    in_time p.far)
    ∙ l.invariant.0.rest)

pub returns-else-self-there : goal.returns-else-self-there
returns-else-self-there c =
    let w = c.args.self.now in
    let l = c.loop-ending in
    let near : above w.x0 w.dx w.split w.threshold c.next_time-next.result ≡ false =
    probe w.x0 w.dx w.split w.threshold _ _ c.visit-there.ensures false c.if-self-there.false in
    ended _ _ _ _ c.met-ending.ensures
    (capped_ends (walk_from w.x0 w.dx w.split w.threshold w.limits) c.args.allowance _ l.probes _ l.invariant.0
    (omega (arith, c.if-probes-allowance.false, l.invariant.0.small)) _
    (meets w.x0 w.dx w.split w.threshold w.limits l.probes l.here _ c.next_time-next.ensures c.if-max_t-next.false
    near))

pub loop-ending-preserved : goal.loop-ending-preserved
loop-ending-preserved c =
    let w = c.args.self.now in
    let l = c.loop-ending in
    let far : above w.x0 w.dx w.split w.threshold c.next_time-next.result ≡ true =
    probe w.x0 w.dx w.split w.threshold _ _ c.visit-there.ensures true c.if-self-there.true in
    let time : c.visit-there.result.time ≡ c.next_time-next.result =
    ap (λ (v : Visit). v.time) c.visit-there.ensures in (
      capped_goes_on (walk_from w.x0 w.dx w.split w.threshold w.limits) c.args.allowance _ l.probes _ l.invariant.0
          (omega (arith, c.if-probes-allowance.false, l.invariant.0.small)) (l.probes + 1, c.visit-there.result)
          (λ k. steps w.x0 w.dx w.split w.threshold w.limits l.probes l.here _ c.next_time-next.ensures
          c.if-max_t-next.false far k
          ∙ sym (ap (λ (v : Visit). walk_from w.x0 w.dx w.split w.threshold w.limits k (l.probes + 1, v))
          c.visit-there.ensures)),
      λ h. record {
        own = c.visit-there.ensures ∙ sym (ap (visit w.x0 w.dx w.split) time);
        far = ap (above w.x0 w.dx w.split w.threshold) time ∙ far;
        fit =
            subst (λ (t : Float). T (fits binary32 t)) (sym (time ∙ c.next_time-next.ensures))
            (next_fits w.dx w.split w.limits l.here);
      },
    )

-- What is stored is what a scaling leaves, and where nothing is stored it leaves the lent numbers.
use Rattle.std.proofs.Common.{◌≡◌, ◌∙◌, sym, ap, false, Float, Result, is_ok}
use Rattle.number.specs.declared.refusal.Refusal.{Refusal}
use Rattle.number.proofs.Answers.{answered_value}
use Rattle.motion.specs.declared.record.Pair.{Pair}
use Rattle.motion.specs.Motion.{scaling_refusal, factors_for, leaves, Scales}
use Rattle.motion.proofs.Scalings.{refused_stands}
use Rattle.urtemval.specs.Face.{told, pair_of}
use Rattle.urtemval.proofs.points.urtemval_scale_pair.Goals as goal
use Rattle.urtemval.proofs.points.urtemval_scale_pair.Goals.{then-scaled, else-scaled}

module _ (p q : Pair) (t : Float) (a : Result Float Refusal) (h : Scales p t a q) where
  stands : is_ok a ≡ false → p ≡ leaves p t
  stands e =
      sym (refused_stands p t (λ z.
      let given = answered_value (scaling_refusal p t) (factors_for p t).product z in
      cc (ap is_ok (h.answer ∙ sym given), e)))

pub returns : goal.returns
returns c =
    let call = c.normalize_centerized_configuration-answer in
    let p = pair_of c.args.x.now c.args.dx.now in
    let after : Pair = record { x = c.if-scaled.x; dx = c.if-scaled.dx } in
    let left : after ≡ leaves p c.args.max_t =
    elim c.if-scaled.branch [
      | then-scaled w ↦ (λ i. record { x = w.x-is i; dx = w.dx-is i }) ∙ call.ensures.left
      | else-scaled w ↦
          (λ i. record { x = w.x-is i; dx = w.dx-is i })
          ∙ stands p call.new.pair c.args.max_t call.result call.ensures (sym w.if-scaled.ensures.value)
    ]
    in
    record {
      answer = c.from.ensures ∙ ap told call.ensures.answer;
      points = ap (λ (r : Pair). r.x) left;
      moves = ap (λ (r : Pair). r.dx) left;
    }

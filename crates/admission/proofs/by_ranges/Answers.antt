-- `admission::by_ranges` meets its contract: what lies in its range is finite, so that its refusal number is 0. Assumes
-- nothing.
use Rattle.std.proofs.Common.{sym, ◌∙◌, ap}
use Rattle.number.specs.Number.{answered}
use Rattle.number.proofs.Answers.{ranged_none}
use Rattle.admission.proofs.by_ranges.Goals as goal

pub returns-then-in_range : goal.returns-then-in_range
unfolding answered
returns-then-in_range g c = λ f r p e real. ap (λ n. answered n tt) (ranged_none f r real (sym e ∙ c.if-in_range.true))

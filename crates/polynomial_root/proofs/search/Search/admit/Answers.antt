use Rattle.number.proofs.Answers.{answered_value}
use Rattle.polynomial_root.proofs.Admitted.{cubic_none}
use Rattle.polynomial_root.proofs.search.Search.admit.Goals as goal

pub returns-then-in_bound-above_zero_to_one : goal.returns-then-in_bound-above_zero_to_one
returns-then-in_bound-above_zero_to_one c =
    answered_value _ tt (cubic_none c.args.self.p c.args.self.t c.args.self.epsilon (cc))

use Rattle.number.proofs.Answers.{answered_value}
use Rattle.polynomial_root.proofs.Admitted.{quadratic_none}
use Rattle.polynomial_root.proofs.admission.admit_quadratic.Goals as goal

pub returns-then-in_bound : goal.returns-then-in_bound
returns-then-in_bound c = answered_value _ tt (quadratic_none c.args.c0 c.args.c1 c.args.c2 (cc))

-- `quadratic_root` answers what its definition says, and so what `Promised` says of that.
use Rattle.std.proofs.Common.{rules, ◌≡◌, Ok, Err, sym, ◌∙◌}
use Rattle.number.specs.Number.{numbered}
use Rattle.polynomial_root.specs.Roots.{quadratic_root}
use Rattle.polynomial_root.proofs.Admitted.{goes_in, stays_out}
use Rattle.polynomial_root.proofs.Promised.{quadratic_promised}
use Rattle.polynomial_root.proofs.quadratic_root.Goals as goal

pub returns-in_err-admit_quadratic-clause-answer : goal.returns-in_err-admit_quadratic-clause-answer
unfolding quadratic_root
returns-in_err-admit_quadratic-clause-answer c =
    let e : c.from_residual.result ≡ Err c.in_err-admit_quadratic.field-0.0 = search rules in
    e ∙ stays_out _ (tt {0}) _ _ (sym c.admit_quadratic.ensures ∙ c.in_err-admit_quadratic.was)

pub returns-then-c2-clause-answer : goal.returns-then-c2-clause-answer
unfolding quadratic_root numbered
returns-then-c2-clause-answer c =
    rw c.if-c2.true (goes_in _ (tt {0}) _ _ (sym c.admit_quadratic.ensures ∙ c.in_ok-admit_quadratic.was))

pub returns : goal.returns
unfolding quadratic_root
returns c =
    let e : Ok c.all_roots.result ≡ quadratic_root c.args.c0 c.args.c1 c.args.c2 =
    rw (c.if-c2.false, ← c.solve.ensures, ← c.all_roots.ensures)
    (goes_in _ (tt {0}) _ _ (sym c.admit_quadratic.ensures ∙ c.in_ok-admit_quadratic.was)) in
    let q = quadratic_promised c.args.c0 c.args.c1 c.args.c2 c.well_formed.1.1.0.1 e in
    record { answer = e; tidy = q.numbers.tidy; numbers = q.numbers.each; two = q.two }

use Rattle.std.proofs.Common.{◌≡◌, Err, sym, ap, ◌∙◌, rules}
use Rattle.number.specs.Number.{zero32, one32}
use Rattle.polynomial_root.specs.Roots.{cubic_roots_in_range}
use Rattle.polynomial_root.specs.declared.cubic.Cubic.{Cubic}
use Rattle.polynomial_root.proofs.Admitted.{goes_in, stays_out}
use Rattle.motion.specs.Motion.{coplanar_times}
use Rattle.motion.proofs.Coefficients.{coplanar_first}
use Rattle.motion.proofs.coplanar.coplanar_time_mat3x4.Goals as goal

pub returns-in_err-admit_motion : goal.returns-in_err-admit_motion
unfolding coplanar_times
returns-in_err-admit_motion c =
    let refused : c.from_residual.result ≡ Err c.in_err-admit_motion.field-0.0 = search rules in
    let e : c.from_residual.result ≡ coplanar_times c.args.x0 c.args.dx =
    refused ∙ stays_out _ (tt {0}) _ _ (sym c.in_err-admit_motion.ensures)
    in
    record {
      answer = e;
      tidy = rw refused tt;
      range = rw refused tt;
      first = rw e (coplanar_first c.args.x0 c.args.dx);
    }

pub returns : goal.returns
unfolding coplanar_times
returns c =
    let found = c.cubic_roots_in_range_zero_to_t in
    let e : found.result ≡ coplanar_times c.args.x0 c.args.dx =
    found.ensures.answer ∙ ap (λ (p : Cubic). cubic_roots_in_range p one32 zero32) c.motion_cubic-p.ensures
    ∙ goes_in _ (tt {0}) _ _ (sym c.in_ok-admit_motion.ensures)
    in
    record {
      answer = e;
      tidy = found.ensures.tidy;
      range = found.ensures.range;
      first = rw e (coplanar_first c.args.x0 c.args.dx);
    }

-- `cubic_roots_in_range_zero_to_t` answers what its definition says, and so what `Promised` says of that.
use Rattle.std.proofs.Common.{rules, ◌≡◌, Err, sym, ◌∙◌}
use Rattle.polynomial_root.specs.Roots.{cubic_of, cubic_roots_in_range}
use Rattle.polynomial_root.proofs.Admitted.{goes_in, stays_out}
use Rattle.polynomial_root.proofs.Promised.{cubic_promised}
use Rattle.polynomial_root.proofs.cubic_roots_in_range_zero_to_t.Goals as goal

pub returns-in_err-admit : goal.returns-in_err-admit
unfolding cubic_roots_in_range
returns-in_err-admit c =
    let a = c.args in
    let p = cubic_of a.c0 a.c1 a.c2 a.c3 in
    let e : c.from_residual.result ≡ Err c.in_err-admit.field-0.0 = search rules in
    let e : c.from_residual.result ≡ cubic_roots_in_range p a.t a.epsilon =
    e ∙ stays_out _ (tt {0}) _ _ (sym c.admit.ensures ∙ c.in_err-admit.was) in
    let h = cubic_promised p a.t a.epsilon c.well_formed.0.1 _ e in
    record { answer = e; tidy = h.0; range = h.1; original = h.2 }

pub returns : goal.returns
unfolding cubic_roots_in_range
returns c =
    let a = c.args in
    let p = cubic_of a.c0 a.c1 a.c2 a.c3 in
    let e : c.roots.result ≡ cubic_roots_in_range p a.t a.epsilon =
    c.roots.ensures ∙ goes_in _ (tt {0}) _ _ (sym c.admit.ensures ∙ c.in_ok-admit.was) in
    let h = cubic_promised p a.t a.epsilon c.well_formed.0.1 _ e in
    record { answer = e; tidy = h.0; range = h.1; original = h.2 }

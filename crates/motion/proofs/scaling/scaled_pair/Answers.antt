-- Each way out is a case of the outcome.
use Rattle.std.proofs.Common.{rules, sym}
use Rattle.std.proofs.lemmas.Result.{err_from_is_err_and}
use Rattle.motion.specs.Motion.{usable}
use Rattle.motion.proofs.Outcomes.{by_admission, by_use, by_size, by_none}
use Rattle.motion.proofs.scaling.scaled_pair.Goals as goal

pub returns-in_err-admit_time : goal.returns-in_err-admit_time
returns-in_err-admit_time c =
    let p = err_from_is_err_and c.from_residual.result c.from_residual.ensures.1 in
    rw (p.1, p.2) (by_admission c.args.pair c.args.max_t _ (sym c.in_err-admit_time.ensures))

pub returns-then-not-usable : goal.returns-then-not-usable
returns-then-not-usable c =
    by_use c.args.pair c.args.max_t (sym c.in_ok-admit_time.ensures)
    (rw (← c.first_factor-first.ensures, ← c.usable.ensures) c.if-not-usable.true)

pub of-by-requires : goal.of-by-requires
unfolding usable
of-by-requires c = search rules

pub returns-then-not-is_finite : goal.returns-then-not-is_finite
returns-then-not-is_finite c =
    by_size c.args.pair c.args.max_t (sym c.in_ok-admit_time.ensures)
    (rw (← c.first_factor-first.ensures, ← c.usable.ensures) c.if-not-usable.false)
    (rw (← c.first_factor-first.ensures, ← c.of-by.ensures, ← c.times-scaled.ensures, ← c.is_finite.ensures)
    c.if-not-is_finite.true)

pub returns : goal.returns
returns c =
    rw (c.times-scaled.ensures, c.of-by.ensures, c.first_factor-first.ensures)
    (by_none c.args.pair c.args.max_t (sym c.in_ok-admit_time.ensures)
    (rw (← c.first_factor-first.ensures, ← c.usable.ensures) c.if-not-usable.false)
    (rw (← c.first_factor-first.ensures, ← c.of-by.ensures, ← c.times-scaled.ensures, ← c.is_finite.ensures)
    c.if-not-is_finite.false))

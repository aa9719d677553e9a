-- Each turn writes a digit, and what the definition makes of the rest follows.
use Rattle.std.proofs.Common.{[], refl, arith}
use Rattle.text.proofs.Puts.{nothing}
use Rattle.root_sheet.proofs.Places.{no_more, spent, ended, next}
use Rattle.root_sheet.proofs.numeral.put_places.Goals as goal

pub loop-init : goal.loop-init
loop-init c = record {
  few = omega arith;
  small = c.requires;
  text = [];
  put = nothing (omega arith);
  rest = refl;
}

pub loop-preserved : goal.loop-preserved
loop-preserved c =
    next c.loop.invariant c.if-rest-eq0.false (omega arith) c.decimal.ensures.written

pub returns-then-rest-eq0 : goal.returns-then-rest-eq0
returns-then-rest-eq0 c = ended c.loop.invariant (no_more _ _ c.if-rest-eq0.true)

pub returns : goal.returns
returns c = ended c.loop.invariant (spent _ _ (omega arith))

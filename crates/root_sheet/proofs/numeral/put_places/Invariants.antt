-- So many digits are written, and the rest is to come.
use Rattle.root_sheet.proofs.Places.{Stands}
use Rattle.root_sheet.proofs.numeral.put_places.Given as goal

abbrev pub invariant-loop : goal.invariant-loop
invariant-loop l = Stands l.initial.page l.fraction l.page l.rest l.counter

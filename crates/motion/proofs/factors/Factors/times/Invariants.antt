-- The factors of 8 still to come make of the points so far what all of them make of the points given.
use Rattle.number.proofs.Capped.{Capped}
use Rattle.motion.specs.Motion.{eightfold}
use Rattle.motion.proofs.factors.Factors.times.Given as goal

abbrev pub invariant-loop : goal.invariant-loop
invariant-loop l = Capped eightfold l.self.eights (eightfold l.self.eights l.fn.x) l.counter l.y

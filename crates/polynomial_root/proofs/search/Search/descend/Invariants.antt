-- The steps that are left, from where the loop stands, lead where all lead from the guess.
use Rattle.polynomial_root.specs.Roots.{descend, newton_steps}
use Rattle.polynomial_root.proofs.Steps.{Stands}
use Rattle.polynomial_root.proofs.search.Search.descend.Given as goal

abbrev pub invariant-loop : goal.invariant-loop
invariant-loop l =
    let s = l.self in
    Stands s.p s.t s.epsilon (descend s.p s.t s.epsilon newton_steps l.guess) l.counter l.r

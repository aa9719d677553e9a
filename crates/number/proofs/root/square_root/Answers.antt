-- `square_root`: by each way through its tests.
use Rattle.std.proofs.Common.{◌≡◌, sym, ◌∙◌, Result, Ok, Err}
use lib.Ieee.{Float}
use Rattle.number.specs.declared.refusal.Refusal.{Refusal, TheVariants.NotFinite, TheVariants.BeyondRange}
use Rattle.number.specs.Number.{refusal_of, value_of, answered, numbered, root_of, root_refusal}
use Rattle.number.proofs.Answers as Answers
use Rattle.number.proofs.SquareRoot.Answer.{root_value, root_told}
use Rattle.number.proofs.root.square_root.Goals as goal

-- the three clauses, from the first
clauses : (x : Float) (r : Result Float Refusal) → r ≡ answered (root_refusal x) (root_of x)
    → record {
      answer : r ≡ answered (root_refusal x) (root_of x);
      refusal : refusal_of r ≡ root_refusal x;
      value : value_of r ≡ root_of x;
    }
clauses x r e =
    let all = Answers.clauses (root_refusal x) (root_of x) r (root_told x) e in
    record { answer = e; refusal = all.1.0; value = all.1.1 ∙ root_value x }

pub returns-then-x : goal.returns-then-x
unfolding answered numbered root_refusal
returns-then-x c =
    clauses c.args.x (Err BeyondRange) (rw (sym c.is_finite.ensures ∙ c.if-is_finite.true, c.if-x.true))

pub returns-else-x : goal.returns-else-x
unfolding answered root_refusal
returns-else-x c =
    clauses c.args.x (Ok c.root.result)
    (rw (sym c.is_finite.ensures ∙ c.if-is_finite.true, c.if-x.false, c.root.ensures))

pub returns-else-is_finite : goal.returns-else-is_finite
unfolding answered numbered root_refusal
returns-else-is_finite c =
    clauses c.args.x (Err NotFinite) (rw (sym c.is_finite.ensures ∙ c.if-is_finite.false))

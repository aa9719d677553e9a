-- The answers stay within their run; each turn takes at least one byte of the calls.
use Rattle.std.proofs.Common.{◌≤◌, length}
use Rattle.answers.proofs.answer_block.Given as goal

abbrev pub invariant-loop-word : goal.invariant-loop-word
invariant-loop-word l = l.to ≤ length l.out

abbrev pub decreases-loop-word : goal.decreases-loop-word
decreases-loop-word l = length l.calls

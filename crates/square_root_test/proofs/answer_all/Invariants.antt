-- Five bytes are answered for each four that were read, and there is room for the answers that are left.
use Rattle.std.proofs.Common.{◌*◌, ◌+◌, ◌/◌, ◌≡◌, ◌≤◌, length}
use Rattle.square_root_test.proofs.answer_all.Given as goal

abbrev pub invariant-loop-pattern : goal.invariant-loop-pattern
invariant-loop-pattern l = record {
  five_for_four : l.answered + 5 * length l.pattern-iterator.a.rest.now ≡ 5 * (length l.fn.input / 4);
  room : length l.pattern-iterator.a.rest.now ≤ length l.pattern-iterator.b.s.now;
}

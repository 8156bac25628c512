use native.Mathlib.Omega.{arith}
use Rattle.codec.specs.Numbers.{part}
use Rattle.in_bytes.proofs.StagesLoops.{both_sizes}
use Rattle.in_bytes.proofs.AnswerLaws.{next_head, want_head, head_few}
use Rattle.in_bytes.proofs.answer.head_size.Goals as goal

pub overflow_add-result : goal.overflow_add-result
unfolding part
overflow_add-result c =
    let parts = next_head c.args.xs.now c.if-xs-eq1.true c.notes_end.ensures c.endings_end.ensures in
    omega (arith, c.numbers_size.ensures, c.numbers_size-then-xs-eq1.ensures, both_sizes parts, head_few c.args.xs.now)

pub returns-then-xs-eq1 : goal.returns-then-xs-eq1
unfolding part
returns-then-xs-eq1 c =
    let parts = next_head c.args.xs.now c.if-xs-eq1.true c.notes_end.ensures c.endings_end.ensures in
    omega (arith, c.numbers_size.ensures, c.numbers_size-then-xs-eq1.ensures, both_sizes parts)

pub returns : goal.returns
returns c = rw (want_head c.args.xs.now c.if-xs-eq1.false) c.numbers_size-2.ensures

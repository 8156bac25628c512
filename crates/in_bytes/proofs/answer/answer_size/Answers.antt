use native.Mathlib.Omega.{arith}
use Rattle.host.specs.Layout.{answer_record}
use Rattle.in_bytes.proofs.RunLaws.{run_few}
use Rattle.in_bytes.proofs.StagesLoops.{both_sizes}
use Rattle.in_bytes.proofs.AnswerLaws.{head_few, answer_bytes}
use Rattle.in_bytes.proofs.answer.answer_size.Goals as goal

pub overflow_add-result : goal.overflow_add-result
overflow_add-result c =
    let ns = c.args.xs.now in
    let long = c.told-xs in
    omega (arith, rw c.run.ensures at c.run_size.ensures, c.head_size.ensures, head_few ns, run_few ns answer_record (omega arith))

pub returns : goal.returns
returns c = omega (arith, rw c.run.ensures at c.run_size.ensures, c.head_size.ensures, both_sizes (answer_bytes c.args.xs.now c.told-xs))

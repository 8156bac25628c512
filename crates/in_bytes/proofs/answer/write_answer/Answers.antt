use native.Mathlib.Omega.{arith}
use Rattle.in_bytes.proofs.StagesLoops.{both_sizes, both_written}
use Rattle.in_bytes.proofs.AnswerLaws.{head_within, answer_bytes}
use Rattle.in_bytes.proofs.answer.write_answer.Goals as goal

pub write_head-place-requires : goal.write_head-place-requires
write_head-place-requires c = omega (arith, c.requires, head_within c.args.xs.now)

pub write_run-requires : goal.write_run-requires
write_run-requires c = rw c.run.ensures (omega (arith, c.requires, both_sizes (answer_bytes c.args.xs.now c.told-xs), c.write_head-place.ensures.value))

pub returns : goal.returns
returns c =
    let head = c.write_head-place.ensures in
    both_written (answer_bytes c.args.xs.now c.told-xs) c.args.out.now c.requires head.value head.out_after (rw c.run.ensures at c.write_run.ensures.out_after)

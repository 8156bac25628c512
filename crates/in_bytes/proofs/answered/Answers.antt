use mathlib.Core.Path.{refl}
use native.Mathlib.Omega.{arith}
use lib.ListN.{length, get_or}
use borrow.Author.Tests.{eq-eqb}
use Rattle.laws.specs.Bool.{when◌then◌else◌}
use Rattle.codec.specs.Numbers.{bytes_of}
use Rattle.in_bytes.specs.Answer.{answer}
use Rattle.in_bytes.specs.Boundary.{returned, left, told}
use Rattle.in_bytes.proofs.BoundaryLaws.{into_short, into_done, told_into}
use Rattle.in_bytes.proofs.answered.Goals as goal

pub returns-then-answer-eq3 : goal.returns-then-answer-eq3
unfolding told returned left when◌then◌else◌
returns-then-answer-eq3 c = rw (eq-eqb (get_or c.args.answer.now 0 0) 3 c.if-answer-eq3.true) (record { value = c.packed.ensures; out_after = refl })

pub returns-then-out-size : goal.returns-then-out-size
unfolding returned left
returns-then-out-size c =
    let ns = c.args.answer.now in
    let room = length c.args.out.now in
    rw (told_into room ns c.if-answer-eq3.false, into_short room (bytes_of ((answer (get_or ns 0 0)).fields ns)) c.answer_size-size.ensures c.if-out-size.true) (record { value = c.refused.ensures; out_after = refl })

pub write_answer-requires : goal.write_answer-requires
write_answer-requires c = omega (arith, c.answer_size-size.ensures, c.if-out-size.false)

pub returns : goal.returns
unfolding returned left
returns c =
    let ns = c.args.answer.now in
    let room = length c.args.out.now in
    rw (told_into room ns c.if-answer-eq3.false, into_done room (bytes_of ((answer (get_or ns 0 0)).fields ns)) c.answer_size-size.ensures c.if-out-size.false) (record { value = c.done.ensures; out_after = c.write_answer.ensures })

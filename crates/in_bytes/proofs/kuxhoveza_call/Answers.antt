use mathlib.Core.Path.{refl}
use lib.ListN.{length}
use Rattle.in_bytes.specs.Boundary.{returned, left, decide}
use Rattle.in_bytes.proofs.DecideLaws.{told_said, told_unread}
use Rattle.in_bytes.proofs.kuxhoveza_call.Goals as goal

pub returns-then-decide : goal.returns-then-decide
returns-then-decide c =
    let d = c.decide.ensures in
    let w = c.answered.ensures in
    rw (← told_said (length c.args.out.now) (decide c.args.bytes.now) _ d.value d.answer_after c.if-decide.true) (record { value = w.value; out_after = w.out_after; of_64_bits = d.of_64_bits })

pub returns : goal.returns
unfolding returned left
returns c =
    let d = c.decide.ensures in
    rw (told_unread (length c.args.out.now) (decide c.args.bytes.now) d.value c.if-decide.false) (record { value = c.refused.ensures; out_after = refl; of_64_bits = d.of_64_bits })

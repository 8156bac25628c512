use mathlib.Core.Path.{refl}
use lib.ListN.{length}
use borrow.Author.Tests.{ne_eqb}
use Rattle.laws.specs.Bool.{when◌then◌else◌}
use Rattle.workflow.specs.Layout.{numbers as sheet_length}
use Rattle.in_bytes.specs.Boundary.{returned, left, decide_on, call_bytes_on}
use Rattle.in_bytes.proofs.DecideLaws.{on_told, told_said, told_unread}
use Rattle.in_bytes.proofs.kuxhoveza_call_on.Goals as goal

pub returns-then-sheet_len-ne-NUMBERS : goal.returns-then-sheet_len-ne-NUMBERS
unfolding call_bytes_on returned left when◌then◌else◌
returns-then-sheet_len-ne-NUMBERS c = rw (ne_eqb c.args.sheet_len sheet_length c.if-sheet_len-ne-NUMBERS.true) (record { value = c.receipt.ensures; out_after = refl; of_64_bits = λ e. absurd (c.if-sheet_len-ne-NUMBERS.true e) })

pub returns-then-decide_on : goal.returns-then-decide_on
returns-then-decide_on c =
    let a = c.args in
    let d = c.decide_on.ensures in
    let w = c.answered.ensures in
    rw (on_told a.bytes.now a.sheet.now a.sheet_len (length a.out.now) c.if-sheet_len-ne-NUMBERS.false, ← told_said (length a.out.now) (decide_on a.sheet.now a.bytes.now) _ d.value d.answer_after c.if-decide_on.true)
    (record { value = w.value; out_after = w.out_after; of_64_bits = λ _. d.of_64_bits })

pub returns : goal.returns
unfolding returned left
returns c =
    let a = c.args in
    let d = c.decide_on.ensures in
    rw (on_told a.bytes.now a.sheet.now a.sheet_len (length a.out.now) c.if-sheet_len-ne-NUMBERS.false, told_unread (length a.out.now) (decide_on a.sheet.now a.bytes.now) d.value c.if-decide_on.false)
    (record { value = c.refused.ensures; out_after = refl; of_64_bits = λ _. d.of_64_bits })

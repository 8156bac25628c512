use native.Mathlib.Omega.{arith}
use mathlib.Core.Path.{sym, ◌∙◌}
use Rattle.kernel.specs.DriveLaws.{note_room, ending_room, counted, driving_next, left_less, few_left}
use Rattle.kernel.proofs.DriveEnd.{driving_ends}
use Rattle.kernel.proofs.drive.run.Goals as goal

pub add-requires : goal.add-requires
add-requires c = (omega arith, note_room _ _ _ _ _ c.loop-microsteps.invariant c.if-limits-microsteps.false)

pub add-requires-in-loop-microsteps : goal.add-requires-in-loop-microsteps
add-requires-in-loop-microsteps c = (omega arith, ending_room _ _ _ _ _ c.loop-microsteps.invariant c.if-limits-microsteps.false)

pub decide-requires-clause-signal_count_bound : goal.decide-requires-clause-signal_count_bound
decide-requires-clause-signal_count_bound c =
    let says = counted _ _ _ _ _ c.loop-microsteps.invariant c.if-limits-microsteps.false c.add.ensures c.add-in-loop-microsteps.ensures c.operations_of-operations.ensures.value c.operations_of-operations.ensures.upper_bound in
    few_left _ _ _ _ _ says

pub returns-then-is_over : goal.returns-then-is_over
returns-then-is_over c =
    let says = counted _ _ _ _ _ c.loop-microsteps.invariant c.if-limits-microsteps.false c.add.ensures c.add-in-loop-microsteps.ensures c.operations_of-operations.ensures.value c.operations_of-operations.ensures.upper_bound in
    rw (c.decide.ensures says.ns says.es says.notes_are says.endings_are, c.answer_of-answer.ensures) (driving_ends _ _ _ _ _ says (sym c.is_over.ensures ∙ c.if-is_over.true))

pub loop-microsteps-smaller : goal.loop-microsteps-smaller
loop-microsteps-smaller c =
    let says = counted _ _ _ _ _ c.loop-microsteps.invariant c.if-limits-microsteps.false c.add.ensures c.add-in-loop-microsteps.ensures c.operations_of-operations.ensures.value c.operations_of-operations.ensures.upper_bound in
    left_less _ _ _ _ _ says _ (c.take_and_enter-v.ensures ∙ rw c.arrival.ensures) (sym c.is_over.ensures ∙ c.if-is_over.false)

pub loop-microsteps-preserved : goal.loop-microsteps-preserved
loop-microsteps-preserved c =
    let says = counted _ _ _ _ _ c.loop-microsteps.invariant c.if-limits-microsteps.false c.add.ensures c.add-in-loop-microsteps.ensures c.operations_of-operations.ensures.value c.operations_of-operations.ensures.upper_bound in
    driving_next _ _ _ _ _ says _ (c.take_and_enter-v.ensures ∙ rw c.arrival.ensures) (sym c.is_over.ensures ∙ c.if-is_over.false)

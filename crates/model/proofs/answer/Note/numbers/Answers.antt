use Rattle.model.specs.Answers.{note_numbers}
use Rattle.model.proofs.answer.Note.numbers.Goals as goal

pub returns-in-Ignored : goal.returns-in-Ignored
unfolding note_numbers
returns-in-Ignored c = simp (c.in-Ignored.is, c.from-at.ensures, c.from.ensures)

pub returns-in-Stale : goal.returns-in-Stale
unfolding note_numbers
returns-in-Stale c = simp (c.in-Stale.is, c.from-at.ensures, c.from-in-Stale.ensures, c.from-in-Stale-2.ensures, c.from-in-Stale-3.ensures)

pub returns-in-NotApplicable : goal.returns-in-NotApplicable
unfolding note_numbers
returns-in-NotApplicable c = simp (c.in-NotApplicable.is, c.from-at.ensures, c.from-in-NotApplicable.ensures, c.from-in-NotApplicable-2.ensures, c.from-in-NotApplicable-3.ensures, c.number.ensures)

pub returns-in-Overflow : goal.returns-in-Overflow
unfolding note_numbers
returns-in-Overflow c = simp (c.in-Overflow.is, c.from-at.ensures, c.from-in-Overflow.ensures)

pub returns-in-Unrouted : goal.returns-in-Unrouted
unfolding note_numbers
returns-in-Unrouted c = simp (c.in-Unrouted.is, c.from-at.ensures, c.from-in-Unrouted.ensures, c.from-in-Unrouted-2.ensures)

pub returns-in-Unknown : goal.returns-in-Unknown
unfolding note_numbers
returns-in-Unknown c = simp (c.in-Unknown.is, c.from-at.ensures, c.from-in-Unknown.ensures, c.from-in-Unknown-2.ensures, c.from-in-Unknown-3.ensures)

pub returns-in-Stuck : goal.returns-in-Stuck
unfolding note_numbers
returns-in-Stuck c = simp (c.in-Stuck.is, c.from-at.ensures, c.from-in-Stuck.ensures, c.from-in-Stuck-2.ensures, c.from-in-Stuck-3.ensures)

pub returns-in-Retry : goal.returns-in-Retry
unfolding note_numbers
returns-in-Retry c = simp (c.in-Retry.is, c.from-at.ensures, c.from-in-Retry.ensures)

pub returns-in-Exhausted : goal.returns-in-Exhausted
unfolding note_numbers
returns-in-Exhausted c = simp (c.in-Exhausted.is, c.from-at.ensures, c.from-in-Exhausted.ensures, c.from-in-Exhausted-2.ensures)

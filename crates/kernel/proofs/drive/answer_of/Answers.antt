use Rattle.kernel.specs.DriveLaws.{answer_of, answer_else}
use Rattle.kernel.proofs.drive.answer_of.Goals as goal

pub returns-in-Rest : goal.returns-in-Rest
unfolding answer_of
returns-in-Rest c = simp (c.in-Rest.is, ← c.rest_answer.ensures)

pub returns-in-Consume : goal.returns-in-Consume
unfolding answer_of
returns-in-Consume c = simp (c.in-Consume.is, ← c.rest_answer-in-Consume.ensures)

pub returns-in-Wants : goal.returns-in-Wants
unfolding answer_of
returns-in-Wants c = simp c.in-Wants.is

pub returns-in-Refuse : goal.returns-in-Refuse
unfolding answer_of
returns-in-Refuse c = simp c.in-Refuse.is

pub returns-in_default : goal.returns-in_default
returns-in_default c = answer_else c.args.next _ _ _ _ c.in_default.not-Rest c.in_default.not-Consume c.in_default.not-Wants c.in_default.not-Refuse

use mathlib.Core.Path.{sym, ◌∙◌}
use Rattle.laws.specs.Bool.{when◌then◌else◌}
use Rattle.kernel.specs.Decision.{decision_of}
use Rattle.kernel.specs.DriveLaws.{decide}
use Rattle.kernel.proofs.drive.decide.Goals as goal

pub returns-then-leaves_over : goal.returns-then-leaves_over
unfolding decide when◌then◌else◌
returns-then-leaves_over c = λ ns es noted ended. simp (c.in-Next.is, sym c.leaves_over.ensures ∙ c.if-leaves_over.true, c.close.ensures ns es noted ended)

pub returns-else-leaves_over : goal.returns-else-leaves_over
unfolding decide when◌then◌else◌
returns-else-leaves_over c = λ ns es noted ended. simp (c.in-Next.is, sym c.leaves_over.ensures ∙ c.if-leaves_over.false, noted, ended)

pub returns-in-Wants : goal.returns-in-Wants
unfolding decide decision_of
returns-in-Wants c = λ ns es noted ended. simp (c.in-Wants.is, c.bare.ensures)

pub returns-in-Refused : goal.returns-in-Refused
unfolding decide
returns-in-Refused c = λ ns es noted ended. simp (c.in-Refused.is, ← c.refusal.ensures)

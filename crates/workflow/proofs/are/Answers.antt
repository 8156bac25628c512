use borrow.Author.Tests.{eq-eqb, ne_eqb}
use Rattle.workflow.specs.Lookup.{are}
use Rattle.laws.specs.Bool.{◌and◌}
use Rattle.workflow.proofs.are.Goals as goal

pub returns-then-a-x : goal.returns-then-a-x
unfolding are ◌and◌
returns-then-a-x c = simp (eq-eqb _ _ c.if-a-x.true)

pub returns-else-a-x : goal.returns-else-a-x
unfolding are ◌and◌
returns-else-a-x c = simp (ne_eqb _ _ c.if-a-x.false)

use borrow.Author.Tests.{eq-eqb, ne_eqb, le-leb, lt-leb}
use Rattle.laws.specs.Bool.{◌and◌, ◌or◌}
use Rattle.graph.specs.RulesLaws.{misroutes}
use Rattle.graph.specs.Rules.{breaks_8}
use Rattle.graph.proofs.rules.At.breaks_8.Goals as goal

pub returns-then-self-x : goal.returns-then-self-x
unfolding breaks_8 ◌and◌ ◌or◌
returns-then-self-x c = simp (← c.row-x.ensures, eq-eqb _ _ c.if-x-eq-ACTIVITY.true, le-leb _ _ c.if-self-x.true)

pub returns-else-self-x : goal.returns-else-self-x
unfolding breaks_8 misroutes ◌and◌ ◌or◌
returns-else-self-x c = simp (← c.row-x.ensures, eq-eqb _ _ c.if-x-eq-ACTIVITY.true, lt-leb _ _ c.if-self-x.false, ← c.misroutes.ensures)

pub returns-else-x-eq-ACTIVITY : goal.returns-else-x-eq-ACTIVITY
unfolding breaks_8 ◌and◌
returns-else-x-eq-ACTIVITY c = simp (← c.row-x.ensures, ne_eqb _ _ c.if-x-eq-ACTIVITY.false)

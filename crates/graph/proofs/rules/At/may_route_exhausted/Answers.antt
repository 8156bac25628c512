use Rattle.laws.specs.Bool.{◌and◌}
use Rattle.graph.proofs.rules.At.may_route_exhausted.Goals as goal

pub returns-then-is_0_2 : goal.returns-then-is_0_2
unfolding ◌and◌
returns-then-is_0_2 c = simp (← c.is_0_2.ensures, c.if-is_0_2.true, ← c.row.ensures)

pub returns-else-is_0_2 : goal.returns-else-is_0_2
unfolding ◌and◌
returns-else-is_0_2 c = simp (← c.is_0_2.ensures, c.if-is_0_2.false)

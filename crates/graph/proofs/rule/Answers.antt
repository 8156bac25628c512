use Rattle.laws.specs.Bool.{when◌then◌else◌}
use Rattle.graph.proofs.rule.Goals as goal

pub returns-then-holds : goal.returns-then-holds
unfolding when◌then◌else◌
returns-then-holds g c = simp c.if-holds.true

pub returns : goal.returns
unfolding when◌then◌else◌
returns g c = simp c.if-holds.false

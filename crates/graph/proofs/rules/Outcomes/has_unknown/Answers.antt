use Rattle.laws.specs.Bool.{◌or◌}
use Rattle.graph.proofs.rules.Outcomes.has_unknown.Goals as goal

pub returns : goal.returns
unfolding ◌or◌
returns c = rw (← c.marks-known.ensures) c.has_unmarked.ensures

use Rattle.laws.specs.Bool.{◌and◌, ◌or◌}
use Rattle.graph.proofs.form.routes_at.Goals as goal

pub returns : goal.returns
unfolding ◌and◌ ◌or◌
returns c = simp (← c.node_of-x.ensures)

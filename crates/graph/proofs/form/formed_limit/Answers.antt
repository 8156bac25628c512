use Rattle.laws.specs.Bool.{strict_and, and_left}
use Rattle.graph.specs.Form.{formed_limit}
use Rattle.graph.proofs.form.formed_limit.Goals as goal

pub returns : goal.returns
unfolding formed_limit
returns c = rw (← c.routes_at.ensures, ← c.node_of.ensures) (simp and_left (simp strict_and))

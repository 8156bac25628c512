use Rattle.laws.specs.Bool.{strict_and}
use Rattle.graph.specs.Form.{formed_route}
use Rattle.graph.proofs.form.formed_route.Goals as goal

pub returns : goal.returns
unfolding formed_route
returns c = rw (← c.routes_at.ensures) (simp strict_and)

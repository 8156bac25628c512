use borrow.Author.Tests.{lt-ltb}
use Rattle.workflow.specs.View.{route_at}
use Rattle.laws.specs.Bool.{when◌then◌else◌}
use Rattle.workflow.proofs.route_at.Goals as goal

pub returns : goal.returns
unfolding route_at when◌then◌else◌
returns c = simp (lt-ltb _ _ c.requires)

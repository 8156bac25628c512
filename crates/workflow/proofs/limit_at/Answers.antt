use borrow.Author.Tests.{lt-ltb}
use Rattle.workflow.specs.View.{limit_at}
use Rattle.laws.specs.Bool.{when◌then◌else◌}
use Rattle.workflow.proofs.limit_at.Goals as goal

pub returns : goal.returns
unfolding limit_at when◌then◌else◌
returns c = simp (lt-ltb _ _ c.requires)

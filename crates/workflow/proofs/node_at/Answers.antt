use borrow.Author.Tests.{le-ltb, lt-ltb}
use Rattle.workflow.specs.View.{node_at}
use Rattle.laws.specs.Bool.{when◌then◌else◌}
use Rattle.workflow.proofs.node_at.Goals as goal

pub returns-then-i-lt-NODES : goal.returns-then-i-lt-NODES
unfolding node_at when◌then◌else◌
returns-then-i-lt-NODES c = simp (lt-ltb _ _ c.if-i-lt-NODES.true)

pub returns-else-i-lt-NODES : goal.returns-else-i-lt-NODES
unfolding node_at when◌then◌else◌
returns-else-i-lt-NODES c = simp (le-ltb _ _ c.if-i-lt-NODES.false, ← c.no_node.ensures)

use mathlib.Core.Path.{◌≡◌}
use Rattle.laws.specs.Rows.{span}
use Rattle.workflow.specs.Layout.{node_count}
use Rattle.workflow.specs.View.{workflow, at}
use Rattle.graph.specs.Sets.{with_ends}
use Rattle.graph.specs.ReachLaws.{ends}
use Rattle.graph.proofs.reach.Ruled.ends.Given as goal

-- the set with the ends among the nodes from i on is the whole answer
abbrev pub invariant-loop-node : goal.invariant-loop-node
invariant-loop-node l = with_ends (workflow l.self.sheet.now) (span (λ n. n) l.node (at l.self.sheet.now node_count)) l.set ≡ ends (workflow l.self.sheet.now)

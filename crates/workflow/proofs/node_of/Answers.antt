use native.Mathlib.Omega.{arith}
use mathlib.Core.Path.{◌∙◌}
use Rattle.laws.specs.Rows.{at_span, past_span}
use Rattle.workflow.specs.Lookup.{node_of}
use Rattle.workflow.proofs.node_of.Goals as goal

pub returns-then-n-capped : goal.returns-then-n-capped
unfolding node_of
returns-then-n-capped c = at_span _ _ _ _ (omega arith) c.node_at.ensures

pub returns-else-n-capped : goal.returns-else-n-capped
unfolding node_of
returns-else-n-capped c = c.no_node.ensures ∙ past_span _ _ _ _ (omega arith)

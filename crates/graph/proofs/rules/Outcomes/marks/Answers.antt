use native.Mathlib.Omega.{arith}
use Rattle.graph.specs.RulesLaws.{marking_start, marking_next, marking_end}
use Rattle.graph.proofs.rules.Outcomes.marks.Goals as goal

pub loop-outcome-init : goal.loop-outcome-init
loop-outcome-init c = marking_start

pub loop-outcome-preserved : goal.loop-outcome-preserved
loop-outcome-preserved c = marking_next c.loop-outcome.invariant (omega arith)

pub returns : goal.returns
returns c = marking_end c.loop-outcome.invariant (omega arith)

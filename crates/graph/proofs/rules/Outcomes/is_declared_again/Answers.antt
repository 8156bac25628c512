use native.Mathlib.Omega.{arith}
use Rattle.graph.specs.RulesLaws.{again_hit, again_miss, again_end}
use Rattle.graph.proofs.rules.Outcomes.is_declared_again.Goals as goal

pub returns-then-m-o : goal.returns-then-m-o
returns-then-m-o c = again_hit c.loop-outcome.invariant (omega arith) c.if-m-o.true

pub loop-outcome-preserved : goal.loop-outcome-preserved
loop-outcome-preserved c = again_miss c.loop-outcome.invariant (omega arith) c.if-m-o.false

pub returns : goal.returns
returns c = again_end c.loop-outcome.invariant (omega arith)

use Rattle.std.proofs.Common.{rules}
use Rattle.laws.specs.Bool.{◌and◌}
use Rattle.laws.specs.Chains.{some_any}
use Rattle.workflow.specs.Code.{exhausted}
use Rattle.graph.specs.RulesLaws.{routed_among, routes_exhausted}
use Rattle.graph.proofs.rules.At.routes_exhausted.Goals as goal

pub returns-then-contains : goal.returns-then-contains
unfolding routes_exhausted ◌and◌
returns-then-contains c = rw (routed_among c.args.self.now.of_node exhausted, ← some_any, ← c.outcomes.ensures) (search rules)

pub returns-else-contains : goal.returns-else-contains
unfolding routes_exhausted ◌and◌
returns-else-contains c = rw (routed_among c.args.self.now.of_node exhausted, ← some_any, ← c.outcomes.ensures) (search rules)

use Rattle.std.proofs.Common.{arith}
use Rattle.graph.specs.RulesLaws.{routes_within, routes_outcomes}
use Rattle.graph.proofs.rules.At.outcomes.Goals as goal

pub numbers-requires : goal.numbers-requires
numbers-requires c = routes_within c.args.self.now.of_node _ (omega arith)

pub invariant_of-result : goal.invariant_of-result
invariant_of-result c = record { small = rw c.numbers.ensures (routes_outcomes c.args.self.now.of_node) }

use Rattle.std.proofs.Common.{rules, arith}
use Rattle.laws.specs.Bool.{◌or◌}
use Rattle.graph.specs.RulesLaws.{actions_rise, the_group, declared_within, declared_outcomes, misroutes_at}
use Rattle.graph.proofs.rules.At.misroutes.Goals as goal

pub of-rows-requires : goal.of-rows-requires
of-rows-requires c = rw c.capped-k.ensures (actions_rise _ c.args.self.now.of_node.formed)

pub numbers-requires : goal.numbers-requires
numbers-requires c = declared_within (the_group c.args.self.now.of_node.formed c.capped-k.ensures c.of-rows.ensures) _ (omega arith)

pub invariant_of-declared : goal.invariant_of-declared
invariant_of-declared c = record { small = rw c.numbers.ensures (declared_outcomes (the_group c.args.self.now.of_node.formed c.capped-k.ensures c.of-rows.ensures)) }

pub returns-then-has_unknown : goal.returns-then-has_unknown
unfolding ◌or◌
returns-then-has_unknown c = rw (misroutes_at c.args.self.now.of_node (the_group c.args.self.now.of_node.formed c.capped-k.ensures c.of-rows.ensures), ← c.numbers.ensures, ← c.outcomes-routed.ensures) (search rules)

pub returns-else-has_unknown : goal.returns-else-has_unknown
unfolding ◌or◌
returns-else-has_unknown c = rw (misroutes_at c.args.self.now.of_node (the_group c.args.self.now.of_node.formed c.capped-k.ensures c.of-rows.ensures), ← c.numbers.ensures, ← c.outcomes-routed.ensures) (search rules)

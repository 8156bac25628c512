use Rattle.std.proofs.Common.{rules, arith}
use Rattle.laws.specs.Bool.{◌or◌}
use Rattle.graph.specs.RulesLaws.{declared_within, declared_outcomes, breaks_7_at}
use Rattle.graph.proofs.rules.breaks_7.Goals as goal

pub numbers-requires : goal.numbers-requires
numbers-requires c = declared_within c.requires _ (omega arith)

pub invariant_of-declared : goal.invariant_of-declared
invariant_of-declared c = record { small = rw c.numbers.ensures (declared_outcomes c.requires) }

pub returns-then-is_declared_again : goal.returns-then-is_declared_again
unfolding ◌or◌
returns-then-is_declared_again c = rw (breaks_7_at c.requires) (search rules)

pub returns-else-is_declared_again : goal.returns-else-is_declared_again
unfolding ◌or◌
returns-else-is_declared_again c = rw (breaks_7_at c.requires) (search rules)

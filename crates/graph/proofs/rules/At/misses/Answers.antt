use Rattle.std.proofs.Common.{arith, sym, ◌∙◌}
use Rattle.graph.specs.RulesLaws.{limits_within, limits_outcomes, exhausted_unrouted, misses_at}
use Rattle.graph.proofs.rules.At.misses.Goals as goal

pub returns-then-not-routed : goal.returns-then-not-routed
returns-then-not-routed c = exhausted_unrouted c.args.self.now.of_node (rw c.outcomes.ensures at c.marks-routed.ensures) c.if-not-routed.true

pub numbers-requires : goal.numbers-requires
numbers-requires c = limits_within c.requires _ (omega arith)

pub numbers-requires-2 : goal.numbers-requires-2
numbers-requires-2 c = limits_within c.requires _ (omega arith)

pub invariant_of-limited : goal.invariant_of-limited
invariant_of-limited c = record { small = rw c.numbers.ensures (limits_outcomes c.requires) }

pub returns : goal.returns
returns c = rw (c.numbers.ensures, c.numbers-2.ensures) at c.has_bad_limit.ensures ∙ sym (misses_at c.args.self.now.of_node (rw c.outcomes.ensures at c.marks-routed.ensures) c.requires c.if-not-routed.false)

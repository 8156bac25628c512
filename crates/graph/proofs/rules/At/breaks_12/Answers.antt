use mathlib.Core.Path.{sym, ◌∙◌}
use borrow.Author.Tests.{eq-eqb, ne_eqb}
use Rattle.laws.specs.Bool.{◌and◌, ◌or◌}
use Rattle.graph.specs.RulesLaws.{limits_rise, the_group, limits_any, misses}
use Rattle.graph.specs.Rules.{breaks_12}
use Rattle.graph.proofs.rules.At.breaks_12.Goals as goal

pub returns-then-row-ne1 : goal.returns-then-row-ne1
unfolding breaks_12 ◌and◌
returns-then-row-ne1 c = simp (← c.row.ensures, ne_eqb _ _ c.if-row-ne1.true)

pub returns-then-not-is_0_2 : goal.returns-then-not-is_0_2
unfolding breaks_12 ◌and◌ ◌or◌
returns-then-not-is_0_2 c = simp (← c.row.ensures, eq-eqb _ _ c.if-row-ne1.false, sym c.is_0_2.ensures ∙ c.if-not-is_0_2.true)

pub of-limits-requires : goal.of-limits-requires
of-limits-requires c = rw c.capped-k.ensures (limits_rise _ c.args.self.now.of_node.formed)

pub returns-then-is_empty : goal.returns-then-is_empty
unfolding breaks_12 ◌and◌ ◌or◌
returns-then-is_empty c = simp (← c.row.ensures, eq-eqb _ _ c.if-row-ne1.false, sym c.is_0_2.ensures ∙ c.if-not-is_0_2.false, limits_any (the_group c.args.self.now.of_node.formed c.capped-k.ensures c.of-limits.ensures), ← c.is_empty.ensures, c.if-is_empty.true)

pub returns-else-is_empty : goal.returns-else-is_empty
unfolding breaks_12 misses ◌and◌ ◌or◌
returns-else-is_empty c = simp (← c.row.ensures, eq-eqb _ _ c.if-row-ne1.false, sym c.is_0_2.ensures ∙ c.if-not-is_0_2.false, limits_any (the_group c.args.self.now.of_node.formed c.capped-k.ensures c.of-limits.ensures), ← c.is_empty.ensures, c.if-is_empty.false, ← c.misses.ensures)

use Rattle.std.proofs.Common.{rules, ◌≡◌}
use Rattle.laws.specs.Bool.{◌and◌}
use Rattle.workflow.specs.Layout.{max_visits_per_node, max_activations}
use Rattle.workflow.specs.View.{at}
use Rattle.graph.specs.Rules.{within}
use Rattle.graph.proofs.rules.Formed.rule_6.Goals as goal

pub returns : goal.returns
unfolding ◌and◌
returns c =
    let h : c.if-is_within.holds ≡ (within c.args.c.visits (at c.args.self.now.sheet.now max_visits_per_node) and within c.args.c.activations (at c.args.self.now.sheet.now max_activations)) = search rules in
    rw (c.rule.ensures, h)

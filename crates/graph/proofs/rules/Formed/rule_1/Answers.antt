use Rattle.std.proofs.Common.{rules, ◌≡◌, eqb}
use Rattle.laws.specs.Bool.{◌or◌}
use Rattle.workflow.specs.Code.{format_0_1}
use Rattle.workflow.specs.Layout.{format}
use Rattle.workflow.specs.View.{workflow, at}
use Rattle.workflow.specs.Lookup.{is_0_2}
use Rattle.graph.proofs.rules.Formed.rule_1.Goals as goal

pub returns : goal.returns
unfolding ◌or◌
returns c =
    let h : c.if-self-eq-FORMAT_0_1.holds ≡ (eqb (at c.args.self.now.sheet.now format) format_0_1 or is_0_2 (workflow c.args.self.now.sheet.now)) = search rules in
    rw (c.rule.ensures, h)

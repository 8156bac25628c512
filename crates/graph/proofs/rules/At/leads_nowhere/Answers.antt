use Rattle.std.proofs.Common.{rules, leb, arith, sym, ◌∙◌}
use borrow.Author.Tests.{tests}
use Rattle.std.proofs.lemmas.Iterator.{YieldsList-from_slice}
use Rattle.std.proofs.lemmas.Iterator.Search.{any_from_yields_List}
use Rattle.laws.specs.Chains.{some_any}
use Rattle.workflow.specs.Layout as layout
use Rattle.workflow.specs.View.{at}
use Rattle.graph.specs.RulesLaws.{routes_within, nowhere_among}
use Rattle.graph.proofs.rules.At.leads_nowhere.Goals as goal

pub numbers-targets-requires : goal.numbers-targets-requires
numbers-targets-requires c = routes_within c.args.self.now.of_node _ (omega arith)

pub returns : goal.returns
returns c =
    any_from_yields_List (leb (at c.args.self.now.sheet.now layout.node_count)) _ _ _ c.any.ensures.ran (YieldsList-from_slice c.numbers-targets.result.now cc) (λ x b q k. search (rules, tests)) ∙ some_any (leb (at c.args.self.now.sheet.now layout.node_count)) _
    ∙ rw c.numbers-targets.ensures (sym (nowhere_among c.args.self.now.of_node))

use Rattle.std.proofs.Common.{rules, arith, sym, ◌∙◌, ◌≡◌, eqb}
use borrow.Author.Tests.{tests}
use Rattle.std.proofs.lemmas.Iterator.{serves_from_Range}
use Rattle.laws.specs.Chains.{range_first}
use Rattle.workflow.specs.Layout.{node_count, node_has_params}
use Rattle.workflow.specs.View.{workflow, at, cell}
use Rattle.graph.specs.SearchLaws.{parts_of}
use Rattle.graph.specs.Rules.{breaks_1}
use Rattle.graph.specs.RulesLaws.{with_params, no_params}
use Rattle.graph.proofs.rules.Formed.lowest_with_params.Goals as goal

pub returns-then-is_0_2 : goal.returns-then-is_0_2
returns-then-is_0_2 c = no_params c.args.self.now.sheet.now (sym c.is_0_2.ensures ∙ c.if-is_0_2.true)

pub find-requires-clause-callable : goal.find-requires-clause-callable
find-requires-clause-callable c =
    let few = (parts_of _ c.args.self.now.formed).few_nodes in
    serves_from_Range (λ x q k. search rules) (λ x a b. search rules)

pub returns : goal.returns
returns c =
    let few = (parts_of _ c.args.self.now.formed).few_nodes in
    let f = sym c.is_0_2.ensures ∙ c.if-is_0_2.false in
    range_first (breaks_1 (workflow c.args.self.now.sheet.now)) (at c.args.self.now.sheet.now node_count) _ _ c.find.result c.find.ensures.ran
    (λ x b q k. (search rules, λ h. let e : b ≡ eqb (cell c.args.self.now.sheet.now node_has_params x) 1 = search (rules, tests) in e ∙ with_params c.args.self.now.sheet.now x (omega arith) f))

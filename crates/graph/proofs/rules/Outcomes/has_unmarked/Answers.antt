use Rattle.std.proofs.Common.{rules, ◌∙◌}
use borrow.Author.Tests.{tests}
use Rattle.std.proofs.lemmas.Iterator.{YieldsList-from_slice}
use Rattle.std.proofs.lemmas.Iterator.Search.{any_from_yields_List}
use Rattle.laws.specs.Chains.{some_any}
use Rattle.graph.specs.RulesLaws.{unmarked}
use Rattle.graph.proofs.rules.Outcomes.has_unmarked.Goals as goal

pub returns : goal.returns
returns c = any_from_yields_List (unmarked c.args.m.now) _ _ _ c.any.ensures.ran (YieldsList-from_slice c.args.self.now.numbers.now cc) (λ x b q k. search (rules, tests)) ∙ some_any _ _

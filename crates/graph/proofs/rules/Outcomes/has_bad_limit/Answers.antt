use Rattle.std.proofs.Common.{rules, ◌∙◌}
use borrow.Author.Tests.{tests}
use Rattle.std.proofs.lemmas.Iterator.{YieldsList-from_slice, YieldsList-from_zip}
use Rattle.std.proofs.lemmas.Iterator.Search.{any_from_yields_List}
use Rattle.laws.specs.Bool.{◌or◌}
use Rattle.laws.specs.Chains.{some_any}
use Rattle.graph.specs.RulesLaws.{bad_row}
use Rattle.graph.proofs.rules.Outcomes.has_bad_limit.Goals as goal

pub returns : goal.returns
unfolding ◌or◌
returns c = any_from_yields_List {s = c.zip.result} (bad_row c.args.m.now c.args.most) c.any.new.self _ c.any.result c.any.ensures.ran (YieldsList-from_zip (YieldsList-from_slice c.args.self.now.numbers.now cc) (YieldsList-from_slice c.args.limits.now cc)) (λ x b q k. search (rules, tests)) ∙ some_any _ _

use Rattle.std.proofs.Common.{rules, ◌∙◌}
use borrow.Author.Tests.{tests}
use Rattle.std.proofs.lemmas.Iterator.{YieldsList-from_slice}
use Rattle.std.proofs.lemmas.Iterator.Search.{all_from_yields_List}
use Rattle.laws.specs.Chains.{every_all}
use Rattle.workflow.specs.View.{at, column_blank, table_blank}
use Rattle.graph.proofs.form.table_blank.Goals as goal

pub returns : goal.returns
unfolding table_blank
returns c =
    all_from_yields_List (λ column. column_blank c.args.w.now column c.args.room (at c.args.w.now c.args.count)) _ _ _ c.all.ensures.ran (YieldsList-from_slice c.args.columns.now cc) (λ x b q k. search (rules, tests))
    ∙ every_all _ _

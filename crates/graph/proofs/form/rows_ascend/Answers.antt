use Rattle.std.proofs.Common.{rules, ℕ, ◌-◌, ◌∙◌}
use borrow.Author.Tests.{tests}
use Rattle.laws.specs.Chains.{range_all}
use Rattle.workflow.specs.View.{cell}
use Rattle.graph.specs.Form.{ascends}
use Rattle.graph.specs.FormLaws.{rows_ascend, chained_places}
use Rattle.graph.proofs.form.rows_ascend.Goals as goal

pub returns : goal.returns
unfolding rows_ascend
returns c =
    let r = λ (i j : ℕ). ascends (cell c.args.w.now c.args.major i) (cell c.args.w.now c.args.minor i) (cell c.args.w.now c.args.major j) (cell c.args.w.now c.args.minor j) in
    range_all (λ i. r (i - 1) i) 1 _ _ _ _ c.all.ensures.ran (λ x b q k. search (rules, tests)) ∙ chained_places r _

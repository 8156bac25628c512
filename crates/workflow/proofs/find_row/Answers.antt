use Rattle.std.proofs.Common.{rules, ◌∙◌, ◌≡◌}
use Rattle.std.specs.Option.{option_map}
use borrow.Author.Tests.{tests}
use Rattle.laws.specs.Chains.{range_find}
use Rattle.workflow.specs.View.{cell}
use Rattle.workflow.specs.Lookup.{are}
use Rattle.workflow.specs.RowLaws.{find_row}
use Rattle.workflow.proofs.find_row.Goals as goal

pub returns : goal.returns
unfolding find_row
returns c =
    let e = range_find (λ j. are (cell c.args.w.now c.args.major j) (cell c.args.w.now c.args.minor j) c.args.x c.args.y) c.args.count _ _ (cell c.args.w.now c.args.value) c.find.result c.find.ensures.ran (λ x b q k. search (rules, tests)) in
    let m : c.map.result ≡ option_map (cell c.args.w.now c.args.value) c.find.result = search rules in
    m ∙ e

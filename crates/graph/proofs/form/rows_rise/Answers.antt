use Rattle.std.proofs.lemmas.List.Sorted.{non_decreasing_from_is_sorted}
use Rattle.std.proofs.Common.{◌∙◌, arith}
use Rattle.laws.specs.Chains.{column_span}
use Rattle.graph.specs.FormLaws.{rows_rise, sorted_rises}
use Rattle.graph.proofs.form.rows_rise.Goals as goal

pub returns : goal.returns
unfolding rows_rise
returns c = sorted_rises _ _ (non_decreasing_from_is_sorted _ _ c.is_sorted.ensures.cases) ∙ rw (column_span c.args.w.now c.args.key c.args.count (omega arith))

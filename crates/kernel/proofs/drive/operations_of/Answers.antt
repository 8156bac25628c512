use Rattle.std.specs.Prelude.{take}
use Rattle.std.proofs.Common.{rules, ◌∙◌}
use Rattle.std.proofs.lemmas.Iterator.{YieldsList-from_slice, YieldsList-from_map, YieldsList-from_take}
use Rattle.std.proofs.lemmas.Iterator.Consumers.{YieldsList-at, sum_by_from_yields_List}
use Rattle.model.specs.declared.event.Mapping.{Mapping}
use Rattle.kernel.specs.DriveLaws.{operations_sum}
use Rattle.kernel.proofs.drive.operations_of.Goals as goal

pub returns-clause-value : goal.returns-clause-value
returns-clause-value c =
    let answers = c.args.mappings.answers in
    let read = YieldsList-at c.map.ensures.source (YieldsList-from_take c.args.read (YieldsList-from_slice answers (search rules)) (search rules)) in
    sum_by_from_yields_List _ _ c.map.result _ c.sum.ensures.ran (YieldsList-from_map _ (λ (x : Mapping). x.operations) read c.map.ensures.closure (λ x r q k. search rules)) ∙ operations_sum (take c.args.read answers)

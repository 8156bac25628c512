-- The event check: what a call carries beside the sheet and the record.
use Rattle.std.specs.Prelude.{Bool, not, ℕ, take, leb, eqb}
use Rattle.laws.specs.Bool.{◌and◌, ◌or◌}
use Rattle.laws.specs.Every.{every}
use Rattle.model.specs.Code.{largest, run_started, noted, activity_result, invocation_resolved}
use Rattle.model.specs.declared.event.Event.{Event}
use Rattle.model.specs.declared.event.Mappings.{Mappings}

-- 21: sequence or time above 2^63 - 1, over 2 answers, or an unknown kind, status, resolution or kind of answer.
abbrev pub in_range : (first last x : ℕ) → Bool
in_range first last number = leb first number and leb number last

unfoldable pub event_fits : Event → Mappings → Bool
event_fits event mappings =
    leb event.sequence largest
    and leb event.accepted_at largest
    and leb mappings.count 2
    and in_range run_started noted event.kind
    and (not (eqb event.kind activity_result) or in_range 1 4 event.status)
    and (not (eqb event.kind invocation_resolved) or in_range 1 3 event.resolution)
    and every (λ mapping. in_range 1 3 mapping.kind) (take mappings.count mappings.answers)

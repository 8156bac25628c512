-- The run check and the event check by their parts, as the code tests them.
use Rattle.std.specs.Prelude.{Bool, not, ℕ, min, take, eqb, Option}
use Rattle.std.specs.List.{list_all}
use Rattle.laws.specs.Bool.{when◌then◌else◌}
use Rattle.workflow.specs.declared.Node.{Node}
use Rattle.workflow.specs.View.{Workflow}
use Rattle.model.specs.Code.{waiting, stuck}
use Rattle.model.specs.declared.ErrorInfo.{ErrorInfo}
use Rattle.model.specs.declared.State.{State}
use Rattle.model.specs.declared.event.Mapping.{Mapping}
use Rattle.model.specs.declared.event.Mappings.{Mappings}
use Rattle.snapshot.specs.Check.{keeps_error, waits, works}
use Rattle.snapshot.specs.EventCheck.{in_range}

-- Exactly a stuck invocation keeps an error.
abbrev pub error_fits : (phase : ℕ) → Option ErrorInfo → Bool
error_fits p x = when keeps_error x then eqb p stuck else not (eqb p stuck)

-- A node that waits or works.
unfoldable pub invocation_fits : Workflow → Node → State → Bool
invocation_fits f x s = when eqb s.status waiting then waits x s else works f x s

-- The kind of each mapping answer before the count is known.
abbrev pub is_known : Mapping → Bool
is_known x = in_range 1 3 x.kind

abbrev pub answers_fit : Mappings → Bool
answers_fit m = list_all is_known (take (min 2 m.count) m.answers)

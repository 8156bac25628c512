-- A list of calls of the code, read as a list of the definition.
use Rattle.std.specs.List.{filter_map}
use Rattle.std.specs.Prelude.{◌≡◌, List, [], ◌∷◌, ◌++◌, map, take}
use Rattle.workflow.specs.View.{Workflow}
use Rattle.model.specs.declared.answer.Answer as code
use Rattle.kernel.specs.declared.listed.Listed.{Listed}
use Rattle.kernel.specs.declared.Decision.{Decision}
use Rattle.kernel.specs.declared.Call.{Call}
use Rattle.kernel.specs.Call.{Answer, next, wants, refused, Last, transition}
use Rattle.kernel.specs.Decision.{decision_of}
use Rattle.demand3.specs.Demand3.{Entry, standing}

-- One call of the code: the arguments of `transition` beside the sheet, and what it returned.
pub record Made : Type 0 where
  pub given : Last
  pub call : Call
  pub returned : Decision

-- A list that was returned: its rows, as many as are counted.
abbrev pub rows_of : {A : Type 0} → Listed A → List A
rows_of l = filter_map (λ row. row) (take l.count l.rows)

-- What was returned, read as an answer.
abbrev read_by : code.Answer → Decision → Answer
read_by (code.Answer.Next o k) d =
    next (record { state = d.state; order = o; notes = rows_of d.notes; endings = rows_of d.endings; microsteps = k })
read_by (code.Answer.Wants n i b) d = wants n i b d.state
read_by (code.Answer.Refused k i) d = refused k i

abbrev pub read : Decision → Answer
read d = read_by d.answer d

abbrev pub entry : Made → Entry
entry x = record { call = x.call; given = x.given; said = read x.returned }

-- A call after others: it got the record of the last accepted one, or none before the first, and returned what `transition` ensures.
pub record Follows (f : Workflow) (x : Made) (before : List Made) : Type 0 where
  pub given_is : x.given ≡ standing (map entry before)
  pub returned_is : x.returned ≡ decision_of (transition f x.given x.call)

-- The calls so far, newest first.
unfoldable pub Ran : Workflow → List Made → Type 0
Ran f [] = Unit {0}
Ran f (x ∷ h) = Follows f x h × Ran f h

-- their calls, oldest first
unfoldable pub calls : List Made → List Call
calls [] = []
calls (x ∷ h) = calls h ++ (x.call ∷ [])

-- What the code hands back for an answer: the lists in their arrays, where a want has neither list, and a refusal has nothing but its number and item.
use Rattle.std.specs.Prelude.{List, []}
use Rattle.model.specs.declared.State.{State}
use Rattle.model.specs.declared.answer.Note.{Note}
use Rattle.model.specs.declared.answer.Ending.{Ending}
use Rattle.model.specs.declared.answer.Answer as code
use Rattle.model.specs.Record.{fresh}
use Rattle.kernel.specs.declared.Decision.{Decision}
use Rattle.kernel.specs.Call.{Answer, next, wants, refused}
use Rattle.kernel.specs.Listed.{listed}

abbrev pub decision : List Note → List Ending → code.Answer → State → Decision
decision notes endings answer state = record { notes = listed notes; endings = listed endings; answer = answer; state = state }

unfoldable pub decision_of : Answer → Decision
decision_of (next accepted) = decision accepted.notes accepted.endings (code.Answer.Next accepted.order accepted.microsteps) accepted.state
decision_of (wants node field from state) = decision [] [] (code.Answer.Wants node field from) state
decision_of (refused refusal item) = decision [] [] (code.Answer.Refused refusal item) (fresh 0)

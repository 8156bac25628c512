-- Entering a node: what an entry makes of a record.
use Rattle.std.specs.Prelude.{◌≡◌, None, Result, Ok, Err, ℕ}
use Rattle.workflow.specs.View.{Workflow, workflow}
use Rattle.model.specs.Code.{run_failed}
use Rattle.model.specs.declared.Output.{Output}
use Rattle.model.specs.declared.State.{State}
use Rattle.model.specs.declared.event.Mappings.{Mappings}
use Rattle.model.specs.declared.enter.Entry.{Entry}
use Rattle.model.specs.declared.enter.Entering.{Entering}
use Rattle.model.specs.declared.enter.Standing.{Standing}
use Rattle.model.specs.declared.enter.Standing.TheVariants.{Unmoved, Placed, Finished}
use Rattle.model.specs.declared.moves.Next.{Next}
use Rattle.model.specs.declared.moves.Next.TheVariants.{Rest, Enter, Take, Consume, Wants, Refuse}
use Rattle.model.specs.declared.moves.Move.{Move}
use Rattle.model.specs.Record.{placed, finished}
use Rattle.model.specs.Step.{still, error, enter}

-- THE ENTRIES, as the code makes them.
abbrev pub staying : Next → Entry
staying next = record { standing = Unmoved; next = next; order = None; read = 0 }

abbrev pub finishing : (status : ℕ) → Output → (read : ℕ) → Entry
finishing status output read = record { standing = Finished status output; next = Rest; order = None; read = read }

abbrev pub failing : (code node detail read : ℕ) → Entry
failing code node detail read = finishing run_failed (Output.Error (error code node detail)) read

-- WHAT AN ENTRY MAKES OF A RECORD. Where the run stands, and its result.
abbrev pub settled : State → Standing → State
settled s Unmoved = s
settled s (Placed k p v) = placed s k p v
settled s (Finished k x) = finished s k (record { output = x })

-- The move.
abbrev pub made : State → Entry → Move
made s e =
    record {
      state = settled s e.standing;
      next = e.next;
      note = None;
      ending = None;
      order = e.order;
      read = e.read;
    }

-- The entry is what the rule makes of the run whose record has counted it.
abbrev pub Enters : Entering → Entry → (rule : Workflow → State → (node from : ℕ) → Mappings → Move) → Type 0
Enters x e rule = made x.state.now e ≡ rule (workflow x.sheet.now) x.state.now x.node x.from x.mappings.now

-- A mapping's value is gone on with, or there is an entry without one.
abbrev pub goes_on : State → Result ℕ Entry → (ℕ → Move) → Move
goes_on s (Ok x) k = k x
goes_on s (Err e) k = made s e

-- No node comes next.
abbrev pub NoNode : Next → Type 0
NoNode x = (n b : ℕ) → x ≡ Enter n b → ⊥

-- A node that comes next is entered; else the record is handed back as it is.
unfoldable pub entering : Workflow → State → Next → Mappings → Move
entering f s (Enter n b) m = enter f s n b m
entering f s Rest m = still s Rest
entering f s Take m = still s Take
entering f s Consume m = still s Consume
entering f s (Wants n i b) m = still s (Wants n i b)
entering f s (Refuse x) m = still s (Refuse x)

-- A receipt (`receipt`, Host) as the code works it out: why what is lent gets no answer, and its number.
use Rattle.std.specs.Prelude.{not, List, ℕ, Result, Ok, Err}
use Rattle.laws.specs.Bool.{when◌then◌else◌, ◌and◌}
use Rattle.host.specs.declared.Fault.{Fault}
use Rattle.host.specs.Layout as layout
use Rattle.host.specs.Read.{has_record, record_fits, call_fits}

abbrev pub fault_number : Fault → ℕ
fault_number Fault.ShortBuffer = layout.short_buffer
fault_number Fault.BadCall = layout.bad_call
fault_number Fault.BadRecord = layout.bad_record
fault_number Fault.SheetLength = layout.bad_sheet_length
fault_number Fault.CallLength = layout.bad_call_length
fault_number Fault.RecordLength = layout.bad_record_length

abbrev pub outcome_number : Result (Unit {0}) Fault → ℕ
outcome_number (Ok done) = layout.written
outcome_number (Err fault) = fault_number fault

-- What the numbers say.
unfoldable pub by_numbers : (call given : List ℕ) → Result (Unit {0}) Fault
by_numbers call given =
    when not (call_fits call) then Err Fault.BadCall else
    when has_record call and not (record_fits given) then Err Fault.BadRecord else Ok tt

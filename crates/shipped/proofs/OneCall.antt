-- One call that returns 0: what it wrote is the answer of the definition, and the record in it fits and is read back as the record of that answer.
use Rattle.std.specs.Prelude.{◌≡◌, refl, Bool, not, List, ℕ, length, drop, Some, None}
use Rattle.std.proofs.Math.Bool.{true, false}
use Rattle.std.proofs.lemmas.Bool.{not-false}
use Rattle.laws.specs.Bool.{◌and◌}
use Rattle.laws.specs.All.{All}
use Rattle.workflow.specs.View.{Workflow, workflow}
use Rattle.model.specs.declared.State.{State}
use Rattle.model.specs.Answers.{answer_numbers}
use Rattle.kernel.specs.Call.{Last, Answer, next, wants, refused, given_record, transition}
use Rattle.kernel.specs.Decision.{decision_of}
use Rattle.demand3.specs.Steps.{begun}
use Rattle.demand3.specs.Single.{Proper, Single, SizedLast}
use Rattle.demand3.proofs.Single.{every_call}
use Rattle.host.specs.Fits.{Number, Fits, AnswerFits}
use Rattle.host.specs.Layout.{written, answer_kind, answer_record}
use Rattle.host.specs.Read.{at, has_record, record_of, call_of, call_fits, record_fits}
use Rattle.host.specs.Write.{record_numbers, decision_numbers}
use Rattle.host.specs.Host.{receipt, answered}
use Rattle.host.proofs.HostLaws.{receipt_call, receipt_record}
use Rattle.host.specs.ReadAnswer.{answer_of_numbers}
use Rattle.host.proofs.Round.{fits_read, call_fits_read}
use Rattle.host.proofs.RoundBack.{record_back_of, numbers_fit}
use Rattle.host.proofs.AnswerBack.{next_record, want_record, answered_begins, answered_read}
use Rattle.shipped.proofs.Sheet.{sheet_fits}
use Rattle.shipped.proofs.Ranges.{LastFits, RecordFits, kept_fits}
use Rattle.shipped.proofs.Refusals.{KnownAnswer, known_answer}
use Rattle.shipped.specs.Shipped.{answer_in, record_in}

-- WHAT A HOST FINDS in the buffer of an answer: its kind; the record, if there is one, which fits and is read as the answer's record; and read as a whole it is the answer.
abbrev pub kind_of : Answer → ℕ
kind_of (next a) = 1
kind_of (wants n i b s) = 2
kind_of (refused k i) = 3

pub record ReadsBack (state : State) (numbers : List ℕ) : Type 0 where
  pub fits : record_fits numbers ≡ true
  pub same : record_of numbers ≡ state

abbrev pub RecordBack : Answer → (numbers : List ℕ) → Type 0
RecordBack (next a) numbers = ReadsBack a.state numbers
RecordBack (wants n i b s) numbers = ReadsBack s numbers
RecordBack (refused k i) numbers = Unit {0}

pub record Told (a : Answer) (buffer : List ℕ) : Type 0 where
  pub kind : at (answer_in buffer) answer_kind ≡ kind_of a
  pub back : RecordBack a (record_in buffer)
  pub said : answer_of_numbers (answer_in buffer) ≡ a

-- Its numbers have that.
kind_there : (a : Answer) → at (decision_numbers (decision_of a)) answer_kind ≡ kind_of a
unfolding decision_numbers decision_of answer_numbers
kind_there (next a) = refl
kind_there (wants n i f s) = refl
kind_there (refused k i) = refl

reads_back : (s : State) (ns : List ℕ) → ns ≡ record_numbers s → Fits s → ReadsBack s ns
reads_back s ns e t = record { fits = rw e (numbers_fit s t); same = rw e (record_back_of s t) }

record_there : (a : Answer) → AnswerFits a → RecordBack a (drop answer_record (decision_numbers (decision_of a)))
record_there (next a) t = reads_back a.state _ (next_record a t) t.state
record_there (wants n i f s) t = reads_back s _ (want_record n i f s t) t
record_there (refused k i) t = tt

-- WHAT HOLDS OF EVERY SINGLE CALL (demand3, Single) holds here: a record that fits has its arrays whole.
sized : (r : Last) → LastFits r → SizedLast r
sized None t = tt
sized (Some s) t = record { signals = t.signals_long; visits = t.visits_long; results = t.results_long; streaks = t.streaks_long }

answer_fits : (f : Workflow) (a : Answer) → RecordFits a → Proper f a → AnswerFits a
answer_fits f (next a) t p = record { state = t; notes = p.few_notes; endings = p.few_endings }
answer_fits f (wants n i b s) t p = t
answer_fits f (refused k i) t p = tt

module _ (sheet : List ℕ) (sheet_size : ℕ) (call given buffer : List ℕ) (small : All Number sheet) (received : receipt sheet_size call given (length buffer) ≡ written) where
  abbrev the_record : Last
  the_record = given_record (has_record call) (record_of given)

  abbrev the_answer : Answer
  the_answer = transition (workflow sheet) the_record (call_of call)

  -- the call and the record that goes with it fit
  tested : (call_fits call ≡ true) × ((has_record call and not (record_fits given)) ≡ false)
  tested = (receipt_call sheet_size call given (length buffer) received, receipt_record sheet_size call given (length buffer) received)

  given_fits : (b : Bool) → (b and not (record_fits given)) ≡ false → LastFits (given_record b (record_of given))
  unfolding ◌and◌
  given_fits false h = tt
  given_fits true h = fits_read given (not-false _ h)

  pub single : Single (workflow sheet) (call_of call) (begun (workflow sheet) the_record (call_of call)) the_answer
  single = every_call (workflow sheet) the_record (call_of call) (sized the_record (given_fits _ tested.1))

  pub known : KnownAnswer the_answer
  known = known_answer (workflow sheet) the_record (call_of call) (sized the_record (given_fits _ tested.1))

  pub fits : AnswerFits the_answer
  fits =
      answer_fits (workflow sheet) the_answer
      (kept_fits (workflow sheet) the_record (call_of call) (sheet_fits sheet small) (call_fits_read call tested.0) (given_fits _ tested.1)) single.proper

  -- THE CALL.
  pub told : Told the_answer (answered sheet sheet_size call given buffer)
  told =
      let e = answered_begins sheet sheet_size call given buffer received fits in
      record { kind = rw e (kind_there the_answer); back = rw e (record_there the_answer fits); said = answered_read sheet sheet_size call given buffer received fits }

  -- No refusal is 0, and the run check takes the next record.
  pub proper : Proper (workflow sheet) (answer_of_numbers (answer_in (answered sheet sheet_size call given buffer)))
  proper = rw told.said single.proper

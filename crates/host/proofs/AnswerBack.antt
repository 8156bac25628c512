-- A written answer is read as the answer: what a host finds in its buffer is what the definition says.
use Rattle.std.specs.Prelude.{◌≡◌, ℕ, zero, suc, map, ◌+◌, ◌^◌, ◌≤◌, ◌<◌, ltb, get_or, take, drop, replicate, Option, Some, None}
use Rattle.std.proofs.Math.Path.{refl}
use Rattle.std.proofs.Common.{◌∙◌, length-append, get_or-append-add, ltb-true, ltb-false, eq-eqb}
use mathlib.Core.List.{List, [], ◌∷◌, ◌++◌, flat_map, append_assoc}
use native.Mathlib.Omega.{arith}
use Rattle.std.proofs.Math.ListN.{length, get_or-append, get_or-eq_default}
use Rattle.std.proofs.lemmas.List.{length-map, length-replicate}
use Rattle.std.proofs.Math.Seq.{drop_at, take_at}
use Rattle.laws.specs.Bool.{when◌then◌else◌, split, if_true}
use Rattle.laws.specs.Rows.{span}
use Rattle.laws.specs.Splice.{splice}
use Rattle.laws.specs.Listing.{padded}
use Rattle.workflow.specs.View.{workflow}
use Rattle.workflow.specs.declared.refusal.Refusal.{Refusal}
use Rattle.workflow.specs.Refusal.{number, refusal_of}
use Rattle.laws.specs.First.{first}
use Rattle.model.specs.declared.State.{State}
use Rattle.model.specs.declared.answer.Order.{Order}
use Rattle.model.specs.declared.answer.Reason.{Reason}
use Rattle.model.specs.declared.answer.Noted.{Noted}
use Rattle.model.specs.declared.answer.Note.{Note}
use Rattle.model.specs.declared.answer.Ended.{Ended}
use Rattle.model.specs.declared.answer.Ending.{Ending}
use Rattle.model.specs.declared.answer.Field.{Field}
use Rattle.model.specs.declared.answer.Answer as code
use Rattle.model.specs.Answers.{params_numbers, order_numbers, reason_number, noted_numbers, note_numbers, ended_number, ending_numbers, field_number, answer_numbers}
use Rattle.kernel.specs.declared.Decision.{Decision}
use Rattle.kernel.specs.Call.{Accepted, Answer, next, wants, refused, given_record, transition}
use Rattle.kernel.specs.Listed.{listed}
use Rattle.kernel.specs.Decision.{decision_of}
use Rattle.host.specs.Layout as layout
use Rattle.host.specs.Layout.{note_place, ending_place, answer_length, answer_record, record_length}
use Rattle.host.specs.Read.{at, record_of, call_of, has_record}
use Rattle.host.specs.Write.{note_row, ending_row, record_numbers, state_numbers, decision_numbers}
use Rattle.host.proofs.WriteLaws.{Whole, flat_size, length_answer, length_note_row, length_ending_row, length_record}
use Rattle.host.specs.Host.{receipt, decided, answered, Full}
use Rattle.host.specs.ReadAnswer.{params_from, order_from, reason_from, noted_from, note_from, ended_from, ending_from, field_from, accepted_from, answer_of_numbers}
use Rattle.host.specs.Fits.{Fits, AcceptedFits, AnswerFits}
use Rattle.host.specs.WriteRows.{front_numbers}
use Rattle.host.proofs.WriteRowsLaws.{WroteIn}
use Rattle.host.proofs.Lists.{span_list, row_at, length_padded, padded_at}
use Rattle.host.proofs.RoundBack.{record_back_of, record_numbers_length}

-- THE ORDER behind the answer's first two numbers.
params_back : (x : Option ℕ) (rest : List ℕ) → params_from (at (params_numbers x ++ rest) 0) (at (params_numbers x ++ rest) 1) ≡ x
unfolding params_numbers when◌then◌else◌
params_back None rest = refl
params_back (Some x) rest = refl

order_back : (a b : ℕ) (x : Option Order) (rest : List ℕ) → order_from (a ∷ b ∷ (order_numbers x ++ rest)) ≡ x
unfolding order_from order_numbers when◌then◌else◌
order_back a b None rest = refl
order_back a b (Some (Order.Schedule x)) rest = rw (params_back x.params rest)
order_back a b (Some (Order.Retry x)) rest = refl

-- The numbers of the state, whose arrays are whole.
length_state : (a : code.Answer) (s : State) → Whole s → length (state_numbers a s) ≡ record_length
unfolding state_numbers
length_state (code.Answer.Next order microsteps) s h = length_record s h
length_state (code.Answer.Wants node field from) s h = length_record s h
length_state (code.Answer.Refused refusal item) s h = length-replicate {A = ℕ} record_length 0

-- A ROW is read back from its numbers.
reason_read : (x : Reason) → reason_from (reason_number x) ≡ x
unfolding when◌then◌else◌
reason_read Reason.Mismatch = refl
reason_read Reason.NotUnknown = refl
reason_read Reason.Undeclared = refl

noted_read : (node : ℕ) (x : Noted) → noted_from (at (noted_numbers node x) 0) (at (noted_numbers node x) 2) (at (noted_numbers node x) 3) (at (noted_numbers node x) 4) ≡ x
unfolding noted_from when◌then◌else◌
noted_read node (Noted.Ignored kind) = refl
noted_read node (Noted.Stale named visit attempt) = refl
noted_read node (Noted.NotApplicable named visit reason) = rw (reason_read reason)
noted_read node (Noted.Overflow event_id) = refl
noted_read node (Noted.Unrouted event_id outcome) = refl
noted_read node (Noted.Unknown visit attempt status) = refl
noted_read node (Noted.Stuck visit attempt code) = refl
noted_read node (Noted.Retry attempt) = refl
noted_read node (Noted.Exhausted outcome limit) = refl

node_there : (node : ℕ) (x : Noted) → at (noted_numbers node x) 1 ≡ node
node_there node (Noted.Ignored kind) = refl
node_there node (Noted.Stale named visit attempt) = refl
node_there node (Noted.NotApplicable named visit reason) = refl
node_there node (Noted.Overflow event_id) = refl
node_there node (Noted.Unrouted event_id outcome) = refl
node_there node (Noted.Unknown visit attempt status) = refl
node_there node (Noted.Stuck visit attempt code) = refl
node_there node (Noted.Retry attempt) = refl
node_there node (Noted.Exhausted outcome limit) = refl

ended_read : (x : Ended) → ended_from (ended_number x) ≡ x
unfolding when◌then◌else◌
ended_read Ended.Routed = refl
ended_read Ended.Unrouted = refl
ended_read Ended.Overflow = refl
ended_read Ended.Ignored = refl
ended_read Ended.LeftOver = refl

field_read : (x : Field) → field_from (field_number x) ≡ x
unfolding when◌then◌else◌
field_read Field.Input = refl
field_read Field.Params = refl
field_read Field.Output = refl

module _ (ns : List ℕ) (i : ℕ) where
  note_read : (x : Note) → at ns (note_place i) ≡ at (note_numbers x) 0 → at ns (note_place i + 1) ≡ at (note_numbers x) 1 → at ns (note_place i + 2) ≡ at (note_numbers x) 2
      → at ns (note_place i + 3) ≡ at (note_numbers x) 3 → at ns (note_place i + 4) ≡ at (note_numbers x) 4 → note_from ns i ≡ x
  unfolding note_from note_numbers
  note_read x a b c d e = rw (a, b, c, d, e, noted_read x.node x.noted, node_there x.node x.noted)

  ending_read : (x : Ending) → at ns (ending_place i) ≡ at (ending_numbers x) 0 → at ns (ending_place i + 1) ≡ at (ending_numbers x) 1 → ending_from ns i ≡ x
  unfolding ending_from ending_numbers
  ending_read x a b = rw (a, b, ended_read x.ending)

-- A DECISION whose arrays are whole.
module _ (d : Decision) (noted : length d.notes.rows ≡ layout.notes) (ended : length d.endings.rows ≡ layout.endings) where
  abbrev front : List ℕ
  front = answer_numbers d.answer ++ (d.notes.count ∷ d.endings.count ∷ [])

  length_front : length front ≡ layout.answer_notes
  length_front = simp (length-append, length_answer)

  length_noted : length (front ++ flat_map note_row d.notes.rows) ≡ layout.answer_endings
  length_noted = let a = length_front in let b = flat_size note_row layout.notes length_note_row d.notes.rows noted in rw (length-append, a, b)

  length_ended : length (front ++ flat_map note_row d.notes.rows ++ flat_map ending_row d.endings.rows) ≡ answer_record
  length_ended = let a = length_noted in let b = flat_size ending_row layout.endings length_ending_row d.endings.rows ended in rw (length-append, a, b)

  count_at : (n : ℕ) → at (decision_numbers d) (layout.answer_noted + n) ≡ at (d.notes.count ∷ d.endings.count ∷ (flat_map note_row d.notes.rows ++ (flat_map ending_row d.endings.rows ++ state_numbers d.answer d.state))) n
  unfolding decision_numbers
  count_at n =
      let l = length_answer d.answer in
      let rest = d.notes.count ∷ d.endings.count ∷ (flat_map note_row d.notes.rows ++ (flat_map ending_row d.endings.rows ++ state_numbers d.answer d.state)) in
      let e : decision_numbers d ≡ answer_numbers d.answer ++ rest = simp append_assoc in
      let p : layout.answer_noted + n ≡ length (answer_numbers d.answer) + n = omega arith in
      rw (e, p) (get_or-append-add (answer_numbers d.answer) rest n 0)

  note_at : (i : ℕ) → i < layout.notes → (j p : ℕ) → j < layout.note_width → p ≡ note_place i + j → at (decision_numbers d) p ≡ at (note_row (get_or d.notes.rows i None)) j
  unfolding decision_numbers
  note_at i h j p g place =
      let rest = flat_map ending_row d.endings.rows ++ state_numbers d.answer d.state in
      let e : decision_numbers d ≡ front ++ (flat_map note_row d.notes.rows ++ rest) = simp append_assoc in
      rw e (row_at note_row layout.note_width length_note_row rest None j g front layout.answer_notes d.notes.rows i p length_front place (omega arith))

  ending_at : (i : ℕ) → i < layout.endings → (j p : ℕ) → j < layout.ending_width → p ≡ ending_place i + j → at (decision_numbers d) p ≡ at (ending_row (get_or d.endings.rows i None)) j
  unfolding decision_numbers
  ending_at i h j p g place =
      let rest = state_numbers d.answer d.state in
      let before = front ++ flat_map note_row d.notes.rows in
      let e : decision_numbers d ≡ before ++ (flat_map ending_row d.endings.rows ++ rest) = simp append_assoc in
      rw e (row_at ending_row layout.ending_width length_ending_row rest None j g before layout.answer_endings d.endings.rows i p length_noted place (omega arith))

  note_back : (i : ℕ) → i < layout.notes → (x : Note) → get_or d.notes.rows i None ≡ Some x → note_from (decision_numbers d) i ≡ x
  note_back i h x e =
      let there : (j p : ℕ) → j < layout.note_width → p ≡ note_place i + j → at (decision_numbers d) p ≡ at (note_numbers x) j = λ j p g place. rw e at (note_at i h j p g place) in
      note_read (decision_numbers d) i x (there 0 (note_place i) (omega arith) (omega arith)) (there 1 (note_place i + 1) (omega arith) (omega arith)) (there 2 (note_place i + 2) (omega arith) (omega arith)) (there 3 (note_place i + 3) (omega arith) (omega arith)) (there 4 (note_place i + 4) (omega arith) (omega arith))

  ending_back : (i : ℕ) → i < layout.endings → (x : Ending) → get_or d.endings.rows i None ≡ Some x → ending_from (decision_numbers d) i ≡ x
  ending_back i h x e =
      let there : (j p : ℕ) → j < layout.ending_width → p ≡ ending_place i + j → at (decision_numbers d) p ≡ at (ending_numbers x) j = λ j p g place. rw e at (ending_at i h j p g place) in
      ending_read (decision_numbers d) i x (there 0 (ending_place i) (omega arith) (omega arith)) (there 1 (ending_place i + 1) (omega arith) (omega arith))

  state_behind : drop answer_record (decision_numbers d) ≡ state_numbers d.answer d.state
  unfolding decision_numbers
  state_behind = drop_at (front ++ flat_map note_row d.notes.rows ++ flat_map ending_row d.endings.rows) (state_numbers d.answer d.state) answer_record length_ended

  length_decision : length (state_numbers d.answer d.state) ≡ record_length → length (decision_numbers d) ≡ answer_length
  unfolding decision_numbers
  length_decision e = let a = length_ended in rw (length-append, a, e)

  pub decision_long : Whole d.state → length (decision_numbers d) ≡ answer_length
  decision_long h = length_decision (length_state d.answer d.state h)

  -- the code's front, and zeros behind it
  pub front_wrote : {l₀ l : List ℕ} → answer_length ≤ length l₀ → l ≡ splice l₀ 0 (front_numbers d ++ replicate record_length 0) → WroteIn l₀ 0 (front_numbers d) answer_record record_length l
  front_wrote room e = record { so_far = e; size = length_ended; room = omega arith }

-- A LIST IN ITS ROWS.
module _ {A : Type 0} where
  length_listed : (xs : List A) (size : ℕ) → length xs ≤ size → length (padded size None (map Some xs)) ≡ size
  length_listed xs size h = let l = length-map xs Some in length_padded None (map Some xs) size (omega arith)

  some_at : (d : A) (xs : List A) (i : ℕ) → i < length xs → get_or (map Some xs) i None ≡ Some (get_or xs i d)
  some_at d [] i h = absurd (omega arith)
  some_at d (x ∷ xs) zero h = refl
  some_at d (x ∷ xs) (suc i) h = some_at d xs i (omega arith)

  listed_at : (d : A) (xs : List A) (size i : ℕ) → i < length xs → get_or (padded size None (map Some xs)) i None ≡ Some (get_or xs i d)
  listed_at d xs size i h = let l = length-map xs Some in padded_at None (map Some xs) size i (omega arith) ∙ some_at d xs i h

-- what stands past a list
abbrev blank_note : Note
blank_note = record { node = 0; noted = Noted.Retry 0 }

abbrev blank_ending : Ending
blank_ending = record { sequence = 0; ending = Ended.Routed }

-- A NEXT RECORD.
module _ (x : Accepted) (f : AcceptedFits x) where
  abbrev written : List ℕ
  written = decision_numbers (decision_of (next x))

  notes_long : length (decision_of (next x)).notes.rows ≡ layout.notes
  unfolding decision_of listed
  notes_long = length_listed x.notes layout.notes f.notes

  endings_long : length (decision_of (next x)).endings.rows ≡ layout.endings
  unfolding decision_of listed
  endings_long = length_listed x.endings layout.endings f.endings

  next_kind : at written layout.answer_kind ≡ 1
  unfolding decision_numbers decision_of answer_numbers
  next_kind = refl

  next_microsteps : at written layout.answer_microsteps ≡ x.microsteps
  unfolding decision_numbers decision_of answer_numbers
  next_microsteps = refl

  next_order : order_from written ≡ x.order
  unfolding decision_numbers decision_of answer_numbers
  next_order = simp append_assoc (order_back 1 x.microsteps x.order _)

  next_noted : at written layout.answer_noted ≡ length x.notes
  unfolding decision_of listed
  next_noted = count_at (decision_of (next x)) notes_long endings_long 0

  next_ended : at written layout.answer_ended ≡ length x.endings
  unfolding decision_of listed
  next_ended = count_at (decision_of (next x)) notes_long endings_long 1

  next_note : (i : ℕ) → i < length x.notes → note_from written i ≡ get_or x.notes i blank_note
  unfolding decision_of listed
  next_note i h = let b = f.notes in note_back (decision_of (next x)) notes_long endings_long i (omega arith) (get_or x.notes i blank_note) (listed_at blank_note x.notes layout.notes i h)

  next_notes : span (note_from written) 0 (length x.notes) ≡ x.notes
  next_notes = span_list (note_from written) blank_note x.notes (length x.notes) refl next_note

  next_ending : (i : ℕ) → i < length x.endings → ending_from written i ≡ get_or x.endings i blank_ending
  unfolding decision_of listed
  next_ending i h = let b = f.endings in ending_back (decision_of (next x)) notes_long endings_long i (omega arith) (get_or x.endings i blank_ending) (listed_at blank_ending x.endings layout.endings i h)

  next_endings : span (ending_from written) 0 (length x.endings) ≡ x.endings
  next_endings = span_list (ending_from written) blank_ending x.endings (length x.endings) refl next_ending

  pub next_record : drop answer_record written ≡ record_numbers x.state
  unfolding decision_of state_numbers
  next_record = state_behind (decision_of (next x)) notes_long endings_long

  next_length : length written ≡ answer_length
  unfolding decision_of state_numbers
  next_length = length_decision (decision_of (next x)) notes_long endings_long (record_numbers_length x.state f.state)

  next_back : answer_of_numbers written ≡ next x
  unfolding answer_of_numbers accepted_from when◌then◌else◌
  next_back = rw (next_kind, next_microsteps, next_order, next_noted, next_ended, next_notes, next_endings, next_record, record_back_of x.state f.state)

-- A WANT AND A REFUSAL have no lists.
module _ (d : Decision) (a : d.notes ≡ listed []) (b : d.endings ≡ listed []) where
  none_noted : length d.notes.rows ≡ layout.notes
  unfolding listed
  none_noted = rw a (length_listed {A = Note} [] layout.notes (omega arith))

  none_ended : length d.endings.rows ≡ layout.endings
  unfolding listed
  none_ended = rw b (length_listed {A = Ending} [] layout.endings (omega arith))

module _ (node : ℕ) (field : Field) (from : ℕ) (state : State) (f : Fits state) where
  pub want_record : drop answer_record (decision_numbers (decision_of (wants node field from state))) ≡ record_numbers state
  unfolding decision_of state_numbers
  want_record = let d = decision_of (wants node field from state) in state_behind d (none_noted d refl refl) (none_ended d refl refl)

  want_width : length (decision_numbers (decision_of (wants node field from state))) ≡ answer_length
  unfolding decision_of state_numbers
  want_width = let d = decision_of (wants node field from state) in length_decision d (none_noted d refl refl) (none_ended d refl refl) (record_numbers_length state f)

  want_numbers : (at (decision_numbers (decision_of (wants node field from state))) layout.answer_kind ≡ 2) × (at (decision_numbers (decision_of (wants node field from state))) layout.answer_want_node ≡ node) × (at (decision_numbers (decision_of (wants node field from state))) layout.answer_want_field ≡ field_number field) × (at (decision_numbers (decision_of (wants node field from state))) layout.answer_want_from ≡ from)
  unfolding decision_numbers decision_of answer_numbers
  want_numbers = (refl, refl, refl, refl)

  want_back : answer_of_numbers (decision_numbers (decision_of (wants node field from state))) ≡ wants node field from state
  unfolding answer_of_numbers when◌then◌else◌
  want_back =
      let w = want_numbers in
      rw (w.0, w.1, w.2, w.3, field_read field, want_record, record_back_of state f)

-- A refusal is read back from its number.
refusal_read : (refusal : Refusal) → refusal_of (number refusal) ≡ refusal
unfolding refusal_of first when◌then◌else◌
refusal_read Refusal.Invariant = refl
refusal_read Refusal.Format = refl
refusal_read Refusal.Nodes = refl
refusal_read Refusal.Start = refl
refusal_read Refusal.Limits = refl
refusal_read Refusal.ActionPolicy = refl
refusal_read Refusal.Activity = refl
refusal_read Refusal.AwaitSignal = refl
refusal_read Refusal.LoopLimits = refl
refusal_read Refusal.Unreached = refl
refusal_read Refusal.Unending = refl
refusal_read Refusal.Reconcilable = refl
refusal_read Refusal.Form = refl
refusal_read Refusal.EventUnfit = refl
refusal_read Refusal.OutOfSequence = refl
refusal_read Refusal.NotStarted = refl
refusal_read Refusal.StartedBefore = refl
refusal_read Refusal.Inconsistent = refl
refusal_read Refusal.MicrostepsExceeded = refl
refusal_read Refusal.NoRetry = refl
refusal_read Refusal.Unencodable = refl
refusal_read Refusal.CommandsExceeded = refl
refusal_read Refusal.OperationsExceeded = refl
refusal_read Refusal.BadBytes = refl
refusal_read Refusal.ShortBuffer = refl

module _ (refusal : Refusal) (item : ℕ) where
  refusal_numbers : (at (decision_numbers (decision_of (refused refusal item))) layout.answer_kind ≡ 3) × (at (decision_numbers (decision_of (refused refusal item))) layout.answer_refusal_number ≡ number refusal) × (at (decision_numbers (decision_of (refused refusal item))) layout.answer_refusal_item ≡ item)
  unfolding decision_numbers decision_of answer_numbers
  refusal_numbers = (refl, refl, refl)

  refusal_length : length (decision_numbers (decision_of (refused refusal item))) ≡ answer_length
  unfolding decision_of state_numbers
  refusal_length = let d = decision_of (refused refusal item) in length_decision d (none_noted d refl refl) (none_ended d refl refl) (length-replicate {A = ℕ} record_length 0)

  refusal_back : answer_of_numbers (decision_numbers (decision_of (refused refusal item))) ≡ refused refusal item
  unfolding answer_of_numbers when◌then◌else◌
  refusal_back =
      let w = refusal_numbers in
      rw (w.0, w.1, w.2, refusal_read refusal)

-- EVERY ANSWER that fits is read back from its numbers, of which there are as many as an answer has.
pub answer_back : (a : Answer) → AnswerFits a → answer_of_numbers (decision_numbers (decision_of a)) ≡ a
answer_back (next x) f = next_back x f
answer_back (wants node field from state) f = want_back node field from state f
answer_back (refused refusal item) f = refusal_back refusal item

pub answer_numbers_length : (a : Answer) → AnswerFits a → length (decision_numbers (decision_of a)) ≡ answer_length
answer_numbers_length (next x) f = next_length x f
answer_numbers_length (wants node field from state) f = want_width node field from state f
answer_numbers_length (refused refusal item) f = refusal_length refusal item

-- THE BUFFER'S BEGINNING is what was written there.
module _ (buffer numbers : List ℕ) where
  pub splice_begins : take (length numbers) (splice buffer 0 numbers) ≡ numbers
  unfolding splice
  splice_begins = take_at numbers (drop (0 + length numbers) buffer) (length numbers) refl

  pub splice_at : (n : ℕ) → n < length numbers → at (splice buffer 0 numbers) n ≡ at numbers n
  unfolding splice
  splice_at n h = get_or-append numbers (drop (0 + length numbers) buffer) 0 n h

  -- and so has 64 bits, as the buffer's numbers have
  begins_below : ((n : ℕ) → get_or (splice buffer 0 numbers) n 0 < 2 ^ 64) → (n : ℕ) → get_or numbers n 0 < 2 ^ 64
  begins_below h n =
      split (ltb n (length numbers)) (λ e. let s = splice_at n (ltb-true n (length numbers) e) in let b = h n in omega arith)
      (λ e. let z = get_or-eq_default numbers 0 (ltb-false n (length numbers) e) in omega arith)

pub full : (buffer : List ℕ) {after : List ℕ} {d made : Decision} → d ≡ made → length (decision_numbers d) ≡ answer_length → after ≡ splice buffer 0 (decision_numbers d) → ((n : ℕ) → get_or after n 0 < 2 ^ 64) → Full (decision_numbers made)
full buffer {after} {d} e long is below =
    let f : Full (decision_numbers d) = record { long = long; each = begins_below buffer (decision_numbers d) (rw is at below) } in
    rw e at f

-- What a host reads from the buffer of a call with receipt 0 is the answer of the definition.
module _ (sheet : List ℕ) (sheet_size : ℕ) (call given buffer : List ℕ) (done : receipt sheet_size call given (length buffer) ≡ layout.written) where
  abbrev answer : Answer
  answer = transition (workflow sheet) (given_record (has_record call) (record_of given)) (call_of call)

  pub answered_begins : AnswerFits answer → take answer_length (answered sheet sheet_size call given buffer) ≡ decision_numbers (decision_of answer)
  unfolding answered decided
  answered_begins f =
      let n = decision_numbers (decision_of answer) in
      let l : length n ≡ answer_length = answer_numbers_length answer f in
      rw (if_true _ (splice buffer 0 n) buffer (eq-eqb _ layout.written done)) (rw l at (splice_begins buffer n))

  pub answered_read : AnswerFits answer → answer_of_numbers (take answer_length (answered sheet sheet_size call given buffer)) ≡ answer
  answered_read f = rw (answered_begins f) (answer_back answer f)

  -- and the record in it is that of the answer
  pub answered_next : (x : Accepted) → answer ≡ next x → AcceptedFits x → drop answer_record (take answer_length (answered sheet sheet_size call given buffer)) ≡ record_numbers x.state
  answered_next x e f =
      let g : AnswerFits answer = rw e f in
      rw (answered_begins g, e) (next_record x f)

  pub answered_want : (node : ℕ) (field : Field) (from : ℕ) (state : State) → answer ≡ wants node field from state → Fits state → drop answer_record (take answer_length (answered sheet sheet_size call given buffer)) ≡ record_numbers state
  answered_want node field from state e f =
      let g : AnswerFits answer = rw e f in
      rw (answered_begins g, e) (want_record node field from state f)

-- What a call writes is tidy as the numbers of an answer: notes and endings are zero past their counts, and the record is tidy.
use Rattle.std.specs.Prelude.{◌≡◌, Option, Some, None, map, true, ℕ, ◌+◌, ◌*◌, ◌-◌, ◌^◌, ◌≤◌, eqb, get_or, drop, replicate}
use Rattle.std.proofs.Math.Path.{refl}
use Rattle.std.proofs.Common.{◌∙◌, arith, length-append, get_or-append-add, drop_at, eq-eqb}
use mathlib.Core.List.{List, [], ◌∷◌, ◌++◌, flat_map, append_assoc, append-nil}
use Rattle.std.proofs.lemmas.List.{length-map}
use Rattle.std.proofs.Math.Dec.{ltb}
use Rattle.std.proofs.Math.ListN.{length, get_or-append}
use Rattle.laws.specs.Bool.{when◌then◌else◌, ◌and◌, join}
use Rattle.laws.specs.All.{all_replicate}
use Rattle.laws.specs.Every.{every, every_append}
use Rattle.laws.specs.Listing.{padded}
use Rattle.workflow.specs.View.{Workflow}
use Rattle.model.specs.declared.State.{State}
use Rattle.model.specs.declared.answer.Note.{Note}
use Rattle.model.specs.declared.answer.Ending.{Ending}
use Rattle.model.specs.declared.answer.Field.{Field}
use Rattle.model.specs.declared.answer.Answer as code
use Rattle.model.specs.Answers.{field_number, answer_numbers}
use Rattle.kernel.specs.Call.{Accepted, next, wants}
use Rattle.kernel.specs.Listed.{listed}
use Rattle.kernel.specs.Decision.{decision_of}
use Rattle.demand3.specs.Tidy.{Tidies}
use Rattle.demand3.specs.Single.{Proper}
use Rattle.host.specs.Layout as layout
use Rattle.host.proofs.Lists.{length_padded}
use Rattle.host.specs.Write.{note_row, ending_row, record_numbers, state_numbers, decision_numbers}
use Rattle.host.proofs.WriteLaws.{flat_size, length_answer, length_note_row, length_ending_row}
use Rattle.codec.specs.Numbers.{all_below}
use Rattle.codec.specs.Stages.{Stage, numbers, column, staged, all_zero}
use Rattle.in_bytes.specs.Run.{run}
use Rattle.in_bytes.specs.Answer.{counted_rows, the_run, answer}
use Rattle.in_bytes.specs.Answer as bytes
use Rattle.in_bytes.proofs.RunLaws.{run_exact}
use Rattle.shipped.proofs.TidyRows.{every_parts, stage_tidy, no_stage_tidy, numbers_tidy, rows_zero, rows_column}
use Rattle.shipped.proofs.TidyRecord.{tidies_tidy, record_tidy}

-- THE ROWS OF A LIST, as many as the layout has; those past the list are zero.
abbrev rows_of : {A : Type 0} → (size : ℕ) → List A → List (Option A)
rows_of size xs = padded size None (map Some xs)

module _ {A : Type 0} (f : Option A → List ℕ) (blank : all_zero (f None) ≡ true) where
  past_zero : (size : ℕ) (xs : List A) → all_zero (flat_map f (drop (length xs) (rows_of size xs))) ≡ true
  unfolding padded
  past_zero size xs =
      let n = size - length (map Some xs) in
      rw (drop_at (map Some xs) (replicate n None) (length xs) (length-map xs Some)) (rows_zero f (replicate n None) (all_replicate (λ (x : Option A). all_zero (f x) ≡ true) n None blank))

rows_long : {A : Type 0} (size : ℕ) (xs : List A) → length xs ≤ size → length (rows_of size xs) ≡ size
rows_long size xs h = let l = length-map xs Some in length_padded None (map Some xs) size (omega arith)

note_blank : all_zero (note_row None) ≡ true
unfolding every ◌and◌
note_blank = refl

ending_blank : all_zero (ending_row None) ≡ true
unfolding every ◌and◌
ending_blank = refl

-- THE STAGES.
abbrev first_numbers : ℕ → Stage
first_numbers k = record { room = k; shape = λ _. numbers (2 ^ 64) k }

abbrev some_notes : Stage
some_notes = counted_rows layout.note_width layout.notes layout.answer_noted

abbrev some_endings : Stage
some_endings = counted_rows layout.ending_width layout.endings layout.answer_ended

abbrev no_rows : Stage
no_rows = record { room = layout.answer_record - layout.want_width; shape = λ _. column (2 ^ 64) (layout.answer_record - layout.want_width) 0 }

run_last : (seen ns : List ℕ) → run.tidy ns ≡ true → (staged (the_run ∷ []) seen).tidy (ns ++ []) ≡ true
run_last seen ns t = stage_tidy the_run [] seen ns [] (run_exact.long ns t) t (no_stage_tidy _)

-- A NEXT RECORD.
module _ (a : Accepted) where
  abbrev front : List ℕ
  front = answer_numbers (code.Answer.Next a.order a.microsteps) ++ (length a.notes ∷ length a.endings ∷ [])

  abbrev notes : List ℕ
  notes = flat_map note_row (rows_of layout.notes a.notes)

  abbrev endings : List ℕ
  endings = flat_map ending_row (rows_of layout.endings a.endings)

  abbrev from_record : List ℕ
  from_record = record_numbers a.state ++ []

  abbrev from_endings : List ℕ
  from_endings = endings ++ from_record

  abbrev from_notes : List ℕ
  from_notes = notes ++ from_endings

  laid : decision_numbers (decision_of (next a)) ≡ front ++ from_notes
  unfolding decision_numbers decision_of listed state_numbers
  laid = simp (append_assoc, append-nil)

  front_long : length front ≡ layout.answer_notes
  front_long = simp (length-append, length_answer)

  count_there : (n : ℕ) → get_or front (layout.answer_noted + n) 0 ≡ get_or (length a.notes ∷ length a.endings ∷ []) n 0
  count_there n =
      let said = answer_numbers (code.Answer.Next a.order a.microsteps) in
      let l = length_answer (code.Answer.Next a.order a.microsteps) in
      let p : layout.answer_noted + n ≡ length said + n = omega arith in
      rw p (get_or-append-add said (length a.notes ∷ length a.endings ∷ []) n 0)

  ended_there : get_or (front ++ notes) layout.answer_ended 0 ≡ length a.endings
  ended_there =
      let l = front_long in
      get_or-append front notes 0 layout.answer_ended (omega arith) ∙ count_there 1

module _ (f : Workflow) (a : Accepted) (proper : Proper f (next a)) (below : all_below (2 ^ 64) (decision_numbers (decision_of (next a))) ≡ true) where
  front_below : (all_below (2 ^ 64) (front a) ≡ true) × (all_below (2 ^ 64) (from_notes a) ≡ true)
  front_below = every_parts (λ n. ltb n (2 ^ 64)) (front a) (from_notes a) (rw (laid a) at below)

  notes_below : (all_below (2 ^ 64) (notes a) ≡ true) × (all_below (2 ^ 64) (from_endings a) ≡ true)
  notes_below = every_parts (λ n. ltb n (2 ^ 64)) (notes a) (from_endings a) front_below.1

  endings_below : (all_below (2 ^ 64) (endings a) ≡ true) × (all_below (2 ^ 64) (from_record a) ≡ true)
  endings_below = every_parts (λ n. ltb n (2 ^ 64)) (endings a) (from_record a) notes_below.1

  record_below : all_below (2 ^ 64) (record_numbers a.state) ≡ true
  record_below = (every_parts (λ n. ltb n (2 ^ 64)) (record_numbers a.state) [] endings_below.1).0

  notes_long : length (rows_of layout.notes a.notes) ≡ layout.notes
  notes_long = rows_long layout.notes a.notes proper.few_notes

  endings_long : length (rows_of layout.endings a.endings) ≡ layout.endings
  endings_long = rows_long layout.endings a.endings proper.few_endings

  notes_tidy : (some_notes.shape (front a)).tidy (notes a) ≡ true
  notes_tidy =
      let few = proper.few_notes in
      let n = notes_long in
      rw (count_there a 0)
      (rows_column note_row layout.note_width length_note_row (2 ^ 64) (layout.note_width * layout.notes) (length a.notes) (rows_of layout.notes a.notes) (omega arith) (omega arith)
      notes_below.0 (past_zero note_row note_blank layout.notes a.notes))

  endings_tidy : (some_endings.shape (front a ++ notes a)).tidy (endings a) ≡ true
  endings_tidy =
      let few = proper.few_endings in
      let n = endings_long in
      rw (ended_there a)
      (rows_column ending_row layout.ending_width length_ending_row (2 ^ 64) (layout.ending_width * layout.endings) (length a.endings) (rows_of layout.endings a.endings) (omega arith) (omega arith)
      endings_below.0 (past_zero ending_row ending_blank layout.endings a.endings))

  pub next_tidy : (answer 1).tidy (decision_numbers (decision_of (next a))) ≡ true
  unfolding answer when◌then◌else◌ bytes.next numbers column
  next_tidy =
      let n = flat_size note_row layout.notes length_note_row (rows_of layout.notes a.notes) notes_long in
      let e = flat_size ending_row layout.endings length_ending_row (rows_of layout.endings a.endings) endings_long in
      let t = record_tidy f a.state proper.checked proper.sized record_below in
      rw (laid a)
      (stage_tidy (first_numbers layout.answer_notes) (some_notes ∷ some_endings ∷ the_run ∷ []) [] (front a) _ (front_long a) (numbers_tidy (2 ^ 64) layout.answer_notes (front a) (front_long a) front_below.0)
      (stage_tidy some_notes (some_endings ∷ the_run ∷ []) _ (notes a) _ n notes_tidy
      (stage_tidy some_endings (the_run ∷ []) _ (endings a) _ e endings_tidy (run_last _ (record_numbers a.state) t))))

-- A WANT, whose record is tidy by the run check: nothing stands between its four numbers and the run.
abbrev no_notes : List (Option Note)
no_notes = rows_of layout.notes []

abbrev no_endings : List (Option Ending)
no_endings = rows_of layout.endings []

abbrev between : List ℕ
between = 0 ∷ 0 ∷ 0 ∷ 0 ∷ 0 ∷ 0 ∷ 0 ∷ 0 ∷ 0 ∷ (flat_map note_row no_notes ++ flat_map ending_row no_endings)

between_long : length between ≡ layout.answer_record - layout.want_width
between_long =
    let a = flat_size note_row layout.notes length_note_row no_notes (rows_long {A = Note} layout.notes [] (omega arith)) in
    let b = flat_size ending_row layout.endings length_ending_row no_endings (rows_long {A = Ending} layout.endings [] (omega arith)) in
    rw (length-append, a, b)

between_zero : all_zero between ≡ true
unfolding every ◌and◌
between_zero =
    every_append (λ n. eqb n 0) (flat_map note_row no_notes) (flat_map ending_row no_endings)
    (past_zero note_row note_blank layout.notes []) (past_zero ending_row ending_blank layout.endings [])

between_tidy : (column (2 ^ 64) (layout.answer_record - layout.want_width) 0).tidy between ≡ true
unfolding column every
between_tidy = join _ _ (eq-eqb _ _ between_long) (join _ _ refl (join _ _ refl between_zero))

module _ (f : Workflow) (node : ℕ) (field : Field) (from : ℕ) (s : State) (fits : Tidies f s) (below : all_below (2 ^ 64) (decision_numbers (decision_of (wants node field from s))) ≡ true) where
  want_laid : decision_numbers (decision_of (wants node field from s)) ≡ (2 ∷ node ∷ field_number field ∷ from ∷ []) ++ (between ++ (record_numbers s ++ []))
  unfolding decision_numbers decision_of listed state_numbers answer_numbers
  want_laid = simp (append_assoc, append-nil)

  want_below : (all_below (2 ^ 64) (2 ∷ node ∷ field_number field ∷ from ∷ []) ≡ true) × (all_below (2 ^ 64) (between ++ (record_numbers s ++ [])) ≡ true)
  want_below = every_parts (λ n. ltb n (2 ^ 64)) (2 ∷ node ∷ field_number field ∷ from ∷ []) (between ++ (record_numbers s ++ [])) (rw want_laid at below)

  pub want_tidy : (answer 2).tidy (decision_numbers (decision_of (wants node field from s))) ≡ true
  unfolding answer when◌then◌else◌ bytes.want numbers column
  want_tidy =
      let b = every_parts (λ n. ltb n (2 ^ 64)) between (record_numbers s ++ []) want_below.1 in
      let t = tidies_tidy f s fits (every_parts (λ n. ltb n (2 ^ 64)) (record_numbers s) [] b.1).0 in
      rw want_laid
      (stage_tidy (first_numbers layout.want_width) (no_rows ∷ the_run ∷ []) [] (2 ∷ node ∷ field_number field ∷ from ∷ []) _ refl (numbers_tidy (2 ^ 64) layout.want_width (2 ∷ node ∷ field_number field ∷ from ∷ []) refl want_below.0)
      (stage_tidy no_rows (the_run ∷ []) _ between _ between_long between_tidy (run_last _ (record_numbers s) t)))

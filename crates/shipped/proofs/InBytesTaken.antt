-- No run that was handed out is bad bytes: a call that gets it, and whose other numbers are right, is read and decided.
use Rattle.std.specs.Prelude.{◌≡◌, true, ℕ, ◌+◌, ◌*◌, ◌^◌, ◌≤◌, eqb, length, get_or, drop}
use Rattle.std.proofs.Math.Path.{refl}
use Rattle.std.proofs.Common.{sym, ap, ◌∙◌, arith, length-append, take_at}
use Rattle.std.proofs.lemmas.Bool.{false≢true}
use mathlib.Core.List.{List, [], ◌∷◌, ◌++◌, flat_map, append-nil}
use Rattle.std.proofs.lemmas.List.{get_or_at}
use borrow.Author.Tests.{eq-eqb, lt-ltb}
use Rattle.laws.specs.Bool.{when◌then◌else◌, ◌and◌}
use Rattle.laws.specs.Every.{every}
use Rattle.laws.specs.Listing.{padded}
use Rattle.workflow.specs.Layout.{numbers as sheet_length}
use Rattle.host.specs.Layout as layout
use Rattle.host.specs.Read.{has_record, record_fits}
use Rattle.host.specs.Host.{receipt}
use Rattle.host.proofs.HostLaws.{receipt_done}
use Rattle.codec.specs.Read.{got, onward}
use Rattle.codec.specs.Numbers.{bytes_of, numbers_at, all_below}
use Rattle.codec.specs.Stages.{numbers, column, beside, Stage, staged}
use Rattle.codec.proofs.Zeros.{padded_long}
use Rattle.codec.proofs.ColumnsLaws.{column_read}
use Rattle.in_bytes.specs.Sheet.{sheet as sheet_shape}
use Rattle.in_bytes.proofs.SheetLaws.{sheet_exact}
use Rattle.in_bytes.proofs.RunLaws.{run_exact, run_width}
use Rattle.in_bytes.specs.Call.{mark, given, event_numbers, answered, answers, rest as rest_shape, limits as limits_stage, the_sheet, the_rest, call, without_sheet, run_in, numbers_in}
use Rattle.in_bytes.specs.Boundary.{unread, ended, whole, on_numbers, decide}
use Rattle.shipped.specs.Shipped.{Standing as Numbers, nothing as no_numbers, numbers as numbers_stand}
use Rattle.shipped.specs.InBytes.{Standing, nothing, run_bytes, given_bytes, Gets, mark_of, Right}
use Rattle.shipped.proofs.InBytesAnswer.{past, numbers_there}
use Rattle.shipped.proofs.InBytesCall.{Same, mark_there, limit_bytes, sheet_bytes, from_mark, first, second, at_limits, at_sheet, at_mark, sheet_long, its_others, its_numbers, its_run, never_said}

-- ONE STAGE READ, and those behind it.
reads_on : (stage : Stage) (stages : List Stage) (seen bytes xs ms : List ℕ) (at place next : ℕ) → (stage.shape seen).read bytes at ≡ got xs place → (staged stages (seen ++ xs)).read bytes place ≡ got ms next → (staged (stage ∷ stages) seen).read bytes at ≡ got (xs ++ ms) next
unfolding staged beside onward
reads_on stage stages seen bytes xs ms at place next e f = rw (e, f)

reads_end : (seen bytes : List ℕ) (at : ℕ) → (staged [] seen).read bytes at ≡ got [] at
unfolding staged numbers numbers_at
reads_end seen bytes at = refl

-- A column with its numbers.
column_there : (room used : ℕ) (bytes rest ns : List ℕ) (at : ℕ) → used ≤ room → length ns ≡ used → all_below (2 ^ 64) ns ≡ true → drop at bytes ≡ bytes_of ns ++ rest → (column (2 ^ 64) room used).read bytes at ≡ got (padded room 0 ns) (at + length (bytes_of ns))
unfolding onward
column_there room used bytes rest ns at low long below e = column_read (2 ^ 64) room used bytes at low ∙ rw (numbers_there (2 ^ 64) used bytes rest ns at (omega arith) long below e)

-- THE RUN THAT STANDS, or none, behind its mark.
abbrev run_of : Standing → List ℕ
run_of nothing = []
run_of (run_bytes bytes) = bytes

record GivenRead (stand : Standing) (bytes : List ℕ) (at : ℕ) : Type 0 where
  ns : List ℕ
  long : length ns ≡ layout.record_length
  read : (given.shape (mark_of stand ∷ [])).read bytes at ≡ got ns (at + length (run_of stand))
  fits : eqb (mark_of stand) 1 ≡ true → record_fits ns ≡ true

given_read : (stand : Standing) (k : Numbers) → Same stand k → (bytes rest : List ℕ) (at : ℕ) → drop at bytes ≡ run_of stand ++ rest → GivenRead stand bytes at
unfolding flat_map when◌then◌else◌ every
given_read nothing no_numbers same bytes rest at e =
    record {
      ns = padded layout.record_length 0 [];
      long = padded_long layout.record_length [] (omega arith);
      read = column_there layout.record_length 0 bytes rest [] at (omega arith) refl refl e;
      fits = λ h. absurd (false≢true h);
    }
given_read nothing (numbers_stand xs) same bytes rest at e = absurd same
given_read (run_bytes b) no_numbers same bytes rest at e = absurd same
given_read (run_bytes b) (numbers_stand xs) same bytes rest at e =
    record {
      ns = xs;
      long = run_exact.long xs same.1 ∙ run_width;
      read = rw same.0 (run_exact.back bytes rest xs at same.1 (rw same.0 at e));
      fits = λ _. same.2;
    }

given_parts : (stand : Standing) (rest : List ℕ) → given_bytes stand ++ rest ≡ (mark_of stand ∷ []) ++ (run_of stand ++ rest)
given_parts nothing rest = refl
given_parts (run_bytes b) rest = refl

module _ (sheet : List ℕ) (tidy : sheet_shape.tidy sheet ≡ true) {stand : Standing} {bytes : List ℕ} (gets : Gets sheet stand bytes) (k : Numbers) (same : Same stand k) (right : Right stand gets.limits gets.rest) where
  -- THE PLACES behind the mark.
  abbrev event_bytes : List ℕ
  event_bytes = bytes_of right.event

  abbrev count_bytes : List ℕ
  count_bytes = bytes_of (right.count ∷ [])

  abbrev answer_bytes : List ℕ
  answer_bytes = bytes_of right.answers

  abbrev third : ℕ
  third = second sheet tidy gets + 1

  abbrev fourth : ℕ
  fourth = third + length (run_of stand)

  abbrev fifth : ℕ
  fifth = fourth + length event_bytes

  abbrev sixth : ℕ
  sixth = fifth + length count_bytes

  abbrev last : ℕ
  last = sixth + length answer_bytes

  at_run : drop third bytes ≡ run_of stand ++ gets.rest
  at_run = past bytes (second sheet tidy gets) (mark_of stand ∷ []) (run_of stand ++ gets.rest) (at_mark sheet tidy gets ∙ given_parts stand gets.rest)

  at_event : drop fourth bytes ≡ event_bytes ++ (count_bytes ++ answer_bytes)
  at_event = past bytes third (run_of stand) gets.rest at_run ∙ right.are

  at_count : drop fifth bytes ≡ count_bytes ++ answer_bytes
  at_count = past bytes fourth event_bytes (count_bytes ++ answer_bytes) at_event

  at_answers : drop sixth bytes ≡ answer_bytes ++ []
  at_answers = past bytes fifth count_bytes answer_bytes at_count ∙ sym (append-nil answer_bytes)

  -- WHAT IS READ there.
  its_given : GivenRead stand bytes third
  its_given = given_read stand k same bytes gets.rest third at_run

  abbrev run_numbers : List ℕ
  run_numbers = its_given.ns

  abbrev rows : List ℕ
  rows = padded (layout.mapping_width * layout.mappings) 0 right.answers

  abbrev seen : List ℕ
  seen = (mark_of stand ∷ []) ++ run_numbers ++ right.event

  count_seen : get_or (seen ++ (right.count ∷ [])) (1 + layout.record_length + layout.event_length) 0 ≡ right.count
  count_seen =
      let a = length-append (mark_of stand ∷ []) run_numbers in
      let b = length-append ((mark_of stand ∷ []) ++ run_numbers) right.event in
      let n = its_given.long in
      let m = right.event_long in
      get_or_at seen right.count [] 0 (1 + layout.record_length + layout.event_length) (omega arith)

  answers_read : (answers.shape (seen ++ (right.count ∷ []))).read bytes sixth ≡ got rows last
  answers_read =
      let few = right.few in
      rw count_seen
      (column_there (layout.mapping_width * layout.mappings) (layout.mapping_width * right.count) bytes [] right.answers sixth (omega arith) right.answers_long right.answers_below at_answers)

  count_below : all_below 3 (right.count ∷ []) ≡ true
  unfolding every ◌and◌
  count_below = let few = right.few in rw (lt-ltb right.count 3 (omega arith))

  abbrev behind_run : List ℕ
  behind_run = right.event ++ ((right.count ∷ []) ++ (rows ++ []))

  rest_read : rest_shape.read bytes (second sheet tidy gets) ≡ got ((mark_of stand ∷ []) ++ (run_numbers ++ behind_run)) last
  unfolding rest_shape numbers
  rest_read =
      reads_on mark (given ∷ event_numbers ∷ answered ∷ answers ∷ []) [] bytes (mark_of stand ∷ []) (run_numbers ++ behind_run) (second sheet tidy gets) third last
      (mark_there stand bytes gets.rest (second sheet tidy gets) (at_mark sheet tidy gets))
      (reads_on given (event_numbers ∷ answered ∷ answers ∷ []) (mark_of stand ∷ []) bytes run_numbers behind_run third fourth last its_given.read
      (reads_on event_numbers (answered ∷ answers ∷ []) ((mark_of stand ∷ []) ++ run_numbers) bytes right.event ((right.count ∷ []) ++ (rows ++ [])) fourth fifth last
      (numbers_there (2 ^ 64) layout.event_length bytes (count_bytes ++ answer_bytes) right.event fourth (omega arith) right.event_long right.event_below at_event)
      (reads_on answered (answers ∷ []) seen bytes (right.count ∷ []) (rows ++ []) fifth sixth last
      (numbers_there 3 1 bytes answer_bytes (right.count ∷ []) fifth (omega arith) refl count_below at_count)
      (reads_on answers [] (seen ++ (right.count ∷ [])) bytes rows [] sixth last last answers_read (reads_end _ bytes last)))))

  abbrev all_numbers : List ℕ
  all_numbers = gets.limits ++ (sheet ++ (((mark_of stand ∷ []) ++ (run_numbers ++ behind_run)) ++ []))

  call_read : call.read bytes 0 ≡ got all_numbers last
  unfolding call numbers
  call_read =
      reads_on limits_stage (the_sheet ∷ the_rest ∷ []) [] bytes gets.limits (sheet ++ (((mark_of stand ∷ []) ++ (run_numbers ++ behind_run)) ++ [])) 0 (first sheet tidy gets) last
      (numbers_there (2 ^ 64) 7 bytes (sheet_bytes sheet tidy gets ++ from_mark sheet tidy gets) gets.limits 0 (omega arith) gets.seven gets.small (at_limits sheet tidy gets))
      (reads_on the_sheet (the_rest ∷ []) gets.limits bytes sheet (((mark_of stand ∷ []) ++ (run_numbers ++ behind_run)) ++ []) (first sheet tidy gets) (second sheet tidy gets) last
      (sheet_exact.back bytes (from_mark sheet tidy gets) sheet (first sheet tidy gets) tidy (at_sheet sheet tidy gets))
      (reads_on the_rest [] (gets.limits ++ sheet) bytes ((mark_of stand ∷ []) ++ (run_numbers ++ behind_run)) [] (second sheet tidy gets) last last rest_read (reads_end _ bytes last)))

  -- to the end
  ends : last ≡ length bytes
  ends =
      let l = limit_bytes sheet tidy gets in
      let s = sheet_bytes sheet tidy gets in
      let r = run_of stand ++ gets.rest in
      let e : bytes ≡ l ++ (s ++ ((mark_of stand ∷ []) ++ r)) = at_limits sheet tidy gets ∙ ap (λ (x : List ℕ). l ++ (s ++ x)) (given_parts stand gets.rest) in
      let a : length bytes ≡ length (l ++ (s ++ ((mark_of stand ∷ []) ++ r))) = ap length e in
      let b = length-append l (s ++ ((mark_of stand ∷ []) ++ r)) in
      let c = length-append s ((mark_of stand ∷ []) ++ r) in
      let d = length-append (mark_of stand ∷ []) r in
      let f = length-append (run_of stand) gets.rest in
      let g : length gets.rest ≡ length (event_bytes ++ (count_bytes ++ answer_bytes)) = ap length right.are in
      let h = length-append event_bytes (count_bytes ++ answer_bytes) in
      let i = length-append count_bytes answer_bytes in
      omega arith

  whole_read : whole call bytes ≡ got all_numbers last
  unfolding ended when◌then◌else◌
  whole_read = rw (call_read, eq-eqb last (length bytes) ends)

  -- ITS NUMBERS: those of the call, and the run's.
  abbrev more : List ℕ
  more = (run_numbers ++ behind_run) ++ []

  abbrev others : List ℕ
  others = right.event ++ (right.count ∷ rows)

  more_is : more ≡ run_numbers ++ others
  more_is = append-nil (run_numbers ++ behind_run) ∙ ap (λ (x : List ℕ). run_numbers ++ (right.event ++ (right.count ∷ x))) (append-nil rows)

  abbrev call_numbers : List ℕ
  call_numbers = gets.limits ++ (mark_of stand ∷ others)

  others_are : without_sheet all_numbers ≡ gets.limits ++ (mark_of stand ∷ more)
  others_are = its_others gets.limits sheet (mark_of stand) more gets.seven (sheet_long sheet tidy gets)

  call_is : numbers_in (gets.limits ++ (mark_of stand ∷ more)) ≡ call_numbers
  call_is = its_numbers gets.limits sheet (mark_of stand) more gets.seven (sheet_long sheet tidy gets) run_numbers others its_given.long more_is

  run_is : run_in (gets.limits ++ (mark_of stand ∷ more)) ≡ run_numbers
  run_is =
      its_run gets.limits sheet (mark_of stand) more gets.seven (sheet_long sheet tidy gets)
      ∙ rw more_is (take_at run_numbers others layout.record_length its_given.long)

  has_is : has_record call_numbers ≡ eqb (mark_of stand) 1
  has_is = rw (get_or_at gets.limits (mark_of stand) others 0 7 gets.seven)

  call_long : length call_numbers ≡ layout.call_length
  call_long =
      let a = length-append gets.limits (mark_of stand ∷ others) in
      let b = length-append right.event (right.count ∷ rows) in
      let n = gets.seven in
      let m = right.event_long in
      let f = right.few in
      let l = right.answers_long in
      let c = padded_long (layout.mapping_width * layout.mappings) right.answers (omega arith) in
      omega arith

  received : receipt sheet_length call_numbers run_numbers layout.answer_length ≡ layout.written
  received =
      receipt_done sheet_length call_numbers run_numbers layout.answer_length (record { sheet = refl; call = call_long; given = its_given.long; roomy = omega arith }) right.fit
      (λ h. its_given.fits (sym has_is ∙ h))

  -- SO IT IS DECIDED.
  pub taken : decide bytes ≡ unread → ⊥
  unfolding decide on_numbers when◌then◌else◌
  taken e = never_said (sym (rw (whole_read, others_are, call_is, run_is, eq-eqb _ layout.written received) at e))

-- The bytes of a call, read: the sheet in them is the sheet, and the run that goes with it is the one that stands.
use Rattle.std.specs.Prelude.{◌≡◌, refl, true, false, ℕ, ◌+◌, ◌^◌, eqb, length, get_or}
use Rattle.std.proofs.Math.Path.{sym}
use Rattle.std.proofs.Common.{ap, ◌∙◌, arith, take_at, eqb-true}
use mathlib.Core.List.{List, [], ◌∷◌, ◌++◌, flat_map, append_assoc}
use Rattle.std.proofs.Math.ListN.{take, drop, length-append, length-take, get_or-append}
use Rattle.std.proofs.Math.Seq.{take-add, drop_at, drop-drop, get_or_at, get_or-take}
use Rattle.laws.specs.Bool.{when◌then◌else◌, ◌and◌, split}
use Rattle.laws.specs.Every.{every}
use Rattle.workflow.specs.Layout.{numbers as sheet_length}
use Rattle.host.specs.Layout as layout
use Rattle.host.specs.Read.{has_record, record_fits}
use Rattle.host.specs.Write.{decision_numbers}
use Rattle.host.specs.Host.{receipt, decided}
use Rattle.codec.specs.Read.{Read, got, bad, onward}
use Rattle.codec.specs.Leb.{groups, leb128}
use Rattle.codec.specs.Numbers.{bytes_of, numbers_at}
use Rattle.codec.specs.Stages.{numbers, beside, Stage, staged}
use Rattle.codec.proofs.ExactLaws.{not_bad}
use Rattle.codec.proofs.ReadLaws.{both_read}
use Rattle.in_bytes.specs.Sheet.{sheet as sheet_shape}
use Rattle.in_bytes.proofs.SheetLaws.{sheet_exact, sheet_width}
use Rattle.in_bytes.specs.Run.{run}
use Rattle.in_bytes.proofs.RunLaws.{run_exact, run_width}
use Rattle.in_bytes.specs.Call.{mark, given, event_numbers, answered, answers, rest as rest_shape, limits as limits_stage, the_sheet, the_rest, call, sheet_in, without_sheet, run_in, numbers_in}
use Rattle.in_bytes.specs.Boundary.{said, unread, ended, whole, on_numbers, decide}
use Rattle.shipped.specs.Shipped.{Standing as Numbers, nothing as no_numbers, numbers as numbers_stand}
use Rattle.shipped.specs.InBytes.{Standing, nothing, run_bytes, given_bytes, Gets, mark_of}
use Rattle.shipped.proofs.InBytesAnswer.{past, numbers_there}

-- STAGES READ: the first, and behind it the others.
record StageRead (stage : Stage) (stages : List Stage) (seen bytes : List ℕ) (at : ℕ) (ns : List ℕ) (next : ℕ) : Type 0 where
  first : List ℕ
  place : ℕ
  more : List ℕ
  one : (stage.shape seen).read bytes at ≡ got first place
  two : (staged stages (seen ++ first)).read bytes place ≡ got more next
  is : ns ≡ first ++ more

stage_read : (stage : Stage) (stages : List Stage) (seen bytes : List ℕ) (at : ℕ) (ns : List ℕ) (next : ℕ) → (staged (stage ∷ stages) seen).read bytes at ≡ got ns next → StageRead stage stages seen bytes at ns next
unfolding staged beside
stage_read stage stages seen bytes at ns next e =
    let a = both_read ((stage.shape seen).read bytes at) (λ xs p. onward ((staged stages (seen ++ xs)).read bytes p) (λ ms q. got (xs ++ ms) q)) e in
    let b = both_read ((staged stages (seen ++ a.value)).read bytes a.place) (λ ms q. got (a.value ++ ms) q) a.two in
    let t = b.two in
    let x : a.value ++ b.value ≡ ns = cc in
    let y : b.place ≡ next = cc in
    record { first = a.value; place = a.place; more = b.value; one = a.one; two = b.one ∙ ap (got b.value) y; is = sym x }

-- Where the first is known.
record Behind (stages : List Stage) (seen bytes xs : List ℕ) (place : ℕ) (ns : List ℕ) (next : ℕ) : Type 0 where
  more : List ℕ
  read : (staged stages (seen ++ xs)).read bytes place ≡ got more next
  is : ns ≡ xs ++ more

behind_known : (stage : Stage) (stages : List Stage) (seen bytes xs : List ℕ) (at place : ℕ) (ns : List ℕ) (next : ℕ) → (stage.shape seen).read bytes at ≡ got xs place → (staged (stage ∷ stages) seen).read bytes at ≡ got ns next → Behind stages seen bytes xs place ns next
behind_known stage stages seen bytes xs at place ns next known e =
    let r = stage_read stage stages seen bytes at ns next e in
    let g : got r.first r.place ≡ got xs place = sym r.one ∙ known in
    let x : r.first ≡ xs = cc in
    let y : r.place ≡ place = cc in
    record { more = r.more; read = rw (x, y) at r.two; is = rw x at r.is }

-- THE RUN THAT STANDS in bytes is that of the numbers that stand, which are tidy and fit.
abbrev pub Same : Standing → Numbers → Type 0
Same nothing no_numbers = Unit {0}
Same nothing (numbers_stand ns) = ⊥
Same (run_bytes bytes) no_numbers = ⊥
Same (run_bytes bytes) (numbers_stand ns) = (bytes ≡ bytes_of (run.fields ns)) × (run.tidy ns ≡ true) × (record_fits ns ≡ true)

-- What a call gets of them, by the numbers in its bytes.
abbrev pub GotNumbers : Numbers → (numbers : List ℕ) → Type 0
GotNumbers no_numbers ns = has_record (numbers_in ns) ≡ false
GotNumbers (numbers_stand stand) ns = (has_record (numbers_in ns) ≡ true) × (run_in ns ≡ stand)

pub mark_there : (stand : Standing) (bytes rest : List ℕ) (at : ℕ) → drop at bytes ≡ given_bytes stand ++ rest → numbers_at 2 1 bytes at ≡ got (mark_of stand ∷ []) (at + 1)
unfolding flat_map leb128 groups when◌then◌else◌ every ◌and◌
mark_there nothing bytes rest at e = numbers_there 2 1 bytes rest (0 ∷ []) at (omega arith) refl refl e
mark_there (run_bytes run) bytes rest at e = numbers_there 2 1 bytes (run ++ rest) (1 ∷ []) at (omega arith) refl refl e

-- THE NUMBERS, by their parts: seven, the sheet, the mark, and all behind it.
module _ (limits sheet : List ℕ) (m : ℕ) (more : List ℕ) (seven : length limits ≡ 7) (long : length sheet ≡ sheet_length) where
  abbrev all_parts : List ℕ
  all_parts = limits ++ (sheet ++ (m ∷ more))

  behind_limits : drop 7 all_parts ≡ sheet ++ (m ∷ more)
  behind_limits = drop_at limits (sheet ++ (m ∷ more)) 7 seven

  pub its_sheet : sheet_in all_parts ≡ sheet
  unfolding sheet_in
  its_sheet = rw behind_limits (take_at sheet (m ∷ more) sheet_length long)

  pub its_others : without_sheet all_parts ≡ limits ++ (m ∷ more)
  unfolding without_sheet
  its_others =
      let d : drop (7 + sheet_length) all_parts ≡ m ∷ more = sym (drop-drop sheet_length 7 all_parts) ∙ rw behind_limits (drop_at sheet (m ∷ more) sheet_length long) in
      rw (take_at limits (sheet ++ (m ∷ more)) 7 seven, d)

  pub its_mark : get_or (numbers_in (limits ++ (m ∷ more))) 7 0 ≡ m
  unfolding numbers_in
  its_mark =
      let l = limits ++ (m ∷ more) in
      let n = length-append limits (m ∷ more) in
      let t = length-take 8 l in
      get_or-append (take 8 l) (drop (8 + layout.record_length) l) 0 7 (omega arith) ∙ get_or-take 8 l 7 0 (omega arith) ∙ get_or_at limits m more 0 7 seven

  pub its_numbers : (given others : List ℕ) → length given ≡ layout.record_length → more ≡ given ++ others → numbers_in (limits ++ (m ∷ more)) ≡ limits ++ (m ∷ others)
  unfolding numbers_in
  its_numbers given others n e =
      let l = limits ++ (m ∷ more) in
      let t : take 8 l ≡ limits ++ (m ∷ []) = take-add 7 1 l ∙ rw (take_at limits (m ∷ more) 7 seven, drop_at limits (m ∷ more) 7 seven) in
      let d : drop (8 + layout.record_length) l ≡ others =
      sym (drop-drop layout.record_length 8 l) ∙ rw (← drop-drop 1 7 l, drop_at limits (m ∷ more) 7 seven, e) (drop_at given others layout.record_length n) in
      rw (t, d) (append_assoc limits (m ∷ []) others)

  pub its_run : run_in (limits ++ (m ∷ more)) ≡ take layout.record_length more
  unfolding run_in
  its_run = let e = drop-drop 1 7 (limits ++ (m ∷ more)) in rw (← e, drop_at limits (m ∷ more) 7 seven)

-- One part behind another.
parts_joined : (xs ys : List ℕ) {ns more last rs : List ℕ} → ns ≡ xs ++ more → more ≡ ys ++ last → last ≡ rs → ns ≡ xs ++ (ys ++ rs)
parts_joined xs ys e f g = e ∙ ap (λ (x : List ℕ). xs ++ x) (f ∙ ap (λ (x : List ℕ). ys ++ x) g)

-- THE PLACES of its parts.
module _ (sheet : List ℕ) (tidy : sheet_shape.tidy sheet ≡ true) {stand : Standing} {bytes : List ℕ} (gets : Gets sheet stand bytes) where
  abbrev pub limit_bytes : List ℕ
  limit_bytes = bytes_of gets.limits

  abbrev pub sheet_bytes : List ℕ
  sheet_bytes = bytes_of (sheet_shape.fields sheet)

  abbrev pub from_mark : List ℕ
  from_mark = given_bytes stand ++ gets.rest

  abbrev pub first : ℕ
  first = 0 + length limit_bytes

  abbrev pub second : ℕ
  second = first + length sheet_bytes

  pub at_limits : drop 0 bytes ≡ limit_bytes ++ (sheet_bytes ++ from_mark)
  at_limits = gets.are ∙ append_assoc (limit_bytes ++ sheet_bytes) (given_bytes stand) gets.rest ∙ append_assoc limit_bytes sheet_bytes from_mark

  pub at_sheet : drop first bytes ≡ sheet_bytes ++ from_mark
  at_sheet = past bytes 0 limit_bytes (sheet_bytes ++ from_mark) at_limits

  pub at_mark : drop second bytes ≡ from_mark
  at_mark = past bytes first sheet_bytes from_mark at_sheet

  -- what was read there: from the sheet on, and all
  record RestRead (ns : List ℕ) : Type 0 where
    rest : List ℕ
    place : ℕ
    more : List ℕ
    read : rest_shape.read bytes second ≡ got rest place
    is : ns ≡ sheet ++ (rest ++ more)

  sheet_read : (ns : List ℕ) (next : ℕ) → (staged (the_sheet ∷ the_rest ∷ []) gets.limits).read bytes first ≡ got ns next → RestRead ns
  sheet_read ns next e =
      let b = behind_known the_sheet (the_rest ∷ []) gets.limits bytes sheet first second ns next (sheet_exact.back bytes from_mark sheet first tidy at_sheet) e in
      let c = stage_read the_rest [] (gets.limits ++ sheet) bytes second b.more next b.read in
      record { rest = c.first; place = c.place; more = c.more; read = c.one; is = b.is ∙ ap (λ (x : List ℕ). sheet ++ x) c.is }

  record CallRead (ns : List ℕ) : Type 0 where
    others : List ℕ
    read : RestRead others
    is : ns ≡ gets.limits ++ others

  call_read : (ns : List ℕ) (next : ℕ) → call.read bytes 0 ≡ got ns next → CallRead ns
  unfolding call numbers
  call_read ns next e =
      let l = numbers_there (2 ^ 64) 7 bytes (sheet_bytes ++ from_mark) gets.limits 0 (omega arith) gets.seven gets.small at_limits in
      let a = behind_known limits_stage (the_sheet ∷ the_rest ∷ []) [] bytes gets.limits 0 first ns next l e in
      record { others = a.more; read = sheet_read a.more next a.read; is = a.is }

  -- and behind the mark
  record MarkRead (rest : List ℕ) (place : ℕ) : Type 0 where
    more : List ℕ
    read : (staged (given ∷ event_numbers ∷ answered ∷ answers ∷ []) (mark_of stand ∷ [])).read bytes (second + 1) ≡ got more place
    is : rest ≡ mark_of stand ∷ more

  mark_read : (rs : List ℕ) (place : ℕ) → rest_shape.read bytes second ≡ got rs place → MarkRead rs place
  unfolding rest_shape numbers
  mark_read rs place e =
      let b = behind_known mark (given ∷ event_numbers ∷ answered ∷ answers ∷ []) [] bytes (mark_of stand ∷ []) second (second + 1) rs place (mark_there stand bytes gets.rest second at_mark) e in
      record { more = b.more; read = b.read; is = b.is }

  -- THE PARTS of what was read.
  record PartsRead (ns : List ℕ) : Type 0 where
    run_on : List ℕ
    place : ℕ
    more : List ℕ
    read : (staged (given ∷ event_numbers ∷ answered ∷ answers ∷ []) (mark_of stand ∷ [])).read bytes (second + 1) ≡ got run_on place
    is : ns ≡ gets.limits ++ (sheet ++ (mark_of stand ∷ (run_on ++ more)))

  parts_read : (ns : List ℕ) (next : ℕ) → call.read bytes 0 ≡ got ns next → PartsRead ns
  parts_read ns next e =
      let c = call_read ns next e in
      let r = c.read in
      let m = mark_read r.rest r.place r.read in
      record { run_on = m.more; place = r.place; more = r.more; read = m.read; is = parts_joined gets.limits sheet c.is r.is (ap (λ (x : List ℕ). x ++ r.more) m.is) }

  pub sheet_long : length sheet ≡ sheet_length
  sheet_long = sheet_exact.long sheet tidy ∙ sheet_width

  pub sheet_there : (ns : List ℕ) (next : ℕ) → call.read bytes 0 ≡ got ns next → sheet_in ns ≡ sheet
  sheet_there ns next e =
      let p = parts_read ns next e in
      rw p.is (its_sheet gets.limits sheet (mark_of stand) (p.run_on ++ p.more) gets.seven sheet_long)

  mark_is : (ns : List ℕ) → PartsRead ns → has_record (numbers_in (without_sheet ns)) ≡ eqb (mark_of stand) 1
  mark_is ns p =
      let a = its_others gets.limits sheet (mark_of stand) (p.run_on ++ p.more) gets.seven sheet_long in
      let b = its_mark gets.limits sheet (mark_of stand) (p.run_on ++ p.more) gets.seven sheet_long in
      rw (p.is, a, b)

  run_is : (ns : List ℕ) (p : PartsRead ns) → run_in (without_sheet ns) ≡ take layout.record_length (p.run_on ++ p.more)
  run_is ns p =
      let a = its_others gets.limits sheet (mark_of stand) (p.run_on ++ p.more) gets.seven sheet_long in
      let b = its_run gets.limits sheet (mark_of stand) (p.run_on ++ p.more) gets.seven sheet_long in
      rw (p.is, a) b

-- WHAT THE CALL GETS.
pub numbers_got : (sheet : List ℕ) → sheet_shape.tidy sheet ≡ true → (stand : Standing) (k : Numbers) → Same stand k → {bytes : List ℕ} → Gets sheet stand bytes → (ns : List ℕ) (next : ℕ) → call.read bytes 0 ≡ got ns next → GotNumbers k (without_sheet ns)
unfolding when◌then◌else◌
numbers_got sheet tidy nothing no_numbers same gets ns next e = mark_is sheet tidy gets ns (parts_read sheet tidy gets ns next e)
numbers_got sheet tidy nothing (numbers_stand xs) same gets ns next e = absurd same
numbers_got sheet tidy (run_bytes _) no_numbers same gets ns next e = absurd same
numbers_got sheet tidy (run_bytes b) (numbers_stand xs) same {bytes} gets ns next e =
    let p = parts_read sheet tidy gets ns next e in
    let i = second sheet tidy gets + 1 in
    let d : drop i bytes ≡ b ++ gets.rest = past bytes (second sheet tidy gets) (1 ∷ []) (b ++ gets.rest) (at_mark sheet tidy gets) in
    let f = run_exact.back bytes gets.rest xs i same.1 (d ∙ ap (λ (x : List ℕ). x ++ gets.rest) same.0) in
    let r = behind_known given (event_numbers ∷ answered ∷ answers ∷ []) (1 ∷ []) bytes xs i (i + length (bytes_of (run.fields xs))) p.run_on p.place f p.read in
    let n : length xs ≡ layout.record_length = run_exact.long xs same.1 ∙ run_width in
    let g : p.run_on ++ p.more ≡ xs ++ (r.more ++ p.more) = ap (λ (x : List ℕ). x ++ p.more) r.is ∙ append_assoc xs r.more p.more in
    (mark_is sheet tidy gets ns p, run_is sheet tidy gets ns p ∙ ap (λ (x : List ℕ). take layout.record_length x) g ∙ take_at xs (r.more ++ p.more) layout.record_length n)

-- AN ANSWERED CALL: its bytes are read, and the numbers of its answer are those of the decision on what was read.
pub record Answered (bytes ds : List ℕ) : Type 0 where
  pub numbers : List ℕ
  pub next : ℕ
  pub read : call.read bytes 0 ≡ got numbers next
  pub received : receipt sheet_length (numbers_in (without_sheet numbers)) (run_in (without_sheet numbers)) layout.answer_length ≡ layout.written
  pub is : ds ≡ decision_numbers (decided (sheet_in numbers) (numbers_in (without_sheet numbers)) (run_in (without_sheet numbers)))

pub never_said : {G : Type 0} {ns : List ℕ} → unread ≡ said ns → G
never_said {G} {ns} e = let z : ◌≡◌ {A = ℕ} 0 1 = cc in absurd (omega arith)

ended_same : (size : ℕ) (r : Read (List ℕ)) (ns : List ℕ) (next : ℕ) → ended size r ≡ got ns next → r ≡ got ns next
unfolding ended when◌then◌else◌
ended_same size bad ns next e = not_bad e
ended_same size (got ms p) ns next e = split (eqb p size) (λ t. rw t at e) (λ t. not_bad (rw t at e))

on_said : (sheet call given ds : List ℕ) → on_numbers sheet call given ≡ said ds → (receipt sheet_length call given layout.answer_length ≡ layout.written) × (ds ≡ decision_numbers (decided sheet call given))
unfolding on_numbers when◌then◌else◌
on_said sheet call given ds e =
    split (eqb (receipt sheet_length call given layout.answer_length) layout.written)
    (λ t.
    let f : said (decision_numbers (decided sheet call given)) ≡ said ds = rw t at e in
    let x : decision_numbers (decided sheet call given) ≡ ds = cc in
    (eqb-true _ layout.written t, sym x))
    (λ t. never_said (rw t at e))

by_whole : (bytes ds : List ℕ) (r : Read (List ℕ)) → whole call bytes ≡ r → decide bytes ≡ said ds → Answered bytes ds
unfolding decide
by_whole bytes ds bad f e = never_said (rw f at e)
by_whole bytes ds (got ns next) f e =
    let o = on_said (sheet_in ns) (numbers_in (without_sheet ns)) (run_in (without_sheet ns)) ds (rw f at e) in
    record { numbers = ns; next = next; read = ended_same (length bytes) (call.read bytes 0) ns next f; received = o.0; is = o.1 }

pub answered_by : (bytes ds : List ℕ) → decide bytes ≡ said ds → Answered bytes ds
answered_by bytes ds e = by_whole bytes ds (whole call bytes) refl e

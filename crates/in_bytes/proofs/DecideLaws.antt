-- What a call decides, by what was read of its bytes and what the number form returned.
use Rattle.std.specs.Prelude.{◌≡◌, Option, Bool, true, false, ℕ, ◌+◌, ◌-◌, ◌^◌, eqb, length, take, drop}
use Rattle.std.proofs.Math.Path.{refl, ap}
use Rattle.std.proofs.Common.{sym, ◌∙◌, arith, length-append, length-drop, length-take-le, eqb-true, eq-eqb, ne_eqb}
use Rattle.std.proofs.lemmas.Bool.{false≢true}
use mathlib.Core.List.{List}
use Rattle.std.proofs.Math.Seq.{take-length}
use Rattle.laws.specs.Bool.{when◌then◌else◌, split, if_true, if_false}
use Rattle.laws.specs.Splice.{splice, splice_all}
use Rattle.workflow.specs.Layout.{numbers as sheet_length}
use Rattle.host.specs.Layout as layout
use Rattle.host.specs.Write.{decision_numbers}
use Rattle.host.specs.Host.{receipt, decided, answered, Full}
use Rattle.codec.specs.Read.{bad}
use Rattle.codec.specs.Numbers.{part, numbers_at, all_below}
use Rattle.codec.specs.Stages.{numbers, beside, widths, staged}
use Rattle.codec.specs.Stored.{place_of, Stored}
use Rattle.codec.specs.Exact.{Bytes}
use Rattle.codec.proofs.Parts.{part_below}
use Rattle.in_bytes.specs.Event.{event}
use Rattle.in_bytes.specs.Call.{the_rest, call, call_on, without_sheet, run_in, numbers_in}
use Rattle.in_bytes.specs.CallStored.{CallStored, OnStored}
use Rattle.in_bytes.proofs.StagesLeft.{read_long}
use Rattle.in_bytes.proofs.CallLaws.{call_exact, call_on_exact}
use Rattle.in_bytes.specs.Boundary.{bad_bytes, no_item, refused, whole, Decided, said, unread, on_numbers, decide, decide_on, told, call_bytes_on, is_said, said_in, Of64Bits}
use Rattle.in_bytes.proofs.BoundaryLaws.{Whole}

-- AN EVENT'S BYTES are read as numbers.
module _ (bytes : List ℕ) where
  pub event_place : {z : Option ℕ} → z ≡ place_of (numbers_at (2 ^ 64) layout.event_length bytes 0) → z ≡ place_of (event.read bytes 0)
  unfolding event numbers
  event_place e = e

  pub event_stored : {before after : List ℕ} → Stored (numbers_at (2 ^ 64) layout.event_length bytes 0) before 0 after → Stored (event.read bytes 0) before 0 after
  unfolding event numbers
  event_stored s = s

pub event_width : event.width ≡ layout.event_length
unfolding event numbers
event_width = refl

-- WHAT IS SAID OF A DECISION: whether it has numbers; that they fill the lent array; that they have 64 bits.
abbrev pub Says : Decided → Bool → (before after : List ℕ) → Type 0
Says d r before after = (r ≡ is_said d) × ((after ≡ said_in d before) × Of64Bits d)

not_said : {G : Type 0} {ns : List ℕ} → unread ≡ said ns → G
not_said e = let z : ◌≡◌ {A = ℕ} 0 1 = cc in absurd (omega arith)

pub says_unread : {d : Decided} (array : List ℕ) → d ≡ unread → Says d false array array
unfolding is_said said_in
says_unread array e = rw e (refl, (refl, record { each = λ ns f. not_said f }))

full_below : (ns : List ℕ) → Full ns → all_below (2 ^ 64) ns ≡ true
unfolding part
full_below ns f =
    let e : length ns - 0 ≡ length ns = omega arith in
    rw (e, take-length ns) at (part_below (2 ^ 64) ns 0 (length ns) f.each)

says_said : {d : Decided} (array : List ℕ) {ns after : List ℕ} → d ≡ said ns → length array ≡ layout.answer_length → after ≡ splice array 0 ns → Full ns → Says d true array after
unfolding is_said said_in
says_said array {ns} {after} e long is f =
    let b = full_below ns f in
    let n = f.long ∙ sym long in
    rw e (refl, (is ∙ splice_all array ns n, record { each = λ ms g. let m : ns ≡ ms = cc in rw m at b }))

-- The number form's receipt, what it left in an array of an answer's length, and the answer's numbers.
module _ (sheet call given array : List ℕ) (long : length array ≡ layout.answer_length) where
  abbrev its_numbers : List ℕ
  its_numbers = decision_numbers (decided sheet call given)

  module _ {n : ℕ} {after : List ℕ} (told : n ≡ receipt sheet_length call given (length array)) (left : after ≡ answered sheet sheet_length call given array) (full : n ≡ layout.written → Full its_numbers) where
    same : eqb n layout.written ≡ eqb (receipt sheet_length call given layout.answer_length) layout.written
    same = rw long at (ap (λ (k : ℕ). eqb k layout.written) told)

    pub says_numbers : {d : Decided} → d ≡ on_numbers sheet call given → Says d (eqb n layout.written) array after
    unfolding on_numbers answered
    says_numbers {d} e =
        split (eqb n layout.written)
        (λ h.
        let o : d ≡ said its_numbers = e ∙ if_true _ _ _ (sym same ∙ h) in
        let l : after ≡ splice array 0 its_numbers = left ∙ if_true _ _ _ (rw told at h) in
        rw h (says_said array o long l (full (eqb-true n layout.written h))))
        (λ h.
        let o : d ≡ unread = e ∙ if_false _ _ _ (sym same ∙ h) in
        let l : after ≡ array = left ∙ if_false _ _ _ (rw told at h) in
        rw (h, l) (says_unread array o))

-- THE LENGTHS of what was read.
pub call_width : call.width ≡ layout.call_has_record + sheet_length + the_rest.room
unfolding call staged beside numbers widths
call_width = refl

on_width : call_on.width ≡ layout.call_has_record + the_rest.room
unfolding call_on staged beside numbers widths
on_width = refl

without_long : (ns : List ℕ) → length ns ≡ call.width → length (without_sheet ns) ≡ call_on.width
unfolding without_sheet
without_long ns n =
    let w = call_width in
    let v = on_width in
    let a = length-append (take layout.call_has_record ns) (drop (layout.call_has_record + sheet_length) ns) in
    let b = length-take-le layout.call_has_record ns (omega arith) in
    let c = length-drop (layout.call_has_record + sheet_length) ns in
    omega arith

parts_long : (ns : List ℕ) → length ns ≡ call_on.width → (length (numbers_in ns) ≡ layout.call_length) × (length (run_in ns) ≡ layout.record_length)
unfolding numbers_in run_in
parts_long ns n =
    let w = on_width in
    let a = length-append (take layout.call_sequence ns) (drop (layout.call_sequence + layout.record_length) ns) in
    let b = length-take-le layout.call_sequence ns (omega arith) in
    let c = length-drop (layout.call_sequence + layout.record_length) ns in
    let d = length-drop layout.call_sequence ns in
    (omega arith, length-take-le layout.record_length (drop layout.call_sequence ns) (omega arith))

-- WHAT WAS READ: a call, and a call on a sheet in numbers.
module _ (bytes : List ℕ) where
  pub decide_bad : whole call bytes ≡ bad → decide bytes ≡ unread
  unfolding decide
  decide_bad e = rw e

  pub decide_parts : {graph numbers given : List ℕ} (w : Whole (length bytes) (call.read bytes 0)) → CallStored (call.read bytes 0) graph numbers given → decide bytes ≡ on_numbers graph numbers given
  unfolding decide
  decide_parts w s =
      let a = s.sheet_is w.ns (length bytes) w.is in
      let b = s.call_is w.ns (length bytes) w.is in
      let c = s.run_is w.ns (length bytes) w.is in
      rw (w.all, a, b, c)

  pub call_lengths : {graph numbers given : List ℕ} (w : Whole (length bytes) (call.read bytes 0)) → Bytes bytes → CallStored (call.read bytes 0) graph numbers given → (length numbers ≡ layout.call_length) × (length given ≡ layout.record_length)
  call_lengths w good s =
      let p = parts_long (without_sheet w.ns) (without_long w.ns (read_long call_exact good w.is)) in
      (ap length (s.call_is w.ns (length bytes) w.is) ∙ p.0, ap length (s.run_is w.ns (length bytes) w.is) ∙ p.1)

  pub on_lengths : {numbers given : List ℕ} (w : Whole (length bytes) (call_on.read bytes 0)) → Bytes bytes → OnStored (call_on.read bytes 0) numbers given → (length numbers ≡ layout.call_length) × (length given ≡ layout.record_length)
  on_lengths w good s =
      let p = parts_long w.ns (read_long call_on_exact good w.is) in
      (ap length (s.call_is w.ns (length bytes) w.is) ∙ p.0, ap length (s.run_is w.ns (length bytes) w.is) ∙ p.1)

  module _ (sheet : List ℕ) where
    pub on_unread : whole call_on bytes ≡ bad → decide_on sheet bytes ≡ unread
    unfolding decide_on
    on_unread e = rw e

    pub on_parts : {numbers given : List ℕ} (w : Whole (length bytes) (call_on.read bytes 0)) → OnStored (call_on.read bytes 0) numbers given → decide_on sheet bytes ≡ on_numbers sheet numbers given
    unfolding decide_on
    on_parts w s =
        let b = s.call_is w.ns (length bytes) w.is in
        let c = s.run_is w.ns (length bytes) w.is in
        rw (w.all, b, c)

    module _ (size room : ℕ) where
      pub on_other : (size ≡ sheet_length → ⊥) → call_bytes_on sheet size bytes room ≡ refused layout.bad_sheet_length 0
      unfolding call_bytes_on when◌then◌else◌
      on_other h = rw (ne_eqb size sheet_length h)

      pub on_told : size ≡ sheet_length → call_bytes_on sheet size bytes room ≡ told room (decide_on sheet bytes)
      unfolding call_bytes_on when◌then◌else◌
      on_told h = rw (eq-eqb size sheet_length h)

-- WHAT IS TOLD, once it is known whether there are numbers.
module _ (room : ℕ) {r : Bool} where
  pub told_said : (d : Decided) (before : List ℕ) {after : List ℕ} → r ≡ is_said d → after ≡ said_in d before → r ≡ true → told room (said after) ≡ told room d
  unfolding is_said said_in
  told_said (said ns) before e l h = ap (λ (xs : List ℕ). told room (said xs)) l
  told_said unread before e l h = absurd (false≢true (sym e ∙ h))

  pub told_unread : (d : Decided) → r ≡ is_said d → r ≡ false → told room d ≡ refused bad_bytes no_item
  unfolding is_said told
  told_unread (said ns) e h = absurd (false≢true (sym h ∙ e))
  told_unread unread e h = refl

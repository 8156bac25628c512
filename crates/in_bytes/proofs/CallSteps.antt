-- A call read step by step, with its sheet and without: into the arrays of the sheet, the call and the run.
use Rattle.std.specs.Prelude.{◌≡◌, Option, Some, None, refl, List, [], ◌∷◌, ◌++◌, ℕ, ◌+◌, ◌-◌, ◌^◌, ◌≤◌, replicate}
use Rattle.std.proofs.Math.Path.{sym, ap}
use Rattle.std.proofs.Common.{◌∙◌, append_assoc, length-drop, length-take-le}
use native.Mathlib.Omega.{arith}
use Rattle.std.proofs.Math.ListN.{length, take, drop, length-append}
use Rattle.std.proofs.lemmas.List.{length-replicate}
use Rattle.std.proofs.Math.Seq.{take_at, drop_at, take-append-add, drop-append-add}
use Rattle.laws.specs.Splice.{splice, splice_all, splice_more}
use Rattle.workflow.specs.Layout.{numbers as sheet_length}
use Rattle.host.specs.Layout as layout
use Rattle.codec.specs.Read.{Read, got, bad}
use Rattle.codec.specs.Numbers.{numbers_at, part}
use Rattle.codec.specs.Stages.{numbers}
use Rattle.codec.specs.Stored.{place_of, Stored, ZeroFrom}
use Rattle.codec.specs.Exact.{Bytes}
use Rattle.codec.proofs.ExactLaws.{not_bad}
use Rattle.codec.proofs.NumbersLaws.{numbers_long}
use Rattle.codec.proofs.StoredLaws.{at_got, at_bad, bad_place, got_place}
use Rattle.codec.proofs.Zeros.{zero_behind}
use Rattle.codec.proofs.PartLaws.{put_part, part_place, part_read}
use Rattle.in_bytes.specs.Sheet.{sheet}
use Rattle.in_bytes.proofs.SheetLaws.{sheet_exact, sheet_width}
use Rattle.in_bytes.specs.Call.{rest, limits, the_sheet, the_rest, call, call_on, sheet_in, without_sheet, run_in, numbers_in}
use Rattle.in_bytes.specs.CallStored.{RestStored, CallStored, OnStored}
use Rattle.in_bytes.proofs.CallLaws.{rest_exact, rest_width}
use Rattle.in_bytes.proofs.StagesLeft.{read_long, same_read, Left, left_start, left_bad, left_more, left_end}

-- THE PARTS of a call without its sheet: behind the limits stand the mark, the run, and what else it has.
module _ (ls rs : List ℕ) (long : length ls ≡ layout.call_has_record) where
  numbers_of : numbers_in (ls ++ rs) ≡ ls ++ (take 1 rs ++ drop (1 + layout.record_length) rs)
  unfolding numbers_in
  numbers_of =
      let i : layout.call_sequence ≡ length ls + 1 = omega arith in
      let j : layout.call_sequence + layout.record_length ≡ length ls + (1 + layout.record_length) = omega arith in
      let t : take layout.call_sequence (ls ++ rs) ≡ ls ++ take 1 rs = ap (λ n. take n (ls ++ rs)) i ∙ take-append-add ls rs 1 in
      let d : drop (layout.call_sequence + layout.record_length) (ls ++ rs) ≡ drop (1 + layout.record_length) rs = ap (λ n. drop n (ls ++ rs)) j ∙ drop-append-add ls rs (1 + layout.record_length) in
      rw (t, d) (append_assoc ls (take 1 rs) (drop (1 + layout.record_length) rs))

  run_of : run_in (ls ++ rs) ≡ take layout.record_length (drop 1 rs)
  unfolding run_in
  run_of =
      let i : layout.call_sequence ≡ length ls + 1 = omega arith in
      ap (take layout.record_length) (ap (λ n. drop n (ls ++ rs)) i ∙ drop-append-add ls rs 1)

  -- and of a call, whose sheet stands between
  module _ (ss : List ℕ) (wide : length ss ≡ sheet_length) where
    sheet_of : sheet_in (ls ++ ss ++ rs) ≡ ss
    unfolding sheet_in
    sheet_of = ap (take sheet_length) (ap (drop layout.call_has_record) (append_assoc ls ss rs) ∙ drop_at ls (ss ++ rs) layout.call_has_record long) ∙ take_at ss rs sheet_length wide

    without_of : without_sheet (ls ++ ss ++ rs) ≡ ls ++ rs
    unfolding without_sheet
    without_of =
        let n : length (ls ++ ss) ≡ layout.call_has_record + sheet_length = length-append ls ss ∙ omega arith in
        let t : take layout.call_has_record (ls ++ ss ++ rs) ≡ ls = ap (take layout.call_has_record) (append_assoc ls ss rs) ∙ take_at ls (ss ++ rs) layout.call_has_record long in
        let d : drop (layout.call_has_record + sheet_length) (ls ++ ss ++ rs) ≡ rs = drop_at (ls ++ ss) rs (layout.call_has_record + sheet_length) n in
        rw (t, d)

-- THE LIMITS, into an array that is zero.
call_start : (bytes : List ℕ) → Left (limits ∷ the_sheet ∷ the_rest ∷ []) bytes (call.read bytes 0) [] 0
unfolding call
call_start bytes = left_start (limits ∷ the_sheet ∷ the_rest ∷ []) bytes 0

on_start : (bytes : List ℕ) → Left (limits ∷ the_rest ∷ []) bytes (call_on.read bytes 0) [] 0
unfolding call_on
on_start bytes = left_start (limits ∷ the_rest ∷ []) bytes 0

-- What was read of them, and where it stands.
pub record Limited (bytes before list : List ℕ) (at : ℕ) : Type 0 where
  pub first : List ℕ
  pub read : numbers_at (2 ^ 64) layout.call_has_record bytes 0 ≡ got first at
  pub is : list ≡ splice before 0 first
  pub many : length first ≡ layout.call_has_record
  pub blank : before ≡ replicate layout.call_length 0
  pub good : Bytes bytes

module _ (bytes before : List ℕ) (blank : before ≡ replicate layout.call_length 0) {z : Option ℕ} (sliced : z ≡ place_of (numbers_at (2 ^ 64) (length (part before 0 layout.call_has_record)) bytes 0)) where
  room : layout.call_has_record ≤ length before
  room = let n : length before ≡ layout.call_length = ap length blank ∙ length-replicate {A = ℕ} layout.call_length 0 in omega arith

  answer : z ≡ place_of (numbers_at (2 ^ 64) layout.call_has_record bytes 0)
  answer = part_place (2 ^ 64) bytes 0 before 0 layout.call_has_record (omega arith) room sliced

  pub limits_bad : z ≡ None → call.read bytes 0 ≡ bad
  unfolding numbers
  limits_bad b = left_bad (call_start bytes) (at_bad answer b)

  pub on_bad : z ≡ None → call_on.read bytes 0 ≡ bad
  unfolding numbers
  on_bad b = left_bad (on_start bytes) (at_bad answer b)

  pub limited : {ys : List ℕ} {p : ℕ} → z ≡ Some p → Stored (numbers_at (2 ^ 64) (length (part before 0 layout.call_has_record)) bytes 0) (part before 0 layout.call_has_record) 0 ys → Bytes bytes → Limited bytes before (put_part before 0 layout.call_has_record ys) p
  limited {ys} {p} e stored good =
      let g = at_got answer e in
      let s = part_read (2 ^ 64) bytes 0 before 0 layout.call_has_record (omega arith) room stored in
      record { first = g.value; read = g.is; is = s.is g.value p g.is; many = numbers_long (2 ^ 64) bytes layout.call_has_record 0 g.value p g.is; blank = blank; good = good }

module _ {bytes before list : List ℕ} {at : ℕ} (inv : Limited bytes before list at) where
  before_long : length before ≡ layout.call_length
  before_long = ap length inv.blank ∙ length-replicate {A = ℕ} layout.call_length 0

  pub limits_blank : ZeroFrom layout.call_has_record list
  limits_blank =
      let n = before_long in
      let m = inv.many in
      let e : length before - 0 ≡ layout.call_length = omega arith in
      let i : 0 + length inv.first ≡ layout.call_has_record = omega arith in
      rw (← inv.is, i) at (zero_behind before 0 (rw e inv.blank) inv.first (omega arith))

  -- with what is read behind the sheet
  call_array : (rs : List ℕ) {after : List ℕ} → length rs ≡ the_rest.room → after ≡ splice list layout.call_has_record (take 1 rs ++ drop (1 + layout.record_length) rs) → after ≡ numbers_in (inv.first ++ rs)
  call_array rs long stored =
      let ls = inv.first in
      let more = take 1 rs ++ drop (1 + layout.record_length) rs in
      let n = before_long in
      let m = inv.many in
      let t = length-take-le 1 rs (omega arith) in
      let d = length-drop (1 + layout.record_length) rs in
      let k = length-append (take 1 rs) (drop (1 + layout.record_length) rs) in
      let l = length-append ls more in
      stored ∙ ap (λ (xs : List ℕ). splice xs layout.call_has_record more) inv.is ∙ splice_more before 0 ls more layout.call_has_record (omega arith) (omega arith) ∙ splice_all before (ls ++ more) (omega arith) ∙ sym (numbers_of ls rs m)

-- WITHOUT A SHEET.
pub bad_on : {r : Read (List ℕ)} {array given : List ℕ} → r ≡ bad → OnStored r array given
bad_on e = record { call_is = λ ns next f. not_bad (sym e ∙ f); run_is = λ ns next f. not_bad (sym e ∙ f) }

got_on : {r : Read (List ℕ)} {array given ns : List ℕ} {next : ℕ} → r ≡ got ns next → array ≡ numbers_in ns → given ≡ run_in ns → OnStored r array given
got_on e f g = record { call_is = λ ms q h. f ∙ ap numbers_in (same_read e h); run_is = λ ms q h. g ∙ ap run_in (same_read e h) }

module _ {bytes before list : List ℕ} {at : ℕ} (inv : Limited bytes before list at) where
  on_next : Left (the_rest ∷ []) bytes (call_on.read bytes 0) inv.first at
  unfolding numbers
  on_next = left_more (on_start bytes) inv.read

  module _ {z : Option ℕ} {after given : List ℕ} (stored : RestStored (rest.read bytes at) list after given) where
    on_by_rest : (r : Read (List ℕ)) → rest.read bytes at ≡ r → z ≡ place_of r → (z ≡ place_of (call_on.read bytes 0)) × OnStored (call_on.read bytes 0) after given
    unfolding place_of
    on_by_rest bad e a = let b = left_bad on_next e in (a ∙ bad_place b, bad_on b)
    on_by_rest (got rs p) e a =
        let all = left_end (left_more on_next e) in
        let n : length rs ≡ the_rest.room = read_long rest_exact inv.good e ∙ rest_width in
        (a ∙ got_place all, got_on all (call_array inv rs n (stored.call rs p e)) (stored.run rs p e ∙ sym (run_of inv.first rs inv.many)))

    pub on_read : z ≡ place_of (rest.read bytes at) → (z ≡ place_of (call_on.read bytes 0)) × OnStored (call_on.read bytes 0) after given
    on_read a = on_by_rest (rest.read bytes at) refl a

-- WITH ITS SHEET, into an array that is zero.
pub bad_call : {r : Read (List ℕ)} {graph array given : List ℕ} → r ≡ bad → CallStored r graph array given
bad_call e = record { sheet_is = λ ns next f. not_bad (sym e ∙ f); call_is = λ ns next f. not_bad (sym e ∙ f); run_is = λ ns next f. not_bad (sym e ∙ f) }

got_call : {r : Read (List ℕ)} {graph array given ns : List ℕ} {next : ℕ} → r ≡ got ns next → graph ≡ sheet_in ns → array ≡ numbers_in (without_sheet ns) → given ≡ run_in (without_sheet ns) → CallStored r graph array given
got_call e d f g =
    record {
      sheet_is = λ ms q h. d ∙ ap sheet_in (same_read e h);
      call_is = λ ms q h. f ∙ ap (λ (xs : List ℕ). numbers_in (without_sheet xs)) (same_read e h);
      run_is = λ ms q h. g ∙ ap (λ (xs : List ℕ). run_in (without_sheet xs)) (same_read e h);
    }

module _ {bytes before list : List ℕ} {at : ℕ} (inv : Limited bytes before list at) where
  sheet_next : Left (the_sheet ∷ the_rest ∷ []) bytes (call.read bytes 0) inv.first at
  unfolding numbers
  sheet_next = left_more (call_start bytes) inv.read

  module _ {y : Option ℕ} (told : y ≡ place_of (sheet.read bytes at)) where
    pub sheet_bad : y ≡ None → call.read bytes 0 ≡ bad
    sheet_bad b = left_bad sheet_next (at_bad told b)

    module _ {zeros graph : List ℕ} {p : ℕ} (there : y ≡ Some p) (none : zeros ≡ replicate sheet_length 0) (graphed : Stored (sheet.read bytes at) zeros 0 graph) where
      -- the array has the sheet's numbers
      graph_read : (sheet.read bytes at ≡ got graph p) × (length graph ≡ sheet_length)
      graph_read =
          let g = at_got told there in
          let n = read_long sheet_exact inv.good g.is in
          let w = sheet_width in
          let m : length zeros ≡ sheet_length = ap length none ∙ length-replicate {A = ℕ} sheet_length 0 in
          let f : graph ≡ g.value = graphed.is g.value p g.is ∙ splice_all zeros g.value (omega arith) in
          (rw f g.is, rw f (omega arith))

      rest_next : Left (the_rest ∷ []) bytes (call.read bytes 0) (inv.first ++ graph) p
      rest_next = left_more sheet_next graph_read.0

      module _ {z : Option ℕ} {after given : List ℕ} (stored : RestStored (rest.read bytes p) list after given) where
        by_rest : (r : Read (List ℕ)) → rest.read bytes p ≡ r → z ≡ place_of r → (z ≡ place_of (call.read bytes 0)) × CallStored (call.read bytes 0) graph after given
        unfolding place_of
        by_rest bad e a = let b = left_bad rest_next e in (a ∙ bad_place b, bad_call b)
        by_rest (got rs q) e a =
            let ls = inv.first in
            let all = left_end (left_more rest_next e) in
            let n : length rs ≡ the_rest.room = read_long rest_exact inv.good e ∙ rest_width in
            let w = without_of ls rs inv.many graph graph_read.1 in (
              a ∙ got_place all,
              got_call all (sym (sheet_of ls rs inv.many graph graph_read.1)) (call_array inv rs n (stored.call rs q e) ∙ ap numbers_in (sym w)) (stored.run rs q e ∙ sym (run_of ls rs inv.many) ∙ ap run_in (sym w)),
            )

        pub call_read : z ≡ place_of (rest.read bytes p) → (z ≡ place_of (call.read bytes 0)) × CallStored (call.read bytes 0) graph after given
        call_read a = by_rest (rest.read bytes p) refl a

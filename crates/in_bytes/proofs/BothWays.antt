-- BOTH WAYS, of what the exported functions answer: what one writes the other reads as the same numbers; and bytes from which one reads numbers are those that the other writes of them.
use Rattle.std.specs.Prelude.{◌≡◌, Bool, true, false, not, List, ◌++◌, ℕ, ◌*◌, ◌^◌, ◌≤◌, ◌<◌, ltb, eqb}
use Rattle.std.proofs.Math.Path.{refl}
use Rattle.std.proofs.Common.{sym, ap, ◌∙◌, append-nil, arith}
use Rattle.std.proofs.Math.ListN.{length}
use Rattle.std.proofs.Math.Seq.{drop-length}
use borrow.Author.Tests.{eq-eqb, ne_eqb, eqb-true}
use Rattle.laws.specs.Bool.{when◌then◌else◌, split, join}
use Rattle.workflow.specs.Layout.{numbers as sheet_length}
use Rattle.host.specs.Layout as layout
use Rattle.host.specs.Read.{record_fits}
use Rattle.codec.specs.Read.{Read, got, bad}
use Rattle.codec.specs.Numbers.{bytes_of, all_below}
use Rattle.codec.specs.Stages.{Shape, numbers}
use Rattle.codec.specs.Exact.{Bytes, Exact}
use Rattle.codec.proofs.ColumnsLaws.{exact_few}
use Rattle.in_bytes.specs.Sheet.{sheet}
use Rattle.in_bytes.proofs.SheetLaws.{sheet_exact, sheet_width}
use Rattle.in_bytes.specs.Run.{run}
use Rattle.in_bytes.proofs.RunLaws.{run_exact, run_width}
use Rattle.in_bytes.specs.Event.{event, event_fits}
use Rattle.in_bytes.specs.Call.{call}
use Rattle.in_bytes.proofs.CallLaws.{event_exact, call_exact}
use Rattle.in_bytes.specs.Boundary.{bad_form, bad_run, no_item, Outcome, done, refused, into, write_sheet, write_run, write_event, ended, whole, taken, read_sheet, read_run, read_event, unread, decide}
use Rattle.in_bytes.proofs.DecideLaws.{call_width, decide_bad}
use Rattle.in_bytes.proofs.BoundaryLaws.{all_back, into_done, sheet_into, run_into, event_into, taken_done, sheet_taken, run_taken, event_taken}

-- WHAT IS DONE: no test refused it, and there was room.
not_done : {G : Type 0} {number item size : ℕ} {contents : List ℕ} → refused number item ≡ done size contents → G
not_done {G} {number} {item} {size} {contents} e = let z : ◌≡◌ {A = ℕ} 0 1 = cc in absurd (omega arith)

pub passed : (test : Bool) (number item : ℕ) (more : Outcome) {size : ℕ} {contents : List ℕ} → (when not test then refused number item else more) ≡ done size contents → (test ≡ true) × (more ≡ done size contents)
unfolding when◌then◌else◌
passed true number item more e = (refl, e)
passed false number item more e = not_done e

into_bytes : (room : ℕ) (xs : List ℕ) {size : ℕ} {bytes : List ℕ} → into room xs ≡ done size bytes → bytes ≡ xs
unfolding into when◌then◌else◌
into_bytes room xs {size} {bytes} e = split (ltb room (length xs)) (λ t. not_done (rw t at e)) (λ t. let f : done (length xs) xs ≡ done size bytes = rw t at e in cc)

module _ (shape : Shape) (exact : Exact shape) (fits : List ℕ → Bool) (ns : List ℕ) where
  -- The bytes of numbers that fit are read as them.
  back : (room : ℕ) {size : ℕ} {bytes : List ℕ} → shape.tidy ns ≡ true → fits ns ≡ true → into room (bytes_of (shape.fields ns)) ≡ done size bytes → taken fits (whole shape bytes) ≡ done 0 ns
  unfolding ended when◌then◌else◌
  back room tidy fit e =
      let n = length (bytes_of (shape.fields ns)) in
      let w : whole shape (bytes_of (shape.fields ns)) ≡ got ns n = rw (all_back shape exact ns tidy, eq-eqb n n refl) in
      rw (into_bytes room (bytes_of (shape.fields ns)) e) (taken_done fits w fit)

  -- Numbers that were read fit, are tidy and as many as the shape has, and the bytes are theirs.
  pub record ReadOf (bytes : List ℕ) : Type 0 where
    pub tidy : shape.tidy ns ≡ true
    pub fit : fits ns ≡ true
    pub long : length ns ≡ shape.width
    pub are : bytes ≡ bytes_of (shape.fields ns)

  module _ (bytes : List ℕ) (good : Bytes bytes) where
    whole_read : (ms : List ℕ) (next : ℕ) → shape.read bytes 0 ≡ got ms next → next ≡ length bytes → fits ms ≡ true → ms ≡ ns → ReadOf bytes
    whole_read ms next e n fit m =
        let is = exact.only bytes ns 0 next good (rw m at e) in
        record {
          tidy = is.tidy;
          fit = rw m at fit;
          long = exact.long ns is.tidy;
          are = is.there ∙ (ap (λ (rest : List ℕ). bytes_of (shape.fields ns) ++ rest) (rw n (drop-length bytes)) ∙ append-nil (bytes_of (shape.fields ns)));
        }

    by_read : {size : ℕ} (r : Read (List ℕ)) → shape.read bytes 0 ≡ r → taken fits (ended (length bytes) r) ≡ done size ns → ReadOf bytes
    unfolding taken ended when◌then◌else◌
    by_read {size} bad e h = not_done h
    by_read {size} (got ms next) e h =
        split (eqb next (length bytes))
        (λ t. let f : taken fits (got ms next) ≡ done size ns = rw t at h in split (fits ms) (λ u. let g : done 0 ms ≡ done size ns = rw u at f in whole_read ms next e (eqb-true next (length bytes) t) u cc) (λ u. not_done (rw u at f)))
        (λ t. not_done (rw t at h))

    only : {size : ℕ} → taken fits (whole shape bytes) ≡ done size ns → ReadOf bytes
    only h = by_read (shape.read bytes 0) refl h

-- A SHEET.
pub sheet_back : (ns : List ℕ) (room : ℕ) {size : ℕ} {bytes : List ℕ} → write_sheet ns room ≡ done size bytes → read_sheet bytes sheet_length ≡ done 0 ns
unfolding write_sheet
sheet_back ns room {size} {bytes} e =
    let a = passed (eqb (length ns) sheet_length) layout.bad_sheet_length 0 _ e in
    let b = passed (sheet.tidy ns) bad_form no_item _ a.1 in
    sheet_taken bytes sheet_length refl ∙ back sheet sheet_exact (λ _. true) ns room b.0 refl b.1

pub sheet_only : (ns bytes : List ℕ) (room : ℕ) {size : ℕ} → Bytes bytes → read_sheet bytes sheet_length ≡ done size ns → length bytes ≤ room → write_sheet ns room ≡ done (length bytes) bytes
sheet_only ns bytes room good e h =
    let r = only sheet sheet_exact (λ _. true) ns bytes good (sym (sheet_taken bytes sheet_length refl) ∙ e) in
    sheet_into ns room (r.long ∙ sheet_width) r.tidy ∙ rw (← r.are) (into_done room bytes refl h)

-- A RUN.
pub run_back : (ns : List ℕ) (room : ℕ) {size : ℕ} {bytes : List ℕ} → write_run ns room ≡ done size bytes → read_run bytes layout.record_length ≡ done 0 ns
unfolding write_run
run_back ns room {size} {bytes} e =
    let a = passed (eqb (length ns) layout.record_length) layout.bad_record_length 0 _ e in
    let b = passed (record_fits ns) layout.bad_record 0 _ a.1 in
    let c = passed (run.tidy ns) bad_run no_item _ b.1 in
    run_taken bytes layout.record_length refl ∙ back run run_exact record_fits ns room c.0 b.0 c.1

pub run_read : (ns bytes : List ℕ) {size : ℕ} → Bytes bytes → read_run bytes layout.record_length ≡ done size ns → ReadOf run run_exact record_fits ns bytes
run_read ns bytes good e = only run run_exact record_fits ns bytes good (sym (run_taken bytes layout.record_length refl) ∙ e)

pub run_only : (ns bytes : List ℕ) (room : ℕ) {size : ℕ} → Bytes bytes → read_run bytes layout.record_length ≡ done size ns → length bytes ≤ room → write_run ns room ≡ done (length bytes) bytes
run_only ns bytes room good e h =
    let r = run_read ns bytes good e in
    run_into ns room (r.long ∙ run_width) r.fit r.tidy ∙ rw (← r.are) (into_done room bytes refl h)

-- AN EVENT. Its lent numbers have 64 bits.
pub event_back : (ns : List ℕ) (room : ℕ) {size : ℕ} {bytes : List ℕ} → all_below (2 ^ 64) ns ≡ true → write_event ns room ≡ done size bytes → read_event bytes layout.event_length ≡ done 0 ns
unfolding write_event event numbers
event_back ns room {size} {bytes} below e =
    let a = passed (eqb (length ns) layout.event_length) layout.bad_call_length 0 _ e in
    let b = passed (event_fits ns) layout.bad_call 0 _ a.1 in
    event_taken bytes layout.event_length refl ∙ back event event_exact event_fits ns room (join _ _ a.0 below) b.0 b.1

pub event_read : (ns bytes : List ℕ) {size : ℕ} → Bytes bytes → read_event bytes layout.event_length ≡ done size ns → ReadOf event event_exact event_fits ns bytes
event_read ns bytes good e = only event event_exact event_fits ns bytes good (sym (event_taken bytes layout.event_length refl) ∙ e)

pub event_only : (ns bytes : List ℕ) (room : ℕ) {size : ℕ} → Bytes bytes → read_event bytes layout.event_length ≡ done size ns → length bytes ≤ room → write_event ns room ≡ done (length bytes) bytes
unfolding event numbers
event_only ns bytes room good e h =
    let r = event_read ns bytes good e in
    event_into ns room r.long r.fit ∙ rw (← r.are) (into_done room bytes refl h)

-- NO LONGER: ten bytes for each number that a shape has are the most. Longer bytes are bad, of a call too.
module _ (shape : Shape) (exact : Exact shape) (bytes : List ℕ) (good : Bytes bytes) (long : 10 * shape.width < length bytes) where
  longer : (r : Read (List ℕ)) → shape.read bytes 0 ≡ r → ended (length bytes) r ≡ bad
  unfolding ended when◌then◌else◌
  longer bad e = refl
  longer (got ns next) e =
      let is = exact.only bytes ns 0 next good e in
      let p = is.place in
      let f = exact_few shape exact ns (exact.long ns is.tidy) in
      rw (ne_eqb next (length bytes) (λ q. omega arith))

  too_long : whole shape bytes ≡ bad
  too_long = longer (shape.read bytes 0) refl

pub long_call : (bytes : List ℕ) → Bytes bytes → 51250 < length bytes → decide bytes ≡ unread
long_call bytes good long = let w = call_width in decide_bad bytes (too_long call call_exact bytes good (omega arith))

-- The boundary's functions by their tests.
use Rattle.std.specs.Prelude.{◌≡◌, Option, Bool, List, [], ℕ, ◌+◌, ◌≤◌, ◌<◌, length}
use Rattle.std.proofs.Math.Path.{refl, ap}
use Rattle.std.proofs.Common.{sym, ◌∙◌, append-nil, arith}
use Rattle.std.proofs.Math.Bool.{true, false}
use Rattle.std.proofs.lemmas.Bool.{false≢true}
use Rattle.std.proofs.Math.Dec.{eqb}
use borrow.Author.Tests.{lt-ltb, le-ltb, eq-eqb, ne_eqb, eqb-true}
use Rattle.laws.specs.Bool.{when◌then◌else◌}
use Rattle.laws.specs.Splice.{splice_all}
use Rattle.workflow.specs.Layout.{numbers as sheet_length}
use Rattle.host.specs.Layout as layout
use Rattle.host.specs.Read.{at, record_fits}
use Rattle.codec.specs.Read.{Read, got, bad}
use Rattle.codec.specs.Numbers.{bytes_of}
use Rattle.codec.specs.Stages.{Shape, numbers}
use Rattle.codec.specs.Stored.{place_of, Stored}
use Rattle.codec.specs.Exact.{Bytes, Exact}
use Rattle.in_bytes.specs.Sheet.{sheet}
use Rattle.in_bytes.specs.Run.{run}
use Rattle.in_bytes.specs.Event.{event, event_fits}
use Rattle.in_bytes.specs.Answer.{answer}
use Rattle.in_bytes.specs.Boundary.{short, no_item, done, refused, into, write_sheet, write_run, write_event, ended, whole, taken, read_sheet, read_run, read_event, said, told}
use Rattle.in_bytes.specs.Tests.{ends_at}

-- All the bytes of a value are read back.
pub all_back : (shape : Shape) → Exact shape → (ns : List ℕ) → shape.tidy ns ≡ true → shape.read (bytes_of (shape.fields ns)) 0 ≡ got ns (length (bytes_of (shape.fields ns)))
all_back shape exact ns tidy =
    let b = bytes_of (shape.fields ns) in
    let e : 0 + length b ≡ length b = omega arith in
    rw e at (exact.back b [] ns 0 tidy (sym (append-nil b)))

-- A WRITE.
module _ (room : ℕ) (bytes : List ℕ) where
  pub into_short : {size : ℕ} → size ≡ length bytes → room < size → into room bytes ≡ refused short no_item
  unfolding into when◌then◌else◌
  into_short e h = rw (lt-ltb room (length bytes) (omega arith))

  pub into_done : {size : ℕ} → size ≡ length bytes → size ≤ room → into room bytes ≡ done size bytes
  unfolding into when◌then◌else◌
  into_done e h = rw (le-ltb room (length bytes) (omega arith), e)

module _ (ns : List ℕ) (room : ℕ) where
  pub sheet_into : length ns ≡ sheet_length → sheet.tidy ns ≡ true → write_sheet ns room ≡ into room (bytes_of (sheet.fields ns))
  unfolding write_sheet when◌then◌else◌
  sheet_into h t = rw (eq-eqb (length ns) sheet_length h, t)

  pub run_into : length ns ≡ layout.record_length → record_fits ns ≡ true → run.tidy ns ≡ true → write_run ns room ≡ into room (bytes_of (run.fields ns))
  unfolding write_run when◌then◌else◌
  run_into h f t = rw (eq-eqb (length ns) layout.record_length h, f, t)

  pub event_into : length ns ≡ layout.event_length → event_fits ns ≡ true → write_event ns room ≡ into room (bytes_of ns)
  unfolding write_event event numbers when◌then◌else◌
  event_into h f = rw (eq-eqb (length ns) layout.event_length h, f)

-- A READ.
pub record Whole (size : ℕ) (read : Read (List ℕ)) : Type 0 where
  pub ns : List ℕ
  pub is : read ≡ got ns size
  pub all : ended size read ≡ got ns size

module _ (size : ℕ) {z : Option ℕ} where
  pub not_whole : (read : Read (List ℕ)) → z ≡ place_of read → ends_at size z ≡ false → ended size read ≡ bad
  unfolding place_of ends_at ended when◌then◌else◌
  not_whole bad e h = refl
  not_whole (got ns next) e h = let f : eqb next size ≡ false = rw e at h in rw f

  pub is_whole : (read : Read (List ℕ)) → z ≡ place_of read → ends_at size z ≡ true → Whole size read
  unfolding place_of ends_at ended when◌then◌else◌
  is_whole bad e h = let f : false ≡ true = rw e at h in absurd (false≢true f)
  is_whole (got ns next) e h =
      let f : eqb next size ≡ true = rw e at h in
      let q : next ≡ size = eqb-true next size f in
      record { ns = ns; is = ap (got ns) q; all = rw f (ap (got ns) q) }

-- A list of zeros into which all its numbers were read: they are those of all the bytes, and tidy.
pub record AllRead (shape : Shape) (bytes after : List ℕ) : Type 0 where
  pub all : whole shape bytes ≡ got after (length bytes)
  pub tidy : shape.tidy after ≡ true

pub all_read : (shape : Shape) → Exact shape → (bytes zeros after : List ℕ) {z : Option ℕ} → z ≡ place_of (shape.read bytes 0) → ends_at (length bytes) z ≡ true → Stored (shape.read bytes 0) zeros 0 after → Bytes bytes → length zeros ≡ shape.width → AllRead shape bytes after
all_read shape exact bytes zeros after answer e s good long =
    let w = is_whole (length bytes) (shape.read bytes 0) answer e in
    let is = exact.only bytes w.ns 0 (length bytes) good w.is in
    let n : after ≡ w.ns = s.is w.ns (length bytes) w.is ∙ splice_all zeros w.ns (exact.long w.ns is.tidy ∙ sym long) in
    record { all = rw n w.all; tidy = rw n is.tidy }

module _ (fits : List ℕ → Bool) {read : Read (List ℕ)} where
  pub taken_done : {ns : List ℕ} {next : ℕ} → read ≡ got ns next → fits ns ≡ true → taken fits read ≡ done 0 ns
  unfolding taken when◌then◌else◌
  taken_done e h = rw (e, h)

module _ (bytes : List ℕ) (size : ℕ) where
  pub sheet_taken : size ≡ sheet_length → read_sheet bytes size ≡ taken (λ _. true) (whole sheet bytes)
  unfolding read_sheet when◌then◌else◌
  sheet_taken h = rw (eq-eqb size sheet_length h)

  pub run_taken : size ≡ layout.record_length → read_run bytes size ≡ taken record_fits (whole run bytes)
  unfolding read_run when◌then◌else◌
  run_taken h = rw (eq-eqb size layout.record_length h)

  pub event_taken : size ≡ layout.event_length → read_event bytes size ≡ taken event_fits (whole event bytes)
  unfolding read_event when◌then◌else◌
  event_taken h = rw (eq-eqb size layout.event_length h)

-- A CALL'S ANSWER.
module _ (room : ℕ) (ns : List ℕ) where
  pub told_into : (at ns layout.answer_kind ≡ 3 → ⊥) → told room (said ns) ≡ into room (bytes_of ((answer (at ns layout.answer_kind)).fields ns))
  unfolding told when◌then◌else◌
  told_into h = rw (ne_eqb (at ns layout.answer_kind) 3 h)

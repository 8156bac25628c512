-- What a host reads of its calls in bytes is what it would read of the same calls in numbers, so demand 3 speaks of them too.
use Rattle.std.specs.Prelude.{◌≡◌, true, false, ◌⊎◌, ℕ, ◌+◌, ◌*◌, ◌/◌, ◌%◌, ◌^◌, ◌<◌, ltb, eqb, length, take, drop, replicate}
use Rattle.std.proofs.Math.Path.{refl}
use Rattle.std.proofs.Common.{sym, ◌∙◌, inl, inr, arith}
use mathlib.Core.List.{List, [], ◌∷◌}
use Rattle.std.proofs.lemmas.List.{length-replicate}
use borrow.Author.Tests.{eqb-true, ne_eqb}
use Rattle.laws.specs.Bool.{when◌then◌else◌, ◌and◌, split}
use Rattle.laws.specs.All.{All}
use Rattle.laws.specs.In.{Hit, hit, miss, hits}
use Rattle.workflow.specs.Layout.{numbers as sheet_length}
use Rattle.workflow.specs.Refusal.{number as refusal_number, refusals, refusal_of}
use Rattle.workflow.specs.declared.refusal.Refusal.{Refusal}
use Rattle.workflow.specs.View.{Workflow, workflow}
use Rattle.kernel.specs.Call.{Accepted, Answer, next, wants, refused, given_record, transition}
use Rattle.kernel.specs.Decision.{decision_of}
use Rattle.demand3.specs.Demand3.{Entry, accepted, Demand3, OrderedBefore}
use Rattle.demand3.specs.Single.{Proper}
use Rattle.host.specs.Fits.{Number, AnswerFits}
use Rattle.host.specs.Layout as layout
use Rattle.host.specs.Read.{at, narrow, has_record, record_of, call_of, record_fits}
use Rattle.host.specs.Write.{decision_numbers}
use Rattle.host.specs.ReadAnswer.{answer_of_numbers}
use Rattle.host.specs.Host.{receipt, decided, answered}
use Rattle.host.proofs.AnswerBack.{answer_numbers_length, splice_begins, answered_begins}
use Rattle.codec.specs.Read.{got}
use Rattle.codec.specs.Numbers.{bytes_of, all_below}
use Rattle.in_bytes.specs.Sheet.{sheet as sheet_shape}
use Rattle.in_bytes.specs.Run.{run as run_shape}
use Rattle.in_bytes.proofs.RunLaws.{run_exact}
use Rattle.in_bytes.specs.Call.{without_sheet, run_in, numbers_in}
use Rattle.in_bytes.specs.Answer.{answer as answer_shape}
use Rattle.in_bytes.proofs.AnswerLaws.{answer_exact}
use Rattle.in_bytes.specs.Boundary.{bad_bytes, short, no_item, done, packed, returned as returned_by, left, into, Decided, said, unread, decide, told as told_of}
use Rattle.in_bytes.proofs.BoundaryLaws.{all_back}
use Rattle.shipped.specs.Shipped.{Standing as Numbers, nothing as no_numbers, numbers as numbers_stand}
use Rattle.shipped.specs.Shipped as shipped
use Rattle.shipped.proofs.Refusals.{KnownAnswer}
use Rattle.shipped.proofs.OneCall.{kind_of, RecordBack, Told, told, known, fits, single}
use Rattle.shipped.proofs.Holds.{shipped_holds, shipped_ordered, shipped_proper}
use Rattle.shipped.proofs.TidyAnswer.{next_tidy, want_tidy}
use Rattle.shipped.proofs.TidySheet.{sheet_below}
use Rattle.shipped.specs.InBytes.{Made, came_to, told_in, answer_to, accepts, answer_in, run_in_answer, run_bytes, standing, Gets, Follows, Ran, numbers_of, call_numbers, with_entry, entries, number, Tells, RunBack, Kept, Right}
use Rattle.shipped.proofs.InBytesAnswer.{Parts, parts, run_found, answer_few, want_few}
use Rattle.shipped.proofs.InBytesCall.{Same, GotNumbers, sheet_there, numbers_got, never_said, Answered, answered_by}
use Rattle.shipped.proofs.InBytesTaken.{taken}

said_same : {ns ms : List ℕ} → said ns ≡ said ms → ns ≡ ms
said_same e = cc

-- WHAT IS TOLD. Of an answer in numbers its bytes fit, where it has them.
heard : (room : ℕ) (d : Decided) (ds : List ℕ) → told_in room d ≡ said ds → d ≡ said ds
unfolding told_in when◌then◌else◌
heard room unread ds e = never_said e
heard room (said ns) ds e =
    split (eqb (at ns layout.answer_kind) 3) (λ t. rw t at e)
    (λ t. split (ltb room (length (bytes_of ((answer_shape (at ns layout.answer_kind)).fields ns)))) (λ u. never_said (rw (t, u) at e)) (λ u. rw (t, u) at e))

module _ (room : ℕ) (ds : List ℕ) (other : at ds layout.answer_kind ≡ 3 → ⊥) where
  abbrev its_bytes : List ℕ
  its_bytes = bytes_of ((answer_shape (at ds layout.answer_kind)).fields ds)

  fitting : told_in room (said ds) ≡ said ds → ltb room (length its_bytes) ≡ false
  unfolding told_in when◌then◌else◌
  fitting e = split (ltb room (length its_bytes)) (λ u. never_said (rw (ne_eqb (at ds layout.answer_kind) 3 other, u) at e)) (λ u. u)

  told_done : ltb room (length its_bytes) ≡ false → told_of room (said ds) ≡ done (length its_bytes) its_bytes
  unfolding told_of into when◌then◌else◌
  told_done u = rw (ne_eqb (at ds layout.answer_kind) 3 other, u)

-- what is returned and left tells the bytes
told_bytes : (bytes buffer : List ℕ) → length bytes < 2 ^ 32 → take (returned_by (done (length bytes) bytes) / 2 ^ 32) (left (done (length bytes) bytes) buffer) ≡ bytes
unfolding returned_by left packed narrow
told_bytes bytes buffer few =
    let e : (layout.written % 2 ^ 32 + 2 ^ 32 * (length bytes % 2 ^ 32)) / 2 ^ 32 ≡ length bytes = omega arith in
    rw e (splice_begins buffer bytes)

-- the low half
packed_number : (n rest : ℕ) → n < 2 ^ 32 → packed n rest % 2 ^ 32 ≡ n
unfolding packed narrow
packed_number n rest h = omega arith

tells_none : (room : ℕ) (d : Decided) → told_in room d ≡ unread → (returned_by (told_of room d) % 2 ^ 32 ≡ bad_bytes) ⊎ (returned_by (told_of room d) % 2 ^ 32 ≡ short)
unfolding told_in told_of into returned_by when◌then◌else◌
tells_none room unread e = inl (packed_number bad_bytes no_item (omega arith))
tells_none room (said ns) e =
    split (eqb (at ns layout.answer_kind) 3) (λ t. never_said (sym (rw t at e)))
    (λ t. split (ltb room (length (bytes_of ((answer_shape (at ns layout.answer_kind)).fields ns))))
    (λ u. inr (rw (t, u) (packed_number short no_item (omega arith))))
    (λ u. never_said (sym (rw (t, u) at e))))

tells_refusal : (room : ℕ) (ns : List ℕ) → at ns layout.answer_kind ≡ 3 → at ns layout.answer_refusal_number < 2 ^ 32 → returned_by (told_of room (said ns)) % 2 ^ 32 ≡ at ns layout.answer_refusal_number
unfolding told_of returned_by when◌then◌else◌
tells_refusal room ns k h = rw k (packed_number (at ns layout.answer_refusal_number) (at ns layout.answer_refusal_item) h)

tells_written : (room : ℕ) (ns : List ℕ) → told_in room (said ns) ≡ said ns → (at ns layout.answer_kind ≡ 3 → ⊥) → returned_by (told_of room (said ns)) % 2 ^ 32 ≡ layout.written
unfolding told_in told_of into returned_by when◌then◌else◌
tells_written room ns e k =
    let t = ne_eqb (at ns layout.answer_kind) 3 k in
    split (ltb room (length (bytes_of ((answer_shape (at ns layout.answer_kind)).fields ns)))) (λ u. never_said (rw (t, u) at e))
    (λ u. rw (t, u) (packed_number layout.written (length (bytes_of ((answer_shape (at ns layout.answer_kind)).fields ns))) (omega arith)))

-- THE NUMBERS OF A REFUSAL.
same_number : (n : ℕ) → 0 < refusal_number (refusal_of n) → refusal_number (refusal_of n) ≡ n
unfolding refusal_of
same_number n = by (hits (λ r. eqb (refusal_number r) n) (λ _ r. r) Refusal.Invariant 0 refusals)
  where
    by : {r : Refusal} → Hit (λ r. eqb (refusal_number r) n) (λ _ r. r) Refusal.Invariant refusals r → 0 < refusal_number r → refusal_number r ≡ n
    by (hit j r i t) h = eqb-true _ _ t
    by (miss g) h = absurd (omega (arith, h))

refusal_numbers : (a : Answer) (ns : List ℕ) → answer_of_numbers ns ≡ a → KnownAnswer a → at ns layout.answer_kind ≡ 3 → (0 < at ns layout.answer_refusal_number) × (at ns layout.answer_refusal_number < bad_bytes)
unfolding answer_of_numbers when◌then◌else◌
refusal_numbers a ns e known k =
    let f : refused (refusal_of (at ns layout.answer_refusal_number)) (at ns layout.answer_refusal_item) ≡ a = rw k at e in
    let g = rw (← f) at known in
    let q = same_number (at ns layout.answer_refusal_number) g.0 in
    (omega (arith, q, g.0), omega (arith, q, g.1))

-- THE NUMBERS OF AN ANSWER that has bytes: they are tidy, so that they read back, and their bytes are few.
record WrittenNumbers (ns : List ℕ) : Type 0 where
  tidy : (answer_shape (at ns layout.answer_kind)).tidy ns ≡ true
  few : length (bytes_of ((answer_shape (at ns layout.answer_kind)).fields ns)) < 2 ^ 32

written_numbers : (f : Workflow) (a : Answer) (ns : List ℕ) → ns ≡ decision_numbers (decision_of a) → AnswerFits a → Proper f a → at ns layout.answer_kind ≡ kind_of a → (at ns layout.answer_kind ≡ 3 → ⊥) → all_below (2 ^ 64) ns ≡ true → WrittenNumbers ns
written_numbers f (next x) ns e t p k other below =
    let tidy : (answer_shape 1).tidy ns ≡ true = rw e (next_tidy f x p (rw e at below)) in
    record { tidy = rw k tidy; few = rw k (answer_few ns (parts ns (rw e (answer_numbers_length (next x) t)) tidy)) }
written_numbers f (wants n i j w) ns e t p k other below =
    record { tidy = rw k (rw e (want_tidy f n i j w p (rw e at below))); few = rw k (want_few ns (rw e (answer_numbers_length (wants n i j w) t))) }
written_numbers f (refused n i) ns e t p k other below = absurd (other k)

-- Those of an accepted one.
record NextNumbers (ns : List ℕ) : Type 0 where
  long : length ns ≡ layout.answer_length
  accepted : Accepted
  is_next : answer_of_numbers ns ≡ next accepted
  fits : record_fits (drop layout.answer_record ns) ≡ true
  same : record_of (drop layout.answer_record ns) ≡ accepted.state

next_numbers : (a : Answer) (ns : List ℕ) → ns ≡ decision_numbers (decision_of a) → AnswerFits a → at ns layout.answer_kind ≡ kind_of a → RecordBack a (drop layout.answer_record ns) → answer_of_numbers ns ≡ a → at ns layout.answer_kind ≡ 1 → NextNumbers ns
next_numbers (next x) ns e t k b s one = record { long = rw e (answer_numbers_length (next x) t); accepted = x; is_next = s; fits = b.fits; same = b.same }
next_numbers (wants n i j w) ns e t k b s one = absurd (omega (arith, k, one))
next_numbers (refused n i) ns e t k b s one = absurd (omega (arith, k, one))

-- A CALL IN NUMBERS, with a buffer that has room.
unfoldable blank : List ℕ
blank = replicate layout.answer_length 0

blank_long : length blank ≡ layout.answer_length
unfolding blank
blank_long = length-replicate {A = ℕ} layout.answer_length 0

-- What it gets of the run that stands.
gets_numbers : (k : Numbers) (ns : List ℕ) (made : shipped.Made) → made.call ≡ numbers_in ns → made.given ≡ run_in ns → GotNumbers k ns → shipped.Gets k made
gets_numbers no_numbers ns made c g h = rw c h
gets_numbers (numbers_stand stand) ns made c g h = (rw c h.0, g ∙ h.1)

module _ (sheet : List ℕ) (tidy : sheet_shape.tidy sheet ≡ true) where
  small : All Number sheet
  small = sheet_below sheet tidy

  abbrev numbered : (ns : List ℕ) → shipped.Made
  numbered ns =
      record {
        sheet_size = sheet_length;
        call = numbers_in ns;
        given = run_in ns;
        buffer = blank;
        returned = layout.written;
        after = answered sheet sheet_length (numbers_in ns) (run_in ns) blank;
      }

  -- The answered calls.
  unfoldable with_numbered : Made → Decided → List shipped.Made → List shipped.Made
  with_numbered made (said ds) before = numbered (call_numbers made) ∷ before
  with_numbered made unread before = before

  unfoldable all_numbered : List Made → List shipped.Made
  all_numbered [] = []
  all_numbered (made ∷ before) = with_numbered made (answer_to made) (all_numbered before)

  -- One that is received: what it writes are the numbers of the decision.
  module _ (ns : List ℕ) (received : receipt sheet_length (numbers_in ns) (run_in ns) layout.answer_length ≡ layout.written) where
    abbrev its_numbers : List ℕ
    its_numbers = decision_numbers (decided sheet (numbers_in ns) (run_in ns))

    abbrev its_answer : Answer
    its_answer = transition (workflow sheet) (given_record (has_record (numbers_in ns)) (record_of (run_in ns))) (call_of (numbers_in ns))

    in_blank : receipt sheet_length (numbers_in ns) (run_in ns) (length blank) ≡ layout.written
    in_blank = rw blank_long received

    its_fits : AnswerFits its_answer
    its_fits = fits sheet sheet_length (numbers_in ns) (run_in ns) blank small in_blank

    its_told : Told its_answer (answered sheet sheet_length (numbers_in ns) (run_in ns) blank)
    its_told = told sheet sheet_length (numbers_in ns) (run_in ns) blank small in_blank

    begins : shipped.answer_in (answered sheet sheet_length (numbers_in ns) (run_in ns) blank) ≡ its_numbers
    unfolding decided
    begins = answered_begins sheet sheet_length (numbers_in ns) (run_in ns) blank in_blank its_fits

    its_written : (at its_numbers layout.answer_kind ≡ 3 → ⊥) → all_below (2 ^ 64) its_numbers ≡ true → WrittenNumbers its_numbers
    unfolding decided
    its_written other below =
        written_numbers (workflow sheet) its_answer its_numbers refl its_fits (single sheet sheet_length (numbers_in ns) (run_in ns) blank small in_blank).proper (rw begins at its_told.kind) other below

    its_next : at its_numbers layout.answer_kind ≡ 1 → NextNumbers its_numbers
    unfolding decided
    its_next one =
        let t = its_told in
        next_numbers its_answer its_numbers refl its_fits (rw begins at t.kind) (rw begins at t.back) (rw begins at t.said) one

    its_refusal : at its_numbers layout.answer_kind ≡ 3 → (0 < at its_numbers layout.answer_refusal_number) × (at its_numbers layout.answer_refusal_number < bad_bytes)
    its_refusal = refusal_numbers its_answer its_numbers (rw begins at its_told.said) (known sheet sheet_length (numbers_in ns) (run_in ns) blank small in_blank)

    follows_numbers : (before : List shipped.Made) → GotNumbers (shipped.standing before) ns → shipped.Follows sheet (numbered ns) before
    follows_numbers before h =
        record { gets = gets_numbers (shipped.standing before) ns (numbered ns) refl refl h; returned_is = sym in_blank; after_is = refl }

  -- WHAT HOLDS OF A LIST.
  record Reads (h : List Made) : Type 0 where
    ran : shipped.Ran sheet (all_numbered h)
    same : entries h ≡ shipped.entries (all_numbered h)
    stands : Same (standing h) (shipped.standing (all_numbered h))
    kept : All Kept h
    tells : All Tells h

  -- One call more.
  module _ (made : Made) (before : List Made) (follows : Follows sheet made before) (so_far : Reads before) where
    -- without an answer
    reads_on : answer_to made ≡ unread → Reads (made ∷ before)
    unfolding all_numbered with_numbered standing accepts entries with_entry when◌then◌else◌
    reads_on e =
        record {
          ran = rw e so_far.ran;
          same = rw e so_far.same;
          stands = rw e so_far.stands;
          kept = (record { answer = λ ns f _. never_said (sym e ∙ f); run = λ ns f _. never_said (sym e ∙ f) }, so_far.kept);
          tells = (
            record {
              none = λ _. rw follows.returned_is (tells_none (length made.buffer) (decide made.bytes) e);
              refusal = λ ns f _. never_said (sym e ∙ f);
              written = λ ns f _. never_said (sym e ∙ f);
            },
            so_far.tells,
          );
        }

    -- with one
    module _ (ds : List ℕ) (e : answer_to made ≡ said ds) where
      decided_so : decide made.bytes ≡ said ds
      decided_so = heard (length made.buffer) (decide made.bytes) ds e

      abbrev answered_so : Answered made.bytes ds
      answered_so = answered_by made.bytes ds decided_so

      abbrev ns : List ℕ
      ns = without_sheet answered_so.numbers

      call_is : call_numbers made ≡ ns
      unfolding numbers_of
      call_is = rw answered_so.read

      numbers_are : ds ≡ its_numbers ns answered_so.received
      numbers_are = rw (sheet_there sheet tidy follows.gets answered_so.numbers answered_so.next answered_so.read) at answered_so.is

      written_is : shipped.answer_in (numbered ns).after ≡ ds
      written_is = begins ns answered_so.received ∙ sym numbers_are

      -- its bytes
      module _ (other : at ds layout.answer_kind ≡ 3 → ⊥) where
        written_here : WrittenNumbers ds
        written_here = rw numbers_are (its_written ns answered_so.received (rw numbers_are at other) (rw numbers_are at (follows.of_64_bits.each ds decided_so)))

        came_done : came_to made ≡ done (length (its_bytes (length made.buffer) ds other)) (its_bytes (length made.buffer) ds other)
        came_done =
            let room = length made.buffer in
            rw decided_so (told_done room ds other (fitting room ds other (rw decided_so at e)))

        bytes_there : answer_in made ≡ bytes_of ((answer_shape (at ds layout.answer_kind)).fields ds)
        bytes_there =
            rw (follows.returned_is, follows.after_is, came_done) (told_bytes (bytes_of ((answer_shape (at ds layout.answer_kind)).fields ds)) made.buffer written_here.few)

        reads_back : (answer_shape (at ds layout.answer_kind)).read (answer_in made) 0 ≡ got ds (length (answer_in made))
        reads_back = rw bytes_there (all_back (answer_shape (at ds layout.answer_kind)) (answer_exact (at ds layout.answer_kind)) ds written_here.tidy)

      -- accepted
      module _ (one : at ds layout.answer_kind ≡ 1) where
        no_refusal : at ds layout.answer_kind ≡ 3 → ⊥
        no_refusal three = omega arith

        next_here : NextNumbers ds
        next_here = rw numbers_are (its_next ns answered_so.received (rw numbers_are at one))

        its_parts : Parts ds
        its_parts = parts ds next_here.long (rw one at (written_here no_refusal).tidy)

        run_there : run_in_answer (answer_in made) ≡ bytes_of (run_shape.fields (drop layout.answer_record ds))
        run_there = rw (bytes_there no_refusal, one) (run_found ds its_parts)

        run_back : RunBack made ds
        run_back =
            let n = next_here in
            record {
              accepted = n.accepted;
              is_next = n.is_next;
              run = rw run_there (all_back run_shape run_exact (drop layout.answer_record ds) its_parts.run_tidy);
              fits = n.fits;
              same = n.same;
            }

      kept_so : Kept made
      kept_so =
          record {
            answer = λ ks f other. let x : ds ≡ ks = said_same (sym e ∙ f) in rw (← x) (reads_back (λ t. other (rw (← x) t)));
            run = λ ks f one. let x : ds ≡ ks = said_same (sym e ∙ f) in rw (← x) (run_back (rw x one));
          }

      -- what its number tells
      refused_so : at ds layout.answer_kind ≡ 3 → (0 < at ds layout.answer_refusal_number) × (at ds layout.answer_refusal_number < bad_bytes)
      refused_so three = rw numbers_are (its_refusal ns answered_so.received (rw numbers_are at three))

      refusal_told : at ds layout.answer_kind ≡ 3 → number made ≡ at ds layout.answer_refusal_number
      refusal_told three =
          let b = (refused_so three).1 in
          rw (follows.returned_is, decided_so) (tells_refusal (length made.buffer) ds three (omega arith))

      written_told : (at ds layout.answer_kind ≡ 3 → ⊥) → number made ≡ layout.written
      written_told other = rw (follows.returned_is, decided_so) (tells_written (length made.buffer) ds (rw decided_so at e) other)

      told_so : Tells made
      told_so =
          record {
            none = λ f. never_said (sym f ∙ e);
            refusal = λ ks f three.
                let x : ds ≡ ks = said_same (sym e ∙ f) in
                let t : at ds layout.answer_kind ≡ 3 = rw x three in
                let n = refusal_told t in
                rw (← x) (n, rw n (refused_so t).0, rw n (refused_so t).1);
            written = λ ks f other. let x : ds ≡ ks = said_same (sym e ∙ f) in written_told (λ t. other (rw (← x) t));
          }

      -- the run that stands then
      stands_then : Same (when eqb (at ds layout.answer_kind) 1 then run_bytes (run_in_answer (answer_in made)) else standing before) (when eqb (at ds layout.answer_kind) 1 then numbers_stand (drop layout.answer_record ds) else shipped.standing (all_numbered before))
      unfolding when◌then◌else◌
      stands_then = split (eqb (at ds layout.answer_kind) 1) (λ t. let one = eqb-true _ 1 t in rw t (run_there one, (its_parts one).run_tidy, (next_here one).fits)) (λ t. rw t so_far.stands)

      reads_more : Reads (made ∷ before)
      unfolding all_numbered with_numbered standing accepts entries with_entry shipped.standing shipped.entries shipped.Ran ◌and◌ when◌then◌else◌
      reads_more =
          let g = numbers_got sheet tidy (standing before) (shipped.standing (all_numbered before)) so_far.stands follows.gets answered_so.numbers answered_so.next answered_so.read in
          record {
            ran = rw (e, call_is) (follows_numbers ns answered_so.received (all_numbered before) g, so_far.ran);
            same = rw (e, call_is, written_is, so_far.same);
            stands = rw (e, call_is, written_is) stands_then;
            kept = (kept_so, so_far.kept);
            tells = (told_so, so_far.tells);
          }

  by_answer : (made : Made) (before : List Made) → Follows sheet made before → Reads before → (d : Decided) → answer_to made ≡ d → Reads (made ∷ before)
  by_answer made before follows so_far (said ds) e = reads_more made before follows so_far ds e
  by_answer made before follows so_far unread e = reads_on made before follows so_far e

  reads : (h : List Made) → Ran sheet h → Reads h
  unfolding Ran
  reads [] ran = unfold all_numbered standing entries shipped.standing shipped.entries shipped.Ran in record { ran = tt; same = refl; stands = tt; kept = tt; tells = tt }
  reads (made ∷ before) ran = by_answer made before ran.0 (reads before ran.1) (answer_to made) refl

  -- DEMAND 3.
  pub in_bytes_holds : (h : List Made) → Ran sheet h → Demand3 (workflow sheet) (entries h)
  in_bytes_holds h ran = let r = reads h ran in rw r.same (shipped_holds sheet small (all_numbered h) r.ran)

  -- Beside it: every attempt to which a result is applied was ordered; no refusal is 0, and the run check takes every next record.
  pub in_bytes_ordered : (h : List Made) → Ran sheet h → OrderedBefore (accepted (entries h))
  in_bytes_ordered h ran = let r = reads h ran in rw r.same (shipped_ordered sheet small (all_numbered h) r.ran)

  pub in_bytes_proper : (h : List Made) → Ran sheet h → All (λ (y : Entry). Proper (workflow sheet) y.said) (entries h)
  in_bytes_proper h ran = let r = reads h ran in rw r.same (shipped_proper sheet small (all_numbered h) r.ran)

  -- The returned number tells what came of a call.
  pub all_told : (h : List Made) → Ran sheet h → All Tells h
  all_told h ran = (reads h ran).tells

  -- What is written of an answer reads back, and of an accepted one the run in it.
  pub all_kept : (h : List Made) → Ran sheet h → All Kept h
  all_kept h ran = (reads h ran).kept

  -- No run that was handed out is bad bytes: after every list of calls, one that gets the run that stands and is right besides isn't turned away with 31.
  pub never_31 : (h : List Made) → Ran sheet h → {bytes : List ℕ} (gets : Gets sheet (standing h) bytes) → Right (standing h) gets.limits gets.rest → decide bytes ≡ unread → ⊥
  never_31 h ran gets right = taken sheet tidy gets (shipped.standing (all_numbered h)) (reads h ran).stands right

-- What a host reads of its calls is the list of demand 3, so demand 3 speaks of what is shipped.
use Rattle.std.specs.Prelude.{◌≡◌, refl, true, false, not, ℕ, length, eqb, Some, None}
use Rattle.std.proofs.Math.Path.{sym}
use Rattle.std.proofs.Common.{◌∙◌, ap, subst, eqb-true}
use mathlib.Core.List.{List, [], ◌∷◌}
use Rattle.laws.specs.Bool.{when◌then◌else◌, ◌and◌, split}
use Rattle.laws.specs.All.{All, all_map}
use Rattle.workflow.specs.View.{workflow}
use Rattle.kernel.specs.Call.{Answer, next, wants, refused, Last, given_record, transition}
use Rattle.demand3.specs.Demand3.{Entry, standing_after, standing as standing_record, next_entry, history, accepted, Demand3, OrderedBefore}
use Rattle.demand3.specs.Single.{Proper}
use Rattle.demand3.proofs.Holds.{holds, all_ordered, all_proper}
use Rattle.demand3.proofs.Calls.{history_more}
use Rattle.host.specs.Fits.{Number}
use Rattle.host.specs.Layout.{written, bad_call, bad_record, answer_kind}
use Rattle.host.specs.Read.{at, has_record, record_of, call_of, call_fits, record_fits}
use Rattle.host.specs.Host.{receipt}
use Rattle.host.proofs.HostLaws.{receipt_not_3, receipt_by_call}
use Rattle.shipped.proofs.OneCall.{kind_of, RecordBack, Told, told}
use Rattle.shipped.specs.Shipped.{Made, is_answered, answer_in, record_in, Standing, nothing, numbers, standing, Gets, Follows, RightLengths, Ran, entry, entries, calls}

-- THE RECORD THAT STANDS, read; and its numbers fit.
abbrev read : Standing → Last
read nothing = None
read (numbers ns) = Some (record_of ns)

abbrev Fine : Standing → Type 0
Fine nothing = Unit {0}
Fine (numbers ns) = record_fits ns ≡ true

-- A call gives the record that stands.
gives : (k : Standing) (made : Made) → Gets k made → given_record (has_record made.call) (record_of made.given) ≡ read k
gives nothing made h = rw h
gives (numbers ns) made h = rw (h.0, h.1)

-- So it isn't turned away for its record.
takes : (k : Standing) (made : Made) → Gets k made → Fine k → (has_record made.call and not (record_fits made.given)) ≡ false
unfolding ◌and◌
takes nothing made h t = rw h
takes (numbers ns) made h t = rw (h.0, h.1, t)

-- After an answer a, in a buffer b, stands its record or what stood before.
abbrev after : (b : List ℕ) → Standing → Standing
after b k = when eqb (at (answer_in b) answer_kind) 1 then numbers (record_in b) else k

stands_after : (a : Answer) (b : List ℕ) (k : Standing) → at (answer_in b) answer_kind ≡ kind_of a → RecordBack a (record_in b) → Fine k → (standing_after a (read k) ≡ read (after b k)) × (Fine (after b k))
unfolding when◌then◌else◌
stands_after (next a) b k e t h = rw e (ap Some (sym t.same), t.fits)
stands_after (wants n i f s) b k e t h = rw e (refl, h)
stands_after (refused r i) b k e t h = rw e (refl, h)

-- A call isn't turned away for its record; and where what it lends has the layout's lengths, only for its own numbers.
record Taken (made : Made) : Type 0 where
  pub not_3 : made.returned ≡ bad_record → ⊥
  pub by_call : RightLengths made → made.returned ≡ (when call_fits made.call then written else bad_call)

module _ (sheet : List ℕ) (small : All Number sheet) where
  record Reads (h : List Made) : Type 0 where
    stands : standing_record (entries h) ≡ read (standing h)
    fine : Fine (standing h)
    same : entries h ≡ history (workflow sheet) [] (calls h)
    taken_back : All Taken h

  -- One call more.
  module _ (made : Made) (before : List Made) (follows : Follows sheet made before) (so_far : Reads before) where
    taken : All Taken (made ∷ before)
    taken =
        let t = takes (standing before) made follows.gets so_far.fine in (
          record {
            not_3 = λ e. receipt_not_3 made.sheet_size made.call made.given _ t (sym follows.returned_is ∙ e);
            by_call = λ l. follows.returned_is ∙ receipt_by_call made.sheet_size made.call made.given _ t l;
          },
          so_far.taken_back,
        )

    -- without an answer
    reads_on : is_answered made ≡ false → Reads (made ∷ before)
    unfolding standing entries calls ◌and◌ when◌then◌else◌
    reads_on e = record { stands = rw e so_far.stands; fine = rw e so_far.fine; same = rw e so_far.same; taken_back = taken }

    -- with one
    abbrev its_answer : Answer
    its_answer = transition (workflow sheet) (given_record (has_record made.call) (record_of made.given)) (call_of made.call)

    module _ (e : is_answered made ≡ true) where
      received : receipt made.sheet_size made.call made.given (length made.buffer) ≡ written
      received = sym follows.returned_is ∙ eqb-true made.returned written e

      given_is : given_record (has_record made.call) (record_of made.given) ≡ standing_record (entries before)
      given_is = gives (standing before) made follows.gets ∙ sym so_far.stands

      its_told : Told its_answer made.after
      its_told = rw follows.after_is (told sheet made.sheet_size made.call made.given made.buffer small received)

      left : (standing_after its_answer (read (standing before)) ≡ read (after made.after (standing before))) × (Fine (after made.after (standing before)))
      left = stands_after its_answer made.after (standing before) its_told.kind its_told.back so_far.fine

      entry_is : entry made ≡ next_entry (workflow sheet) (entries before) (call_of made.call)
      entry_is = rw (its_told.said, given_is)

      reads_more : Reads (made ∷ before)
      unfolding standing standing_record entries calls ◌and◌ when◌then◌else◌
      reads_more =
          record {
            stands = rw (e, its_told.said, so_far.stands) left.0;
            fine = rw e left.1;
            same = rw (e, history_more (workflow sheet) [] (calls before) (call_of made.call), sym so_far.same) (ap (λ (x : Entry). x ∷ entries before) entry_is);
            taken_back = taken;
          }

  reads : (h : List Made) → Ran sheet h → Reads h
  unfolding Ran
  reads [] ran = unfold standing standing_record entries calls history in record { stands = refl; fine = tt; same = refl; taken_back = tt }
  reads (made ∷ before) ran =
      let so_far = reads before ran.1 in
      split (is_answered made) (reads_more made before ran.0 so_far) (reads_on made before ran.0 so_far)

  -- What a host reads is the list of demand 3.
  pub is_history : (h : List Made) → Ran sheet h → entries h ≡ history (workflow sheet) [] (calls h)
  is_history h ran = (reads h ran).same

  pub shipped_holds : (h : List Made) → Ran sheet h → Demand3 (workflow sheet) (entries h)
  shipped_holds h ran = subst (Demand3 (workflow sheet)) (sym (is_history h ran)) (holds (workflow sheet) (calls h))

  -- Beside demand 3: every attempt to which a result is applied was ordered; no refusal is 0; and no record that was handed out is turned away.
  pub shipped_ordered : (h : List Made) → Ran sheet h → OrderedBefore (accepted (entries h))
  shipped_ordered h ran = rw (is_history h ran) (all_ordered (workflow sheet) (calls h))

  pub shipped_proper : (h : List Made) → Ran sheet h → All (λ (y : Entry). Proper (workflow sheet) y.said) (entries h)
  shipped_proper h ran = rw (is_history h ran) (all_proper (workflow sheet) (calls h))

  pub never_3 : (h : List Made) → Ran sheet h → All (λ (made : Made). made.returned ≡ bad_record → ⊥) h
  never_3 h ran = all_map Taken (λ (made : Made). made.returned ≡ bad_record → ⊥) h (λ made t. t.not_3) (reads h ran).taken_back

  -- With the layout's lengths a call returns 0, or 2 where a number of its own doesn't fit.
  pub never_turned : (h : List Made) → Ran sheet h → All (λ (made : Made). RightLengths made → made.returned ≡ (when call_fits made.call then written else bad_call)) h
  never_turned h ran = all_map Taken _ h (λ made t. t.by_call) (reads h ran).taken_back

-- What a receipt tells of what was lent.
use Rattle.std.proofs.Math.Path.{◌≡◌, sym}
use Rattle.std.specs.Prelude.{refl, true, false, List, ◌++◌, ℕ, ◌≤◌, drop, ltb, eqb, Result, Ok, Err, Some}
use Rattle.std.proofs.Common.{◌∙◌, ap, ap₂, arith}
use Rattle.std.proofs.Math.Bool.{not}
use Rattle.std.proofs.Math.ListN.{length}
use borrow.Author.Tests.{ltb-false, le-ltb, eqb-true, eq-eqb, ne_eqb}
use Rattle.laws.specs.Bool.{when◌then◌else◌, ◌and◌, split, if_true, if_false}
use Rattle.laws.specs.Splice.{splice}
use Rattle.workflow.specs.Layout.{numbers as sheet_length}
use Rattle.workflow.specs.View.{workflow}
use Rattle.model.specs.declared.State.{State}
use Rattle.graph.specs.declared.Ceilings.{Ceilings}
use Rattle.graph.specs.Verdict.{verdict, Verdict}
use Rattle.kernel.specs.declared.Decision.{Decision}
use Rattle.kernel.specs.declared.Call.{Call}
use Rattle.kernel.specs.Call.{Last, given_record, transition}
use Rattle.kernel.specs.Decision.{decision_of}
use Rattle.host.specs.declared.Fault.{Fault}
use Rattle.host.specs.Layout as layout
use Rattle.host.specs.Layout.{call_length, record_length, answer_length, verdict_length}
use Rattle.host.specs.Read.{has_record, record_of, call_of, record_fits, call_fits}
use Rattle.host.specs.Write.{decision_numbers}
use Rattle.host.specs.declared.read.Used.{Used}
use Rattle.host.specs.ByCount.{UsedRows, record_rows}
use Rattle.host.proofs.ByCountLaws.{rows_record}
use Rattle.host.specs.Host.{Lent, receipt, decided, answered, verdict_receipt, verdict_numbers, judged}
use Rattle.host.specs.Receipt.{fault_number, outcome_number, by_numbers}

-- THE TESTS in their order. With all lengths the layout's a receipt is that of the numbers.
module _ (n : ℕ) (c r : List ℕ) (b : ℕ) where
  pub receipt_numbers : Lent n (length c) (length r) b → outcome_number (by_numbers c r) ≡ receipt n c r b
  unfolding receipt by_numbers when◌then◌else◌
  receipt_numbers l =
      simp (eq-eqb _ _ l.sheet, eq-eqb _ _ l.call, eq-eqb _ _ l.given, le-ltb _ _ l.roomy)
      (split (call_fits c) (λ h. split (has_record c and not (record_fits r)) (λ g. rw (h, g)) (λ g. rw (h, g))) (λ h. rw h))

  -- the same, of what the code read of call and record
  pub receipt_told : {o : Result (Unit {0}) Fault} {k g : List ℕ} → o ≡ by_numbers k g → k ≡ c → g ≡ r → Lent n (length c) (length r) b → outcome_number o ≡ receipt n c r b
  receipt_told e p q l = ap outcome_number (e ∙ ap₂ by_numbers p q) ∙ receipt_numbers l

  -- A receipt of 0: the lengths are the layout's, and call and record fit.
  pub receipt_lent : receipt n c r b ≡ layout.written → Lent n (length c) (length r) b
  unfolding receipt when◌then◌else◌
  receipt_lent e =
      split (eqb n sheet_length)
      (λ h. split (eqb (length c) call_length)
      (λ i. split (eqb (length r) record_length)
      (λ j. split (ltb b answer_length) (λ k. let z : ◌≡◌ {A = ℕ} 1 0 = rw (h, i, j, k) at e in absurd (omega arith))
      (λ k. record { sheet = eqb-true n sheet_length h; call = eqb-true (length c) call_length i; given = eqb-true (length r) record_length j; roomy = ltb-false b answer_length k }))
      (λ j. let z : ◌≡◌ {A = ℕ} 6 0 = rw (h, i, j) at e in absurd (omega arith)))
      (λ i. let z : ◌≡◌ {A = ℕ} 5 0 = rw (h, i) at e in absurd (omega arith)))
      (λ h. let z : ◌≡◌ {A = ℕ} 4 0 = rw h at e in absurd (omega arith))

  done : receipt n c r b ≡ layout.written → outcome_number (by_numbers c r) ≡ layout.written
  done e = receipt_numbers (receipt_lent e) ∙ e

  pub receipt_call : receipt n c r b ≡ layout.written → call_fits c ≡ true
  unfolding by_numbers when◌then◌else◌
  receipt_call e = let d = done e in split (call_fits c) (λ h. h) (λ h. let z : ◌≡◌ {A = ℕ} 2 0 = rw h at d in absurd (omega arith))

  pub receipt_record : receipt n c r b ≡ layout.written → (has_record c and not (record_fits r)) ≡ false
  unfolding by_numbers when◌then◌else◌
  receipt_record e =
      let d = done e in
      let k = receipt_call e in
      split (has_record c and not (record_fits r)) (λ h. let z : ◌≡◌ {A = ℕ} 3 0 = rw (k, h) at d in absurd (omega arith)) (λ h. h)

  -- Lengths of the layout, and no record that doesn't fit: the call alone decides.
  pub receipt_by_call : (has_record c and not (record_fits r)) ≡ false → Lent n (length c) (length r) b → receipt n c r b ≡ (when call_fits c then layout.written else layout.bad_call)
  unfolding by_numbers when◌then◌else◌
  receipt_by_call h l = sym (receipt_numbers l) ∙ split (call_fits c) (λ k. rw (k, h)) (λ k. rw k)

  -- Only a record that doesn't fit is turned away as one.
  pub receipt_not_3 : (has_record c and not (record_fits r)) ≡ false → receipt n c r b ≡ layout.bad_record → ⊥
  unfolding receipt when◌then◌else◌
  receipt_not_3 h e =
      split (eqb n sheet_length)
      (λ i. split (eqb (length c) call_length)
      (λ j. split (eqb (length r) record_length)
      (λ k. split (ltb b answer_length) (λ l. let z : ◌≡◌ {A = ℕ} 1 3 = rw (i, j, k, l) at e in omega arith)
      (λ l. split (call_fits c) (λ m. let z : ◌≡◌ {A = ℕ} 0 3 = rw (i, j, k, l, m, h) at e in omega arith) (λ m. let z : ◌≡◌ {A = ℕ} 2 3 = rw (i, j, k, l, m) at e in omega arith)))
      (λ k. let z : ◌≡◌ {A = ℕ} 6 3 = rw (i, j, k) at e in omega arith))
      (λ j. let z : ◌≡◌ {A = ℕ} 5 3 = rw (i, j) at e in omega arith))
      (λ i. let z : ◌≡◌ {A = ℕ} 4 3 = rw i at e in omega arith)

  pub receipt_done : Lent n (length c) (length r) b → call_fits c ≡ true → (has_record c ≡ true → record_fits r ≡ true) → receipt n c r b ≡ layout.written
  unfolding by_numbers when◌then◌else◌ ◌and◌
  receipt_done l k g = sym (receipt_numbers l) ∙ split (has_record c) (λ a. let m = g a in rw (k, a, m)) (λ a. rw (k, a))

-- The record that goes with a call, read by count.
pub given_rows : {r : List ℕ} {used : Used} {s : State} → UsedRows true r used → s ≡ record_rows used.signals used.nodes r → Some s ≡ given_record true (record_of r)
given_rows {r} u p = ap Some (p ∙ rows_record r (u.past refl))

-- A fault's number isn't that of what is written.
pub fault_told : (fault : Fault) → fault_number fault ≡ layout.written → ⊥
fault_told Fault.ShortBuffer e = omega arith
fault_told Fault.BadCall e = omega arith
fault_told Fault.BadRecord e = omega arith
fault_told Fault.SheetLength e = omega arith
fault_told Fault.CallLength e = omega arith
fault_told Fault.RecordLength e = omega arith

-- WHAT A CALL LEAVES in the buffer: the decision on what was read, or the buffer as it was.
module _ (w : List ℕ) (n : ℕ) (c r b : List ℕ) where
  pub made : {l : Last} {call : Call} {d : Decision} {k g : List ℕ} → k ≡ c → g ≡ r → l ≡ given_record (has_record k) (record_of g) → call ≡ call_of k → d ≡ decision_of (transition (workflow w) l call) → d ≡ decided w c r
  unfolding decided
  made x y p q e = e ∙ rw (p, q, x, y)

  pub left : {d : Decision} {l : List ℕ} → d ≡ decided w c r → receipt n c r (length b) ≡ layout.written → l ≡ splice b 0 (decision_numbers d) → l ≡ answered w n c r b
  unfolding answered
  left p z e = e ∙ rw p (sym (if_true _ _ _ (eq-eqb _ layout.written z)))

  pub untouched : (receipt n c r (length b) ≡ layout.written → ⊥) → b ≡ answered w n c r b
  unfolding answered
  untouched e = sym (if_false _ _ _ (ne_eqb _ layout.written e))

  pub untouched_at : (fault : Fault) → fault_number fault ≡ receipt n c r (length b) → b ≡ answered w n c r b
  untouched_at fault e = untouched (λ z. fault_told fault (e ∙ z))

-- A VERDICT'S two numbers.
verdict_front : (v : Verdict) (b : List ℕ) → verdict_numbers v ++ drop verdict_length b ≡ splice b 0 (verdict_numbers v)
unfolding splice verdict_numbers
verdict_front (Ok tt) b = refl
verdict_front (Err x) b = refl

-- The tests, one by one: of a sheet's length n and the room for the two numbers.
module _ (n room : ℕ) where
  pub has_both : n ≡ sheet_length → verdict_length ≤ room → layout.written ≡ verdict_receipt n room
  unfolding verdict_receipt when◌then◌else◌
  has_both h g = simp (eq-eqb _ _ h, le-ltb _ _ g)

module _ (w : List ℕ) (n : ℕ) (k : Ceilings) (b : List ℕ) where
  pub judged_verdict : {v : Verdict} {l part : List ℕ} → v ≡ verdict (workflow w) k → l ≡ verdict_numbers v → part ≡ l → verdict_length ≤ length b → verdict_receipt n (length b) ≡ layout.written → part ++ drop verdict_length b ≡ judged w n k b
  unfolding judged
  judged_verdict {v} {l} p q r room e =
      let told : judged w n k b ≡ splice b 0 (verdict_numbers (verdict (workflow w) k)) = if_true _ _ _ (eq-eqb _ layout.written e) in
      rw (r, q, p) (verdict_front (verdict (workflow w) k) b ∙ sym told)

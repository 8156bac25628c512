use Rattle.std.proofs.Common.{◌≡◌, ◌∙◌, sym, ap, arith, length, Err}
use Rattle.std.proofs.lemmas.Result.{err_from_is_err_and}
use Rattle.host.specs.Host.{Lent, receipt}
use Rattle.host.specs.Receipt.{fault_number, outcome_number}
use Rattle.host.proofs.AnswerBack.{full}
use Rattle.host.proofs.WriteRowsLaws.{counted}
use Rattle.host.proofs.HostLaws.{receipt_told, fault_told, made, left, untouched_at}
use Rattle.host.proofs.answer_call.Goals as goal

pub returns-in_err-by_numbers : goal.returns-in_err-by_numbers
returns-in_err-by_numbers c =
    let a = c.args in
    let k = c.in-Some.ensures.cases in
    let g = c.in-Some-as_array.ensures.cases in
    let p = err_from_is_err_and c.from_residual.result c.from_residual.ensures.1 in
    let lent : Lent a.sheet_len (length a.call.now) (length a.given.now) (length a.answer.now) = record { sheet = c.if-sheet_len-ne-NUMBERS.false; call = k.long; given = g.long; roomy = c.if-answer-lt-ANSWER.false } in
    let told = receipt_told _ _ _ _ (p.1 ∙ ap Err p.2 ∙ c.in_err-by_numbers.ensures) k.same g.same lent in
    let number : fault_number p.0 ≡ receipt a.sheet_len a.call.now a.given.now (length a.answer.now) = ap outcome_number (sym p.1) ∙ told in
    record { value = told; answer_after = untouched_at a.sheet.now _ _ _ _ p.0 number; full = λ z. absurd (fault_told p.0 (ap outcome_number (sym p.1) ∙ z)) }

pub write_decision-requires : goal.write_decision-requires
write_decision-requires c = (c.if-answer-lt-ANSWER.false, omega (arith, c.capped-nodes.ensures), counted _ c.transition.ensures)

pub returns : goal.returns
returns c =
    let a = c.args in
    let k = c.in-Some.ensures.cases in
    let g = c.in-Some-as_array.ensures.cases in
    let lent : Lent a.sheet_len (length a.call.now) (length a.given.now) (length a.answer.now) = record { sheet = c.if-sheet_len-ne-NUMBERS.false; call = k.long; given = g.long; roomy = c.if-answer-lt-ANSWER.false } in
    let told = receipt_told _ _ _ _ c.in_ok-by_numbers.ensures k.same g.same lent in
    let d = made a.sheet.now a.sheet_len a.call.now a.given.now a.answer.now k.same g.same c.read_given.ensures c.read_call.ensures c.transition.ensures in
    record {
      value = told;
      answer_after = left a.sheet.now a.sheet_len a.call.now a.given.now a.answer.now d (sym told) c.write_decision.ensures.out_after;
      full = λ _. full a.answer.now d c.write_decision.ensures.d_len c.write_decision.ensures.out_after (λ i. omega (arith, c.type_inv.answer i));
    }

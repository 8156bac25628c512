use Rattle.std.proofs.Common.{rules}
use mathlib.Core.Path.{sym, ◌∙◌}
use native.Mathlib.Omega.{arith}
use Rattle.codec.specs.Exact.{Bytes}
use Rattle.in_bytes.specs.Call.{call_on}
use Rattle.in_bytes.proofs.BoundaryLaws.{not_whole, is_whole}
use Rattle.in_bytes.proofs.DecideLaws.{says_unread, says_numbers, on_unread, on_parts, on_lengths}
use Rattle.in_bytes.proofs.decide_on.Goals as goal

pub slice_bounds-kuxhoveza_transition-end : goal.slice_bounds-kuxhoveza_transition-end
slice_bounds-kuxhoveza_transition-end c =
    let bytes = c.args.bytes.now in
    let good : Bytes bytes = record { each = λ n. omega (arith, c.type_inv.bytes n) } in
    let w = is_whole _ (call_on.read bytes 0) c.read_call_on-place.ensures.value (sym c.ends.ensures ∙ c.if-not-ends.false) in
    sym (on_lengths bytes w good c.read_call_on-place.ensures.on_stored).0

pub slice_bounds-kuxhoveza_transition-end-2 : goal.slice_bounds-kuxhoveza_transition-end-2
slice_bounds-kuxhoveza_transition-end-2 c =
    let bytes = c.args.bytes.now in
    let good : Bytes bytes = record { each = λ n. omega (arith, c.type_inv.bytes n) } in
    let w = is_whole _ (call_on.read bytes 0) c.read_call_on-place.ensures.value (sym c.ends.ensures ∙ c.if-not-ends.false) in
    sym (on_lengths bytes w good c.read_call_on-place.ensures.on_stored).1

pub returns : goal.returns
returns c =
    let bytes = c.args.bytes.now in
    let w = is_whole _ (call_on.read bytes 0) c.read_call_on-place.ensures.value (sym c.ends.ensures ∙ c.if-not-ends.false) in
    let t = c.kuxhoveza_transition.ensures in
    let s = says_numbers _ _ _ c.args.answer.now (search rules) t.value t.answer_after t.full (on_parts bytes c.args.sheet.now w c.read_call_on-place.ensures.on_stored) in
    record { value = s.0; answer_after = s.1.0; of_64_bits = s.1.1 }

pub returns-then-not-ends : goal.returns-then-not-ends
returns-then-not-ends c =
    let bytes = c.args.bytes.now in
    let b = not_whole _ (call_on.read bytes 0) c.read_call_on-place.ensures.value (sym c.ends.ensures ∙ c.if-not-ends.true) in
    let s = says_unread c.args.answer.now (on_unread bytes c.args.sheet.now b) in
    record { value = s.0; answer_after = s.1.0; of_64_bits = s.1.1 }

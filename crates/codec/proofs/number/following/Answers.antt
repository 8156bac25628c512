use mathlib.Core.Path.{refl, sym, ◌∙◌}
use Prim.Native.Nat.{◌-◌}
use native.Mathlib.Omega.{arith}
use Rattle.std.proofs.Common.{rules}
use borrow.Author.Tests.{ltb-false}
use Rattle.codec.proofs.GroupsLaws.{there, following_start, following_scale, following_ninth, following_small, following_cut, following_zero, following_last, following_more, following_one, following_over}
use Rattle.codec.proofs.StoredLaws.{bad_number, got_number}
use Rattle.codec.proofs.number.following.Goals as goal

pub loop-group-init : goal.loop-group-init
loop-group-init c = following_start (search rules)

pub returns-in_err-get : goal.returns-in_err-get
returns-in_err-get c = c.from_residual.ensures ∙ bad_number (following_cut c.loop-group.invariant (ltb-false _ _ (sym c.in_err-get.ensures.lookup.0)))

pub returns-then-b-eq0 : goal.returns-then-b-eq0
returns-then-b-eq0 c =
    let t = there c.in_ok-get.ensures.lookup.0 c.in_ok-get.ensures.lookup.1 c.from-b.ensures in
    bad_number (following_zero c.loop-group.invariant t.low t.is c.if-b-eq0.true)

pub overflow_mul-result : goal.overflow_mul-result
overflow_mul-result c = omega (arith, following_small c.loop-group.invariant c.from-b.result c.if-b-lt128.true c.loop-group-test.true)

pub overflow_add-result : goal.overflow_add-result
overflow_add-result c = omega (arith, following_small c.loop-group.invariant c.from-b.result c.if-b-lt128.true c.loop-group-test.true)

pub returns-then-b-lt128 : goal.returns-then-b-lt128
returns-then-b-lt128 c =
    let t = there c.in_ok-get.ensures.lookup.0 c.in_ok-get.ensures.lookup.1 c.from-b.ensures in
    got_number (following_last c.loop-group.invariant t.low t.is c.if-b-lt128.true c.if-b-eq0.false c.loop-group-test.true)

pub overflow_mul-value : goal.overflow_mul-value
overflow_mul-value c =
    let g = c.type_inv.bytes c.loop-group.at in
    let t = there c.in_ok-get.ensures.lookup.0 c.in_ok-get.ensures.lookup.1 c.from-b.ensures in
    omega (arith, following_small c.loop-group.invariant (c.from-b.result - 128) (omega arith) c.loop-group-test.true)

pub overflow_add-value : goal.overflow_add-value
overflow_add-value c =
    let g = c.type_inv.bytes c.loop-group.at in
    let t = there c.in_ok-get.ensures.lookup.0 c.in_ok-get.ensures.lookup.1 c.from-b.ensures in
    omega (arith, following_small c.loop-group.invariant (c.from-b.result - 128) (omega arith) c.loop-group-test.true)

pub overflow_mul-scale : goal.overflow_mul-scale
overflow_mul-scale c = omega (arith, following_scale c.loop-group.invariant c.loop-group-test.true)

pub loop-group-preserved : goal.loop-group-preserved
loop-group-preserved c =
    let g = c.type_inv.bytes c.loop-group.at in
    let t = there c.in_ok-get.ensures.lookup.0 c.in_ok-get.ensures.lookup.1 c.from-b.ensures in
    following_more c.loop-group.invariant t.low t.is c.if-b-lt128.false (omega arith) c.loop-group-test.true

pub returns-in_err-last : goal.returns-in_err-last
returns-in_err-last c = c.from_residual-in_err-last.ensures ∙ bad_number (following_cut c.loop-group.invariant (ltb-false _ _ (sym c.in_err-last.ensures.lookup.0)))

pub overflow_add-result-then-last-eq1 : goal.overflow_add-result-then-last-eq1
overflow_add-result-then-last-eq1 c = omega (arith, following_ninth c.loop-group.invariant c.loop-group-test.false, c.loop-group.invariant.low)

pub returns-then-last-eq1 : goal.returns-then-last-eq1
returns-then-last-eq1 c =
    let t = there c.in_ok-last.ensures.lookup.0 c.in_ok-last.ensures.lookup.1 refl in
    got_number (following_one c.loop-group.invariant t.low t.is c.if-last-eq1.true c.loop-group-test.false)

pub returns : goal.returns
returns c =
    let t = there c.in_ok-last.ensures.lookup.0 c.in_ok-last.ensures.lookup.1 refl in
    bad_number (following_over c.loop-group.invariant t.low t.is c.if-last-eq1.false c.loop-group-test.false)

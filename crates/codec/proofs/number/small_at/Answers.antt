use mathlib.Core.Path.{sym, ◌∙◌}
use Prim.Native.Nat.{◌^◌}
use native.Mathlib.Omega.{arith}
use borrow.Author.Tests.{ltb-false}
use Rattle.codec.proofs.NumbersLaws.{below_got, below_over, below_bad}
use Rattle.codec.proofs.GroupsLaws.{there, first_cut, first_last, first_more}
use Rattle.codec.proofs.StoredLaws.{value_got, value_bad, bad_number, got_number}
use Rattle.codec.proofs.number.small_at.Goals as goal

pub returns-in_err-get : goal.returns-in_err-get
returns-in_err-get c = c.from_residual.ensures ∙ bad_number (below_bad (2 ^ 32) (first_cut _ _ (ltb-false _ _ (sym c.in_err-get.ensures.lookup.0))))

pub returns-then-first-lt128 : goal.returns-then-first-lt128
returns-then-first-lt128 c =
    let t = there c.in_ok-get.ensures.lookup.0 c.in_ok-get.ensures.lookup.1 c.from-first.ensures in
    let small = c.if-first-lt128.true in
    got_number (below_got (2 ^ 32) (first_last _ _ t.low t.is small) (omega arith))

pub returns-in_err-number : goal.returns-in_err-number
returns-in_err-number c =
    let t = there c.in_ok-get.ensures.lookup.0 c.in_ok-get.ensures.lookup.1 c.from-first.ensures in
    let f = first_more _ _ t.low t.is c.if-first-lt128.false in
    c.from_residual-in_err-number.ensures ∙ bad_number (below_bad (2 ^ 32) (sym f ∙ value_bad c.following.ensures c.in_err-number.was))

pub returns-then-number-ge4294967296 : goal.returns-then-number-ge4294967296
returns-then-number-ge4294967296 c =
    let t = there c.in_ok-get.ensures.lookup.0 c.in_ok-get.ensures.lookup.1 c.from-first.ensures in
    let f = first_more _ _ t.low t.is c.if-first-lt128.false in
    bad_number (below_over (2 ^ 32) (sym f ∙ value_got c.following.ensures c.in_ok-number.was) c.if-number-ge4294967296.true)

pub returns : goal.returns
returns c =
    let t = there c.in_ok-get.ensures.lookup.0 c.in_ok-get.ensures.lookup.1 c.from-first.ensures in
    let f = first_more _ _ t.low t.is c.if-first-lt128.false in
    got_number (below_got (2 ^ 32) (sym f ∙ value_got c.following.ensures c.in_ok-number.was) c.if-number-ge4294967296.false)

use mathlib.Core.Path.{ap, sym, ◌∙◌}
use borrow.Author.Tests.{ltb-false}
use Rattle.codec.specs.Stored.{number_of}
use Rattle.codec.proofs.GroupsLaws.{there, first_cut, first_last, first_more}
use Rattle.codec.proofs.StoredLaws.{bad_number, got_number}
use Rattle.codec.proofs.number.number_at.Goals as goal

pub returns-in_err-get : goal.returns-in_err-get
returns-in_err-get c = c.from_residual.ensures ∙ bad_number (first_cut _ _ (ltb-false _ _ (sym c.in_err-get.ensures.lookup.0)))

pub returns-then-b-lt128 : goal.returns-then-b-lt128
returns-then-b-lt128 c =
    let t = there c.in_ok-get.ensures.lookup.0 c.in_ok-get.ensures.lookup.1 c.from-b.ensures in
    got_number (first_last _ _ t.low t.is c.if-b-lt128.true)

pub returns : goal.returns
returns c =
    let t = there c.in_ok-get.ensures.lookup.0 c.in_ok-get.ensures.lookup.1 c.from-b.ensures in
    c.following.ensures ∙ ap number_of (first_more _ _ t.low t.is c.if-b-lt128.false)

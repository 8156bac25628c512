use mathlib.Core.Path.{refl, sym, ◌∙◌}
use native.Mathlib.Omega.{arith}
use lib.ListN.{length}
use borrow.Author.Tests.{eq-eqb, ne_eqb}
use Rattle.laws.specs.Bool.{when◌then◌else◌}
use Rattle.host.specs.Layout.{event_length}
use Rattle.codec.specs.Numbers.{bytes_of}
use Rattle.in_bytes.specs.Boundary.{returned, left, write_event}
use Rattle.in_bytes.proofs.BoundaryLaws.{into_short, into_done, event_into}
use Rattle.in_bytes.proofs.kuxhoveza_write_event.Goals as goal

pub returns-in_default : goal.returns-in_default
unfolding write_event returned left when◌then◌else◌
returns-in_default c = rw (ne_eqb (length c.args.event.now) event_length c.in_default.ensures.1) (record { value = c.receipt.ensures; out_after = refl })

pub returns-then-not-event_fits : goal.returns-then-not-event_fits
unfolding write_event returned left when◌then◌else◌
returns-then-not-event_fits c =
    let k = c.in-Ok.ensures.1 in
    let f = rw k.same at c.event_fits.ensures in
    rw (eq-eqb (length c.args.event.now) event_length k.long, sym f ∙ c.if-not-event_fits.true) (record { value = c.receipt-then-not-event_fits.ensures; out_after = refl })

pub returns-then-out-size : goal.returns-then-out-size
unfolding returned left
returns-then-out-size c =
    let ns = c.args.event.now in
    let room = length c.args.out.now in
    let k = c.in-Ok.ensures.1 in
    let f = rw k.same at c.event_fits.ensures in
    rw (event_into ns room k.long (sym f ∙ c.if-not-event_fits.false), into_short room (bytes_of ns) (rw k.same at c.numbers_size-size.ensures) c.if-out-size.true) (record { value = c.refused.ensures; out_after = refl })

pub write_numbers-requires : goal.write_numbers-requires
write_numbers-requires c = omega (arith, c.numbers_size-size.ensures, c.if-out-size.false)

pub returns : goal.returns
unfolding returned left
returns c =
    let ns = c.args.event.now in
    let room = length c.args.out.now in
    let k = c.in-Ok.ensures.1 in
    let f = rw k.same at c.event_fits.ensures in
    rw (event_into ns room k.long (sym f ∙ c.if-not-event_fits.false), into_done room (bytes_of ns) (rw k.same at c.numbers_size-size.ensures) c.if-out-size.false) (record { value = c.done.ensures; out_after = rw k.same at c.write_numbers.ensures.out_after })

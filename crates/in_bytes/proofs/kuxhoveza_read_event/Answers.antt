use mathlib.Core.Path.{refl, sym, ◌∙◌}
use lib.ListN.{length}
use native.Mathlib.Omega.{arith}
use borrow.Author.Tests.{ne_eqb}
use Rattle.laws.specs.Bool.{when◌then◌else◌}
use Rattle.laws.specs.Splice.{splice_all}
use Rattle.host.specs.Layout.{event_length}
use Rattle.codec.specs.Exact.{Bytes}
use Rattle.in_bytes.specs.Event.{event}
use Rattle.in_bytes.specs.Boundary.{returned, left, taken, read_event}
use Rattle.in_bytes.proofs.CallLaws.{event_exact}
use Rattle.in_bytes.proofs.DecideLaws.{event_place, event_stored, event_width}
use Rattle.in_bytes.proofs.BoundaryLaws.{not_whole, all_read, event_taken}
use Rattle.in_bytes.proofs.kuxhoveza_read_event.Goals as goal

pub returns-then-event-ne-EVENT : goal.returns-then-event-ne-EVENT
unfolding read_event returned left when◌then◌else◌
returns-then-event-ne-EVENT c = rw (ne_eqb (length c.args.event.now) event_length c.if-event-ne-EVENT.true) (record { value = c.receipt.ensures; event_after = refl })

pub returns-then-not-ends : goal.returns-then-not-ends
unfolding taken returned left
returns-then-not-ends c =
    let bytes = c.args.bytes.now in
    let b = not_whole (length bytes) (event.read bytes 0) (event_place bytes c.read_numbers-place.ensures.value) (sym c.ends.ensures ∙ c.if-not-ends.true) in
    rw (event_taken bytes (length c.args.event.now) c.if-event-ne-EVENT.false, b) (record { value = c.refused.ensures; event_after = refl })

pub returns-then-not-event_fits : goal.returns-then-not-event_fits
unfolding taken returned left when◌then◌else◌
returns-then-not-event_fits c =
    let bytes = c.args.bytes.now in
    let good : Bytes bytes = record { each = λ n. omega (arith, c.type_inv.bytes n) } in
    let e = c.read_numbers-place.ensures in
    let r = all_read event event_exact bytes _ _ (event_place bytes e.value) (sym c.ends.ensures ∙ c.if-not-ends.false) (event_stored bytes e.stored) good (sym event_width) in
    rw (event_taken bytes (length c.args.event.now) c.if-event-ne-EVENT.false, r.all, sym c.event_fits.ensures ∙ c.if-not-event_fits.true) (record { value = c.refused-then-not-event_fits.ensures; event_after = refl })

pub returns : goal.returns
unfolding taken returned left when◌then◌else◌
returns c =
    let bytes = c.args.bytes.now in
    let good : Bytes bytes = record { each = λ n. omega (arith, c.type_inv.bytes n) } in
    let e = c.read_numbers-place.ensures in
    let r = all_read event event_exact bytes _ _ (event_place bytes e.value) (sym c.ends.ensures ∙ c.if-not-ends.false) (event_stored bytes e.stored) good (sym event_width) in
    rw (event_taken bytes (length c.args.event.now) c.if-event-ne-EVENT.false, r.all, sym c.event_fits.ensures ∙ c.if-not-event_fits.false) (record { value = c.done.ensures; event_after = c.copy_from_slice.ensures.after ∙ sym (splice_all c.args.event.now _ (e.stored.long ∙ sym c.if-event-ne-EVENT.false)) })

use mathlib.Core.Path.{refl, sym, ◌∙◌}
use lib.ListN.{length}
use native.Mathlib.Omega.{arith}
use borrow.Author.Tests.{ne_eqb}
use Rattle.laws.specs.Bool.{when◌then◌else◌}
use Rattle.laws.specs.Splice.{splice_all}
use Rattle.host.specs.Layout.{record_length}
use Rattle.codec.specs.Exact.{Bytes}
use Rattle.in_bytes.specs.Run.{run}
use Rattle.in_bytes.specs.Boundary.{returned, left, taken, read_run}
use Rattle.in_bytes.proofs.RunLaws.{run_exact, run_width}
use Rattle.in_bytes.proofs.BoundaryLaws.{not_whole, all_read, run_taken}
use Rattle.in_bytes.proofs.kuxhoveza_read_run.Goals as goal

pub returns-then-run-ne-RECORD : goal.returns-then-run-ne-RECORD
unfolding read_run returned left when◌then◌else◌
returns-then-run-ne-RECORD c = rw (ne_eqb (length c.args.run.now) record_length c.if-run-ne-RECORD.true) (record { value = c.receipt.ensures; run_after = refl })

pub returns-then-not-ends : goal.returns-then-not-ends
unfolding taken returned left
returns-then-not-ends c =
    let bytes = c.args.bytes.now in
    let b = not_whole (length bytes) (run.read bytes 0) c.read_run-place.ensures.value (sym c.ends.ensures ∙ c.if-not-ends.true) in
    rw (run_taken bytes (length c.args.run.now) c.if-run-ne-RECORD.false, b) (record { value = c.refused.ensures; run_after = refl })

pub tidy_fits-requires : goal.tidy_fits-requires
tidy_fits-requires c =
    let good : Bytes c.args.bytes.now = record { each = λ n. omega (arith, c.type_inv.bytes n) } in
    let e = c.read_run-place.ensures in
    (all_read run run_exact c.args.bytes.now _ _ e.value (sym c.ends.ensures ∙ c.if-not-ends.false) e.stored good (sym run_width)).tidy

pub returns-then-not-tidy_fits : goal.returns-then-not-tidy_fits
unfolding taken returned left when◌then◌else◌
returns-then-not-tidy_fits c =
    let bytes = c.args.bytes.now in
    let good : Bytes bytes = record { each = λ n. omega (arith, c.type_inv.bytes n) } in
    let e = c.read_run-place.ensures in
    let r = all_read run run_exact bytes _ _ e.value (sym c.ends.ensures ∙ c.if-not-ends.false) e.stored good (sym run_width) in
    rw (run_taken bytes (length c.args.run.now) c.if-run-ne-RECORD.false, r.all, sym c.tidy_fits.ensures ∙ c.if-not-tidy_fits.true) (record { value = c.refused-then-not-tidy_fits.ensures; run_after = refl })

pub returns : goal.returns
unfolding taken returned left when◌then◌else◌
returns c =
    let bytes = c.args.bytes.now in
    let good : Bytes bytes = record { each = λ n. omega (arith, c.type_inv.bytes n) } in
    let e = c.read_run-place.ensures in
    let r = all_read run run_exact bytes _ _ e.value (sym c.ends.ensures ∙ c.if-not-ends.false) e.stored good (sym run_width) in
    rw (run_taken bytes (length c.args.run.now) c.if-run-ne-RECORD.false, r.all, sym c.tidy_fits.ensures ∙ c.if-not-tidy_fits.false) (record { value = c.done.ensures; run_after = c.copy_from_slice.ensures.after ∙ sym (splice_all c.args.run.now _ (e.stored.long ∙ sym c.if-run-ne-RECORD.false)) })

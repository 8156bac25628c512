use mathlib.Core.Path.{refl, sym, ◌∙◌}
use native.Mathlib.Omega.{arith}
use lib.ListN.{length}
use borrow.Author.Tests.{eq-eqb, ne_eqb}
use Rattle.laws.specs.Bool.{when◌then◌else◌}
use Rattle.host.specs.Layout.{record_length}
use Rattle.codec.specs.Numbers.{bytes_of}
use Rattle.in_bytes.specs.Run.{run}
use Rattle.in_bytes.specs.Boundary.{returned, left, write_run}
use Rattle.in_bytes.proofs.BoundaryLaws.{into_short, into_done, run_into}
use Rattle.in_bytes.proofs.kuxhoveza_write_run.Goals as goal

pub returns-in_default : goal.returns-in_default
unfolding write_run returned left when◌then◌else◌
returns-in_default c = rw (ne_eqb (length c.args.run.now) record_length c.in_default.ensures.1) (record { value = c.receipt.ensures; out_after = refl })

pub returns-then-not-run_fits : goal.returns-then-not-run_fits
unfolding write_run returned left when◌then◌else◌
returns-then-not-run_fits c =
    let k = c.in-Ok.ensures.1 in
    let f = rw k.same at c.run_fits.ensures in
    rw (eq-eqb (length c.args.run.now) record_length k.long, sym f ∙ c.if-not-run_fits.true) (record { value = c.receipt-then-not-run_fits.ensures; out_after = refl })

pub returns-then-not-run_tidy : goal.returns-then-not-run_tidy
unfolding write_run returned left when◌then◌else◌
returns-then-not-run_tidy c =
    let k = c.in-Ok.ensures.1 in
    let f = rw k.same at c.run_fits.ensures in
    let t = rw k.same at c.run_tidy.ensures in
    rw (eq-eqb (length c.args.run.now) record_length k.long, sym f ∙ c.if-not-run_fits.false, sym t ∙ c.if-not-run_tidy.true) (record { value = c.refused.ensures; out_after = refl })

pub returns-then-out-size : goal.returns-then-out-size
unfolding returned left
returns-then-out-size c =
    let ns = c.args.run.now in
    let room = length c.args.out.now in
    let k = c.in-Ok.ensures.1 in
    let f = rw k.same at c.run_fits.ensures in
    let t = rw k.same at c.run_tidy.ensures in
    let i = run_into ns room k.long (sym f ∙ c.if-not-run_fits.false) (sym t ∙ c.if-not-run_tidy.false) in
    rw (i, into_short room (bytes_of (run.fields ns)) (rw k.same at c.run_size-size.ensures) c.if-out-size.true) (record { value = c.refused-then-out-size.ensures; out_after = refl })

pub write_run-requires : goal.write_run-requires
write_run-requires c = omega (arith, c.run_size-size.ensures, c.if-out-size.false)

pub returns : goal.returns
unfolding returned left
returns c =
    let ns = c.args.run.now in
    let room = length c.args.out.now in
    let k = c.in-Ok.ensures.1 in
    let f = rw k.same at c.run_fits.ensures in
    let t = rw k.same at c.run_tidy.ensures in
    let i = run_into ns room k.long (sym f ∙ c.if-not-run_fits.false) (sym t ∙ c.if-not-run_tidy.false) in
    rw (i, into_done room (bytes_of (run.fields ns)) (rw k.same at c.run_size-size.ensures) c.if-out-size.false) (record { value = c.done.ensures; out_after = rw k.same at c.write_run.ensures.out_after })

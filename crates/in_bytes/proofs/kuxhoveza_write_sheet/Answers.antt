use mathlib.Core.Path.{refl, sym, ◌∙◌}
use native.Mathlib.Omega.{arith}
use lib.ListN.{length}
use borrow.Author.Tests.{eq-eqb, ne_eqb}
use Rattle.laws.specs.Bool.{when◌then◌else◌}
use Rattle.workflow.specs.Layout.{numbers as sheet_length}
use Rattle.codec.specs.Numbers.{bytes_of}
use Rattle.in_bytes.specs.Sheet.{sheet}
use Rattle.in_bytes.specs.Boundary.{returned, left, write_sheet}
use Rattle.in_bytes.proofs.BoundaryLaws.{into_short, into_done, sheet_into}
use Rattle.in_bytes.proofs.kuxhoveza_write_sheet.Goals as goal

pub returns-in_default : goal.returns-in_default
unfolding write_sheet returned left when◌then◌else◌
returns-in_default c = rw (ne_eqb (length c.args.sheet.now) sheet_length c.in_default.ensures.1) (record { value = c.receipt.ensures; out_after = refl })

pub returns-then-not-sheet_tidy : goal.returns-then-not-sheet_tidy
unfolding write_sheet returned left when◌then◌else◌
returns-then-not-sheet_tidy c =
    let k = c.in-Ok.ensures.1 in
    let t = rw k.same at c.sheet_tidy.ensures in
    rw (eq-eqb (length c.args.sheet.now) sheet_length k.long, sym t ∙ c.if-not-sheet_tidy.true) (record { value = c.refused.ensures; out_after = refl })

-- the sheet is tidy
pub sheet_size-size-requires : goal.sheet_size-size-requires
sheet_size-size-requires c = sym c.sheet_tidy.ensures ∙ c.if-not-sheet_tidy.false

pub returns-then-out-size : goal.returns-then-out-size
unfolding returned left
returns-then-out-size c =
    let ns = c.args.sheet.now in
    let room = length c.args.out.now in
    let k = c.in-Ok.ensures.1 in
    let t = rw k.same at c.sheet_tidy.ensures in
    rw (sheet_into ns room k.long (sym t ∙ c.if-not-sheet_tidy.false), into_short room (bytes_of (sheet.fields ns)) (rw k.same at c.sheet_size-size.ensures) c.if-out-size.true) (record { value = c.refused-then-out-size.ensures; out_after = refl })

pub write_sheet-requires : goal.write_sheet-requires
write_sheet-requires c = (sym c.sheet_tidy.ensures ∙ c.if-not-sheet_tidy.false, omega (arith, c.sheet_size-size.ensures, c.if-out-size.false))

pub returns : goal.returns
unfolding returned left
returns c =
    let ns = c.args.sheet.now in
    let room = length c.args.out.now in
    let k = c.in-Ok.ensures.1 in
    let t = rw k.same at c.sheet_tidy.ensures in
    rw (sheet_into ns room k.long (sym t ∙ c.if-not-sheet_tidy.false), into_done room (bytes_of (sheet.fields ns)) (rw k.same at c.sheet_size-size.ensures) c.if-out-size.false) (record { value = c.done.ensures; out_after = rw k.same at c.write_sheet.ensures })

use mathlib.Core.Path.{refl, sym, ◌∙◌}
use lib.ListN.{length}
use native.Mathlib.Omega.{arith}
use borrow.Author.Tests.{ne_eqb}
use Rattle.laws.specs.Bool.{when◌then◌else◌}
use Rattle.laws.specs.Splice.{splice_all}
use Rattle.workflow.specs.Layout.{numbers as sheet_length}
use Rattle.codec.specs.Exact.{Bytes}
use Rattle.in_bytes.specs.Sheet.{sheet}
use Rattle.in_bytes.specs.Boundary.{returned, left, taken, read_sheet}
use Rattle.in_bytes.proofs.SheetLaws.{sheet_exact, sheet_width}
use Rattle.in_bytes.proofs.BoundaryLaws.{not_whole, all_read, sheet_taken}
use Rattle.in_bytes.proofs.kuxhoveza_read_sheet.Goals as goal

pub returns-then-sheet-ne-NUMBERS : goal.returns-then-sheet-ne-NUMBERS
unfolding read_sheet returned left when◌then◌else◌
returns-then-sheet-ne-NUMBERS c = rw (ne_eqb (length c.args.sheet.now) sheet_length c.if-sheet-ne-NUMBERS.true) (record { value = c.receipt.ensures; sheet_after = refl })

pub returns-then-not-ends : goal.returns-then-not-ends
unfolding taken returned left
returns-then-not-ends c =
    let bytes = c.args.bytes.now in
    let b = not_whole (length bytes) (sheet.read bytes 0) c.read_sheet-place.ensures.value (sym c.ends.ensures ∙ c.if-not-ends.true) in
    rw (sheet_taken bytes (length c.args.sheet.now) c.if-sheet-ne-NUMBERS.false, b) (record { value = c.refused.ensures; sheet_after = refl })

pub returns : goal.returns
unfolding taken returned left when◌then◌else◌
returns c =
    let bytes = c.args.bytes.now in
    let good : Bytes bytes = record { each = λ n. omega (arith, c.type_inv.bytes n) } in
    let e = c.read_sheet-place.ensures in
    let r = all_read sheet sheet_exact bytes _ _ e.value (sym c.ends.ensures ∙ c.if-not-ends.false) e.stored good (sym sheet_width) in
    rw (sheet_taken bytes (length c.args.sheet.now) c.if-sheet-ne-NUMBERS.false, r.all) (record { value = c.done.ensures; sheet_after = c.copy_from_slice.ensures.after ∙ sym (splice_all c.args.sheet.now _ (e.stored.long ∙ sym c.if-sheet-ne-NUMBERS.false)) })

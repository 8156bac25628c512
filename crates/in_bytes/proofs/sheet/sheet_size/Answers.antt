use native.Mathlib.Omega.{arith}
use Rattle.codec.specs.Numbers.{part}
use Rattle.codec.proofs.PartLaws.{length_part}
use Rattle.in_bytes.proofs.StagesLoops.{both_sizes}
use Rattle.in_bytes.proofs.SheetLaws.{sliced_room, columns_tidy, sheet_first, sheet_few}
use Rattle.in_bytes.proofs.sheet.sheet_size.Goals as goal

pub columns_size-requires : goal.columns_size-requires
unfolding part
columns_size-requires c =
    let w = c.args.w.now in
    let l = c.told-w in
    record { in_bounds = (sliced_room w l c.plan.ensures, omega (arith, l, length_part w 9 4169 (omega arith))); tidy = columns_tidy w l c.plan.ensures c.requires }

pub overflow_add-result : goal.overflow_add-result
unfolding part
overflow_add-result c =
    let w = c.args.w.now in
    omega (arith, both_sizes (sheet_first w c.told-w c.plan.ensures), sheet_few w c.told-w, c.columns_size.ensures, c.numbers_size.ensures)

pub returns : goal.returns
unfolding part
returns c = rw (c.columns_size.ensures, c.numbers_size.ensures) (both_sizes (sheet_first c.args.w.now c.told-w c.plan.ensures))

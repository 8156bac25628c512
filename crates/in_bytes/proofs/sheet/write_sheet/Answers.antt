use native.Mathlib.Omega.{arith}
use mathlib.Core.Path.{refl}
use Rattle.codec.specs.Numbers.{part}
use Rattle.in_bytes.proofs.StagesLoops.{both_sizes, both_written}
use Rattle.in_bytes.proofs.SheetLaws.{sliced_room, columns_tidy, sheet_first}
use Rattle.in_bytes.proofs.sheet.write_sheet.Goals as goal

pub write_numbers-next-requires : goal.write_numbers-next-requires
unfolding part
write_numbers-next-requires c = omega (arith, both_sizes (sheet_first c.args.w.now c.told-w refl), c.requires.1)

pub write_columns-requires : goal.write_columns-requires
unfolding part
write_columns-requires c =
    let w = c.args.w.now in
    let u = c.plan.ensures in
    let l = c.told-w in
    record { in_bounds = sliced_room w l u; tidy = columns_tidy w l u c.requires.0; fits = omega (arith, both_sizes (sheet_first w l u), c.requires.1, c.write_numbers-next.ensures.value) }

pub returns : goal.returns
unfolding part
returns c =
    let e = c.write_numbers-next.ensures in
    both_written (sheet_first c.args.w.now c.told-w c.plan.ensures) c.args.out.now c.requires.1 (omega (arith, e.value)) e.out_after c.write_columns.ensures.out_after

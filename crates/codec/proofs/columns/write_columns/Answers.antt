use mathlib.Core.Path.{◌≡◌}
use native.Mathlib.Omega.{arith}
use Prim.Native.Nat.{◌+◌, ◌^◌}
use Rattle.codec.specs.Numbers.{part}
use Rattle.codec.specs.Stages.{total}
use Rattle.codec.proofs.ColumnsLoops.{tidy_start, tidy_room, tidy_low, write_start, write_room, write_more, write_place, write_end}
use Rattle.codec.proofs.columns.write_columns.Goals as goal

pub loop-column-init : goal.loop-column-init
loop-column-init c =
    let plan = c.args.plan.now in
    let z : 0 + total plan ≡ total plan = omega arith in
    rw z at (write_start c.args.out.now c.args.at (tidy_start (2 ^ 32) plan c.args.xs.now 0 (omega (arith, c.requires.in_bounds)) (rw z c.requires.tidy)) (rw z c.requires.fits))

pub overflow_add-first : goal.overflow_add-first
overflow_add-first c = omega (arith, tidy_low c.loop-column.invariant.tidy c.loop-column-test.true, tidy_room c.loop-column.invariant.tidy c.loop-column-test.true)

pub offset_bounds-xs-first : goal.offset_bounds-xs-first
offset_bounds-xs-first c = omega (arith, tidy_room c.loop-column.invariant.tidy c.loop-column-test.true)

pub slice_bounds-write_numbers-end : goal.slice_bounds-write_numbers-end
slice_bounds-write_numbers-end c = omega (arith, tidy_low c.loop-column.invariant.tidy c.loop-column-test.true, tidy_room c.loop-column.invariant.tidy c.loop-column-test.true)

pub write_numbers-place-requires : goal.write_numbers-place-requires
unfolding part
write_numbers-place-requires c = write_room c.loop-column.invariant c.loop-column-test.true

pub overflow_add-first-in-loop-column : goal.overflow_add-first-in-loop-column
overflow_add-first-in-loop-column c = omega (arith, tidy_room c.loop-column.invariant.tidy c.loop-column-test.true)

pub loop-column-preserved : goal.loop-column-preserved
unfolding part
loop-column-preserved c =
    let e = c.write_numbers-place.ensures in
    write_more c.loop-column.invariant c.loop-column-test.true e.value e.out_after

pub returns : goal.returns
returns c = record { value = write_place c.loop-column.invariant c.loop-column-test.false; out_after = write_end c.loop-column.invariant c.loop-column-test.false }

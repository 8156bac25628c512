use mathlib.Core.Path.{◌≡◌}
use native.Mathlib.Omega.{arith}
use Prim.Native.Nat.{◌+◌, ◌^◌}
use Rattle.codec.specs.Numbers.{part}
use Rattle.codec.specs.Stages.{total}
use Rattle.codec.proofs.ColumnsLoops.{tidy_start, tidy_room, tidy_low, count_start, count_few, count_more, count_end}
use Rattle.codec.proofs.columns.columns_size.Goals as goal

pub loop-column-init : goal.loop-column-init
loop-column-init c =
    let plan = c.args.plan.now in
    let z : 0 + total plan ≡ total plan = omega arith in
    rw z at (count_start (tidy_start (2 ^ 32) plan c.args.xs.now 0 (omega (arith, c.requires.in_bounds)) (rw z c.requires.tidy)))

pub overflow_add-first : goal.overflow_add-first
overflow_add-first c = omega (arith, tidy_low c.loop-column.invariant.tidy c.loop-column-test.true, tidy_room c.loop-column.invariant.tidy c.loop-column-test.true)

pub offset_bounds-xs-first : goal.offset_bounds-xs-first
offset_bounds-xs-first c = omega (arith, tidy_room c.loop-column.invariant.tidy c.loop-column-test.true)

pub slice_bounds-numbers_size-end : goal.slice_bounds-numbers_size-end
slice_bounds-numbers_size-end c = omega (arith, tidy_low c.loop-column.invariant.tidy c.loop-column-test.true, tidy_room c.loop-column.invariant.tidy c.loop-column-test.true)

pub overflow_add-size : goal.overflow_add-size
unfolding part
overflow_add-size c = omega (arith, count_few c.loop-column.invariant c.loop-column-test.true, tidy_room c.loop-column.invariant.tidy c.loop-column-test.true, c.requires.in_bounds.1, c.numbers_size-size.ensures)

pub overflow_add-first-in-loop-column : goal.overflow_add-first-in-loop-column
overflow_add-first-in-loop-column c = omega (arith, tidy_room c.loop-column.invariant.tidy c.loop-column-test.true)

pub loop-column-preserved : goal.loop-column-preserved
unfolding part
loop-column-preserved c = count_more c.loop-column.invariant c.loop-column-test.true c.numbers_size-size.ensures

pub returns : goal.returns
returns c = count_end c.loop-column.invariant c.loop-column-test.false

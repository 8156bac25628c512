use mathlib.Core.Path.{◌≡◌, ap}
use mathlib.Core.Bool.{not}
use native.Mathlib.Omega.{arith}
use Prim.Native.Nat.{◌+◌, ◌^◌}
use Rattle.codec.specs.Numbers.{part}
use Rattle.codec.specs.Stages.{total}
use Rattle.codec.proofs.ColumnsLoops.{test_start, test_room, test_over, test_dirty, test_more, test_end}
use Rattle.codec.proofs.columns.columns_tidy.Goals as goal

pub loop-column-init : goal.loop-column-init
loop-column-init c =
    let plan = c.args.plan.now in
    let z : 0 + total plan ≡ total plan = omega arith in
    rw z at (test_start (2 ^ 32) plan c.args.xs.now 0 (omega (arith, c.requires)) (λ n. omega (arith, c.type_inv.xs n)))

pub returns-then-column : goal.returns-then-column
returns-then-column c = test_over c.loop-column.invariant c.loop-column-test.true c.if-column.true

pub overflow_add-first : goal.overflow_add-first
overflow_add-first c = omega (arith, test_room c.loop-column.invariant c.loop-column-test.true, c.if-column.false)

pub overflow_add-first-in-loop-column : goal.overflow_add-first-in-loop-column
overflow_add-first-in-loop-column c = omega (arith, test_room c.loop-column.invariant c.loop-column-test.true)

pub offset_bounds-xs-first : goal.offset_bounds-xs-first
offset_bounds-xs-first c = omega (arith, test_room c.loop-column.invariant c.loop-column-test.true, c.if-column.false)

pub slice_bounds-numbers_zero-end : goal.slice_bounds-numbers_zero-end
slice_bounds-numbers_zero-end c = test_room c.loop-column.invariant c.loop-column-test.true

pub returns-then-not-numbers_zero : goal.returns-then-not-numbers_zero
unfolding part
returns-then-not-numbers_zero c = test_dirty c.loop-column.invariant c.loop-column-test.true c.if-column.false c.numbers_zero.ensures (ap not c.if-not-numbers_zero.true)

pub overflow_add-first-in-loop-column-2 : goal.overflow_add-first-in-loop-column-2
overflow_add-first-in-loop-column-2 c = omega (arith, test_room c.loop-column.invariant c.loop-column-test.true)

pub loop-column-preserved : goal.loop-column-preserved
unfolding part
loop-column-preserved c = test_more c.loop-column.invariant c.loop-column-test.true c.if-column.false c.numbers_zero.ensures (ap not c.if-not-numbers_zero.false)

pub returns : goal.returns
returns c = test_end c.loop-column.invariant c.loop-column-test.false

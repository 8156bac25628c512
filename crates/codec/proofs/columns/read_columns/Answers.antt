use mathlib.Core.Path.{refl, ◌∙◌}
use native.Mathlib.Omega.{arith}
use Prim.Native.Nat.{◌^◌}
use Rattle.codec.specs.Numbers.{part}
use Rattle.codec.proofs.PartLaws.{put_long}
use Rattle.codec.proofs.StoredLaws.{bad_place, bad_stored}
use Rattle.codec.proofs.ColumnsLoops.{read_start, read_long, read_room, read_over, read_bad, read_more, read_place, read_stored}
use Rattle.codec.proofs.columns.read_columns.Goals as goal

pub loop-column-init : goal.loop-column-init
loop-column-init c = read_start (2 ^ 32) c.args.plan.now c.args.bytes.now c.args.out.now 0 c.args.start (omega (arith, c.requires.0)) c.requires.1

pub returns-then-column : goal.returns-then-column
returns-then-column c =
    let o = read_over c.loop-column.invariant c.loop-column-test.true c.if-column.true in
    record { value = bad_place o; stored = bad_stored o (read_long c.loop-column.invariant) }

pub overflow_add-first : goal.overflow_add-first
overflow_add-first c = omega (arith, read_room c.loop-column.invariant c.loop-column-test.true, read_long c.loop-column.invariant, c.if-column.false)

pub offset_bounds-out-first : goal.offset_bounds-out-first
offset_bounds-out-first c = omega (arith, read_room c.loop-column.invariant c.loop-column-test.true, read_long c.loop-column.invariant)

pub slice_bounds-read_numbers-end : goal.slice_bounds-read_numbers-end
slice_bounds-read_numbers-end c = omega (arith, read_room c.loop-column.invariant c.loop-column-test.true, c.if-column.false)

pub returns-in_err-at : goal.returns-in_err-at
unfolding part
returns-in_err-at c =
    let i = c.loop-column.invariant in
    let e = c.in_err-at.ensures in
    let o = read_bad i c.loop-column-test.true c.if-column.false e.value refl in
    let room = read_room i c.loop-column-test.true in
    record { value = c.from_residual.ensures ∙ bad_place o; stored = bad_stored o (put_long c.loop-column.out _ _ (omega arith) (omega (arith, room, c.if-column.false)) c.read_numbers.new.out e.stored.long ∙ read_long i) }

pub overflow_add-first-in-loop-column : goal.overflow_add-first-in-loop-column
overflow_add-first-in-loop-column c = omega (arith, read_room c.loop-column.invariant c.loop-column-test.true, read_long c.loop-column.invariant)

pub loop-column-preserved : goal.loop-column-preserved
unfolding part
loop-column-preserved c =
    let e = c.in_ok-at.ensures in
    read_more c.loop-column.invariant c.loop-column-test.true c.if-column.false e.value refl e.stored

pub returns : goal.returns
returns c = record { value = read_place c.loop-column.invariant c.loop-column-test.false; stored = read_stored c.loop-column.invariant c.loop-column-test.false }

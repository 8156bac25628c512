use native.Mathlib.Omega.{arith}
use mathlib.Core.Path.{refl}
use Rattle.codec.specs.Numbers.{part}
use Rattle.in_bytes.proofs.StagesLoops.{both_sizes, both_written}
use Rattle.in_bytes.proofs.AnswerLaws.{next_head, want_head}
use Rattle.in_bytes.proofs.answer.write_head.Goals as goal

pub write_numbers-place-requires : goal.write_numbers-place-requires
write_numbers-place-requires c = omega (arith, both_sizes (next_head c.args.xs.now c.if-xs-eq1.true c.notes_end.ensures refl), c.requires)

pub write_numbers-requires : goal.write_numbers-requires
unfolding part
write_numbers-requires c =
    let parts = next_head c.args.xs.now c.if-xs-eq1.true c.notes_end.ensures c.endings_end.ensures in
    omega (arith, both_sizes parts, c.requires, c.write_numbers-place.ensures.value)

pub returns-then-xs-eq1 : goal.returns-then-xs-eq1
unfolding part
returns-then-xs-eq1 c =
    let parts = next_head c.args.xs.now c.if-xs-eq1.true c.notes_end.ensures c.endings_end.ensures in
    let one = c.write_numbers-place.ensures in
    let two = c.write_numbers.ensures in
    record { value = omega (arith, one.value, two.value, both_sizes parts); out_after = both_written parts c.args.out.now c.requires (omega (arith, one.value)) one.out_after two.out_after }

pub write_numbers-requires-2 : goal.write_numbers-requires-2
write_numbers-requires-2 c =
    let e = want_head c.args.xs.now c.if-xs-eq1.false in
    omega (arith, rw e at c.requires)

pub returns : goal.returns
returns c =
    let e = want_head c.args.xs.now c.if-xs-eq1.false in
    let w = c.write_numbers-2.ensures in
    record { value = rw e (omega (arith, w.value)); out_after = rw e w.out_after }

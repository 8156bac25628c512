use native.Mathlib.Omega.{arith}
use Rattle.codec.specs.Numbers.{part}
use Rattle.in_bytes.proofs.RunLaws.{sizes, few}
use Rattle.in_bytes.proofs.run.run_size.Goals as goal

pub overflow_add-result : goal.overflow_add-result
unfolding part
overflow_add-result c =
    let r = c.args.r.now in
    omega (arith, c.numbers_size.ensures, c.numbers_size-2.ensures, sizes r c.told-r c.stored_end.ensures, few r c.told-r)

pub overflow_add-result-2 : goal.overflow_add-result-2
unfolding part
overflow_add-result-2 c =
    let r = c.args.r.now in
    omega (arith, c.numbers_size.ensures, c.numbers_size-2.ensures, c.slots_size.ensures, sizes r c.told-r c.stored_end.ensures, few r c.told-r)

pub overflow_add-result-3 : goal.overflow_add-result-3
unfolding part
overflow_add-result-3 c =
    let r = c.args.r.now in
    omega (arith, c.numbers_size.ensures, c.numbers_size-2.ensures, c.slots_size.ensures, c.slots_size-2.ensures, sizes r c.told-r c.stored_end.ensures, few r c.told-r)

pub returns : goal.returns
unfolding part
returns c = rw (c.numbers_size.ensures, c.numbers_size-2.ensures, c.slots_size.ensures, c.slots_size-2.ensures) (sizes c.args.r.now c.told-r c.stored_end.ensures)

use native.Mathlib.Omega.{arith}
use Rattle.std.proofs.Common.{rules}
use Rattle.codec.proofs.GroupsLaws.{counting_start, counting_more, counting_end}
use Rattle.codec.proofs.number.number_size.Goals as goal

pub loop-rest-init : goal.loop-rest-init
loop-rest-init c = counting_start (search rules)

pub overflow_add-size : goal.overflow_add-size
overflow_add-size c = omega (arith, c.loop-rest.invariant.few)

pub loop-rest-smaller : goal.loop-rest-smaller
loop-rest-smaller c = omega arith

pub loop-rest-preserved : goal.loop-rest-preserved
loop-rest-preserved c = counting_more c.loop-rest.invariant c.loop-rest-test.true

pub returns : goal.returns
returns c = counting_end c.loop-rest.invariant c.loop-rest-test.false

use mathlib.Core.Path.{◌∙◌, ap}
use native.Mathlib.Omega.{arith}
use Rattle.std.proofs.Common.{rules}
use lib.ListN.{length}
use Rattle.laws.specs.Splice.{length_splice}
use Rattle.codec.proofs.GroupsLaws.{writing_start, writing_more, writing_below, writing_room, writing_last, writing_end}
use Rattle.codec.proofs.number.write_number.Goals as goal

pub loop-rest-init : goal.loop-rest-init
loop-rest-init c = writing_start (search rules) c.requires

pub bounds-out-place : goal.bounds-out-place
bounds-out-place c = writing_room c.loop-rest.invariant

pub overflow_add-place : goal.overflow_add-place
overflow_add-place c = omega (arith, writing_below c.loop-rest.invariant)

pub loop-rest-smaller : goal.loop-rest-smaller
loop-rest-smaller c = omega arith

pub loop-rest-preserved : goal.loop-rest-preserved
loop-rest-preserved c = writing_more c.loop-rest.invariant c.loop-rest-test.true

pub bounds-out-place-2 : goal.bounds-out-place-2
bounds-out-place-2 c = writing_room c.loop-rest.invariant

pub overflow_add-result : goal.overflow_add-result
overflow_add-result c = omega (arith, writing_below c.loop-rest.invariant)

pub shape_of-out : goal.shape_of-out
shape_of-out c = ap length (writing_last c.loop-rest.invariant c.loop-rest-test.false) ∙ length_splice _ _ _ c.requires

pub returns : goal.returns
returns c = record { value = writing_end c.loop-rest.invariant c.loop-rest-test.false; out_after = writing_last c.loop-rest.invariant c.loop-rest-test.false }

use native.Mathlib.Omega.{arith}
use Rattle.wait_list.specs.Worked.{work_start, work_last, work_more, work_end}
use Rattle.wait_list.proofs.worked_out.Goals as goal

pub loop-n-init : goal.loop-n-init
loop-n-init c = work_start

pub next_wait-requires : goal.next_wait-requires
next_wait-requires c = work_last c.loop-n.invariant (omega arith)

pub loop-n-preserved : goal.loop-n-preserved
loop-n-preserved c = work_more c.loop-n.invariant c.loop-n-test.true c.next_wait.ensures

pub returns : goal.returns
returns c = work_end c.loop-n.invariant c.loop-n-test.false

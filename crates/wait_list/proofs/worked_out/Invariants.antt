use Rattle.wait_list.specs.Worked.{Worked}
use Rattle.wait_list.proofs.worked_out.Given as goal

abbrev pub invariant-loop-n : goal.invariant-loop-n
invariant-loop-n l = Worked l.list l.n

use Rattle.model.specs.StoreLaws.{Leaving}
use Rattle.model.proofs.State.left_over.Given as goal

-- The first i stored signals are listed.
abbrev pub invariant-loop-i : goal.invariant-loop-i
invariant-loop-i l = Leaving l.self.signals l.self.signal_count l.endings l.i

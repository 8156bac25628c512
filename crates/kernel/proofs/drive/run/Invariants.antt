use Rattle.workflow.specs.View.{workflow}
use Rattle.kernel.specs.DriveLaws.{Driving, left_of}
use Rattle.kernel.proofs.drive.run.Given as goal

-- Driving on from the round at hand, with what is listed and counted so far, ends where the whole drive ends.
abbrev pub invariant-loop-microsteps : goal.invariant-loop-microsteps
invariant-loop-microsteps l = Driving (workflow l.w) l.limits l.event l.mappings l.initial.v l.v l.notes l.endings l.operations l.microsteps

-- The turns that are left.
abbrev pub decreases-loop-microsteps : goal.decreases-loop-microsteps
decreases-loop-microsteps l = left_of (workflow l.w) l.limits l.event l.mappings l.initial.v l.v l.microsteps

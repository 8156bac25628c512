use Rattle.codec.specs.Groups.{followed}
use Rattle.codec.proofs.GroupsLaws.{Following}
use Rattle.codec.proofs.number.following.Given as goal

abbrev pub invariant-loop-group : goal.invariant-loop-group
invariant-loop-group l = Following l.bytes (followed l.low l.bytes l.start) l.value l.scale l.at l._group

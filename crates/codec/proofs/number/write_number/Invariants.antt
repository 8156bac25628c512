use Prim.Native.Nat.{◌+◌}
use lib.ListN.{length}
use Rattle.laws.specs.Splice.{splice}
use Rattle.codec.specs.Leb.{leb128}
use Rattle.codec.proofs.GroupsLaws.{Writing}
use Rattle.codec.proofs.number.write_number.Given as goal

abbrev pub invariant-loop-rest : goal.invariant-loop-rest
invariant-loop-rest l = Writing (splice l.initial.out l.at (leb128 l.n)) (l.at + length (leb128 l.n)) l.out l.place l.rest

abbrev pub decreases-loop-rest : goal.decreases-loop-rest
decreases-loop-rest l = l.rest

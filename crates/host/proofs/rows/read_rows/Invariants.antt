use Rattle.std.proofs.Common.{length}
use Rattle.laws.specs.Splice.{Filled}
use Rattle.host.proofs.rows.read_rows.Given as goal

-- the rows before i are read
abbrev pub invariant-loop-i : goal.invariant-loop-i
invariant-loop-i g l = Filled (g.T.RecordRow.of l.xs) (length l.initial.rows) l.i l.initial.rows l.rows

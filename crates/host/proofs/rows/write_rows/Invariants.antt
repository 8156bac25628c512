use Rattle.laws.specs.Splice.{Written}
use Rattle.host.proofs.rows.write_rows.Given as goal

-- the numbers of the rows before i are written
abbrev pub invariant-loop-i : goal.invariant-loop-i
invariant-loop-i g l = Written g.T.Row.numbers g.T.Row.WIDTH l.rows 0 l.i l.initial.out l.out

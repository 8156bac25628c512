use Prim.Native.Nat.{◌^◌}
use Rattle.codec.specs.Stages.{columns}
use Rattle.codec.proofs.ColumnsLoops.{ReadingColumns}
use Rattle.codec.proofs.columns.read_columns.Given as goal

abbrev pub invariant-loop-column : goal.invariant-loop-column
invariant-loop-column l = ReadingColumns (2 ^ 32) l.plan l.bytes ((columns (2 ^ 32) l.plan).read l.bytes l.start) l.initial.out 0 l.at l.first l.column-index l.out

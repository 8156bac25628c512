use Prim.Native.Nat.{◌^◌}
use Rattle.codec.specs.Numbers.{part}
use Rattle.codec.specs.Stages.{total, columns}
use Rattle.codec.proofs.ColumnsLoops.{TestingColumns}
use Rattle.codec.proofs.columns.columns_tidy.Given as goal

abbrev pub invariant-loop-column : goal.invariant-loop-column
invariant-loop-column l = TestingColumns (2 ^ 32) l.plan l.xs ((columns (2 ^ 32) l.plan).tidy (part l.xs 0 (total l.plan))) l.first l.column-index

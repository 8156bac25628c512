use Prim.Native.Nat.{◌^◌}
use Rattle.codec.specs.Numbers.{bytes_of, part}
use Rattle.codec.specs.Stages.{total, columns}
use Rattle.codec.proofs.ColumnsLoops.{WritingColumns}
use Rattle.codec.proofs.columns.write_columns.Given as goal

abbrev pub invariant-loop-column : goal.invariant-loop-column
invariant-loop-column l = WritingColumns (2 ^ 32) l.plan l.xs (bytes_of ((columns (2 ^ 32) l.plan).fields (part l.xs 0 (total l.plan)))) l.initial.out l.at l.first l.column-index l.place l.out

use Rattle.std.proofs.Common.{rules, arith, ltb}
use borrow.Author.Tests.{tests}
use Rattle.std.proofs.lemmas.List.Sorted.{IsPartitionPoint-from_clause, IsPartitionedBy-ltb}
use Rattle.laws.specs.Chains.{column_span}
use Rattle.graph.specs.SearchLaws.{rising_list, parted_below}
use Rattle.graph.proofs.search.Rows.of.Goals as goal

pub starting_at-requires : goal.starting_at-requires
starting_at-requires c =
    let e = column_span c.args.w.now c.args.column c.args.count (omega arith) in
    let p = IsPartitionPoint-from_clause (λ y. ltb y c.args.key) _ c.partition_point-from.result (rw e at c.partition_point-from.ensures.partitioned) (IsPartitionedBy-ltb (λ y. y) _ c.args.key (rising_list c.requires)) (λ a r f k. search (rules, tests)) in
    (parted_below c.requires c.args.key _ (rw e at c.partition_point-from.ensures.bound) p, c.requires)

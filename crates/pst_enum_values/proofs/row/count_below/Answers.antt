use Rattle.std.proofs.Common.{rules, arith, int_lt}
use Rattle.std.proofs.lemmas.List.Sorted.{IsPartitionPoint-from_clause}
use Rattle.pst_enum_values.proofs.Ascending.{by_lt, by_not_lt, lower_first}
use Rattle.pst_enum_values.proofs.row.count_below.Goals as goal

pub returns-clause-below : goal.returns-clause-below
returns-clause-below c = λ k d lt.
    by_lt _ _
    ((IsPartitionPoint-from_clause (λ v. int_lt v c.args.span.low) c.args.values.now c.partition_point.result c.partition_point.ensures.partitioned
    (lower_first c.args.span.low c.args.values.now c.requires) (λ a r g h. search rules)).0 k d (omega arith) lt)

pub returns-clause-above : goal.returns-clause-above
returns-clause-above c = λ k d le within.
    by_not_lt _ _
    ((IsPartitionPoint-from_clause (λ v. int_lt v c.args.span.low) c.args.values.now c.partition_point.result c.partition_point.ensures.partitioned
    (lower_first c.args.span.low c.args.values.now c.requires) (λ a r g h. search rules)).1 k d le within)

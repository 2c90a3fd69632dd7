use Rattle.std.proofs.Common.{rules, arith, int_lt}
use Rattle.std.proofs.lemmas.List.Sorted.{IsPartitionPoint-from_clause}
use Rattle.pst_joined_spans.proofs.Cutting.{by_lt, lower_first}
use Rattle.pst_joined_spans.proofs.common.count_below.Goals as goal

pub returns-clause-below : goal.returns-clause-below
returns-clause-below c = λ k d lt.
    by_lt _ _
    ((IsPartitionPoint-from_clause (λ s. int_lt s.high c.args.range.low) c.args.spans.now c.partition_point.result c.partition_point.ensures.partitioned
    (lower_first c.args.range.low c.args.spans.now c.requires) (λ a r g h. search rules)).0 k d (omega arith) lt)

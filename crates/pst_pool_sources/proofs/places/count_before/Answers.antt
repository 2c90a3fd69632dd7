use Rattle.std.proofs.Common.{rules, arith}
use Rattle.std.proofs.lemmas.List.Sorted.{IsPartitionPoint-from_clause}
use Rattle.pst_pool_sources.specs.Places.{is_before}
use Rattle.pst_pool_sources.proofs.Rising.{parted}
use Rattle.pst_pool_sources.proofs.places.count_before.Goals as goal

pub returns-clause-before : goal.returns-clause-before
returns-clause-before c = λ k d lt.
    (IsPartitionPoint-from_clause (λ e. is_before e c.args.end) c.args.ends.now c.partition_point.result c.partition_point.ensures.partitioned
    (parted c.args.ends.now c.args.end c.requires) (λ a r g h. search rules)).0 k d (omega arith) lt

pub returns-clause-others : goal.returns-clause-others
returns-clause-others c = λ k d le within.
    (IsPartitionPoint-from_clause (λ e. is_before e c.args.end) c.args.ends.now c.partition_point.result c.partition_point.ensures.partitioned
    (parted c.args.ends.now c.args.end c.requires) (λ a r g h. search rules)).1 k d le within

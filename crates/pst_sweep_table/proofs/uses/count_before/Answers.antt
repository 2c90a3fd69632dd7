use Rattle.std.proofs.Common.{ltb, ltb-true, ltb-false, arith, rules}
use Rattle.std.proofs.lemmas.List.Sorted.{IsPartitionPoint-from_clause, IsPartitionedBy-ltb}
use Rattle.pst_sweep_table.specs.declared.uses.Use.{Use}
use Rattle.pst_sweep_table.proofs.uses.count_before.Goals as goal

pub returns : goal.returns
returns c =
    let parted = IsPartitionedBy-ltb (λ (one : Use). one.action) _ c.args.action c.requires in
    let point = IsPartitionPoint-from_clause (λ (one : Use). ltb one.action c.args.action) _ _ c.partition_point.ensures.partitioned parted (λ a r q k. search rules) in
    record {
      inside = c.partition_point.ensures.bound;
      before = λ k d h. ltb-true _ _ (point.0 k d (omega arith) h);
      behind = λ k d h l. ltb-false _ _ (point.1 k d h l);
    }

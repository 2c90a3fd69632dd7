use Rattle.std.proofs.Common.{leb, leb-true, arith, rules}
use Rattle.std.proofs.lemmas.Bool.{leb-false}
use Rattle.std.proofs.lemmas.List.Sorted.{IsPartitionPoint-from_clause, IsPartitionedBy-leb}
use Rattle.pst_addr.specs.declared.ask.Range.{Range}
use Rattle.pst_addr.proofs.placing.count_before.Goals as goal

pub returns : goal.returns
returns c =
    let parted = IsPartitionedBy-leb (λ (r : Range). r.low) _ c.args.address c.requires in
    let point = IsPartitionPoint-from_clause (λ (r : Range). leb r.low c.args.address) _ _ c.partition_point.ensures.partitioned parted (λ a r q k. search rules) in
    record {
      inside = c.partition_point.ensures.bound;
      before = λ k d h. leb-true _ _ (point.0 k d (omega arith) h);
      behind = λ k d h l. let s = leb-false _ _ (point.1 k d h l) in omega (arith, s);
    }

use Rattle.std.proofs.Common.{◌≤◌, length, subst, arith}
use Rattle.std.proofs.lemmas.Bool.{and_parts}
use Rattle.pst_legal.specs.Supplied.{is_source_for}
use Rattle.pst_pool_sources.specs.Offers.{keeps, ends_at, room_at}
use Rattle.pst_free_ends.specs.Steps.{restored}
use Rattle.pst_free_ends.proofs.Restores.{hit_length}
use Rattle.pst_free_ends.proofs.taken.put_end.Goals as goal

pub put-requires : goal.put-requires
put-requires c = λ need t.
    let r = c.in-Some.removed in
    let k = and_parts (keeps need) (is_source_for need r.flow) t in
    let sources = c.args.sources.now in
    let l = subst (λ o. length (restored o need r.pool (ends_at need r.pool sources)) ≤ room_at need r.pool sources) c.in-Some.is (c.requires need r.pool k.0) in
    let m = hit_length r need (ends_at need r.pool sources) t in
    omega arith

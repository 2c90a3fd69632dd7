use Rattle.pst_sources.specs.Shown.{sources_of}
use Rattle.pst_model_members.proofs.Locking.{claim_is}
use Rattle.pst_model_members.proofs.needs.claim.Goals as goal

pub returns : goal.returns
returns c =
    claim_is (sources_of c.args.numbered.now) c.args.declaration.now c.in_ok-object.object c.is_locked-lock.result c.args.locked.now
    c.in_ok-object.ensures c.requires c.is_locked-lock.ensures

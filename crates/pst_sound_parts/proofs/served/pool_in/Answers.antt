use Rattle.std.proofs.Common.{sym}
use Rattle.pst_model.specs.declared.model.Serve.{Serve}
use Rattle.pst_sound_parts.proofs.Searches.{pool_found, pool_absent}
use Rattle.pst_sound_parts.proofs.served.pool_in.Goals as goal

abbrev no_entry : Serve
no_entry = record { action = 0; instance = 0; reference = 0; pool = 0 }

pub returns-in-Ok : goal.returns-in-Ok
returns-in-Ok c = sym (pool_found c.args.action c.args.instance c.args.reference c.args.served.now c.in-Ok.place no_entry c.requires c.in-Ok.ensures.found.0 (c.in-Ok.ensures.found.1 no_entry))

pub returns-in-Err : goal.returns-in-Err
returns-in-Err c = sym (pool_absent c.args.action c.args.instance c.args.reference c.args.served.now c.in-Err.ensures.absent)

use Rattle.pst_files_read.proofs.Opened.{opened, missing}
use Rattle.pst_files_read.proofs.files.read_file.Goals as goal

pub read_open-requires : goal.read_open-requires
read_open-requires g c = record { «open» = opened _ _ c.args.name.now _ c.in-Ok-true.field-0 c.in-Ok-true.ensures.same_files c.in-Ok-true.ensures.answer c.in-Ok-true.field-0-test c.in-Ok-true.ensures.opened }

pub returns-in-Ok-false-clause-finds : goal.returns-in-Ok-false-clause-finds
returns-in-Ok-false-clause-finds g c = (c.in-Ok-false.ensures.count, missing _ c.args.name.now c.in-Ok-false.field-0 c.in-Ok-false.ensures.answer c.in-Ok-false.field-0-test)

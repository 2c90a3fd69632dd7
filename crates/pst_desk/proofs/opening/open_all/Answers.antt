use Rattle.pst_desk.specs.Turning.{NoGroup}
use Rattle.pst_desk.proofs.opening.open_all.Goals as goal

pub returns-then-stopped-clause-opens : goal.returns-then-stopped-clause-opens
returns-then-stopped-clause-opens c = NoGroup

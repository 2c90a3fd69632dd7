use Rattle.std.proofs.Common.{◌<◌, ℕ, subst}
use Rattle.pst_scen.specs.Trace.{Started}
use Rattle.pst_book.specs.Tables.{RunView}
use Rattle.pst_book.proofs.run.Run.first.Goals as goal

pub returns-clause-started : goal.returns-clause-started
returns-clause-started c =
    subst (λ (v : RunView). (a : ℕ) → a < c.self.inside.first → Started v.trace a) c.self.view_is c.self.invariant.first_is

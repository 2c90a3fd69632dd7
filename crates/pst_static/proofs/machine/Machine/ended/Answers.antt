use Rattle.std.proofs.Common.{◌∙◌, ◌↔◌, ℕ, List, length, ap, subst}
use Rattle.std.specs.Prelude.{IsTrue}
use Rattle.pst_programs.specs.Machine.{HasEnded}
use Rattle.pst_static.specs.Views.{View}
use Rattle.pst_static.specs.Standing.{AreAtEnd}
use Rattle.pst_static.proofs.Tied.{many}
use Rattle.pst_static.proofs.machine.Machine.ended.Goals as goal

pub all_ended-requires : goal.all_ended-requires
all_ended-requires c =
    let m = c.self.inside in
    ap (λ (v : List ℕ). length v) c.deref.ensures.value ∙ many m.plan.now m.programs.now m.run c.self.invariant

pub returns : goal.returns
returns c =
    let m = c.self.inside in
    subst (λ (v : View). IsTrue c.all_ended.result ↔ HasEnded v.programs v.state) c.self.view_is
    (subst (λ (v : List ℕ). IsTrue c.all_ended.result ↔ AreAtEnd m.programs.now v) c.deref.ensures.value c.all_ended.ensures)

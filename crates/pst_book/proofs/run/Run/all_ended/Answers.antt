use Rattle.std.proofs.Common.{◌<◌, ℕ, length, subst, ⊎_elim}
use Rattle.std.specs.Prelude.{IsTrue, nat_eq, ◌↔◌}
use Rattle.std.proofs.lemmas.Bool.{eqb-true, eq-eqb}
use Rattle.pst_scen.specs.Trace.{Ended}
use Rattle.pst_book.specs.Tables.{RunView}
use Rattle.pst_book.proofs.Events.{ended_or}
use Rattle.pst_book.proofs.Numbers.{none_has, is_none}
use Rattle.pst_book.proofs.run.Run.all_ended.Goals as goal

pub returns : goal.returns
returns c =
    let r = c.self.inside in
    let left = c.self.invariant.left_is in
    subst (λ (v : RunView). IsTrue (nat_eq r.left 0) ↔ ((a : ℕ) → a < length v.plan.groups → Ended v.trace a)) c.self.view_is (
      λ t a l. ⊎_elim (λ e. e) (λ n. absurd (none_has left (eqb-true r.left 0 t) a (l, n))) (ended_or r.trace.items a),
      λ h. eq-eqb r.left 0 (is_none left (λ a q. q.1 (h a q.0))),
    )

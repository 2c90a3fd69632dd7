use Rattle.std.proofs.Common.{◌≡◌, ◌++◌, map, drop, length}
use Rattle.pst_scen.specs.declared.act.Act.{Act}
use Rattle.pst_link_order.specs.Written.{AreWritten}
use Rattle.pst_link_order.proofs.written.written_acts.Given as goal

abbrev pub invariant-loop-act : goal.invariant-loop-act
invariant-loop-act l =
    (l.number ≡ l.act-index) × (length l.acts.items ≡ l.act-index) × (map (λ (act : Act). act.node) l.acts.items ++ map (λ (act : Act). act.node) (drop l.act-index l.actions) ≡ map (λ (act : Act). act.node) l.actions)
    × AreWritten l.scenario l.acts.items

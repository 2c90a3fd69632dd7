use Rattle.std.proofs.Common.{◌+◌, ◌++◌, map, drop, length, sym, ap, ◌∙◌, subst}
use Rattle.std.proofs.lemmas.List.{length_push}
use Rattle.pst_scen.specs.declared.act.Act.{Act}
use Rattle.pst_link_order.specs.Written.{IsWrittenAct, AreWritten}
use Rattle.pst_link_order.proofs.Built.{leaves_on, written_on}
use Rattle.pst_link_order.proofs.written.written_acts.Goals as goal

pub loop-act-preserved : goal.loop-act-preserved
loop-act-preserved c =
    let s = c.args.scenario.now in
    let i = c.loop-act.invariant in
    let items = c.in_ok-push.ensures.items in
    let old = c.loop-act.acts.items in
    let x = c.in_ok-written.written in
    let acts = c.as_slice-actions.result.now in (
      ap (λ n. n + 1) i.0,
      ap length items ∙ length_push old x ∙ ap (λ n. n + 1) i.1,
      ap (λ xs. map (λ (act : Act). act.node) xs ++ map (λ (act : Act). act.node) (drop (c.loop-act.act-index + 1) acts)) items
          ∙ leaves_on old acts c.loop-act.act-index x c.act-item.result c.act-item.is c.loop-act-test.true c.in_ok-written.ensures.node i.2,
      subst (AreWritten s) (sym items) (written_on s old x i.3 (subst (λ k. IsWrittenAct s k x) (i.0 ∙ sym i.1) c.in_ok-written.ensures.written)),
    )

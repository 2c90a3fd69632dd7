use Rattle.std.proofs.Common.{sym, ap, ◌∙◌, subst}
use Rattle.std.specs.List.{count_by}
use Rattle.std.specs.Option.{is_none}
use Rattle.pst_scen.specs.declared.act.Act.{Act}
use Rattle.pst_link_order.specs.Written.{AreActsOf}
use Rattle.pst_link_order.proofs.Built.{is_written}
use Rattle.pst_link_order.proofs.written.written_of.Goals as goal

pub returns : goal.returns
returns c =
    let s = c.args.scenario.now in
    is_written s (record { level = c.in_ok-level.level; nodes = c.from_vec.result; actions = c.from_vec-2.result; firsts = c.empty.result }) c.requires.laid
    (c.from_vec.ensures ∙ c.in_ok-nodes.ensures ∙ c.as_slice-2.ensures) (subst (AreActsOf s) (sym c.from_vec-2.ensures) c.in_ok-acts.ensures)
    (c.in_ok-level.ensures ∙ ap (count_by (λ (act : Act). is_none act.node)) c.as_slice.ensures)

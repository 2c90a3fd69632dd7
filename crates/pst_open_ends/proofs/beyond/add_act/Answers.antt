use Rattle.std.proofs.Common.{◌++◌, sym, ap, ◌∙◌, map}
use Rattle.std.specs.List.{enumerate_from, filter}
use Rattle.std.proofs.lemmas.Result.{on_ok_weaker}
use Rattle.pst_legal.specs.SupplyReading.{New, fits}
use Rattle.pst_open_ends.specs.Beyond.{wanted, given_at}
use Rattle.pst_open_ends.proofs.beyond.add_act.Goals as goal

pub returns : goal.returns
returns c =
    on_ok_weaker c.add_each.result (λ h need p. h need p ∙ ap (λ l. given_at need p c.args.pools.now.items ++ map (λ e. New c.args.action c.args.instance e.0) (filter (λ e. fits (wanted need p) e.1) (enumerate_from 0 l))) (sym (c.references_of-references.ensures c.args.instance)))
    c.add_each.ensures

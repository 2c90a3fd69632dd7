use Rattle.std.proofs.Common.{◌≡◌, ◌+◌, true, arith, sym, ◌∙◌}
use Rattle.std.proofs.lemmas.Grind.{common_steps}
use Rattle.std.proofs.lemmas.Result.{on_ok_weaker}
use Rattle.pst_steady.proofs.Running.{one_more, kept}
use Rattle.pst_steady.proofs.runs.note_run.Goals as goal

pub returns : goal.returns
returns c =
    let once : c.is_once_by.result ≡ true = grind (arith, common_steps) in
    on_ok_weaker c.keep_end.result
    (λ is. kept c.args.tallies.now c.args.slots.now c.args.runs.now c.keep_end.new.runs c.args.at c.args.handle c.end_behind-end.result c.run_key.result c.run_key.ensures
    (one_more c.args.tallies.now c.args.slots.now c.args.handle c.args.at c.args.action c.end_behind-end.result c.requires.there (sym c.is_once_by.ensures ∙ once) c.end_behind-end.ensures)
    is c.requires.runs)
    c.keep_end.ensures

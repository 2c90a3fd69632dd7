use Rattle.std.proofs.Common.{◌++◌, ap, ◌∙◌}
use Rattle.std.proofs.lemmas.Result.{on_ok_weaker}
use Rattle.pst_open_ends.specs.Spots.{read_spot, given_sources}
use Rattle.pst_open_ends.proofs.Lookups.{fixed_is}
use Rattle.pst_open_ends.proofs.among.add_fixed.Goals as goal

pub returns : goal.returns
returns c =
    let need = read_spot c.args.need.now in
    on_ok_weaker c.add_at.result (λ e. e ∙ ap (λ l. given_sources c.args.found.now.items ++ l) (fixed_is c.args.acts.now need c.args.end.act c.args.end.reference)) c.add_at.ensures

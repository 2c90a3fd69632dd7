use Rattle.std.proofs.Common.{◌++◌, ap, sym, ◌∙◌}
use Rattle.std.proofs.lemmas.List.{append-nil}
use Rattle.std.proofs.lemmas.Result.{on_ok_weaker}
use Rattle.pst_scen.specs.declared.act.Link.TheVariants as link
use Rattle.pst_legal.specs.SupplyReading.{is_previous}
use Rattle.pst_open_ends.specs.Spots.{read_spot, given_sources, spot_at}
use Rattle.pst_open_ends.proofs.Lookups.{source_none, source_some}
use Rattle.pst_open_ends.proofs.among.add_at.Goals as goal

pub add_spot-requires : goal.add_spot-requires
add_spot-requires c = λ writer.
    let acts = c.args.acts.now in
    let pool = c.args.need.now.pool in
    let spot = c.in-Some.spot in
    let at = c.in-Some.ensures.end in
    c.requires writer
    ∙ ap (λ a. is_previous acts pool (link.Act a c.args.end.reference)) (sym at.0)
    ∙ ap (λ r. is_previous acts pool (link.Act spot.act r)) (sym at.1)

pub returns-in-None : goal.returns-in-None
returns-in-None c =
    let acts = c.args.acts.now in
    let need = read_spot c.args.need.now in
    let out = given_sources c.args.found.now.items in
    sym (ap (λ l. out ++ l) (source_none acts need (spot_at acts c.args.end) c.in-None.ensures.spot) ∙ append-nil out)

pub returns-in-Some : goal.returns-in-Some
returns-in-Some c =
    let acts = c.args.acts.now in
    let need = read_spot c.args.need.now in
    let out = given_sources c.args.found.now.items in
    on_ok_weaker c.add_spot.result (λ e. e ∙ ap (λ l. out ++ l) (source_some acts need (spot_at acts c.args.end) c.in-Some.spot c.in-Some.ensures.spot)) c.add_spot.ensures

use Rattle.std.proofs.Common.{◌≡◌, map, ◌∙◌}
use Rattle.pst_ast.specs.DeclarationView.{view_unit}
use Rattle.pst_bind.specs.Needs.{needs}
use Rattle.pst_bind.specs.ListedNeeds.{needs_found}
use Rattle.pst_bind.proofs.Needing.{needs_are}
use Rattle.pst_bind.proofs.Pooling.{judges}
use Rattle.pst_bind.proofs.sources.judged_needs.Goals as goal

pub returns : goal.returns
returns c =
    let units = map view_unit c.args.units.now in
    let table = c.args.table.now in
    let found : needs_found c.in_ok-sites.sites c.args.index.now table ≡ needs units table = (λ i. needs_found (c.in_ok-sites.ensures i) (c.requires.declared i) table) ∙ needs_are units table in
    judges units table c.args.index.now (needs_found c.in_ok-sites.sites c.args.index.now table) c.requires.declared found
    c.in_ok-explicit.explicit c.in_ok-defaults.defaults c.in_ok-explicit.ensures.rows c.in_ok-defaults.ensures c.places_are_ordered.ensures.on c.in_ok-judged.judged c.in_ok-judged.ensures.least c.in_ok-judged.ensures.served

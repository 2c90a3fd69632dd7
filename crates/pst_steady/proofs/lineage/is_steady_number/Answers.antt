use Rattle.std.proofs.Common.{◌≡◌, map, sym, subst, ap, ◌∙◌, true≢false, Bool, true}
use Rattle.pst_ast.specs.DeclarationView.{view_unit}
use Rattle.pst_steady.proofs.Lists.{some_is, no_some}
use Rattle.pst_steady.proofs.Lined.{steady_to, steady_from, by_value, by_none}
use Rattle.pst_steady.proofs.lineage.is_steady_number.Goals as goal

pub returns-in-None : goal.returns-in-None
returns-in-None c = λ d at.
    by_none (map view_unit c.args.sites.now) c.args.lineage.now.bases.now c.args.lineage.now.values.now c.args.lineage.now.tallies.now c.requires.lined c.args.number d c.args.handle at (sym c.value_at.ensures ∙ c.in-None.is)

pub returns-in-Some : goal.returns-in-Some
returns-in-Some c = λ d at.
    by_value (map view_unit c.args.sites.now) c.args.lineage.now.bases.now c.args.lineage.now.values.now c.args.lineage.now.tallies.now c.requires.lined c.args.number d c.args.handle at c.in-Some.action (sym c.value_at.ensures ∙ c.in-Some.is) c.is_once_by.result c.is_once_by.ensures

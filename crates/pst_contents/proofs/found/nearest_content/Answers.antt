use Rattle.std.proofs.Common.{None, map, ap, ◌∙◌}
use Rattle.std.specs.Prelude.{Some}
use Rattle.pst_ast.specs.DeclarationView.{view_unit}
use Rattle.pst_marked_bases.specs.Marked.{last_of, marked_bases}
use Rattle.pst_marked_bases.specs.Shown.{Shown}
use Rattle.pst_contents.proofs.Later.{nearest_is}
use Rattle.pst_contents.proofs.found.nearest_content.Goals as goal

pub returns-in-None : goal.returns-in-None
returns-in-None c =
    nearest_is (map view_unit c.args.sites.now) c.args.action.now None
    (c.in-None.ensures ∙ ap (λ (x : Shown). last_of (marked_bases x.places x.declared c.args.action.now)) c.requires)

pub returns-in-Some : goal.returns-in-Some
returns-in-Some c =
    c.own_content.ensures
    ∙ nearest_is (map view_unit c.args.sites.now) c.args.action.now (Some c.in-Some.base)
    (c.in-Some.ensures ∙ ap (λ (x : Shown). last_of (marked_bases x.places x.declared c.args.action.now)) c.requires)

use Rattle.std.proofs.Common.{◌≡◌, arith, drop, map, sym, ap, subst, ◌∙◌, List, [], None}
use Rattle.std.proofs.lemmas.Grind.{common_steps}
use Rattle.pst_ast.specs.DeclarationView.{view_enum, view_unit}
use Rattle.pst_evaluate.specs.Kept.{known_in}
use Rattle.pst_name_rules.specs.Leasts.{IsLeastOf, least_at}
use Rattle.pst_site_lists.specs.declared.site.EnumSite.{EnumSite}
use Rattle.pst_enum_rules.specs.Breaches.{IsEnumBreach}
use Rattle.pst_enum_rules.specs.Enums.{enum_least}
use Rattle.pst_enum_rules.proofs.EnumsJudged.{enums_are_least}
use Rattle.pst_enum_rules.proofs.enums.enums_finding.Goals as goal

pub returns : goal.returns
returns c =
    let known = known_in c.args.values.now in
    let sites = c.enums-site-items.result.now in
    let ended : drop c.loop-site.site-index sites ≡ [] = grind (arith, common_steps, c.loop-site-test.false) in
    let found : c.loop-site.least ≡ least_at (λ s. enum_least known (view_enum s.node.now)) sites None =
    ap (λ (ss : List EnumSite). least_at (λ s. enum_least known (view_enum s.node.now)) ss c.loop-site.least) (sym ended) ∙ c.loop-site.invariant in
    subst (IsLeastOf (IsEnumBreach (map view_unit c.args.sites.now) c.args.names.now)) (sym found)
    (enums_are_least (map view_unit c.args.sites.now) c.args.names.now known c.requires.values c.places_are_ordered.ensures.on sites c.enums-site-items.ensures)

use Rattle.std.proofs.Common.{◌≡◌, List, map, subst, ◌∙◌}
use Rattle.std.specs.List.{flat_map}
use Rattle.pst_ast.specs.DeclarationView.{view_unit}
use Rattle.pst_ast.specs.declared.declaration.Unit.{Unit}
use Rattle.pst_ast.specs.Uses.{uses}
use Rattle.pst_type_rules.specs.Binds.{pairs}
use Rattle.pst_handle_uses.specs.Handled.{judgings_of, tied}
use Rattle.pst_handle_rules.proofs.Bound.{bound}
use Rattle.pst_handle_rules.proofs.Named.{unsteady}
use Rattle.pst_handle_rules.proofs.findings.handle_findings.Goals as goal

pub returns-clause-unsteady : goal.returns-clause-unsteady
returns-clause-unsteady c =
    let js = subst (λ (us : List Unit). c.in_ok-found.found.judgings ≡ flat_map (judgings_of c.args.index.now c.args.names.now) (uses (map view_unit us))) c.sources.ensures c.in_ok-found.ensures.judgings in
    unsteady (map view_unit c.args.sites.now) c.args.names.now c.places_are_ordered.ensures.on c.args.index.now c.requires.declared c.judgings.result.now (c.judgings.ensures ∙ js) c.in_ok-unsteady.unsteady c.in_ok-unsteady.ensures

pub returns-clause-twice : goal.returns-clause-twice
returns-clause-twice c =
    let ts = subst (λ (us : List Unit). c.in_ok-found.found.ties ≡ map (tied c.args.index.now c.args.names.now) (pairs (map view_unit us))) c.sources.ensures c.in_ok-found.ensures.ties in
    bound c.places_are_ordered.ensures.on (map view_unit c.args.sites.now) c.args.names.now c.args.index.now c.requires.declared c.ties.result.now (c.ties.ensures ∙ ts) c.in_ok-twice.twice c.in_ok-twice.ensures

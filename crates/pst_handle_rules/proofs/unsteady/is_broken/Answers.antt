use Rattle.std.proofs.Common.{◌≡◌, true, false, map, sym, arith, ◌∙◌}
use Rattle.std.proofs.lemmas.Grind.{common_steps}
use Rattle.pst_ast.specs.DeclarationView.{view_unit}
use Rattle.pst_handle_rules.proofs.Derived.{unbroken}
use Rattle.pst_handle_rules.proofs.unsteady.is_broken.Goals as goal

pub returns-then-not-is_base : goal.returns-then-not-is_base
returns-then-not-is_base c =
    let wrong : c.is_base.result ≡ false = grind (arith, common_steps) in
    let steady : c.in_ok-is_steady_in.field-0 ≡ true = grind (arith, common_steps) in
    unbroken (map view_unit c.args.sites.now) c.args.judging.now c.args.base_places.now c.requires.bases (sym c.is_base.ensures ∙ wrong) (c.in_ok-is_steady_in.ensures.0 steady)

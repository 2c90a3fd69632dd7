use Rattle.std.proofs.Common.{List, Option, sym, subst}
use Rattle.std.specs.Prelude.{map}
use Rattle.pst_ast.specs.DeclarationView.{view_unit}
use Rattle.pst_ast.specs.declared.referent.Finding.{Finding}
use Rattle.pst_evaluate.specs.Kept.{known_in}
use Rattle.pst_name_rules.specs.Leasts.{IsLeastOf}
use Rattle.pst_typed_uses.specs.Breaches.{IsUseBreach}
use Rattle.pst_typed_uses.proofs.Least.{uses_least}
use Rattle.pst_typed_uses.proofs.ConstantsListed.{are_constants}
use Rattle.pst_typed_uses.proofs.uses.uses_finding.Goals as goal

pub returns-clause-least : goal.returns-clause-least
returns-clause-least c =
    subst (λ (o : Option Finding). IsLeastOf (IsUseBreach (map view_unit c.args.facts.now.sites.now) c.args.facts.now.names.now) o) (sym c.in_ok-least.ensures.least)
    (uses_least c.places_are_ordered.ensures.on c.expressions_are_judged.ensures c.counts_are_judged.ensures c.binds_are_judged.ensures c.assignments_are_judged.ensures c.calls_are_judged.ensures
    c.plain_types_are_judged.ensures c.types_are_judged.ensures c.arms_are_judged.ensures (map view_unit c.args.facts.now.sites.now) c.args.facts.now.names.now (known_in c.args.enums.now.items) c.requires.values)

pub returns-clause-constants : goal.returns-clause-constants
returns-clause-constants c =
    are_constants c.constants_are_found.ensures (map view_unit c.args.facts.now.sites.now) c.args.facts.now.names.now (known_in c.args.enums.now.items) c.requires.values
    c.in_ok-ordered.ordered.items c.in_ok-least.constants.items c.in_ok-least.ensures.constants c.in_ok-ordered.ensures.order c.in_ok-ordered.ensures.each

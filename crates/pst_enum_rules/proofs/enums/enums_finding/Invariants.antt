use Rattle.std.proofs.Common.{◌≡◌, drop, None}
use Rattle.pst_ast.specs.DeclarationView.{view_enum}
use Rattle.pst_evaluate.specs.Kept.{known_in}
use Rattle.pst_name_rules.specs.Leasts.{least_at}
use Rattle.pst_enum_rules.specs.Enums.{enum_least}
use Rattle.pst_enum_rules.proofs.enums.enums_finding.Given as goal

abbrev pub invariant-loop-site : goal.invariant-loop-site
invariant-loop-site l =
    least_at (λ s. enum_least (known_in l.values) (view_enum s.node.now)) (drop l.site-index l.site-items) l.least
    ≡ least_at (λ s. enum_least (known_in l.values) (view_enum s.node.now)) l.site-items None

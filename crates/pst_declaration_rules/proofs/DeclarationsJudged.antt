-- The least of what is found of declarations is the least of what they break.
use Rattle.std.proofs.Common.{List, sym, subst, Option}
use Rattle.std.specs.Prelude.{Contains}
use Rattle.pst_base.specs.Laws.{BeforeGoesOn}
use Rattle.pst_ast.specs.declared.scope_declaration.Declaration.{Declaration}
use Rattle.pst_ast.specs.declared.referent.Finding.{Finding}
use Rattle.pst_evaluate.specs.Laws.{ConstantsAreFound}
use Rattle.pst_name_rules.specs.Leasts.{IsLeastOf}
use Rattle.pst_name_rules.proofs.Leasts.{told}
use Rattle.pst_declaration_rules.specs.declared.sources.TypeSources.{TypeSources}
use Rattle.pst_declaration_rules.specs.Breaches.{IsDeclarationBreach}
use Rattle.pst_declaration_rules.specs.Judged.{BreaksItself, IsJudged}
use Rattle.pst_declaration_rules.specs.Tallied.{AreKnown, units_of}
use Rattle.pst_declaration_rules.proofs.BreaksFound.{breaks_found}
use Rattle.pst_declaration_rules.proofs.OwnBreaks.{own_breaks}

pub declarations_are_least : (k : TypeSources) (known : AreKnown k) → ConstantsAreFound → BeforeGoesOn → (least : Option Finding) → IsJudged k k.index.now least → IsLeastOf (IsDeclarationBreach (units_of k) k.names.now) least
declarations_are_least k known law on least judged =
    told on (λ f. (d : Declaration) × Contains k.index.now d × BreaksItself k d f) (IsDeclarationBreach (units_of k) k.names.now) least
    (λ f has. (has.0, subst (λ (ds : List Declaration). Contains ds has.0) known.declared has.1, own_breaks k known law has.0 has.2.0 has.2.1 f has.2.2))
    (λ f breach. breaks_found k known law judged.starts breach.0 (subst (λ (ds : List Declaration). Contains ds breach.0) (sym known.declared) breach.1) breach.2)
    judged.is_least

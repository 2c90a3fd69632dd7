-- What a walk leaves in a judge.
use Rattle.std.proofs.Common.{◌≡◌, ◌++◌, ℕ, List, [], ◌∷◌, Option, sym, ap, ◌∙◌}
use Rattle.std.specs.List.{fold, flat_map}
use Rattle.std.proofs.lemmas.List.{append-nil, append_assoc}
use Rattle.pst_ast.specs.declared.scope_declaration.Declaration.{Declaration}
use Rattle.pst_ast.specs.declared.referent.Finding.{Finding}
use Rattle.pst_ast.specs.declared.referent.Meant.{Meant}
use Rattle.pst_ast.specs.NameRules.{use_finding}
use Rattle.pst_ast.specs.Scopes.{use_meant}
use Rattle.pst_ast.specs.Uses.{Use}
use Rattle.pst_name_rules.specs.Earlier.{earlier}
use Rattle.pst_names.specs.Judged.{Judged, judged}
use Rattle.pst_name_rules.specs.Leasts.{least_at}

module _ (ds : List Declaration) (names : List (List ℕ)) where
  abbrev judge : Option Finding → List Meant → Judged
  judge least meant = record { ds = ds; names = names; least = least; meant = meant }

  pub walked : (us : List Use) (least : Option Finding) (meant : List Meant) → fold judged (judge least meant) us ≡ judge (least_at (use_finding ds names) us least) (meant ++ flat_map (use_meant ds names) us)
  walked [] least meant = ap (λ (m : List Meant). judge least m) (sym (append-nil meant))
  walked (u ∷ us) least meant =
      walked us (earlier least (use_finding ds names u)) (meant ++ use_meant ds names u)
      ∙ ap (λ (m : List Meant). judge (least_at (use_finding ds names) us (earlier least (use_finding ds names u))) m) (append_assoc meant (use_meant ds names u) (flat_map (use_meant ds names) us))

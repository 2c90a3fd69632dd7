-- What a walk leaves in the uses of handles.
use Rattle.std.proofs.Common.{◌≡◌, ◌++◌, ℕ, List, [], ◌∷◌, map, sym, ap, ◌∙◌}
use Rattle.std.specs.List.{fold, flat_map}
use Rattle.std.proofs.lemmas.List.{append-nil, append_assoc, map-append}
use Rattle.pst_ast.specs.declared.scope_declaration.Declaration.{Declaration}
use Rattle.pst_ast.specs.Uses.{Use}
use Rattle.pst_type_rules.specs.Binds.{pairs_of}
use Rattle.pst_handle_uses.specs.declared.handle_use.Tied.{Tied}
use Rattle.pst_handle_uses.specs.declared.handle_use.Judging.{Judging}
use Rattle.pst_handle_uses.specs.Handled.{Handled, handled, tied, judgings_of}

module _ (ds : List Declaration) (names : List (List ℕ)) where
  abbrev so_far : List Tied → List Judging → Handled
  so_far ties judgings = record { ds = ds; names = names; ties = ties; judgings = judgings }

  pub walked : (us : List Use) (ties : List Tied) (judgings : List Judging)
      → fold handled (so_far ties judgings) us ≡ so_far (ties ++ map (tied ds names) (flat_map pairs_of us)) (judgings ++ flat_map (judgings_of ds names) us)
  walked [] ties judgings = ap (λ (ts : List Tied). so_far ts judgings) (sym (append-nil ties)) ∙ ap (λ (js : List Judging). so_far (ties ++ []) js) (sym (append-nil judgings))
  walked (u ∷ us) ties judgings =
      walked us (ties ++ map (tied ds names) (pairs_of u)) (judgings ++ judgings_of ds names u)
      ∙ ap (λ (ts : List Tied). so_far ts ((judgings ++ judgings_of ds names u) ++ flat_map (judgings_of ds names) us))
      (append_assoc ties (map (tied ds names) (pairs_of u)) (map (tied ds names) (flat_map pairs_of us))
      ∙ ap (λ (ts : List Tied). ties ++ ts) (sym (map-append (tied ds names) (pairs_of u) (flat_map pairs_of us))))
      ∙ ap (λ (js : List Judging). so_far (ties ++ map (tied ds names) (flat_map pairs_of (u ∷ us))) js) (append_assoc judgings (judgings_of ds names u) (flat_map (judgings_of ds names) us))

-- What uses that say nothing of names leave as it was.
use Rattle.std.proofs.Common.{◌≡◌, ◌++◌, ℕ, ◌≤◌, List, [], ◌∷◌, length, drop, Option, refl, sym, ap, ◌∙◌}
use Rattle.std.specs.Prelude.{Some, None}
use Rattle.std.proofs.lemmas.List.{append-nil}
use Rattle.std.proofs.Math.ListN.{drop_of_length-le}
use Rattle.pst_ast.specs.declared.referent.Finding.{Finding}
use Rattle.pst_ast.specs.declared.referent.Meant.{Meant}
use Rattle.pst_name_rules.specs.Earlier.{earlier}
use Rattle.pst_ast.specs.declared.leaf.Name.{Name}
use Rattle.pst_ast.specs.declared.referent.Referent.{Referent}
use Rattle.pst_ast.specs.Scopes.{meant, meant_each}
use Rattle.pst_names.specs.Judged.{Judged}

pub earlier_none : (a : Option Finding) → earlier a None ≡ a
earlier_none None = refl
earlier_none (Some a) = refl

pub nothing : (so_far : Judged) → so_far ≡ record so_far { least = earlier so_far.least None; meant = so_far.meant ++ [] }
nothing so_far =
    ap (λ (found : Option Finding). record so_far { least = found }) (sym (earlier_none so_far.least))
    ∙ ap (λ (meant : List Meant). record so_far { least = earlier so_far.least None; meant = meant }) (sym (append-nil so_far.meant))

-- names behind the last that stands for something
none_each : (names : List Name) → meant_each names [] ≡ []
none_each [] = refl
none_each (n ∷ ns) = refl

-- nothing but the last is left
pub last_meant : (so_far : Judged) (name : Name) (more : List Name) (before : List Referent) (last : Referent) (i : ℕ) → length before ≤ i
    → record so_far { meant = so_far.meant ++ meant name (Some last) } ≡ record so_far { meant = so_far.meant ++ meant_each (name ∷ more) (drop i before ++ last ∷ []) }
last_meant so_far name more before last i over =
    ap (λ (rest : List Meant). record so_far { meant = so_far.meant ++ record { name = name; referent = last } ∷ rest }) (sym (none_each more))
    ∙ ap (λ (left : List Referent). record so_far { meant = so_far.meant ++ meant_each (name ∷ more) (left ++ last ∷ []) }) (sym (drop_of_length-le before over))

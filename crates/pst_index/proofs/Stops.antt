-- A path is read up to its first wrong name.
use Rattle.std.proofs.Common.{◌≡◌, ℕ, List, ◌∷◌, [], ◌++◌, Bool, Option, sym, ap, ◌∙◌}
use Rattle.pst_base.specs.declared.position.Place.{Place}
use Rattle.pst_ast.specs.declared.scope_declaration.Declaration.{Declaration}
use Rattle.pst_ast.specs.declared.referent.Referent.{Referent}
use Rattle.pst_ast.specs.declared.referent.PathPart.{PathPart}
use Rattle.pst_ast.specs.declared.referent.Checked.{Checked}
use Rattle.pst_ast.specs.declared.referent.Checked.TheVariants.{Breaks}
use Rattle.pst_ast.specs.Paths.{and_then, between, behind, named_behind}

module _ (ds : List Declaration) (names : List (List ℕ)) (fits : Referent → Bool → Bool) (before : List Referent) (head : Referent) (p : PathPart) where
  pub stops : (left more : List PathPart) (q : PathPart) (found : Option Referent) (place : Place) (rule : ℕ)
      → left ≡ q ∷ more → found ≡ named_behind ds names head p.name.id → between head p q.name.place found ≡ Breaks place rule
      → Breaks place rule ≡ behind ds names fits before head p left
  stops left more q found place rule is named wrong =
      ap (λ (x : Checked Referent). and_then x (λ r. behind ds names fits (before ++ r ∷ []) r q more)) (sym wrong ∙ ap (λ (f : Option Referent). between head p q.name.place f) named)
      ∙ ap (λ (xs : List PathPart). behind ds names fits before head p xs) (sym is)

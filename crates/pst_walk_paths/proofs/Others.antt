-- Uses that are no paths change nothing.
use Rattle.std.proofs.Common.{◌≡◌, refl, sym, ap, ◌∙◌, List, [], ◌∷◌, ◌++◌}
use Rattle.std.specs.Prelude.{map}
use Rattle.std.specs.List.{fold}
use Rattle.pst_base.specs.declared.position.Place.{Place}
use Rattle.pst_base.specs.declared.table.NameId.{NameId}
use Rattle.pst_ast.specs.declared.leaf.Name.{Name}
use Rattle.pst_ast.specs.declared.shared.DotName.{DotName}
use Rattle.pst_ast.specs.SharedTree.{NamesTree}
use Rattle.pst_ast.specs.DeclarationTree.{TargetTree, MakeTarget}
use Rattle.pst_ast.specs.Declarations.{names_of}
use Rattle.pst_ast.specs.Uses.{Use, Joins, Targets, target_by, target_use}

module _ {S : Type 0} (step : S → Use → S) where
  joins_each : (labels : List NameId) → ((s : S) (name : Name) → step s (Joins labels name) ≡ s) → (s : S) (joined : List Name) → fold step s (map (Joins labels) joined) ≡ s
  joins_each labels stays s [] = refl
  joins_each labels stays s (name ∷ more) = joins_each labels stays (step s (Joins labels name)) more ∙ stays s name

  pub joins_stay : (labels : List NameId) → ((s : S) (name : Name) → step s (Joins labels name) ≡ s) → (s : S) (joined : NamesTree) → s ≡ fold step s (map (Joins labels) (names_of joined))
  joins_stay labels stays s joined = sym (joins_each labels stays s (names_of joined))

  module _ (component : Place) (pool : Name) (stays : (s : S) (instances : List Name) (action reference : Name) → step s (Targets component pool instances action reference) ≡ s) where
    target_each : (s : S) (instances : List Name) (action reference : Name) (more : List DotName) → s ≡ step s (target_by component pool instances action reference more)
    target_each s instances action reference [] = sym (stays s instances action reference)
    target_each s instances action reference (d ∷ more) = target_each s (instances ++ action ∷ []) reference d.name more

    pub target_stays : (s : S) (target : TargetTree) → s ≡ step s (target_use component pool target)
    target_stays s (MakeTarget first second rest) = target_each s [] first second.name rest

-- what a part of a state becomes, where it becomes so by each use
pub carried : {S V : Type 0} (part : S → V) (step : S → Use → S) (own : V → Use → V) → ((s : S) (u : Use) → part (step s u) ≡ own (part s) u)
    → (s : S) (us : List Use) → part (fold step s us) ≡ fold own (part s) us
carried part step own agree s [] = refl
carried part step own agree s (u ∷ us) = carried part step own agree (step s u) us ∙ ap (λ v. fold own v us) (agree s u)

-- Branches that are joined and targets of pools name no handles.
use Rattle.std.proofs.Common.{◌≡◌, refl, List, [], ◌∷◌, ◌++◌, sym, ap, ◌∙◌}
use Rattle.std.specs.Prelude.{map}
use Rattle.std.specs.List.{fold}
use Rattle.std.proofs.lemmas.List.{append-nil, append_assoc}
use Rattle.pst_base.specs.declared.position.Place.{Place}
use Rattle.pst_base.specs.declared.table.NameId.{NameId}
use Rattle.pst_ast.specs.declared.leaf.Name.{Name}
use Rattle.pst_ast.specs.declared.shared.DotName.{DotName}
use Rattle.pst_ast.specs.declared.activity.EndNode.{EndNode}
use Rattle.pst_ast.specs.declared.environment.Environment.{Environment}
use Rattle.pst_ast.specs.Uses.{Joins, Ties, target_by}
use Rattle.pst_type_rules.specs.Binds.{pairs_of}
use Rattle.pst_handle_uses.specs.declared.handle_use.Tied.{Tied}
use Rattle.pst_handle_uses.specs.declared.handle_use.Judging.{Judging}
use Rattle.pst_handle_uses.specs.Firsts.{with_first}
use Rattle.pst_handle_uses.specs.Handled.{Handled, handled, pair, tied}

pub joins_first : (names : List Name) (labels : List NameId) (joined : List Name) → fold with_first names (map (Joins labels) joined) ≡ names
joins_first names labels [] = refl
joins_first names labels (name ∷ more) = ap (λ (ns : List Name). fold with_first ns (map (Joins labels) more)) (append-nil names) ∙ joins_first names labels more

pub target_first : (names : List Name) (component : Place) (pool : Name) (instances : List Name) (action reference : Name) (more : List DotName)
    → with_first names (target_by component pool instances action reference more) ≡ names
target_first names component pool instances action reference [] = append-nil names
target_first names component pool instances action reference (d ∷ more) = target_first names component pool (instances ++ action ∷ []) reference d.name more

unchanged : (s : Handled) → record s { ties = s.ties ++ []; judgings = s.judgings ++ [] } ≡ s
unchanged s = ap (λ (ts : List Tied). record s { ties = ts; judgings = s.judgings ++ [] }) (append-nil s.ties) ∙ ap (λ (js : List Judging). record s { judgings = js }) (append-nil s.judgings)

pub joins_handled : (s : Handled) (labels : List NameId) (joined : List Name) → fold handled s (map (Joins labels) joined) ≡ s
joins_handled s labels [] = refl
joins_handled s labels (name ∷ more) = ap (λ (t : Handled). fold handled t (map (Joins labels) more)) (unchanged s) ∙ joins_handled s labels more

pub target_handled : (s : Handled) (component : Place) (pool : Name) (instances : List Name) (action reference : Name) (more : List DotName)
    → handled s (target_by component pool instances action reference more) ≡ s
target_handled s component pool instances action reference [] = unchanged s
target_handled s component pool instances action reference (d ∷ more) = target_handled s component pool (instances ++ action ∷ []) reference d.name more

-- the pairs of a bind whose first other end stands before the rest
pub several : (s : Handled) (at : Environment) (first second : EndNode) (others : List EndNode)
    → record s { ties = (s.ties ++ tied s.ds s.names (pair at first second) ∷ []) ++ map (tied s.ds s.names) (pairs_of (Ties at first others)) } ≡ handled s (Ties at first (second ∷ others))
several s at first second others =
    ap (λ (ts : List Tied). record s { ties = ts }) (append_assoc s.ties (tied s.ds s.names (pair at first second) ∷ []) (map (tied s.ds s.names) (pairs_of (Ties at first others))))
    ∙ ap (λ (js : List Judging). record s { ties = s.ties ++ map (tied s.ds s.names) (pairs_of (Ties at first (second ∷ others))); judgings = js }) (sym (append-nil s.judgings))

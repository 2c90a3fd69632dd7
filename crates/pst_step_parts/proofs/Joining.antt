-- Joined branches as flags and as bits.
use Rattle.std.proofs.Common.{◌≡◌, ℕ, ◌+◌, ◌*◌, List, [], ◌∷◌, refl, sym, ap, ◌∙◌, Bool, true, false, not, arith, map}
use Rattle.std.proofs.lemmas.Bool.{true≢false}
use Rattle.std.specs.Prelude.{Option, Some, None, if◌then◌else◌, ◌||◌}
use Rattle.std.specs.List.{filter, list_any}
use Rattle.pst_base.specs.declared.table.NameId.{NameId}
use Rattle.pst_ast.specs.declared.leaf.Name.{Name}
use Rattle.pst_ast.specs.declared.shared.NextName.{NextName}
use Rattle.pst_ast.specs.declared.shared.NamesNode.{NamesNode}
use Rattle.pst_ast.specs.SharedView.{view_names}
use Rattle.pst_ast.specs.ActivityTree.{StatementTree}
use Rattle.pst_ast.specs.Declarations.{names_of}
use Rattle.pst_ast.specs.Sorts.{same_name}
use Rattle.pst_ast.specs.Uses.{is_branch, label_of}
use Rattle.pst_elab_rules.specs.Steps.{joined_bits, branch_labels}
use Rattle.pst_walk_parts.specs.Shown.{row_of}
use Rattle.pst_step_parts.specs.Joined.{labels_of, flags_of, bits_of}

-- ---- names that aren't among some

kept : (b : Bool) (x : NameId) (found : Bool) (xs ys : List NameId) → (b || found) ≡ false → (found ≡ false → ys ≡ xs) → (if not b then x ∷ ys else ys) ≡ x ∷ xs
kept true x found xs ys e same = absurd (true≢false e)
kept false x found xs ys e same = ap (λ (l : List NameId). x ∷ l) (same e)

unjoined : (label : NameId) (names : List NameId) → list_any (same_name label) names ≡ false → filter (λ n. not (same_name label n)) names ≡ names
unjoined label [] e = refl
unjoined label (n ∷ more) e = kept (same_name label n) n (list_any (same_name label) more) more (filter (λ n. not (same_name label n)) more) e (unjoined label more)

-- ---- bits

some_is : (b : Bool) (named behind : List NameId) (more : List (Option NameId)) → (b ≡ false → behind ≡ named) → joined_bits behind more ≡ bits_of (flags_of behind more)
    → (if b then 1 + 2 * joined_bits behind more else 2 * joined_bits named more) ≡ (if b then 1 else 0) + 2 * bits_of (flags_of behind more)
some_is true named behind more same e = ap (λ (n : ℕ). 1 + 2 * n) e
some_is false named behind more same e =
    let none : 2 * bits_of (flags_of behind more) ≡ 0 + 2 * bits_of (flags_of behind more) = omega arith in
    ap (λ (l : List NameId). 2 * joined_bits l more) (sym (same refl)) ∙ ap (λ (n : ℕ). 2 * n) e ∙ none

pub joined_is : (named : List NameId) (labels : List (Option NameId)) → joined_bits named labels ≡ bits_of (flags_of named labels)
joined_is named [] = refl
joined_is named (None ∷ more) =
    let none : 2 * bits_of (flags_of named more) ≡ 0 + 2 * bits_of (flags_of named more) = omega arith in
    ap (λ (n : ℕ). 2 * n) (joined_is named more) ∙ none
joined_is named (Some label ∷ more) =
    some_is (list_any (same_name label) named) named (filter (λ n. not (same_name label n)) named) more (unjoined label named) (joined_is (filter (λ n. not (same_name label n)) named) more)

-- ---- labels

labelled : (b : Bool) (label : Option NameId) (xs ys : List (Option NameId)) → xs ≡ ys → (if b then label ∷ xs else xs) ≡ (if b then label ∷ ys else ys)
labelled true label xs ys e = ap (λ (l : List (Option NameId)). label ∷ l) e
labelled false label xs ys e = e

pub labels_are : (statements : List StatementTree) → branch_labels (row_of statements) ≡ labels_of statements
labels_are [] = refl
labels_are (s ∷ more) = labelled (is_branch s) (label_of s) (branch_labels (row_of more)) (labels_of more) (labels_are more)

-- ---- names

names_behind : (rest : List NextName) → map (λ (n : Name). n.id) (map (λ (n : NextName). n.name) rest) ≡ map (λ (n : NextName). n.name.id) rest
names_behind [] = refl
names_behind (n ∷ more) = ap (λ (l : List NameId). n.name.id ∷ l) (names_behind more)

pub names_are : (names : NamesNode) → map (λ (n : Name). n.id) (names_of (view_names names)) ≡ names.first.id ∷ map (λ (n : NextName). n.name.id) names.rest.items
names_are names = ap (λ (l : List NameId). names.first.id ∷ l) (names_behind names.rest.items)

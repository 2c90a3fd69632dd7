-- The instances of sources whose components are nested no deeper than a number: for facts that compute.
use Rattle.std.specs.Prelude.{ℕ, zero, suc, ◌+◌, List, [], ◌∷◌, ◌++◌, length, Option, Some, None}
use Rattle.std.specs.Option.{option_map, option_and_then}
use Rattle.pst_base.specs.declared.table.NameId.{NameId}
use Rattle.pst_ast.specs.declared.instance.Instance.{Instance}
use Rattle.pst_ast.specs.DeclarationTree.{UnitTree}
use Rattle.pst_ast.specs.declared.scope_declaration.Declaration.{Declaration}
use Rattle.pst_ast.specs.Declarations.{declarations}
use Rattle.pst_ast.specs.Lookups.{type_of}
use Rattle.pst_tree.specs.Instances.{root_of, instances_in, instance}

abbrev pub with_those_below : NameId → Declaration → Option ℕ → ℕ → List Instance → List Instance
with_those_below name component parent number below = instance name component parent (number + length below) ∷ below

-- declared instances of one parent, where that is how one of them is found with those below it
abbrev pub row_within : (ℕ → Declaration → NameId → Option ℕ → Option (List Instance)) → List Declaration → ℕ → ℕ → List Declaration → Option (List Instance)
row_within one ds parent number [] = Some []
row_within one ds parent number (d ∷ more) =
    option_and_then (λ first. option_map (λ rest. first ++ rest) (row_within one ds parent (number + length first) more)) (option_and_then (λ component. one number component d.name.id (Some parent)) (type_of ds d))

abbrev pub subtree_within : ℕ → List Declaration → ℕ → Declaration → NameId → Option ℕ → Option (List Instance)
subtree_within zero ds number component name parent = None
subtree_within (suc depth) ds number component name parent =
    option_map (with_those_below name component parent number) (row_within (subtree_within depth ds) ds number (number + 1) (instances_in ds component))

-- the instances, where they are nested no deeper
abbrev pub instances_within : ℕ → List UnitTree → List (List ℕ) → Option (List Instance)
instances_within depth units names = option_and_then (λ root. subtree_within depth (declarations units) 0 root root.name.id None) (root_of names (declarations units))

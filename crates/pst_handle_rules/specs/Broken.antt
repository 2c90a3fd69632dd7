-- What breaks the rules of handles.
use Rattle.std.specs.Prelude.{ℕ, ◌≡◌, List, ◌++◌, ◌∷◌, Some, IsTrue}
use Rattle.std.specs.List.{Contains}
use Rattle.pst_ast.specs.DeclarationTree.{UnitTree}
use Rattle.pst_ast.specs.declared.scope_declaration.Declaration.{Declaration}
use Rattle.pst_ast.specs.declared.referent.Finding.{Finding}
use Rattle.pst_ast.specs.declared.referent.Referent.TheVariants.{Declared}
use Rattle.pst_ast.specs.Declarations.{declarations}
use Rattle.pst_ast.specs.Lookups.{stands_for}
use Rattle.pst_ast.specs.Sorts.{is_handle}
use Rattle.pst_ast.specs.Uses.{Use, uses}
use Rattle.pst_type_rules.specs.Handles.{Mention, mentions, IsJudgedBy, IsSteadyIn}
use Rattle.pst_type_rules.specs.Binds.{Pair, pairs, BindTwice}

-- an activity binds an input twice, or the output of a stream: the later end of the later pair
pub record IsBoundTwice (units : List UnitTree) (names : List (List ℕ)) (f : Finding) : Type 0 where
  pub front : List Pair
  pub more : List Pair
  pub earlier : Pair
  pub later : Pair
  pub split : pairs units ≡ front ++ later ∷ more
  pub among : Contains front earlier
  pub twice : BindTwice (declarations units) names earlier later
  pub place : f.place ≡ later.other.handle.place
  pub rule : f.rule ≡ 20

-- a handle that is named isn't traversed exactly once by an activity that must, or is so within a `select`, `repeat`, `if` or `match`: the name
pub record IsUnsteady (units : List UnitTree) (names : List (List ℕ)) (f : Finding) : Type 0 where
  pub used : Use
  pub mention : Mention
  pub handle : Declaration
  pub action : Declaration
  pub among : Contains (uses units) used
  pub mentioned : Contains (mentions used) mention
  pub named : stands_for (declarations units) names mention.at mention.name.id ≡ Some (Declared handle)
  pub is : IsTrue (is_handle handle.sort)
  pub judged : IsJudgedBy units names mention action
  pub unsteady : IsSteadyIn units action mention.name.id → ⊥
  pub place : f.place ≡ mention.name.place
  pub rule : f.rule ≡ 18

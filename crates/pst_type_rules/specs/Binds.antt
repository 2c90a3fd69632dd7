-- The pairs of ends that the binds of activities join.
use Rattle.std.specs.Prelude.{◌≡◌, ℕ, Bool, true, false, List, [], map, Option, Some, IsTrue}
use Rattle.std.specs.List.{flat_map}
use Rattle.pst_ast.specs.declared.activity.EndNode.{EndNode}
use Rattle.pst_ast.specs.declared.declaration.ObjectWord.TheVariants as word
use Rattle.pst_ast.specs.DeclarationTree.{UnitTree}
use Rattle.pst_ast.specs.declared.scope_declaration.Declaration.{Declaration}
use Rattle.pst_ast.specs.declared.scope_declaration.Sort.{Sort}
use Rattle.pst_ast.specs.declared.scope_declaration.Sort.TheVariants as sort
use Rattle.pst_ast.specs.declared.environment.Environment.{Environment}
use Rattle.pst_ast.specs.Lookups.{type_of}
use Rattle.pst_ast.specs.Uses.{Use, Ties, uses}
use Rattle.pst_ast.specs.NameRules.{end_named}

-- a bind is pairs of its first end and one other
pub record Pair : Type 0 where
  pub at : Environment
  pub first : EndNode
  pub other : EndNode

abbrev pub pairs_of : Use → List Pair
pairs_of (Ties at first others) = map (λ other. record { at = at; first = first; other = other }) others
pairs_of _ = []

-- all of them, in the order of their text
abbrev pub pairs : List UnitTree → List Pair
pairs units = flat_map pairs_of (uses units)

-- the reference that an end names
abbrev pub reference_at : List Declaration → List (List ℕ) → Environment → EndNode → Option Declaration
reference_at ds names at end = end_named ds names at end.handle end.name.id

abbrev pub is_output : Sort → Bool
is_output (sort.Reference of output) = output
is_output _ = false

abbrev pub is_input : Sort → Bool
is_input (sort.Reference of true) = false
is_input (sort.Reference of false) = true
is_input _ = false

-- an output and an input of one object type
pub record AreEnds (ds : List Declaration) (output input : Declaration) : Type 0 where
  pub gives : IsTrue (is_output output.sort)
  pub takes : IsTrue (is_input input.sort)
  pub type : Declaration
  pub given : type_of ds output ≡ Some type
  pub taken : type_of ds input ≡ Some type

-- the same reference of the same handle
pub record IsSameEnd (a b : EndNode) : Type 0 where
  pub handle : a.handle.id ≡ b.handle.id
  pub reference : a.name.id ≡ b.name.id

abbrev pub is_stream : Sort → Bool
is_stream (sort.Object word.Stream) = true
is_stream _ = false

-- the reference is of a stream
pub record IsStreamEnd (ds : List Declaration) (names : List (List ℕ)) (at : Environment) (end : EndNode) : Type 0 where
  pub reference : Declaration
  pub type : Declaration
  pub named : reference_at ds names at end ≡ Some reference
  pub typed : type_of ds reference ≡ Some type
  pub stream : IsTrue (is_stream type.sort)

-- two pairs of one activity bind an input twice, or the output of a stream
pub data BindTwice (ds : List Declaration) (names : List (List ℕ)) (earlier later : Pair) : Type 0 where
  Input : earlier.at.owner ≡ later.at.owner → IsSameEnd earlier.other later.other → BindTwice ds names earlier later
  StreamOutput : earlier.at.owner ≡ later.at.owner → IsSameEnd earlier.first later.first → IsStreamEnd ds names later.at later.first → BindTwice ds names earlier later

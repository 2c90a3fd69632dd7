-- Paths with names behind dots, on the source of `TriedMembers` with more members in its actions:
--   action A { .. rand bit y[2]; constraint s { .. } lock nothing n; }
--   action M { .. lock A o; }
use Rattle.std.specs.Prelude.{◌≡◌, List, [], ◌∷◌, ◌++◌, true, Some, None}
use Rattle.pst_ast.specs.declared.scope_declaration.Declaration.{Declaration}
use Rattle.pst_ast.specs.declared.scope_declaration.Sort.TheVariants as sort
use Rattle.pst_ast.specs.Declarations.{member}
use Rattle.pst_ast.specs.Lookups.{Declared, Number}
use Rattle.pst_ast.specs.Paths.{Checked, Is, Breaks, PathPart, PathReferent, is_value, is_array, read_path}
use Rattle.pst_ast.specs.Uses.{Reads, NamesType, AnObject}
use Rattle.pst_ast.specs.NameRules.{use_finding}
use Rattle.pst_ast.specs.Scopes.{numbers_of}
use Rattle.pst_ast.specs.Tried.{at, name, type, indexed}
use Rattle.pst_ast.specs.TriedMembers.{names, ds as fewer, env, part, handle}

abbrev pub array : Declaration
array = member (at 22) (sort.Field true) (name 24 40)

abbrev pub constraint : Declaration
constraint = member (at 22) sort.Constraint (name 25 41)

abbrev pub unknown : Declaration
unknown = member (at 22) (sort.Claim (type 22 42)) (name 26 43)

abbrev pub mistyped : Declaration
mistyped = member (at 28) (sort.Claim (type 10 44)) (name 27 45)

abbrev pub ds : List Declaration
ds = fewer ++ array ∷ constraint ∷ unknown ∷ mistyped ∷ []

abbrev pub path : PathPart → List PathPart → Checked PathReferent
path first rest = read_path ds names env is_value first rest

-- in a `foreach`
abbrev pub loop : PathPart → List PathPart → Checked PathReferent
loop first rest = read_path ds names env is_array first rest

pub record PathsAreTried : Type 0 where
  -- behind a dot an index on what is no array, whether or not it may stand there
  pub claim_indexed : path (part 15 50) (indexed 13 51 ∷ []) ≡ Breaks (at 51) 3
  pub reference_indexed : path (part 15 50) (indexed 12 51 ∷ []) ≡ Breaks (at 51) 3
  pub constraint_indexed : path (part 15 50) (indexed 25 51 ∷ []) ≡ Breaks (at 51) 3
  pub field_indexed : path (part 15 50) (indexed 11 51 ∷ []) ≡ Breaks (at 51) 3
  pub number_indexed : path (part 15 50) (part 13 51 ∷ indexed 21 52 ∷ []) ≡ Breaks (at 52) 3
  pub nothing_indexed : path (part 15 50) (indexed 22 51 ∷ []) ≡ Breaks (at 51) 6
  -- without one, what may not stand there
  pub claim_last : path (part 15 50) (part 13 51 ∷ []) ≡ Breaks (at 51) 6
  pub constraint_last : path (part 15 50) (part 25 51 ∷ []) ≡ Breaks (at 51) 6
  -- arrays
  pub array_last : path (part 15 50) (part 24 51 ∷ []) ≡ Breaks (at 51) 3
  pub element_last : path (part 15 50) (indexed 24 51 ∷ []) ≡ Is (record { before = Declared handle ∷ []; last = Declared array })
  -- in a `foreach`
  pub claim_repeats : loop (part 15 50) (part 13 51 ∷ []) ≡ Breaks (at 51) 3
  pub reference_repeats : loop (part 15 50) (part 12 51 ∷ []) ≡ Breaks (at 51) 3
  pub constraint_repeats : loop (part 15 50) (part 25 51 ∷ []) ≡ Breaks (at 51) 3
  pub field_repeats : loop (part 15 50) (part 11 51 ∷ []) ≡ Breaks (at 51) 3
  pub number_repeats : loop (part 15 50) (part 13 51 ∷ part 21 52 ∷ []) ≡ Breaks (at 52) 3
  pub nothing_repeats : loop (part 15 50) (part 22 51 ∷ []) ≡ Breaks (at 51) 6
  pub array_repeats : loop (part 15 50) (part 24 51 ∷ []) ≡ Is (record { before = Declared handle ∷ []; last = Declared array })
  -- between two dots
  pub claim_indexed_between : path (part 15 50) (indexed 13 51 ∷ part 4 52 ∷ []) ≡ Breaks (at 51) 3
  pub constraint_indexed_between : path (part 15 50) (indexed 25 51 ∷ part 4 52 ∷ []) ≡ Breaks (at 51) 3
  pub nothing_indexed_between : path (part 15 50) (indexed 22 51 ∷ part 4 52 ∷ []) ≡ Breaks (at 51) 6
  pub constraint_between : path (part 15 50) (part 25 51 ∷ part 4 52 ∷ []) ≡ Breaks (at 51) 6
  pub array_between : path (part 15 50) (part 24 51 ∷ part 4 52 ∷ []) ≡ Breaks (at 51) 3
  pub element_between : path (part 15 50) (indexed 24 51 ∷ part 4 52 ∷ []) ≡ Breaks (at 52) 6
  pub number_between : path (part 15 50) (part 13 51 ∷ part 21 52 ∷ part 4 53 ∷ []) ≡ Breaks (at 53) 6
  -- before the first dot
  pub handle_indexed_first : path (indexed 15 50) (part 11 51 ∷ []) ≡ Breaks (at 50) 3
  -- `instance_id` behind claims whose type names stand for nothing, and for an action
  pub number_of_unknown : path (part 15 50) (part 26 51 ∷ part 21 52 ∷ []) ≡ Is (record { before = Declared handle ∷ Declared unknown ∷ []; last = Number unknown })
  pub number_of_mistyped : path (part 27 50) (part 21 51 ∷ []) ≡ Is (record { before = Declared mistyped ∷ []; last = Number mistyped })
  pub number_breaks_nothing : use_finding ds names (Reads env (part 27 50) (part 21 51 ∷ [])) ≡ None
  pub type_breaks : use_finding ds names (NamesType (Some (at 10)) AnObject (type 10 44)) ≡ Some (record { place = at 44; rule = 2 })
  pub number_of_mistyped_indexed : path (part 27 50) (indexed 21 51 ∷ []) ≡ Breaks (at 51) 3
  pub number_of_mistyped_between : path (part 27 50) (part 21 51 ∷ part 4 52 ∷ []) ≡ Breaks (at 52) 6
  pub field_of_mistyped : path (part 27 50) (part 4 51 ∷ []) ≡ Breaks (at 51) 6
  pub no_meaning : numbers_of ds (Number mistyped) ≡ None

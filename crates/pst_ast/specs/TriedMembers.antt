-- The definitions on a source with handles, locals, instances, binds and loops:
--   component c { action D { } }
--   component pss_top {
--     resource r { rand bit v; } buffer b { rand bit w; rand bit prev; } pool b p; c one; b two;
--     action A { rand bit x; input b i; lock r k; }
--     action M { A h; M m; .. }
--     action P : Q { } action Q : P { }
--     import function void call();
--   }
use Rattle.std.specs.Prelude.{◌≡◌, ℕ, List, [], ◌∷◌, false, Some, None, codes}
use Rattle.pst_ast.specs.declared.leaf.Name.{Name}
use Rattle.pst_ast.specs.declared.declaration.ObjectWord.TheVariants as word
use Rattle.pst_ast.specs.declared.scope_declaration.Declaration.{Declaration}
use Rattle.pst_ast.specs.declared.scope_declaration.Sort.{Sort}
use Rattle.pst_ast.specs.declared.scope_declaration.Sort.TheVariants as sort
use Rattle.pst_ast.specs.Declarations.{type_declared, member, local}
use Rattle.pst_ast.specs.Lookups.{Environment, OfAction, Declared, Number, ByHandle}
use Rattle.pst_ast.specs.Paths.{Checked, Is, Breaks, PathPart, PathReferent, is_value, read_path}
use Rattle.pst_ast.specs.Uses.{Assigns, Traverses, Ends, Joins, Calls, Binds, Targets}
use Rattle.pst_ast.specs.NameRules.{use_finding, DeclarationBreaks}
use Rattle.pst_ast.specs.Scopes.{numbers_of}
use Rattle.pst_ast.specs.Tried.{at, name, type}

abbrev pub names : List (List ℕ)
names =
    codes "pss_top" ∷ codes "c" ∷ codes "D" ∷ codes "r" ∷ codes "v" ∷ codes "b" ∷ codes "w" ∷ codes "p" ∷ codes "one" ∷ codes "two" ∷ codes "A" ∷ codes "x" ∷ codes "i" ∷ codes "k" ∷ codes "M" ∷ codes "h" ∷ codes "m" ∷ codes "t" ∷ codes "P" ∷ codes "Q" ∷ codes "call" ∷ codes "instance_id" ∷ codes "nothing" ∷ codes "prev" ∷ []

-- a type in pss_top, and a name in it
abbrev pub in_top : Sort → Name → Declaration
in_top what n = type_declared (Some (at 10)) what n

abbrev pub other : Declaration
other = type_declared None sort.Component (name 1 1)

abbrev pub other_action : Declaration
other_action = type_declared (Some (at 1)) (sort.Action None) (name 2 2)

abbrev pub root : Declaration
root = type_declared None sort.Component (name 0 10)

abbrev pub resource : Declaration
resource = in_top (sort.Object word.Resource) (name 3 11)

abbrev pub its_field : Declaration
its_field = member (at 11) (sort.Field false) (name 4 12)

abbrev pub buffer : Declaration
buffer = in_top (sort.Object word.Buffer) (name 5 13)

abbrev pub buffer_field : Declaration
buffer_field = member (at 13) (sort.Field false) (name 6 14)

abbrev pub reserved : Declaration
reserved = member (at 13) (sort.Field false) (name 23 15)

abbrev pub pool : Declaration
pool = member (at 10) (sort.Pool (type 5 16)) (name 7 17)

abbrev pub one : Declaration
one = member (at 10) (sort.Instance (type 1 18)) (name 8 19)

abbrev pub two : Declaration
two = member (at 10) (sort.Instance (type 5 20)) (name 9 21)

abbrev pub action : Declaration
action = in_top (sort.Action None) (name 10 22)

abbrev pub field : Declaration
field = member (at 22) (sort.Field false) (name 11 23)

abbrev pub input : Declaration
input = member (at 22) (sort.Reference (type 5 24) false) (name 12 25)

abbrev pub claim : Declaration
claim = member (at 22) (sort.Claim (type 3 26)) (name 13 27)

abbrev pub compound : Declaration
compound = in_top (sort.Action None) (name 14 28)

abbrev pub handle : Declaration
handle = member (at 28) (sort.Handle (type 10 29)) (name 15 30)

abbrev pub itself : Declaration
itself = member (at 28) (sort.Handle (type 14 31)) (name 16 32)

abbrev pub counter : Declaration
counter = local (at 28) (at 33) (name 17 34)

abbrev pub looped : Declaration
looped = in_top (sort.Action (Some (type 19 36))) (name 18 35)

abbrev pub looping : Declaration
looping = in_top (sort.Action (Some (type 18 38))) (name 19 37)

abbrev pub function : Declaration
function = in_top sort.Function (name 20 39)

abbrev pub ds : List Declaration
ds =
    other ∷ other_action ∷ root ∷ resource ∷ its_field ∷ buffer ∷ buffer_field ∷ reserved ∷ pool ∷ one ∷ two ∷ action ∷ field ∷ input ∷ claim ∷ compound ∷ handle ∷ itself ∷ counter ∷ looped ∷ looping ∷ function ∷ []

abbrev pub env : Environment
env = record { component = Some (at 10); owner = OfAction compound; inner = []; traversal = None }

-- behind the declaration of the local
abbrev pub behind_local : Environment
behind_local = record env { inner = name 17 34 ∷ [] }

-- in an inline constraint of h
abbrev pub inline : Environment
inline = record env { traversal = Some (ByHandle None (name 15 49)) }

-- behind a declaration of the handle's name inside it, as that of the index of a `foreach`
abbrev pub inline_index : Environment
inline_index = record inline { inner = name 15 34 ∷ [] }

abbrev pub part : ℕ → ℕ → PathPart
part id column = record { name = name id column; index = false }

abbrev pub path : Environment → PathPart → List PathPart → Checked PathReferent
path at_use first rest = read_path ds names at_use is_value first rest

pub record MembersAreTried : Type 0 where
  -- behind handles
  pub field_of_handle : path env (part 15 50) (part 11 51 ∷ []) ≡ Is (record { before = Declared handle ∷ []; last = Declared field })
  pub field_of_its_input : path env (part 15 50) (part 12 51 ∷ part 6 52 ∷ []) ≡ Is (record { before = Declared handle ∷ Declared input ∷ []; last = Declared buffer_field })
  pub number_of_its_claim : path env (part 15 50) (part 13 51 ∷ part 21 52 ∷ []) ≡ Is (record { before = Declared handle ∷ Declared claim ∷ []; last = Number resource })
  pub input_of_handle : path env (part 15 50) (part 12 51 ∷ []) ≡ Breaks (at 51) 6
  pub handle_of_handle : path env (part 16 50) (part 15 51 ∷ part 11 52 ∷ []) ≡ Breaks (at 51) 6
  pub behind_a_field : path env (part 15 50) (part 11 51 ∷ part 6 52 ∷ []) ≡ Breaks (at 52) 6
  pub handle_alone : path env (part 15 50) [] ≡ Breaks (at 50) 3
  pub no_instance_id_of_input : path env (part 15 50) (part 12 51 ∷ part 21 52 ∷ []) ≡ Breaks (at 52) 6
  -- an inline constraint: the traversed action first, then the containing one
  pub traversed_field : path inline (part 11 50) [] ≡ Is (record { before = []; last = Declared field })
  pub still_a_handle : path inline (part 15 50) (part 11 51 ∷ []) ≡ Is (record { before = Declared handle ∷ []; last = Declared field })
  pub index_hides_no_handle : path inline_index (part 11 61) [] ≡ Is (record { before = []; last = Declared field })
  -- a local behind its declaration, and before it
  pub its_local : path behind_local (part 17 50) [] ≡ Is (record { before = []; last = Declared counter })
  pub no_local_yet : path env (part 17 50) [] ≡ Breaks (at 50) 3
  -- statements
  pub assigns_local : use_finding ds names (Assigns behind_local (name 17 50)) ≡ None
  pub assigns_nothing : use_finding ds names (Assigns env (name 22 50)) ≡ Some (record { place = at 50; rule = 3 })
  pub traverses : use_finding ds names (Traverses env (name 15 50)) ≡ None
  pub traverses_no_handle : use_finding ds names (Traverses inline (name 11 50)) ≡ Some (record { place = at 50; rule = 3 })
  pub an_end : use_finding ds names (Ends env (name 15 50) (name 12 51)) ≡ None
  pub end_is_a_claim : use_finding ds names (Ends env (name 15 50) (name 13 51)) ≡ Some (record { place = at 51; rule = 6 })
  pub end_of_nothing : use_finding ds names (Ends env (name 22 50) (name 12 51)) ≡ Some (record { place = at 50; rule = 3 })
  pub joins : use_finding ds names (Joins (record { 0 = 17 } ∷ []) (name 17 50)) ≡ None
  pub joins_nothing : use_finding ds names (Joins (record { 0 = 17 } ∷ []) (name 11 50)) ≡ Some (record { place = at 50; rule = 3 })
  pub calls : use_finding ds names (Calls (Some (at 10)) (name 20 50)) ≡ None
  pub calls_no_function : use_finding ds names (Calls (Some (at 10)) (name 10 50)) ≡ Some (record { place = at 50; rule = 3 })
  -- pool binds: a target from its end
  pub binds : use_finding ds names (Binds (at 10) (name 7 50)) ≡ None
  pub binds_no_pool : use_finding ds names (Binds (at 10) (name 8 50)) ≡ Some (record { place = at 50; rule = 3 })
  pub a_target : use_finding ds names (Targets (at 10) (name 7 49) [] (name 10 50) (name 12 51)) ≡ None
  pub no_reference : use_finding ds names (Targets (at 10) (name 7 49) [] (name 10 50) (name 11 51)) ≡ Some (record { place = at 51; rule = 3 })
  pub no_action_there : use_finding ds names (Targets (at 10) (name 7 49) (name 8 50 ∷ []) (name 10 51) (name 12 52)) ≡ Some (record { place = at 51; rule = 3 })
  pub an_action_there : use_finding ds names (Targets (at 10) (name 7 49) (name 8 50 ∷ []) (name 2 51) (name 12 52)) ≡ Some (record { place = at 52; rule = 3 })
  pub no_instance : use_finding ds names (Targets (at 10) (name 7 49) (name 7 50 ∷ []) (name 2 51) (name 12 52)) ≡ Some (record { place = at 50; rule = 3 })
  pub instance_of_no_component : use_finding ds names (Targets (at 10) (name 7 49) (name 9 50 ∷ []) (name 2 51) (name 12 52)) ≡ Some (record { place = at 51; rule = 3 })
  -- declarations
  pub loops : DeclarationBreaks ds names looped 5
  pub is_reserved : DeclarationBreaks ds names reserved 7
  pub not_reserved : DeclarationBreaks ds names field 7 → ⊥
  -- numbers: handles and locals count, nested types apart
  pub of_local : numbers_of ds (Declared counter) ≡ Some (6, 3)
  pub of_instance : numbers_of ds (Declared one) ≡ Some (2, 2)

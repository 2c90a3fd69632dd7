-- Pools, binds and what they serve, in small sources.
use Rattle.std.specs.Prelude.{◌≡◌, ℕ, List, [], ◌∷◌, ◌++◌, map, true, Some, None, codes}
use Rattle.pst_ast.specs.declared.instance.Instance.{Instance}
use Rattle.pst_ast.specs.declared.declaration.ObjectWord.{ObjectWord}
use Rattle.pst_ast.specs.declared.declaration.ObjectWord.TheVariants as object
use Rattle.pst_ast.specs.declared.declaration.ReferenceWord.TheVariants as way
use Rattle.pst_ast.specs.declared.declaration.ClaimWord.TheVariants as claiming
use Rattle.pst_ast.specs.declared.shared.DotName.{DotName}
use Rattle.pst_ast.specs.ActivityTree.{StatementPlain, CoreDo, WithNothing}
use Rattle.pst_ast.specs.DeclarationTree.{UnitTree, ItemTree, ItemObject, ComponentPartTree, ComponentPartPool, ComponentPartPoolBind, MakeObject, MakePool, MakePoolBind, TargetsTree, TargetsAll, TargetsSeveral, TargetTree, MakeTarget, MakeNextTarget, ActionPartTree, ActionPartReference, ActionPartClaim, MakeReference, MakeClaim}
use Rattle.pst_ast.specs.declared.scope_declaration.Declaration.{Declaration}
use Rattle.pst_ast.specs.declared.scope_declaration.Sort.TheVariants as sort
use Rattle.pst_ast.specs.Declarations.{declarations, action_declared, member}
use Rattle.pst_type_rules.specs.TriedMore.{activity}
use Rattle.pst_tree.specs.Instances.{AreInstances}
use Rattle.pst_tree.specs.Tried.{on, name, mark, type, alone, two_names, members, component, unit, id, instance}
use Rattle.pst_tree.specs.InheritedTried.{an_action, base_named}
use Rattle.pst_bind.specs.declared.pool_map.PoolPlace.{PoolPlace}
use Rattle.pst_bind.specs.declared.pool_map.Served.{Served}
use Rattle.pst_bind.specs.Pools.{pool_places}
use Rattle.pst_bound_pools.specs.Serving.{candidates}
use Rattle.pst_bind.specs.Needs.{served}
use Rattle.pst_bind.specs.PoolRules.{PoolBreach}

-- ---- parts

abbrev pub an_object : ObjectWord → ℕ → ℕ → ℕ → ItemTree
an_object word id line column = ItemObject (MakeObject word mark (name id (on line column)) mark [] mark)

abbrev pub pool : ℕ → ℕ → ℕ → ℕ → ComponentPartTree
pool of id line column = ComponentPartPool (MakePool mark None (type of line 1) (name id (on line column)) mark)

abbrev pub bind : ℕ → ℕ → ℕ → TargetsTree → ComponentPartTree
bind pool line column targets = ComponentPartPoolBind (MakePoolBind mark (name pool (on line column)) targets mark)

abbrev pub dot_name : ℕ → DotName
dot_name id = record { dot = mark; name = name id mark }

-- names with dots between them
abbrev pub target : ℕ → ℕ → List ℕ → TargetTree
target first second more = MakeTarget (name first mark) (dot_name second) (map dot_name more)

abbrev pub all : TargetsTree
all = TargetsAll mark

abbrev pub output : ℕ → ℕ → ℕ → ℕ → ActionPartTree
output of id line column = ActionPartReference (MakeReference way.Output mark (type of line 1) (alone id line column) mark)

abbrev pub input : ℕ → ℕ → ℕ → ℕ → ActionPartTree
input of id line column = ActionPartReference (MakeReference way.Input mark (type of line 1) (alone id line column) mark)

abbrev pub lock : ℕ → ℕ → ℕ → ℕ → ActionPartTree
lock of id line column = ActionPartClaim (MakeClaim claiming.Lock mark (type of line 1) (alone id line column) mark)

abbrev pub serve : ℕ → ℕ → ℕ → ℕ → Served
serve action instance reference pool = record { action = action; instance = instance; reference = reference; pool = pool }

-- ---- binds of three components:
--    1  buffer b { }
--    2  resource r { }
--    3  component inner { pool b p; bind p *;
--    4    action A { output b o; }
--    5    action D : A { }
--    6    action C { lock r c; }
--       }
--    7  component mid { inner i, j; pool b q; pool r s; bind q { i.A.o, j.D.o }; bind s *; }
--    8  component pss_top { mid m; inner k; pool b t; pool r u; bind t { m.i.A.o, m.i.D.o, m.i.D.o }; bind u *; }

abbrev pub names : List (List ℕ)
names =
    codes "pss_top" ∷ codes "b" ∷ codes "r" ∷ codes "inner" ∷ codes "p" ∷ codes "A" ∷ codes "o" ∷ codes "D" ∷ codes "C" ∷ codes "c" ∷ codes "mid" ∷ codes "i" ∷ codes "j" ∷ codes "q" ∷ codes "s" ∷ codes "m" ∷ codes "k" ∷ codes "t"
    ∷ codes "u" ∷ []

abbrev pub inner : ItemTree
inner =
    component 3 3
    (pool 1 4 3 26 ∷ bind 4 3 34 all ∷ an_action 5 4 None (output 1 6 4 23 ∷ []) ∷ an_action 7 5 (Some (base_named 5 5 14)) [] ∷ an_action 8 6 None (lock 2 9 6 21 ∷ []) ∷ [])

abbrev pub mid : ItemTree
mid = component 10 7 (members (type 3 7 17) (two_names 11 23 12 26 7) ∷ pool 1 13 7 36 ∷ pool 2 14 7 46 ∷ bind 13 7 54 (TargetsSeveral mark (target 11 5 (6 ∷ [])) (MakeNextTarget mark (target 12 7 (6 ∷ [])) ∷ []) mark) ∷ bind 14 7 68 all ∷ [])

abbrev pub several : TargetsTree
several = TargetsSeveral mark (target 15 11 (5 ∷ 6 ∷ [])) (MakeNextTarget mark (target 15 11 (7 ∷ 6 ∷ [])) ∷ MakeNextTarget mark (target 15 11 (7 ∷ 6 ∷ [])) ∷ []) mark

abbrev pub top : ItemTree
top = component 0 8 (members (type 10 8 21) (alone 15 8 25) ∷ members (type 3 8 28) (alone 16 8 34) ∷ pool 1 17 8 44 ∷ pool 2 18 8 54 ∷ bind 17 8 62 several ∷ bind 18 8 99 all ∷ [])

abbrev pub three : List UnitTree
three = unit (an_object object.Buffer 1 1 8 ∷ an_object object.Resource 2 2 10 ∷ inner ∷ mid ∷ top ∷ []) ∷ []

-- pss_top, m, m.i, m.j, k
abbrev pub instances : List Instance
instances = instance 0 0 None 4 ∷ instance 15 10 (Some 0) 3 ∷ instance 11 3 (Some 1) 2 ∷ instance 12 3 (Some 1) 3 ∷ instance 16 3 (Some 0) 4 ∷ []

abbrev pub place : ℕ → ℕ → PoolPlace
place instance name = record { instance = instance; name = id name }

abbrev pub derived : Declaration
derived = action_declared (on 3 11) (Some (base_named 5 5 14)) (name 7 (on 5 10))

abbrev pub its_output : Declaration
its_output = member (on 4 10) (sort.Reference (type 1 4 1) true) (name 6 (on 4 23))

-- ---- a producer and a consumer:
--    1  buffer b_t { }
--    2  component pss_top {
--    3    pool b_t p; bind p *;          (or none)
--    4    pool b_t q; bind q *;          (or none)
--    5    action P { output b_t o; }
--    6    action C { input b_t i; }
--    7    action entry { activity { do C; } }
--       }

abbrev pub few_names : List (List ℕ)
few_names = codes "pss_top" ∷ codes "b_t" ∷ codes "P" ∷ codes "o" ∷ codes "C" ∷ codes "i" ∷ codes "entry" ∷ codes "p" ∷ codes "q" ∷ []

abbrev pub with_pools : List ComponentPartTree → List UnitTree
with_pools pools =
    unit
    (an_object object.Buffer 1 1 8
    ∷ component 0 2
    (pools
    ++ an_action 2 5 None (output 1 3 5 25 ∷ []) ∷ an_action 4 6 None (input 1 5 6 24 ∷ []) ∷ an_action 6 7 None (activity (StatementPlain (CoreDo mark (type 4 7 33) (WithNothing mark)) ∷ []) ∷ []) ∷ [])
    ∷ []) ∷ []

abbrev pub first_pool : List ComponentPartTree
first_pool = pool 1 7 3 12 ∷ bind 7 3 20 all ∷ []

abbrev pub second_pool : List ComponentPartTree
second_pool = pool 1 8 4 12 ∷ bind 8 4 20 all ∷ []

abbrev pub one : List Instance
one = instance 0 0 None 0 ∷ []

pub record PoolsAreTried : Type 0 where
  pub are : AreInstances three names instances
  pub pools : pool_places (declarations three) instances ≡ place 0 17 ∷ place 0 18 ∷ place 1 13 ∷ place 1 14 ∷ place 2 4 ∷ place 3 4 ∷ place 4 4 ∷ []
  -- the explicit bind of the nearer instance, a default bind where there is none; an explicit bind of the derived action; the default bind of the nearer instance
  pub serves : served three instances
      ≡ serve 0 2 0 2 ∷ serve 0 3 0 5 ∷ serve 0 4 0 6 ∷ serve 1 2 0 0 ∷ serve 1 3 0 2 ∷ serve 1 4 0 6 ∷ serve 2 2 0 3 ∷ serve 2 3 0 3 ∷ serve 2 4 0 1 ∷ []
  -- two binds of one pool
  pub twice : candidates three instances derived its_output 2 ≡ 0 ∷ 0 ∷ []
  -- one pool, none, and two at one level
  pub one_pool : served (with_pools first_pool) one ≡ serve 0 0 0 0 ∷ serve 1 0 0 0 ∷ []
  pub no_pool : PoolBreach (with_pools []) one (on 5 25) 22
  pub two_pools : PoolBreach (with_pools (first_pool ++ second_pool)) one (on 5 25) 23

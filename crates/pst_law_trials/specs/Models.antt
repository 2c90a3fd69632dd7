-- Six small models, and the legal scenarios of their levels 0 to 2.
use Rattle.std.specs.Prelude.{ℕ, pos, List, [], ◌∷◌, true, false, Some, None}
use Rattle.pst_expr.specs.declared.tree.BinaryOp.TheVariants.{Implies, Equal, Add}
use Rattle.pst_expr.specs.declared.tree.UnaryOp.TheVariants.{Not}
use Rattle.pst_expr.specs.Tree.{Variable, Unary}
use Rattle.pst_model.specs.declared.object.ObjectKind.TheVariants.{Buffer, Stream, State, Resource}
use Rattle.pst_model.specs.declared.activity.Join.TheVariants.{Choose}
use Rattle.pst_model.specs.ConstraintTree.{ConstraintTree, Own, Prev, IsFirst}
use Rattle.pst_model.specs.ActivityTree.{Parallel, Joined, Select, NoBranches, MoreBranches, MakeBranch}
use Rattle.pst_model.specs.ModelTree.{ModelTree}
use Rattle.pst_scen.specs.declared.tree.Fill.TheVariants as fill
use Rattle.pst_scen.specs.declared.act.Act.{Act}
use Rattle.pst_scen.specs.declared.act.Flow.TheVariants.{BufferIn, BufferOut, StreamIn, StreamOut, StateIn, StateOut}
use Rattle.pst_scen.specs.declared.act.Link.{Link}
use Rattle.pst_scen.specs.declared.act.Link.TheVariants as link
use Rattle.pst_scen.specs.declared.scenario.Scenario.{Scenario}
use Rattle.pst_trials.specs.Parts.{name, field_to, bare, input, output, claim, atomic, compound, top, pool_of, serve, traverse, traverse_by, filling, number, by, constraint, act_of, act_claims, claimed, filled, root_node, node, scenario_of}
use Rattle.pst_trials.specs.Inference.{flow_model}

-- ---- buffers: do C; do C; the producers are inferred, one for both or one for each

abbrev pub buffers : ModelTree
buffers = flow_model Buffer (compound [] (traverse 1 ∷ traverse 1 ∷ []) [])

abbrev pub consumer : ℕ → ℕ → Act
consumer node producer = act_of 1 (Some node) (filled BufferIn [] (link.Act producer 0) ∷ [])

abbrev pub producer : Act
producer = act_of 0 None (filled BufferOut [] link.Nothing ∷ [])

abbrev pub one_producer : Scenario
one_producer = scenario_of 1 (root_node 2 [] ∷ node 0 (fill.Leaf 0) ∷ node 0 (fill.Leaf 1) ∷ []) (consumer 1 2 ∷ consumer 2 2 ∷ producer ∷ []) []

abbrev pub two_producers : Scenario
two_producers = scenario_of 2 (root_node 2 [] ∷ node 0 (fill.Leaf 0) ∷ node 0 (fill.Leaf 1) ∷ []) (consumer 1 2 ∷ consumer 2 3 ∷ producer ∷ producer ∷ []) []

-- ---- streams: parallel { do P; do C; } each is the other's partner, or has one that is inferred

abbrev pub streams : ModelTree
streams = flow_model Stream (compound [] (Parallel (filling (traverse 0 ∷ traverse 1 ∷ [])) ∷ []) [])

abbrev pub partners : List Act → ℕ → Scenario
partners actions level = scenario_of level (root_node 2 [] ∷ node 0 fill.Parallel ∷ node 1 (fill.Leaf 0) ∷ node 1 (fill.Leaf 1) ∷ []) actions []

abbrev pub each_other : Scenario
each_other = partners (act_of 0 (Some 2) (filled StreamOut [] (link.Act 1 0) ∷ []) ∷ act_of 1 (Some 3) (filled StreamIn [] (link.Act 0 0) ∷ []) ∷ []) 0

abbrev pub new_partners : Scenario
new_partners = partners
    (act_of 0 (Some 2) (filled StreamOut [] (link.Act 2 0) ∷ []) ∷ act_of 1 (Some 3) (filled StreamIn [] (link.Act 3 0) ∷ [])
    ∷ act_of 1 None (filled StreamIn [] (link.Act 0 0) ∷ []) ∷ act_of 0 None (filled StreamOut [] (link.Act 1 0) ∷ []) ∷ [])
    2

-- ---- states: do R; of the first object, or of that of a writer, which follows the first object or another writer

-- initial -> x == 0; !initial -> x == prev.x + 1;
abbrev pub at_first : ConstraintTree
at_first = constraint (by Implies (Variable 0) (by Equal (Variable 1) (number 0))) (IsFirst ∷ Own 0 ∷ [])

abbrev pub one_more : ConstraintTree
one_more = constraint (by Implies (Unary Not (Variable 0)) (by Equal (Variable 1) (by Add (Variable 2) (number 1)))) (IsFirst ∷ Own 0 ∷ Prev 0 ∷ [])

-- state st_t { rand int in [0..2] x; .. } action W { output st_t o; } action R { input st_t i; }
abbrev pub states : ModelTree
states = record {
  actions = atomic (output 0 ∷ []) [] ∷ atomic (input 0 ∷ []) [] ∷ compound [] (traverse 1 ∷ []) [] ∷ [];
  objects = record { name = name 1; kind = State; fields = field_to 2 ∷ []; constraints = at_first ∷ one_more ∷ [] } ∷ [];
  instances = top;
  pools = pool_of 0 ∷ [];
  functions = [];
  served = serve 0 0 ∷ serve 1 0 ∷ [];
}

-- the reader reads that object, and these are the writers
abbrev pub reading : Link → List Act → ℕ → Scenario
reading source writers level = scenario_of level (root_node 2 [] ∷ node 0 (fill.Leaf 0) ∷ []) (act_of 1 (Some 1) (filled StateIn [] source ∷ []) ∷ writers) (record { pool = 0; values = pos 0 ∷ [] } ∷ [])

abbrev pub writer : ℕ → Link → Act
writer x previous = act_of 0 None (filled StateOut (pos x ∷ []) previous ∷ [])

abbrev pub reads_first : Scenario
reads_first = reading link.Initial [] 0

abbrev pub reads_one : Scenario
reads_one = reading (link.Act 1 0) (writer 1 link.Initial ∷ []) 1

abbrev pub reads_second : Scenario
reads_second = reading (link.Act 1 0) (writer 2 (link.Act 2 0) ∷ writer 1 link.Initial ∷ []) 2

-- ---- claims: parallel { do A; do B; } A locks one of two instances, B shares one

abbrev pub claims : ModelTree
claims = record {
  actions = atomic [] (claim true 0 ∷ []) ∷ atomic [] (claim false 0 ∷ []) ∷ compound [] (Parallel (filling (traverse 0 ∷ traverse 1 ∷ [])) ∷ []) [] ∷ [];
  objects = bare Resource ∷ [];
  instances = top;
  pools = pool_of 2 ∷ [];
  functions = [];
  served = serve 0 0 ∷ serve 1 0 ∷ [];
}

abbrev pub claiming : ℕ → ℕ → Scenario
claiming locked shared = scenario_of 0
    (root_node 2 [] ∷ node 0 fill.Parallel ∷ node 1 (fill.Leaf 0) ∷ node 1 (fill.Leaf 1) ∷ [])
    (act_claims 0 (Some 2) (claimed true locked ∷ []) ∷ act_claims 1 (Some 3) (claimed false shared ∷ []) ∷ [])
    []

-- ---- a choice: rand bit n; select { (n == 0): do A; [3]: do B; }

abbrev pub is_zero : ConstraintTree
is_zero = constraint (by Equal (Variable 0) (number 0)) (Own 0 ∷ [])

abbrev pub selects : ModelTree
selects = record {
  actions = atomic [] [] ∷ atomic [] []
      ∷ record (compound [] (Select (MoreBranches (MakeBranch (Some is_zero) 1 (traverse 0)) (MoreBranches (MakeBranch None 3 (traverse 1)) NoBranches)) ∷ []) []) { fields = field_to 1 ∷ [] } ∷ [];
  objects = [];
  instances = top;
  pools = [];
  functions = [];
  served = [];
}

-- the number, and the branch, which is of that action type
abbrev pub taken : ℕ → ℕ → Scenario
taken n branch = scenario_of 0 (root_node 2 (pos n ∷ []) ∷ node 0 (fill.Select branch) ∷ node 1 (fill.Leaf 0) ∷ []) (act_of branch (Some 2) [] ∷ []) []

-- ---- a join form and a bind: P p; C c; schedule that joins one branch { p; c; } bind p.o c.i; one of both branches is joined

abbrev pub joins : ModelTree
joins = flow_model Buffer
    (compound (0 ∷ 1 ∷ []) (Joined false (Choose 1) (filling (traverse_by 0 0 ∷ traverse_by 1 1 ∷ [])) ∷ []) (record { from_handle = 0; from_reference = 0; to_handle = 1; to_reference = 0 } ∷ []))

abbrev pub joined : ℕ → Scenario
joined branches = scenario_of 0
    (root_node 2 [] ∷ node 0 (fill.Joined false branches) ∷ node 1 (fill.Leaf 0) ∷ node 1 (fill.Leaf 1) ∷ [])
    (act_of 0 (Some 2) (filled BufferOut [] link.Nothing ∷ []) ∷ act_of 1 (Some 3) (filled BufferIn [] (link.Act 0 0) ∷ []) ∷ [])
    []

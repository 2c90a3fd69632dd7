-- A state with a first object, whose writer is inferred; and two writers, of which a reader wants the first one's object.
use Rattle.std.specs.Prelude.{◌≡◌, ℕ, ℤ, pos, List, [], ◌∷◌, Option, Some, None}
use Rattle.pst_expr.specs.declared.tree.BinaryOp.TheVariants.{Implies, Equal, Add}
use Rattle.pst_expr.specs.declared.tree.UnaryOp.TheVariants.{Not}
use Rattle.pst_expr.specs.Tree.{Variable, Unary}
use Rattle.pst_model.specs.declared.object.ObjectKind.TheVariants.{State}
use Rattle.pst_model.specs.ConstraintTree.{ConstraintTree, Own, Object, Prev, IsFirst}
use Rattle.pst_model.specs.ActivityTree.{StepTree}
use Rattle.pst_model.specs.ModelTree.{ModelTree, ObjectTree}
use Rattle.pst_scen.specs.declared.tree.Fill.TheVariants as fill
use Rattle.pst_scen.specs.declared.act.Act.{Act}
use Rattle.pst_scen.specs.declared.act.Filled.{Filled}
use Rattle.pst_scen.specs.declared.act.Flow.TheVariants.{StateIn, StateOut}
use Rattle.pst_scen.specs.declared.act.Link.{Link}
use Rattle.pst_scen.specs.declared.act.Link.TheVariants as link
use Rattle.pst_scen.specs.declared.scenario.Scenario.{Scenario}
use Rattle.pst_scen.specs.declared.event.Event.{Event}
use Rattle.pst_scen.specs.declared.event.Event.TheVariants.{End}
use Rattle.pst_legal.specs.Standing.{Known, Lacking}
use Rattle.pst_legal.specs.Slots.{act_slot, output_slot, first_object_slot}
use Rattle.pst_legal.specs.Constraints.{HasConstraint, value_at}
use Rattle.pst_scen.specs.Order.{Must}
use Rattle.pst_scen.specs.Conflicts.{Conflict}
use Rattle.pst_scen.specs.Trace.{MayCome, Starts, IsLegalTrace, IsWhole, last_writer}
use Rattle.pst_scen.specs.Plans.{CanRun}
use Rattle.pst_legal.specs.Supplied.{Supplied, ComesFromFirst}
use Rattle.pst_legal.specs.Legal.{Legal}
use Rattle.pst_legal.specs.ValueReading.{Whole, read}
use Rattle.pst_trials.specs.Parts.{name, field_to, atomic, compound, top, pool_of, serve, traverse, input, output, number, by, constraint, act_of, filled, root_node, node, scenario_of, start, places}

-- initial -> x == 0
abbrev pub at_first : ConstraintTree
at_first = constraint (by Implies (Variable 0) (by Equal (Variable 1) (number 0))) (IsFirst ∷ Own 0 ∷ [])

-- !initial -> x == prev.x + 1
abbrev pub one_more : ConstraintTree
one_more = constraint (by Implies (Unary Not (Variable 0)) (by Equal (Variable 1) (by Add (Variable 2) (number 1)))) (IsFirst ∷ Own 0 ∷ Prev 0 ∷ [])

-- i.x == 1
abbrev pub is_one : ConstraintTree
is_one = constraint (by Equal (Variable 0) (number 1)) (Object 0 0 ∷ [])

-- state st_t { rand bit[2] x; .. }
abbrev pub state : ObjectTree
state = record { name = name 1; kind = State; fields = field_to 3 ∷ []; constraints = at_first ∷ one_more ∷ [] }

-- component pss_top { pool st_t s; bind s *; action W { output st_t o; } action R { input st_t i; constraint i.x == 1; } .. }
abbrev pub model : List StepTree → ModelTree
model steps = record {
  actions = atomic (output 0 ∷ []) [] ∷ record (atomic (input 0 ∷ []) []) { constraints = is_one ∷ [] } ∷ compound [] steps [] ∷ [];
  objects = state ∷ [];
  instances = top;
  pools = pool_of 0 ∷ [];
  functions = [];
  served = serve 0 0 ∷ serve 1 0 ∷ [];
}

-- the object that the writer writes
abbrev pub written : ℤ → Filled
written x = filled StateOut (x ∷ []) link.Initial

abbrev pub reader : Act
reader = act_of 1 (Some 1) (filled StateIn [] (link.Act 1 0) ∷ [])

-- do R; with the first object's and the written object's values
abbrev pub scenario : ℤ → ℤ → Scenario
scenario first x = scenario_of 1
    (root_node 2 [] ∷ node 0 (fill.Leaf 0) ∷ [])
    (reader ∷ act_of 0 None (written x ∷ []) ∷ [])
    (record { pool = 0; values = first ∷ [] } ∷ [])

abbrev pub one : ModelTree
one = model (traverse 1 ∷ [])

abbrev pub filling : Scenario
filling = scenario (pos 0) (pos 1)

-- The words of seed 1 at places 2, 4 and 5 leave 0 at 2, 4 and 4 options, so each digit there is its option's number.
abbrev pub choices : List ℕ
choices = 0 ∷ 0 ∷ 1 ∷ 0 ∷ 0 ∷ 1 ∷ []

-- the value of a constraint of the written object, of the first object, and of the reader
abbrev pub of_written : ConstraintTree → ℤ → ℤ → Option ℤ
of_written k first x = value_at k (output_slot one (scenario first x) 1 0 (written x))

abbrev pub of_first : ConstraintTree → ℤ → ℤ → Option ℤ
of_first k first x = value_at k (first_object_slot one (scenario first x) 0)

abbrev pub of_reader : ConstraintTree → ℤ → ℤ → Option ℤ
of_reader k first x = value_at k (act_slot one (scenario first x) 0 reader)

abbrev pub writer_first : List Event
writer_first = start 1 0 ∷ End 1 ∷ start 0 0 ∷ End 0 ∷ []

-- do W; do W; do R; where the reader reads what the first writer wrote
abbrev pub replaced : Scenario
replaced = scenario_of 0
    (root_node 2 [] ∷ node 0 (fill.Leaf 0) ∷ node 0 (fill.Leaf 1) ∷ node 0 (fill.Leaf 2) ∷ [])
    (act_of 0 (Some 1) (filled StateOut (pos 1 ∷ []) link.Initial ∷ []) ∷ act_of 0 (Some 2) (filled StateOut (pos 2 ∷ []) (link.Act 0 0) ∷ [])
    ∷ act_of 1 (Some 3) (filled StateIn [] (link.Act 0 0) ∷ []) ∷ [])
    (record { pool = 0; values = pos 0 ∷ [] } ∷ [])

-- do W; do W;
abbrev pub two : ModelTree
two = model (traverse 0 ∷ traverse 0 ∷ [])

-- two writers with these previous ones; the first object has 0, and the writers write 1 and 2
abbrev pub writers : Link → Link → Scenario
writers first second = scenario_of 0
    (root_node 2 [] ∷ node 0 (fill.Leaf 0) ∷ node 0 (fill.Leaf 1) ∷ [])
    (act_of 0 (Some 1) (filled StateOut (pos 1 ∷ []) first ∷ []) ∷ act_of 0 (Some 2) (filled StateOut (pos 2 ∷ []) second ∷ []) ∷ [])
    (record { pool = 0; values = pos 0 ∷ [] } ∷ [])

pub record StatesAreTried : Type 0 where
  -- a reader may read the first object or a new writer's; then the writer's previous one, and two values
  pub reads : read one 2 1 1 choices ≡ Whole filling
  pub options : places one 2 1 1 choices ≡ Some 1 ∷ Some 1 ∷ Some 2 ∷ Some 1 ∷ Some 4 ∷ Some 4 ∷ []
  -- which constraints there are, and where
  pub written_has : HasConstraint one filling one_more (output_slot one filling 1 0 (written (pos 1)))
  pub first_has : HasConstraint one filling at_first (first_object_slot one filling 0)
  pub reader_has : HasConstraint one filling is_one (act_slot one filling 0 reader)
  pub written_isn't_first : output_slot one filling 1 0 (written (pos 1)) IsFirst ≡ Known (pos 0)
  pub written_follows : output_slot one filling 1 0 (written (pos 1)) (Prev 0) ≡ Known (pos 0)
  pub written_value : output_slot one filling 1 0 (written (pos 1)) (Own 0) ≡ Known (pos 1)
  pub first_is_first : first_object_slot one filling 0 IsFirst ≡ Known (pos 1)
  pub first_follows_nothing : first_object_slot one filling 0 (Prev 0) ≡ Lacking
  pub read_value : act_slot one filling 0 reader (Object 0 0) ≡ Known (pos 1)
  -- and their values
  pub written_by_one : of_written one_more (pos 0) (pos 1) ≡ Some (pos 1)
  pub written_by_two : of_written one_more (pos 0) (pos 2) ≡ Some (pos 0)
  pub written_as_first : of_written at_first (pos 0) (pos 1) ≡ Some (pos 1)
  pub first_at_zero : of_first at_first (pos 0) (pos 1) ≡ Some (pos 1)
  pub first_at_one : of_first at_first (pos 1) (pos 2) ≡ Some (pos 0)
  pub first_has_no_step : of_first one_more (pos 0) (pos 1) ≡ Some (pos 1)
  pub read_one : of_reader is_one (pos 0) (pos 1) ≡ Some (pos 1)
  pub read_two : of_reader is_one (pos 0) (pos 2) ≡ Some (pos 0)
  -- the writer first
  pub order : Must filling 1 0
  pub conflict : Conflict filling 0 1
  pub no_writer_yet : last_writer filling 0 (start 1 0 ∷ []) ≡ None
  pub then_the_writer : last_writer filling 0 (start 1 0 ∷ End 1 ∷ []) ≡ Some 1
  pub reader_waits : MayCome filling 2 (start 1 0 ∷ []) (Starts (0 ∷ []) (1 ∷ [])) → ⊥
  pub reader_not_first : MayCome filling 2 [] (Starts (0 ∷ []) (1 ∷ [])) → ⊥
  pub trace : IsLegalTrace filling 1 writer_first
  pub whole : IsWhole filling writer_first
  pub legal : Legal one 2 filling
  -- other values are not legal
  pub another_first : Legal one 2 (scenario (pos 1) (pos 2)) → ⊥
  -- a reader of what was replaced before it stands in a cycle, and nothing runs whole
  pub reader_before_second : Must replaced 2 1
  pub second_before_itself : Must replaced 1 1
  pub replaced_can't_run : CanRun replaced → ⊥
  -- Of two writers the first may come after the first object or after the second writer. After the first object only the
  -- first writer is left for the second; after the second writer there is the first object, and the first writer too. The
  -- words of seed 1 at places 3 to 7 leave 1 at 2 options, 0 at 2, and 0, 1 and 1 at 4.
  pub options_in_chain : places two 2 1 0 (0 ∷ 0 ∷ 0 ∷ 1 ∷ 0 ∷ 0 ∷ 0 ∷ 1 ∷ []) ≡ Some 1 ∷ Some 1 ∷ Some 1 ∷ Some 2 ∷ Some 1 ∷ Some 4 ∷ Some 4 ∷ Some 4 ∷ []
  pub reads_chain : read two 2 1 0 (0 ∷ 0 ∷ 0 ∷ 1 ∷ 0 ∷ 0 ∷ 0 ∷ 1 ∷ []) ≡ Whole (writers link.Initial (link.Act 0 0))
  pub options_back : places two 2 1 0 (0 ∷ 0 ∷ 0 ∷ 0 ∷ 1 ∷ []) ≡ Some 1 ∷ Some 1 ∷ Some 1 ∷ Some 2 ∷ Some 2 ∷ []
  -- each writer after the other reads whole, but isn't a chain from the first object
  pub reads_ring : read two 2 1 0 (0 ∷ 0 ∷ 0 ∷ 0 ∷ 1 ∷ 0 ∷ 0 ∷ 1 ∷ []) ≡ Whole (writers (link.Act 1 0) (link.Act 0 0))
  pub ring_isn't_supplied : Supplied two (writers (link.Act 1 0) (link.Act 0 0)) → ⊥
  pub chain_from_first : ComesFromFirst (writers link.Initial (link.Act 0 0)).actions 1 0

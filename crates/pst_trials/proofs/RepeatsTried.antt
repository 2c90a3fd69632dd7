-- Facts: Repetitions with the numbers of their turns, and conditional statements.
use Rattle.std.specs.Prelude.{◌≡◌, pos, [], ◌∷◌, Some, None}
use Rattle.pst_expr.specs.declared.tree.BinaryOp.TheVariants.{Sub}
use Rattle.pst_model.specs.ConstraintTree.{Index}
use Rattle.pst_model.specs.ActivityTree.{Repeat, If, NoStep}
use Rattle.pst_scen.specs.declared.tree.Fill.TheVariants as fill
use Rattle.pst_legal.specs.Standing.{Known}
use Rattle.pst_legal.specs.Slots.{inline_slot}
use Rattle.pst_legal.specs.Statements.{StandsFor}
use Rattle.pst_legal.specs.Constraints.{HasConstraint, value_at}
use Rattle.pst_scen.specs.Order.{Before}
use Rattle.pst_legal.specs.ValueReading.{Dead, Whole, read}
use Rattle.pst_trials.specs.Parts.{traverse, number, by, root_node, node, scenario_of, places}
use Rattle.std.proofs.Common.{refl}
use Rattle.rand_core.specs.Steps.{u32_at, word_bytes}
use Rattle.rand_core.specs.Pcg32Seed.{pcg32_seed}
use Rattle.pst_rng.specs.Words.{generator_at}
use Rattle.pst_expr.specs.Spans.{numbers_from}
use Rattle.pst_trials.specs.Repeats.{plain, second_turn, turn_value, traversal, body, model, three, scenario, two_turns}
use Rattle.pst_legal.specs.Constraints.{Inline}
use Rattle.pst_legal.specs.Statements.{AtTop, Below, InTurn}
use Rattle.pst_scen.specs.Tree.{AtTop as UnderTop, Below as UnderBelow}
use Rattle.std.proofs.Common.{lit<}
use Rattle.pst_trials.proofs.Traces.{no_joins}
use Rattle.pst_legal.specs.Growing.{nothing_yet, most_levels, Leaf}
use Rattle.pst_legal.specs.Pieces.{Action, IsActionWay}
use Rattle.pst_legal.specs.Fits.{Fills, FillsRoot}
use Rattle.pst_scen.specs.declared.scenario.Scenario.{Scenario}
use Rattle.pst_trials.specs.Parts.{act_with}

pub reads : read three 1 1 0 (0 ∷ 0 ∷ 2 ∷ []) ≡ Whole scenario
unfolding generator_at u32_at pcg32_seed word_bytes numbers_from
reads = refl

pub options : places three 1 1 0 (0 ∷ 0 ∷ 2 ∷ []) ≡ Some 1 ∷ Some 1 ∷ Some 16 ∷ []
unfolding generator_at u32_at pcg32_seed word_bytes numbers_from
options = refl

pub no_turn : read (model (Repeat (plain (number 0)) body)) 1 1 0 (0 ∷ []) ≡ Whole (scenario_of 0 (root_node 1 [] ∷ node 0 fill.Repeat ∷ []) [] [])
unfolding generator_at u32_at pcg32_seed word_bytes numbers_from
no_turn = refl

pub negative_count : read (model (Repeat (plain (by Sub (number 0) (number 1))) body)) 1 1 0 (0 ∷ []) ≡ Dead
unfolding generator_at u32_at pcg32_seed word_bytes numbers_from
negative_count = refl

pub turn : inline_slot three scenario 8 0 (1 ∷ []) (Index 0) ≡ Known (pos 1)
unfolding generator_at u32_at pcg32_seed word_bytes numbers_from
turn = refl

pub holds : value_at turn_value (inline_slot three scenario 8 0 (1 ∷ [])) ≡ Some (pos 1)
unfolding generator_at u32_at pcg32_seed word_bytes numbers_from
holds = refl

pub reads_two : read (model (Repeat (plain (number 2)) (traverse 0))) 1 1 0 (0 ∷ 0 ∷ 0 ∷ 13 ∷ 3 ∷ []) ≡ Whole two_turns
unfolding generator_at u32_at pcg32_seed word_bytes numbers_from
reads_two = refl

-- ---- statements in turns

pub stands : StandsFor three scenario.nodes 0 8 traversal (1 ∷ [])
stands =
    Below 8 7 0 _ (If second_turn traversal NoStep) traversal (1 ∷ [])
    (Below 7 6 0 _ body (If second_turn traversal NoStep) (1 ∷ [])
    (InTurn 6 5 1 1 _ (plain (number 3)) body []
    (AtTop 1 0 1 0 [] _ _ (Repeat (plain (number 3)) body) refl refl refl refl refl)
    (record { node = _; is = refl; in_parent = refl }) refl refl (record { node = _; is = refl; in_parent = refl }))
    refl refl refl)
    refl refl refl

pub has : HasConstraint three scenario turn_value (inline_slot three scenario 8 0 (1 ∷ []))
has = Inline 8 0 0 None (turn_value ∷ []) (1 ∷ []) turn_value stands (0, lit< tt, refl)

pub turns_in_order : Before two_turns 0 1
turns_in_order = record {
  sequence = 1;
  earlier = record {
    is_sequence = record { node = _; is = refl; in_order = tt };
    earlier = 2;
    later = 4;
    earlier_child = record { node = _; is = refl; in_parent = refl };
    later_child = record { node = _; is = refl; in_parent = refl };
    order = lit< tt;
    a_inside = record { leaf = 3; node = _; is = refl; of_act = refl; under = UnderBelow 3 2 UnderTop (record { node = _; is = refl; in_parent = refl }) };
    b_inside = record { leaf = 5; node = _; is = refl; of_act = refl; under = UnderBelow 5 4 UnderTop (record { node = _; is = refl; in_parent = refl }) };
  };
  awaited = no_joins two_turns.nodes (refl, (refl, (refl, (refl, (refl, (refl, tt)))))) 1 0;
}

-- ---- turns as fills

-- the scenario before the value is read
abbrev tree : Scenario
tree = scenario_of 0 scenario.nodes (act_with 0 (Some 8) [] ∷ []) []

way : IsActionWay three 0 (Some 0) (Leaf 0 0) []
way = record { type = _; is = refl; instance = 0; inside = (0, lit< tt, refl); content = (refl, refl) }

tree_fills : Fills three most_levels (Action 1 None) None (nothing_yet 0) tree
tree_fills = (
  _,
  _,
  record { type = _; is = refl; instance = 0; inside = (0, lit< tt, refl); content = ([], tt, refl, refl) },
  (
    _,
    (
      _,
      _,
      (3, refl, refl, refl),
      (
        _,
        (_, _, (refl, refl), (_, (_, _, (refl, refl), (_, (_, _, (pos 0, refl, refl, refl), refl), refl)), refl)),
        (
          _,
          (_, _, (refl, refl), (_, (_, _, (refl, refl), (_, (_, _, (pos 1, refl, refl, refl), (_, (_, _, way, refl), refl)), refl)), refl)),
          (_, (_, _, (refl, refl), (_, (_, _, (refl, refl), (_, (_, _, (pos 0, refl, refl, refl), refl), refl)), refl)), refl),
        ),
      ),
    ),
    refl,
  ),
)

pub fills : FillsRoot three 1 scenario
fills = record { tree = tree; fills = tree_fills; nodes = refl; leaves = (record { action = refl; instance = refl; node = refl }, tt) }

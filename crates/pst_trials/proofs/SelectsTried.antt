-- Facts: A choice among branches with guards and weights, and a choice by value.
use Rattle.std.specs.Prelude.{◌≡◌, [], ◌∷◌, Some, None}
use Rattle.pst_rng.specs.Words.{word_of}
use Rattle.pst_rng.specs.Weights.{weighted_start_of}
use Rattle.pst_model.specs.ActivityTree.{NoArms}
use Rattle.pst_legal.specs.ValueReading.{Dead, Whole, read}
use Rattle.pst_trials.specs.Parts.{places}
use Rattle.std.proofs.Common.{refl}
use Rattle.rand_core.specs.Steps.{u32_at, word_bytes}
use Rattle.rand_core.specs.Pcg32Seed.{pcg32_seed}
use Rattle.pst_rng.specs.Words.{generator_at}
use Rattle.pst_expr.specs.Spans.{numbers_from}
use Rattle.pst_trials.specs.Selects.{above_five, below_nine, branches, arms, arm_of_three, model, scenario, both, taken}
use Rattle.pst_legal.specs.Legal.{Legal}
use Rattle.pst_scen.specs.declared.event.Event.TheVariants.{End}
use Rattle.pst_scen.specs.Trace.{IsLegalTrace}
use Rattle.pst_trials.specs.Parts.{start}
use Rattle.std.proofs.Common.{Any}
use Rattle.pst_expr.specs.Spans.{IsInSpan}
use Rattle.pst_legal.specs.Pieces.{IsValueOf}
use lib.Signed.{le_z_yes}
use Rattle.pst_trials.proofs.Legality.{HoldsAt, none_inline}
use Rattle.std.proofs.Common.{inl, false, lit<, lit≤, ℕ}
use Rattle.pst_scen.specs.declared.event.Event.{Event}
use Rattle.pst_model.specs.ModelTree.{ModelTree}
use Rattle.pst_legal.specs.Growing.{nothing_yet, most_levels, Leaf}
use Rattle.pst_legal.specs.Pieces.{Action, IsActionWay}
use Rattle.pst_scen.specs.Order.{Must}
use Rattle.pst_scen.specs.Trace.{Starts, Ends}
use Rattle.pst_scen.specs.Laws.{IsPreorder}
use Rattle.pst_legal.specs.Fits.{Fills, IsActOf}
use Rattle.pst_legal.specs.Binds.{bounds_of}
use Rattle.pst_trials.proofs.Cases.{each, none_some}
use Rattle.pst_trials.proofs.Branches.{each_parallel}
use Rattle.pst_trials.proofs.Traces.{preorder_by, runs_by, starts_next, awaits, whole_by}
use Rattle.pst_trials.proofs.Legality.{in_preorder, are_linked, no_firsts, no_previous, no_chains, sources_by, bounds_by, inferred_by, holds_by, none_clashes}
use Rattle.std.proofs.Common.{List, pos}
use Rattle.pst_trials.specs.Parts.{field_to, act_of, span}
use Rattle.pst_legal.specs.Shape.{HasShape}
use Rattle.pst_trials.proofs.Legality.{shape_by}

pub word_one : word_of 1 1 ≡ 319104231195455319
unfolding generator_at u32_at pcg32_seed word_bytes numbers_from
word_one = refl

pub reads : read (model (branches None ∷ arms arm_of_three ∷ [])) 2 1 0 (0 ∷ 12 ∷ 0 ∷ 0 ∷ 0 ∷ []) ≡ Whole scenario
unfolding generator_at u32_at pcg32_seed word_bytes numbers_from
reads = refl

pub options : places (model (branches None ∷ arms arm_of_three ∷ [])) 2 1 0 (0 ∷ 12 ∷ 0 ∷ 0 ∷ 0 ∷ []) ≡ Some 1 ∷ Some 16 ∷ Some 1 ∷ Some 1 ∷ Some 1 ∷ []
unfolding generator_at u32_at pcg32_seed word_bytes numbers_from
options = refl

pub reads_with_guard : read (model (branches (Some below_nine) ∷ arms arm_of_three ∷ [])) 2 1 0 (0 ∷ 12 ∷ 0 ∷ 0 ∷ 0 ∷ []) ≡ Whole scenario
unfolding generator_at u32_at pcg32_seed word_bytes numbers_from
reads_with_guard = refl

pub dead_without_arm : read (model (branches None ∷ arms NoArms ∷ [])) 2 1 0 (0 ∷ 12 ∷ 0 ∷ 0 ∷ []) ≡ Dead
unfolding generator_at u32_at pcg32_seed word_bytes numbers_from
dead_without_arm = refl

pub two_at_seven : places (model (branches None ∷ [])) 2 1 0 (0 ∷ 0 ∷ 0 ∷ []) ≡ Some 1 ∷ Some 16 ∷ Some 2 ∷ []
unfolding generator_at u32_at pcg32_seed word_bytes numbers_from
two_at_seven = refl

pub none_at_three : read (model (branches (Some above_five) ∷ [])) 2 1 0 (0 ∷ 12 ∷ []) ≡ Dead
unfolding generator_at u32_at pcg32_seed word_bytes numbers_from
none_at_three = refl

pub word_two : word_of 1 2 ≡ 2101115697694094752
unfolding generator_at u32_at pcg32_seed word_bytes numbers_from
word_two = refl

pub weighted : weighted_start_of 1 2 (1 ∷ 20 ∷ []) ≡ 1
unfolding generator_at u32_at pcg32_seed word_bytes numbers_from
weighted = refl

pub second_first : read (model (both ∷ [])) 2 1 0 (0 ∷ 12 ∷ 0 ∷ 0 ∷ []) ≡ Whole (taken 1 1)
unfolding generator_at u32_at pcg32_seed word_bytes numbers_from
second_first = refl

pub first_second : read (model (both ∷ [])) 2 1 0 (0 ∷ 12 ∷ 1 ∷ 0 ∷ []) ≡ Whole (taken 0 0)
unfolding generator_at u32_at pcg32_seed word_bytes numbers_from
first_second = refl

pub no_third : read (model (both ∷ [])) 2 1 0 (0 ∷ 12 ∷ 2 ∷ 0 ∷ []) ≡ Dead
unfolding generator_at u32_at pcg32_seed word_bytes numbers_from
no_third = refl

pub no_choice_left : read (model (both ∷ [])) 2 1 0 (0 ∷ 12 ∷ 0 ∷ 0 ∷ 0 ∷ []) ≡ Dead
unfolding generator_at u32_at pcg32_seed word_bytes numbers_from
no_choice_left = refl

-- ---- a legal scenario

abbrev m : ModelTree
m = model (branches None ∷ arms arm_of_three ∷ [])

in_order : IsPreorder scenario.nodes
in_order = preorder_by scenario.nodes (refl, (refl, (refl, (refl, (refl, tt)))))

abbrev in_sequence : List Event
in_sequence = start 0 0 ∷ End 0 ∷ start 1 0 ∷ End 1 ∷ []

trace : IsLegalTrace scenario 1 in_sequence
trace = record {
  blocks = Ends 1 ∷ Starts (1 ∷ []) (0 ∷ []) ∷ Ends 0 ∷ Starts (0 ∷ []) (0 ∷ []) ∷ [];
  are = refl;
  legal = (
    (
      (
        (
          tt,
          starts_next scenario 1 [] 0 0 tt (lit< tt) (lit< tt) tt (awaits scenario [] 0 in_order (tt, tt)) tt tt,
        ),
        runs_by (start 0 0 ∷ []) 0 0 false (0, lit< tt, refl) (tt, tt),
      ),
      starts_next scenario 1 (start 0 0 ∷ End 0 ∷ []) 1 0 tt (lit< tt) (lit< tt) ((tt, inl (1, lit< tt, refl)), (tt, tt)) (awaits scenario (start 0 0 ∷ End 0 ∷ []) 1 in_order ((1, lit< tt, refl), tt)) tt tt,
    ),
    runs_by (start 0 0 ∷ End 0 ∷ start 1 0 ∷ []) 1 0 false (2, lit< tt, refl) (tt, (tt, (tt, tt))),
  );
}

way : IsActionWay m 1 (Some 0) (Leaf 1 0) []
way = record { type = _; is = refl; instance = 0; inside = (0, lit< tt, refl); content = (refl, refl) }

three_is_small : IsValueOf (field_to 15) (pos 3)
three_is_small = (0, span 0 15, lit< tt, refl, (le_z_yes tt, le_z_yes tt))

-- the value 3 is in the ranges of the second arm
in_second_arm : Any (IsInSpan (pos 3)) (span 3 3 ∷ [])
in_second_arm = (0, span 3 3, lit< tt, refl, (le_z_yes tt, le_z_yes tt))

fills : Fills m most_levels (Action 2 None) None (nothing_yet 0) scenario
fills = (
  _,
  _,
  record { type = _; is = refl; instance = 0; inside = (0, lit< tt, refl); content = (pos 3 ∷ [], (three_is_small, tt), refl, refl) },
  (
    _,
    (_, _, record { index = 1; branch = _; is = refl; holds = refl; looks = refl; stands = refl }, (_, (_, _, way, refl), refl)),
    (_, (_, _, (pos 3, refl, inl (1, _, (refl, in_second_arm), refl, refl)), (_, (_, _, way, refl), refl)), refl),
  ),
)

is_act : (n : ℕ) → IsActOf m (act_of 1 (Some n) [])
is_act n = record {
  type = _;
  is = refl;
  fields = tt;
  many_references = refl;
  references = λ k filled is. absurd (none_some filled is);
  many_claims = refl;
  claims = λ k claim claimed is. absurd (none_some claim is);
}

shape : HasShape m scenario
shape = shape_by m scenario (record { type = _; is = refl; activity = _; compound = refl; inside = lit< tt; many = refl }, (tt, (tt, (tt, (tt, tt)))))
    (record { type = _; is = refl; atomic = refl; inside = lit< tt; many_fields = refl; many_references = refl; references = λ k reference filled is. absurd (none_some reference is); many_claims = refl; claims = λ k claim claimed is. absurd (none_some claim is) }, (record { type = _; is = refl; atomic = refl; inside = lit< tt; many_fields = refl; many_references = refl; references = λ k reference filled is. absurd (none_some reference is); many_claims = refl; claims = λ k claim claimed is. absurd (none_some claim is) }, tt)) tt

pub legal : Legal (model (branches None ∷ arms arm_of_three ∷ [])) 2 scenario
legal = record {
  shape = shape;
  scenario = record {
    nodes = in_preorder scenario.nodes (tt, (refl, (refl, (refl, (refl, tt)))));
    leaves = record { numbers = refl; nodes = refl };
    links = are_linked scenario.actions (tt, (tt, tt));
    firsts = no_firsts 0 scenario.nodes scenario.actions tt;
  };
  fits = record {
    tree = record { tree = scenario; fills = fills; nodes = refl; leaves = (record { action = refl; instance = refl; node = refl }, (record { action = refl; instance = refl; node = refl }, tt)) };
    values = record { acts = each (λ a act. IsActOf m act) scenario.actions (is_act 2, (is_act 4, tt)); firsts = λ k first is. absurd (none_some first is) };
    within = record { few_nodes = lit≤ tt; few_acts = lit≤ tt };
  };
  supplied = record {
    sources = sources_by scenario.actions (tt, (tt, tt));
    previous = no_previous scenario.actions (tt, (tt, tt));
    chains = no_chains scenario.actions (tt, (tt, tt));
    bound = bounds_by (bounds_of m scenario.nodes) scenario.actions (tt, (tt, tt));
    inferred = inferred_by m scenario.actions (tt, (tt, tt));
    numbered = refl;
  };
  holds = holds_by m scenario (record {
    inlines = none_inline HoldsAt m scenario (tt, (tt, (((refl, (refl, tt)), (((refl, (refl, tt)), tt), tt)), tt)));
    compounds = ((refl, tt), (tt, (tt, (tt, (tt, tt)))));
    acts = (tt, (tt, tt));
    claims = (tt, (tt, tt));
    outputs = (tt, (tt, tt));
    firsts = (tt, (tt, tt));
  });
  parallel = record {
    unordered = each_parallel (λ a b. Must scenario a b → ⊥) scenario in_order tt;
    undisputed = λ a b stand. absurd (each_parallel (λ a b. ⊥) scenario in_order tt a b stand);
  };
  alone = λ a below. none_clashes scenario (tt, (tt, tt)) a;
  runs = record { lanes = 1; trace = in_sequence; legal = trace; whole = whole_by scenario in_sequence ((1, lit< tt, refl), ((3, lit< tt, refl), tt)) };
}

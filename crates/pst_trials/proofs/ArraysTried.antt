-- Facts: Values of one action: elements of an array, a divisor that is 0, and two constraints that never hold together.
use Rattle.std.specs.Prelude.{◌≡◌, ℕ, ℤ, pos, List, [], ◌∷◌, true, false, Some, None}
use Rattle.pst_model.specs.declared.action.Field.{Field}
use Rattle.pst_model.specs.ConstraintTree.{ConstraintTree}
use Rattle.pst_scen.specs.declared.tree.Node.{Node}
use Rattle.pst_scen.specs.declared.tree.Fill.TheVariants as fill
use Rattle.pst_legal.specs.Slots.{act_slot}
use Rattle.pst_legal.specs.Constraints.{Holds, is_refused_at}
use Rattle.pst_legal.specs.Legal.{Legal}
use Rattle.pst_legal.specs.First.{IsLive}
use Rattle.pst_legal.specs.ValueReading.{Whole, read}
use Rattle.pst_trials.specs.Parts.{span, field_to, places}
use Rattle.std.proofs.Common.{refl}
use Rattle.rand_core.specs.Steps.{u32_at, word_bytes}
use Rattle.rand_core.specs.Pcg32Seed.{pcg32_seed}
use Rattle.pst_rng.specs.Words.{generator_at}
use Rattle.pst_expr.specs.Spans.{numbers_from}
use Rattle.pst_trials.specs.Arrays.{model, act, scenario, at, element_field, begins, doubles_behind, doubles, array, doubled, x_is_three, y_is_zero, quotient, guarded, divided, three_and_zero, leaves, odd_and_even}
use Rattle.pst_scen.specs.declared.event.Event.TheVariants.{End}
use Rattle.pst_scen.specs.Trace.{IsLegalTrace}
use Rattle.std.specs.List.{AllZip}
use lib.Signed.{le_z, le_z_yes}
use Rattle.std.proofs.Common.{T}
use Rattle.pst_legal.specs.Pieces.{IsValueOf}
use Rattle.pst_legal.specs.First.{NoneRefused}
use Rattle.pst_legal.specs.Constraints.{OfAct}
use Rattle.pst_trials.proofs.Legality.{Property, HoldsAt, EachConstraint, each_constraint}
use Rattle.pst_trials.specs.Parts.{start}
use Rattle.std.proofs.Common.{lit<, lit≤, true≢false}
use Rattle.pst_scen.specs.declared.event.Event.{Event}
use Rattle.pst_scen.specs.Order.{Must}
use Rattle.pst_scen.specs.Trace.{Starts, Ends}
use Rattle.pst_scen.specs.Laws.{IsPreorder}
use Rattle.pst_legal.specs.Fits.{IsActOf}
use Rattle.pst_legal.specs.Binds.{bounds_of}
use Rattle.pst_trials.proofs.Cases.{each, EachOf, none_some, false_true}
use Rattle.pst_trials.proofs.Branches.{each_parallel}
use Rattle.pst_trials.proofs.Traces.{preorder_by, runs_by, starts_next, awaits, whole_by}
use Rattle.pst_trials.proofs.Legality.{in_preorder, are_linked, no_firsts, no_previous, no_chains, sources_by, bounds_by, inferred_by, none_inline, holds_by, none_clashes}
use Rattle.pst_trials.proofs.Legality.{shape_by}
use Rattle.std.proofs.Common.{ap, suc, length}

pub reads_elements : read array 0 1 0 (0 ∷ 10 ∷ 2 ∷ 1 ∷ []) ≡ Whole (scenario doubled)
unfolding generator_at u32_at pcg32_seed word_bytes numbers_from
reads_elements = refl

pub element_options : places array 0 1 0 (0 ∷ 10 ∷ 2 ∷ 1 ∷ []) ≡ Some 1 ∷ Some 16 ∷ Some 16 ∷ Some 16 ∷ []
unfolding generator_at u32_at pcg32_seed word_bytes numbers_from
element_options = refl

pub begins_at_one : at array begins doubled ≡ Some (pos 1)
unfolding generator_at u32_at pcg32_seed word_bytes numbers_from
begins_at_one = refl

pub first_has_none_before : at array (doubles_behind 0) doubled ≡ Some (pos 1)
unfolding generator_at u32_at pcg32_seed word_bytes numbers_from
first_has_none_before = refl

pub second_doubles : at array (doubles_behind 1) doubled ≡ Some (pos 1)
unfolding generator_at u32_at pcg32_seed word_bytes numbers_from
second_doubles = refl

pub third_doubles : at array (doubles_behind 2) doubled ≡ Some (pos 1)
unfolding generator_at u32_at pcg32_seed word_bytes numbers_from
third_doubles = refl

pub third_is_more : at array (doubles_behind 2) (pos 1 ∷ pos 2 ∷ pos 3 ∷ []) ≡ Some (pos 0)
unfolding generator_at u32_at pcg32_seed word_bytes numbers_from
third_is_more = refl

pub begins_elsewhere : at array begins (pos 2 ∷ pos 4 ∷ pos 8 ∷ []) ≡ Some (pos 0)
unfolding generator_at u32_at pcg32_seed word_bytes numbers_from
begins_elsewhere = refl

pub none_before_first : at array (doubles 0) doubled ≡ None
unfolding generator_at u32_at pcg32_seed word_bytes numbers_from
none_before_first = refl

pub no_quotient : at (divided quotient) quotient three_and_zero ≡ None
unfolding generator_at u32_at pcg32_seed word_bytes numbers_from
no_quotient = refl

pub quotient_refused : is_refused_at quotient (act_slot (divided quotient) (scenario three_and_zero) 0 (act three_and_zero)) ≡ true
unfolding generator_at u32_at pcg32_seed word_bytes numbers_from
quotient_refused = refl

pub guarded_value : at (divided guarded) guarded three_and_zero ≡ Some (pos 1)
unfolding generator_at u32_at pcg32_seed word_bytes numbers_from
guarded_value = refl

pub guarded_reads : read (divided guarded) 0 1 0 (0 ∷ 12 ∷ 0 ∷ []) ≡ Whole (scenario three_and_zero)
unfolding generator_at u32_at pcg32_seed word_bytes numbers_from
guarded_reads = refl

-- ---- scenarios of one action

abbrev nodes : List Node
nodes = record { parent = None; fill = fill.Leaf 0 } ∷ []

in_order : IsPreorder nodes
in_order = preorder_by nodes (refl, tt)

abbrev alone : List Event
alone = start 0 0 ∷ End 0 ∷ []

trace : (values : List ℤ) → IsLegalTrace (scenario values) 1 alone
trace values = record {
  blocks = Ends 0 ∷ Starts (0 ∷ []) (0 ∷ []) ∷ [];
  are = refl;
  legal = (
    (
      tt,
      starts_next (scenario values) 1 [] 0 0 tt (lit< tt) (lit< tt) tt (awaits (scenario values) [] 0 in_order tt) tt tt,
    ),
    runs_by (start 0 0 ∷ []) 0 0 false (0, lit< tt, refl) (tt, tt),
  );
}

many_of : (fields : List Field) (values : List ℤ) → AllZip IsValueOf fields values → length values ≡ length fields
many_of [] [] are = refl
many_of [] (v ∷ values) are = absurd are
many_of (field ∷ fields) [] are = absurd are
many_of (field ∷ fields) (v ∷ values) are = ap suc (many_of fields values are.1)

-- values of the domains at which each constraint has a value that isn't 0 make a legal scenario
legal_by : (fields : List Field) (constraints : List ConstraintTree) (values : List ℤ) → AllZip IsValueOf fields values
    → Holds (model fields constraints) (scenario values) → Legal (model fields constraints) 0 (scenario values)
legal_by fields constraints values are hold = record {
  shape = shape_by (model fields constraints) (scenario values) (tt, tt) (record { type = _; is = refl; atomic = refl; inside = lit< tt; many_fields = many_of fields values are; many_references = refl; references = λ k reference filled is. absurd (none_some reference is); many_claims = refl; claims = λ k claim claimed is. absurd (none_some claim is) }, tt) tt;
  scenario = record {
    nodes = in_preorder nodes (tt, tt);
    leaves = record { numbers = refl; nodes = refl };
    links = are_linked (scenario values).actions (tt, tt);
    firsts = no_firsts 0 nodes (scenario values).actions tt;
  };
  fits = record {
    tree = record {
      tree = scenario [];
      fills = (_, _, record { type = _; is = refl; instance = 0; inside = (0, lit< tt, refl); content = (refl, refl) }, refl);
      nodes = refl;
      leaves = (record { action = refl; instance = refl; node = refl }, tt);
    };
    values = record {
      acts = each (λ a act. IsActOf (model fields constraints) act) (scenario values).actions (
        record {
          type = _;
          is = refl;
          fields = are;
          many_references = refl;
          references = λ k filled is. absurd (none_some filled is);
          many_claims = refl;
          claims = λ k claim claimed is. absurd (none_some claim is);
        },
        tt,
      );
      firsts = λ k first is. absurd (none_some first is);
    };
    within = record { few_nodes = lit≤ tt; few_acts = lit≤ tt };
  };
  supplied = record {
    sources = sources_by (scenario values).actions (tt, tt);
    previous = no_previous (scenario values).actions (tt, tt);
    chains = no_chains (scenario values).actions (tt, tt);
    bound = bounds_by (bounds_of (model fields constraints) nodes) (scenario values).actions (tt, tt);
    inferred = inferred_by (model fields constraints) (scenario values).actions (tt, tt);
    numbered = refl;
  };
  holds = hold;
  parallel = record {
    unordered = each_parallel (λ a b. Must (scenario values) a b → ⊥) (scenario values) in_order tt;
    undisputed = λ a b stand. absurd (each_parallel (λ a b. ⊥) (scenario values) in_order tt a b stand);
  };
  alone = λ a below. none_clashes (scenario values) (tt, tt) a;
  runs = record { lanes = 1; trace = alone; legal = trace values; whole = whole_by (scenario values) alone ((1, lit< tt, refl), tt) };
}

-- one fact for each constraint of the action, of which some values may not be read yet
each_of : (P : Property) (fields : List Field) (constraints : List ConstraintTree) (values : List ℤ)
    → EachOf (P (act_slot (model fields constraints) (scenario values) 0 (act values))) constraints → EachConstraint P (model fields constraints) (scenario values)
each_of P fields constraints values facts =
    record { inlines = none_inline P (model fields constraints) (scenario values) (tt, tt); compounds = (tt, tt); acts = (facts, tt); claims = (tt, tt); outputs = (tt, tt); firsts = (tt, tt) }

hold_by : (fields : List Field) (constraints : List ConstraintTree) (values : List ℤ)
    → EachOf (HoldsAt (act_slot (model fields constraints) (scenario values) 0 (act values))) constraints → Holds (model fields constraints) (scenario values)
hold_by fields constraints values facts = holds_by (model fields constraints) (scenario values) (each_of HoldsAt fields constraints values facts)

-- a number from 0 to 15
small : (n : ℕ) → T (le_z (pos 0) (pos n)) → T (le_z (pos n) (pos 15)) → IsValueOf (field_to 15) (pos n)
small n least most = (0, span 0 15, lit< tt, refl, (le_z_yes least, le_z_yes most))

-- ---- elements

pub elements_hold : Holds array (scenario doubled)
elements_hold = hold_by (element_field 0 ∷ element_field 1 ∷ element_field 2 ∷ []) (begins ∷ doubles_behind 0 ∷ doubles_behind 1 ∷ doubles_behind 2 ∷ []) doubled (refl, (refl, (refl, (refl, tt))))

pub elements_are_legal : Legal array 0 (scenario doubled)
elements_are_legal = legal_by (element_field 0 ∷ element_field 1 ∷ element_field 2 ∷ []) (begins ∷ doubles_behind 0 ∷ doubles_behind 1 ∷ doubles_behind 2 ∷ []) doubled (small 1 tt tt, (small 2 tt tt, (small 4 tt tt, tt))) elements_hold

pub others_fail : Holds array (scenario (pos 1 ∷ pos 2 ∷ pos 3 ∷ [])) → ⊥
others_fail holds = false_true (holds (doubles_behind 2) _ (OfAct 0 _ _ (doubles_behind 2) (record { is = refl; of_type = refl }) (3, lit< tt, refl)))

-- ---- quotients

pub quotient_fails : Holds (divided quotient) (scenario three_and_zero) → ⊥
quotient_fails holds = false_true (holds quotient _ (OfAct 0 _ _ quotient (record { is = refl; of_type = refl }) (2, lit< tt, refl)))

pub guarded_is_legal : Legal (divided guarded) 0 (scenario three_and_zero)
guarded_is_legal = legal_by (field_to 15 ∷ field_to 15 ∷ []) (x_is_three ∷ y_is_zero ∷ guarded ∷ []) three_and_zero (small 3 tt tt, (small 0 tt tt, tt))
    (hold_by (field_to 15 ∷ field_to 15 ∷ []) (x_is_three ∷ y_is_zero ∷ guarded ∷ []) three_and_zero (refl, (refl, (refl, tt))))

-- ---- live lists

abbrev Passes : Property
Passes standing k = is_refused_at k standing ≡ false

abbrev bytes : List Field
bytes = field_to 255 ∷ field_to 255 ∷ []

none_refused : (values : List ℤ) → EachOf (Passes (act_slot odd_and_even (scenario values) 0 (act values))) (leaves 0 ∷ leaves 1 ∷ []) → NoneRefused odd_and_even (scenario values)
none_refused values facts = each_constraint Passes odd_and_even (scenario values) (each_of Passes bytes (leaves 0 ∷ leaves 1 ∷ []) values facts)

pub root_is_live : IsLive odd_and_even 0 1 0 (0 ∷ [])
unfolding generator_at u32_at pcg32_seed word_bytes numbers_from
root_is_live = record { some = λ e. cc e; live = none_refused [] (refl, (refl, tt)) }

pub one_value_is_live : IsLive odd_and_even 0 1 0 (0 ∷ 0 ∷ [])
unfolding generator_at u32_at pcg32_seed word_bytes numbers_from
one_value_is_live = record { some = λ e. cc e; live = none_refused (pos 87 ∷ []) (refl, (refl, tt)) }

pub last_value_is_live : IsLive odd_and_even 0 1 0 (0 ∷ 255 ∷ [])
unfolding generator_at u32_at pcg32_seed word_bytes numbers_from
last_value_is_live = record { some = λ e. cc e; live = none_refused (pos 86 ∷ []) (refl, (refl, tt)) }

pub no_value_beyond : IsLive odd_and_even 0 1 0 (0 ∷ 256 ∷ []) → ⊥
unfolding generator_at u32_at pcg32_seed word_bytes numbers_from
no_value_beyond live = live.live

pub two_values_are_refused : IsLive odd_and_even 0 1 0 (0 ∷ 0 ∷ 0 ∷ []) → ⊥
unfolding generator_at u32_at pcg32_seed word_bytes numbers_from
two_values_are_refused live = true≢false (live.live (leaves 0) _ (OfAct 0 _ _ (leaves 0) (record { is = refl; of_type = refl }) (0, lit< tt, refl)))

pub empty_is_not_live : IsLive odd_and_even 0 1 0 [] → ⊥
empty_is_not_live live = live.some refl

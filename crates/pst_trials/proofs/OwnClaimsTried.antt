-- Facts: One action with two claims of one resource instance.
use Rattle.std.specs.Prelude.{◌≡◌, ℕ, List, [], ◌∷◌, Bool, true, false, Some, None}
use Rattle.pst_model.specs.ModelTree.{ModelTree}
use Rattle.pst_scen.specs.declared.scenario.Scenario.{Scenario}
use Rattle.pst_scen.specs.Plans.{ClashesAlone}
use Rattle.pst_legal.specs.Legal.{Legal}
use Rattle.pst_legal.specs.ValueReading.{Whole, read}
use Rattle.pst_trials.specs.Parts.{claim, act_claims, claimed, scenario_of}
use Rattle.std.proofs.Common.{refl}
use Rattle.rand_core.specs.Steps.{u32_at, word_bytes}
use Rattle.rand_core.specs.Pcg32Seed.{pcg32_seed}
use Rattle.pst_rng.specs.Words.{generator_at}
use Rattle.pst_expr.specs.Spans.{numbers_from}
use Rattle.pst_trials.specs.OwnClaims.{model, scenario, choices}
use Rattle.pst_scen.specs.declared.event.Event.TheVariants.{End}
use Rattle.pst_scen.specs.Trace.{IsLegalTrace, IsWhole}
use Rattle.pst_trials.specs.Parts.{start}
use Rattle.std.proofs.Common.{◌⊎◌, inl, inr, lit<, lit≤}
use Rattle.pst_scen.specs.declared.act.Act.{Act as Acting}
use Rattle.pst_scen.specs.declared.event.Event.{Event}
use Rattle.pst_legal.specs.Growing.{nothing_yet, most_levels, Leaf}
use Rattle.pst_legal.specs.Pieces.{Action, IsActionWay}
use Rattle.pst_scen.specs.Order.{Must}
use Rattle.pst_scen.specs.Trace.{Starts, Ends}
use Rattle.pst_scen.specs.Laws.{IsPreorder}
use Rattle.pst_legal.specs.Fits.{Fills, IsActOf, IsClaimOf}
use Rattle.pst_legal.specs.Binds.{bounds_of}
use Rattle.pst_trials.proofs.Cases.{each, each_both, none_some, false_true}
use Rattle.pst_trials.proofs.Branches.{each_parallel}
use Rattle.pst_trials.proofs.Traces.{preorder_by, runs_by, starts_next, awaits, whole_by}
use Rattle.pst_trials.proofs.Legality.{differ, in_preorder, are_linked, no_firsts, no_previous, no_chains, sources_by, bounds_by, inferred_by, none_inline, HoldsAt, holds_by, none_clashes}
use Rattle.pst_legal.specs.Shape.{HasShape, HasClaimShape}
use Rattle.pst_trials.proofs.Legality.{shape_by}

pub reads_locks : read (model true) 1 1 0 choices ≡ Whole (scenario true)
unfolding generator_at u32_at pcg32_seed word_bytes numbers_from
reads_locks = refl

pub reads_shares : read (model false) 1 1 0 choices ≡ Whole (scenario false)
unfolding generator_at u32_at pcg32_seed word_bytes numbers_from
reads_shares = refl

-- ---- claims

pub in_order : (locks : Bool) → IsPreorder (scenario locks).nodes
in_order locks = preorder_by (scenario locks).nodes (refl, (refl, tt))

pub locks_clash : ClashesAlone (scenario true) 0
locks_clash = record {
  first = 0;
  second = 1;
  one = _;
  other = _;
  different = differ 0 1 refl;
  is_first = record { act = _; is_act = refl; is = refl };
  is_second = record { act = _; is_act = refl; is = refl };
  same_pool = refl;
  same_instance = refl;
  by_lock = inl refl;
}

pub locks_are_illegal : Legal (model true) 1 (scenario true) → ⊥
locks_are_illegal legal = legal.alone 0 (lit< tt) locks_clash

no_lock : (false ≡ true) ⊎ (false ≡ true) → ⊥
no_lock (inl is) = false_true is
no_lock (inr is) = false_true is

shares_agree_all : (a : ℕ) → ClashesAlone (scenario false) a → ⊥
shares_agree_all = none_clashes (scenario false)
    ((((λ other pool instance. no_lock), ((λ other pool instance. no_lock), tt)), (((λ other pool instance. no_lock), ((λ other pool instance. no_lock), tt)), tt)), tt)

pub shares_agree : ClashesAlone (scenario false) 0 → ⊥
shares_agree = shares_agree_all 0

-- ---- a legal scenario

abbrev m : ModelTree
m = model false

abbrev s : Scenario
s = scenario false

abbrev alone : List Event
alone = start 0 0 ∷ End 0 ∷ []

trace : IsLegalTrace s 1 alone
trace = record {
  blocks = Ends 0 ∷ Starts (0 ∷ []) (0 ∷ []) ∷ [];
  are = refl;
  legal = (
    (
      tt,
      starts_next s 1 [] 0 0 tt (lit< tt) (lit< tt) tt (awaits s [] 0 (in_order false) tt) tt tt,
    ),
    runs_by (start 0 0 ∷ []) 0 0 false (0, lit< tt, refl) (tt, tt),
  );
}

whole : IsWhole s alone
whole = whole_by s alone ((1, lit< tt, refl), tt)

way : IsActionWay m 0 (Some 0) (Leaf 0 0) []
way = record { type = _; is = refl; instance = 0; inside = (0, lit< tt, refl); content = (refl, refl) }

-- the scenario before its claims are read
abbrev tree : Scenario
tree = scenario_of 0 s.nodes (act_claims 0 (Some 1) [] ∷ []) []

fills : Fills m most_levels (Action 1 None) None (nothing_yet 0) tree
fills = (_, _, record { type = _; is = refl; instance = 0; inside = (0, lit< tt, refl); content = ([], tt, refl, refl) }, (_, (_, _, way, refl), refl))

abbrev act : Acting
act = act_claims 0 (Some 1) (claimed false 0 ∷ claimed false 0 ∷ [])

is_act : IsActOf m act
is_act = record {
  type = _;
  is = refl;
  fields = tt;
  many_references = refl;
  references = λ k filled is. absurd (none_some filled is);
  many_claims = refl;
  claims = each_both (IsClaimOf m act) (claim false 0 ∷ claim false 0 ∷ []) (claimed false 0 ∷ claimed false 0 ∷ [])
      (record { is_pool = refl; lock = refl; pool = _; is = refl; within = lit< tt; values = tt }, (record { is_pool = refl; lock = refl; pool = _; is = refl; within = lit< tt; values = tt }, tt));
}

shape : HasShape m s
shape = shape_by m s (record { type = _; is = refl; activity = _; compound = refl; inside = lit< tt; many = refl }, (tt, tt))
    (record { type = _; is = refl; atomic = refl; inside = lit< tt; many_fields = refl; many_references = refl; references = λ k reference filled is. absurd (none_some reference is); many_claims = refl; claims = each_both (λ k c d. HasClaimShape m c d) (claim false 0 ∷ claim false 0 ∷ []) (act).claims (record { pool = lit< tt; values = record { type = _; is = refl; many = refl } }, (record { pool = lit< tt; values = record { type = _; is = refl; many = refl } }, tt)) }, tt) tt

pub shares_are_legal : Legal m 1 s
shares_are_legal = record {
  shape = shape;
  scenario = record {
    nodes = in_preorder s.nodes (tt, (refl, tt));
    leaves = record { numbers = refl; nodes = refl };
    links = are_linked s.actions (tt, tt);
    firsts = no_firsts 0 s.nodes s.actions tt;
  };
  fits = record {
    tree = record { tree = tree; fills = fills; nodes = refl; leaves = (record { action = refl; instance = refl; node = refl }, tt) };
    values = record { acts = each (λ a act. IsActOf m act) s.actions (is_act, tt); firsts = λ k first is. absurd (none_some first is) };
    within = record { few_nodes = lit≤ tt; few_acts = lit≤ tt };
  };
  supplied = record {
    sources = sources_by s.actions (tt, tt);
    previous = no_previous s.actions (tt, tt);
    chains = no_chains s.actions (tt, tt);
    bound = bounds_by (bounds_of m s.nodes) s.actions (tt, tt);
    inferred = inferred_by m s.actions (tt, tt);
    numbered = refl;
  };
  holds = holds_by m s (record {
    inlines = none_inline HoldsAt m s (tt, ((refl, tt), tt));
    compounds = (tt, (tt, tt));
    acts = (tt, tt);
    claims = ((tt, (tt, tt)), tt);
    outputs = (tt, tt);
    firsts = (tt, tt);
  });
  parallel = record {
    unordered = each_parallel (λ a b. Must s a b → ⊥) s (in_order false) tt;
    undisputed = λ a b stand. absurd (each_parallel (λ a b. ⊥) s (in_order false) tt a b stand);
  };
  alone = λ a below. shares_agree_all a;
  runs = record { lanes = 1; trace = alone; legal = trace; whole = whole };
}

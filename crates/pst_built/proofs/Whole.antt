-- What a list of choices reads whole has its sources, and values change nothing that the order sees.
use Rattle.std.proofs.Common.{◌≡◌, ℕ, ◌-◌, ◌≤◌, List, [], ◌∷◌, ◌++◌, length, map, replicate, Some, None, sym, ap, ◌∙◌, subst}
use Rattle.std.specs.List.{range_with_len}
use Rattle.pst_model.specs.ModelTree.{ModelTree}
use Rattle.pst_scen.specs.declared.scenario.Scenario.{Scenario}
use Rattle.pst_scen.specs.Scenarios.{leaves_of, HasFirsts}
use Rattle.pst_legal.specs.Growing.{nothing_yet, most_nodes, most_acts}
use Rattle.pst_legal.specs.Reading.{Reading, Wants, Stops, Reads, then_read, read_tree}
use Rattle.pst_legal.specs.SupplyReading.{read_supply}
use Rattle.pst_legal.specs.ValueReading.{Whole, answer_of, read_values, read_all, read}
use Rattle.pst_built.specs.Laws.{WholeReadingsAreBuilt, WholeReadingsAreWithin, WholeReadingsAreLinked, WholeReadingsHaveSources, IsConcreteRoot, WholeReadingsAreScenarios, WholeReadingsAreWellFormed}
use Rattle.pst_built.proofs.Gives.{Gives, gives_more, gives_then}
use Rattle.pst_built.proofs.Bares.{bares, nodes_in, kinds_in}
use Rattle.pst_built.proofs.Values.{IsSameOrder, IsValued, values_keep}
use Rattle.pst_built.proofs.Parents.{parents, InOrder}
use Rattle.pst_built.proofs.Links.{Links}
use Rattle.pst_built.proofs.Ends.{Ends}
use Rattle.pst_built.proofs.Trees.{IsGrowth, tree_grows}
use Rattle.pst_built.proofs.Supply.{Joined, joined_first, same_length, AreLinked, IsSupplied, gives_supply, supply_gives}
use Rattle.pst_model.specs.Sound.{IsSound}
use Rattle.pst_built.proofs.SoundActs.{pooled_supplied}
use Rattle.pst_built.proofs.PooledTrees.{HasPools, pooled_tree}
use Rattle.pst_built.proofs.Firsts.{has_firsts}
use Rattle.pst_built.proofs.Inferred.{AreInferable, inferable_supplied, inferable_first, AreBound, all_bound, has_sources}
use Rattle.pst_built.proofs.Built.{built}
use Rattle.pst_built.proofs.WellFormed.{well_formed}
use Rattle.pst_built.proofs.Linked.{are_linked}

-- ---- the same order

same_joined : (level : ℕ) (s t : Scenario) → Joined level s → IsSameOrder s t → Joined level t
same_joined level s t joined same = record {
  of_level = same.level ∙ joined.of_level;
  order = subst (λ nodes. InOrder (parents nodes)) (sym same.nodes) joined.order;
  numbers = subst (λ nodes. map (λ e. e.0) (leaves_of nodes) ≡ range_with_len 0 (length (leaves_of nodes))) (sym same.nodes) joined.numbers;
  more = joined.more;
  acts = subst (λ nodes. nodes_in t.actions ≡ map (λ e. Some e.1) (leaves_of nodes) ++ replicate joined.more None) (sym same.nodes) (same.acts ∙ joined.acts);
  within = record {
    few_nodes = subst (λ nodes. length nodes ≤ most_nodes) (sym same.nodes) joined.within.few_nodes;
    few_acts = subst (λ k. k ≤ most_acts) (sym (same_length t.actions s.actions same.acts)) joined.within.few_acts;
  };
  links = subst Links (sym same.references) joined.links;
  ends = subst Ends (sym same.references) joined.ends;
}

same_supplied : (level : ℕ) (s t : Scenario) → IsSupplied level s → IsSameOrder s t → IsSupplied level t
same_supplied level s t supplied same = record {
  joined = same_joined level s t supplied.joined same;
  many = ap (λ k. k - length (leaves_of t.nodes)) (same_length t.actions s.actions same.acts)
      ∙ ap (λ nodes. length s.actions - length (leaves_of nodes)) same.nodes
      ∙ supplied.many ∙ sym same.level;
  all = subst AreLinked (sym same.references) supplied.all;
}

-- ---- whole readings

whole_gives : (P : Scenario → Type 0) (reading : Reading) (s : Scenario) → Gives P reading → answer_of reading ≡ Whole s → P s
whole_gives P (Wants t n) s gives e = absurd cc
whole_gives P Stops s gives e = absurd cc
whole_gives P (Reads t place []) s gives e = let same : t ≡ s = cc in subst P same gives
whole_gives P (Reads t place (digit ∷ left)) s gives e = absurd cc

-- the activity with its sources, before claims and values
abbrev before_values : ModelTree → ℕ → ℕ → ℕ → List ℕ → Reading
before_values m root seed level choices = then_read (read_tree m seed root (nothing_yet level) 0 choices) (read_supply m seed)

all_supplied : (m : ModelTree) (root seed level : ℕ) (choices : List ℕ) → Gives (IsSupplied level) (before_values m root seed level choices)
all_supplied m root seed level choices =
    gives_then (IsGrowth level (nothing_yet level) None) (IsSupplied level) (read_tree m seed root (nothing_yet level) 0 choices) (read_supply m seed)
    (tree_grows m seed root level 0 choices)
    (λ t next rest growth. supply_gives m seed level t next rest (joined_first level t growth.grown growth.within))

all_gives : (m : ModelTree) (root seed level : ℕ) (choices : List ℕ) → Gives (IsSupplied level) (read_all m seed root (nothing_yet level) 0 choices)
all_gives m root seed level choices =
    gives_then (IsSupplied level) (IsSupplied level) (before_values m root seed level choices) (read_values m seed) (all_supplied m root seed level choices)
    (λ t next rest supplied. gives_more (IsValued m t) (IsSupplied level) _ (values_keep m seed t next rest) (λ u valued. same_supplied level t u supplied valued.same))

supplied_whole : (m : ModelTree) (root seed level : ℕ) (choices : List ℕ) (s : Scenario) → read m root seed level choices ≡ Whole s → IsSupplied level s
supplied_whole m root seed level choices s e = whole_gives (IsSupplied level) (read_all m seed root (nothing_yet level) 0 choices) s (all_gives m root seed level choices) e

pub whole_is_built : WholeReadingsAreBuilt
whole_is_built m root seed level choices s e = let supplied = supplied_whole m root seed level choices s e in (built level s supplied, supplied.joined.of_level)

pub whole_is_within : WholeReadingsAreWithin
whole_is_within m root seed level choices s e = (supplied_whole m root seed level choices s e).joined.within

pub whole_is_linked : WholeReadingsAreLinked
whole_is_linked m root seed level choices s e = are_linked level s (supplied_whole m root seed level choices s e)

-- ---- sources

-- binds are kept, and inferred actions may be inferred
record IsInferred (m : ModelTree) (s : Scenario) : Type 0 where
  bound : AreBound m s.nodes (bares s.actions)
  inferable : AreInferable m (kinds_in s.actions)

same_inferred : (m : ModelTree) (s t : Scenario) → IsInferred m s → IsSameOrder s t → IsInferred m t
same_inferred m s t is same = record {
  bound = subst (λ nodes. AreBound m nodes (bares t.actions)) (sym same.nodes) (subst (AreBound m s.nodes) (sym same.references) is.bound);
  inferable = subst (AreInferable m) (sym same.kinds) is.inferable;
}

all_inferred : (m : ModelTree) (root seed level : ℕ) (choices : List ℕ) → Gives (IsInferred m) (before_values m root seed level choices)
all_inferred m root seed level choices =
    gives_then (IsGrowth level (nothing_yet level) None) (IsInferred m) (read_tree m seed root (nothing_yet level) 0 choices) (read_supply m seed)
    (tree_grows m seed root level 0 choices)
    (λ t next rest growth. gives_supply m seed (λ s. AreInferable m (kinds_in s.actions)) (IsInferred m)
    (λ s need source holds turn suit. inferable_supplied m s need source holds suit)
    (λ s holds none many. record { bound = all_bound m s none; inferable = holds })
    t next rest (inferable_first m level t growth.grown))

inferred_whole : (m : ModelTree) (root seed level : ℕ) (choices : List ℕ) → Gives (IsInferred m) (read_all m seed root (nothing_yet level) 0 choices)
inferred_whole m root seed level choices =
    gives_then (IsInferred m) (IsInferred m) (before_values m root seed level choices) (read_values m seed) (all_inferred m root seed level choices)
    (λ t next rest is. gives_more (IsValued m t) (IsInferred m) _ (values_keep m seed t next rest) (λ u valued. same_inferred m t u is valued.same))

pub whole_has_sources : WholeReadingsHaveSources
whole_has_sources m root seed level choices s e =
    let is = whole_gives (IsInferred m) (read_all m seed root (nothing_yet level) 0 choices) s (inferred_whole m root seed level choices) e in
    has_sources m level s (supplied_whole m root seed level choices s e) is.bound is.inferable

pub whole_is_well_formed : WholeReadingsAreWellFormed
whole_is_well_formed m root seed level choices s e =
    let is = whole_is_built m root seed level choices s e in
    well_formed s is.0.preorder is.0.leaves (whole_is_linked m root seed level choices s e) is.0.small

-- ---- sound models

all_pooled : (m : ModelTree) (root seed level : ℕ) (choices : List ℕ) → IsSound m → IsConcreteRoot m root → Gives (HasPools m) (before_values m root seed level choices)
all_pooled m root seed level choices sound concrete =
    gives_then (HasPools m) (HasPools m) (read_tree m seed root (nothing_yet level) 0 choices) (read_supply m seed)
    (pooled_tree m sound seed root level 0 choices concrete)
    (λ t next rest pooled. gives_supply m seed (HasPools m) (HasPools m) (λ s need source holds turn suit. pooled_supplied m sound s need source holds turn suit) (λ s holds none many. holds) t next rest pooled)

all_firsts : (m : ModelTree) (root seed level : ℕ) (choices : List ℕ) → IsSound m → IsConcreteRoot m root → Gives HasFirsts (read_all m seed root (nothing_yet level) 0 choices)
all_firsts m root seed level choices sound concrete =
    gives_then (HasPools m) HasFirsts (before_values m root seed level choices) (read_values m seed) (all_pooled m root seed level choices sound concrete)
    (λ t next rest pooled. gives_more (IsValued m t) HasFirsts _ (values_keep m seed t next rest) (λ u valued. has_firsts m t u valued pooled))

pub whole_is_scenario : WholeReadingsAreScenarios
whole_is_scenario m root seed level choices s sound concrete e =
    let is = whole_is_built m root seed level choices s e in
    record {
      nodes = is.0.preorder;
      leaves = is.0.leaves;
      links = whole_is_linked m root seed level choices s e;
      firsts = whole_gives HasFirsts (read_all m seed root (nothing_yet level) 0 choices) s (all_firsts m root seed level choices sound concrete) e;
    }

-- What is read behind the sources is built.
use Rattle.std.proofs.Common.{◌≡◌, ℕ, ◌-◌, ◌≤◌, List, [], ◌∷◌, ◌++◌, length, map, replicate, Some, None, refl, sym, ap, ◌∙◌, subst}
use Rattle.std.specs.List.{range_with_len}
use Rattle.pst_model.specs.ModelTree.{ModelTree}
use Rattle.pst_scen.specs.declared.scenario.Scenario.{Scenario}
use Rattle.pst_scen.specs.Scenarios.{leaves_of}
use Rattle.pst_legal.specs.Growing.{nothing_yet, most_nodes, most_acts}
use Rattle.pst_legal.specs.Reading.{Reading, Wants, Stops, Reads, then_read, read_tree}
use Rattle.pst_legal.specs.SupplyReading.{read_supply}
use Rattle.pst_legal.specs.ValueReading.{Options, Dead, Whole, answer_of, read_values}
use Rattle.pst_built.proofs.Goes.{Stands}
use Rattle.pst_built.proofs.Bares.{nodes_in, bares}
use Rattle.pst_built.proofs.Parents.{parents, InOrder}
use Rattle.pst_built.proofs.Links.{Links}
use Rattle.pst_built.proofs.Ends.{Ends}
use Rattle.pst_built.proofs.Gives.{gives_then}
use Rattle.pst_built.proofs.Trees.{IsGrowth, tree_grows}
use Rattle.pst_built.proofs.Supply.{Joined, joined_first, same_length, AreLinked as AllLinked, IsSupplied, supply_gives}
use Rattle.pst_built.proofs.Values.{IsSameOrder}
use Rattle.pst_built.proofs.Built.{built}
use Rattle.pst_built.proofs.Linked.{are_linked}
use Rattle.pst_built.specs.SoFar.{HasRead}
use Rattle.pst_built.proofs.Filled.{gives_here}
use Rattle.pst_read_slots.proofs.Same.{values_same}
use Rattle.pst_plan_so_far.specs.Laws.{SourcesAreBuilt}

same_joined : (level : ℕ) (s t : Scenario) → Joined level s → IsSameOrder s t → Joined level t
same_joined level s t joined same = record {
  of_level = same.level ∙ joined.of_level;
  order = subst (λ nodes. InOrder (parents nodes)) (sym same.nodes) joined.order;
  numbers = subst (λ nodes. map (λ e. e.0) (leaves_of nodes) ≡ range_with_len 0 (length (leaves_of nodes))) (sym same.nodes) joined.numbers;
  more = joined.more;
  acts = subst (λ nodes. nodes_in t.actions ≡ map (λ e. Some e.1) (leaves_of nodes) ++ replicate joined.more None) (sym same.nodes) (same.acts ∙ joined.acts);
  within = record {
    few_nodes = subst (λ nodes. length nodes ≤ most_nodes) (sym same.nodes) joined.within.few_nodes;
    few_acts = subst (λ k. k ≤ most_acts) (sym (same_length t.actions s.actions same.acts)) joined.within.few_acts;
  };
  links = subst Links (sym same.references) joined.links;
  ends = subst Ends (sym same.references) joined.ends;
}

same_supplied : (level : ℕ) (s t : Scenario) → IsSupplied level s → IsSameOrder s t → IsSupplied level t
same_supplied level s t supplied same = record {
  joined = same_joined level s t supplied.joined same;
  many = ap (λ k. k - length (leaves_of t.nodes)) (same_length t.actions s.actions same.acts)
      ∙ ap (λ nodes. length s.actions - length (leaves_of nodes)) same.nodes
      ∙ supplied.many ∙ sym same.level;
  all = subst AllLinked (sym same.references) supplied.all;
}

supplied_at : (m : ModelTree) (root seed level : ℕ) (choices : List ℕ) (u : Scenario) (place : ℕ) (left : List ℕ)
    → then_read (read_tree m seed root (nothing_yet level) 0 choices) (read_supply m seed) ≡ Reads u place left → IsSupplied level u
supplied_at m root seed level choices u place left e =
    gives_here (IsSupplied level) (then_read (read_tree m seed root (nothing_yet level) 0 choices) (read_supply m seed)) u place left
    (gives_then (IsGrowth level (nothing_yet level) None) (IsSupplied level) (read_tree m seed root (nothing_yet level) 0 choices) (read_supply m seed)
    (tree_grows m seed root level 0 choices)
    (λ t next rest growth. supply_gives m seed level t next rest (joined_first level t growth.grown growth.within)))
    e

-- what values have come to stands in a relation, so what is read so far does
so_far : (R : Scenario → Scenario → Type 0) (u s : Scenario) (r : Reading) → Stands R u r → HasRead (answer_of r) s → R u s
so_far R u s (Wants t n) stands has = subst (R u) has stands
so_far R u s Stops stands has = absurd has
so_far R u s (Reads t place []) stands has = subst (R u) has stands
so_far R u s (Reads t place (d ∷ left)) stands has = absurd has

pub sources_built : SourcesAreBuilt
sources_built m root seed level choices s (u, place, left, e) has =
    let here : HasRead (answer_of (read_values m seed u place left)) s = subst (λ r. HasRead (answer_of (then_read r (read_values m seed))) s) e has in
    let same : IsSameOrder u s = so_far IsSameOrder u s (read_values m seed u place left) (values_same m seed u place left) here in
    let supplied : IsSupplied level s = same_supplied level u s (supplied_at m root seed level choices u place left e) same in
    (built level s supplied, are_linked level s supplied)

-- What is read behind the activity is laid out.
use Rattle.std.proofs.Common.{◌≡◌, ℕ, zero, suc, ◌+◌, ◌<◌, ◌≤◌, List, [], ◌∷◌, ◌++◌, length, map, replicate, true, nat_lt, Option, Some, None, refl, sym, ap, ◌∙◌, subst, arith, length-append, append_assoc, append-nil}
use Rattle.std.specs.List.{range_with_len}
use Rattle.std.proofs.lemmas.List.{map-append, length-map, length-replicate}
use Rattle.std.proofs.lemmas.Option.{same_Some, slice_get_within}
use Rattle.std.proofs.lemmas.Bool.{and_parts, ltb-true}
use Rattle.pst_model.specs.ModelTree.{ModelTree}
use Rattle.pst_scen.specs.declared.act.Act.{Act}
use Rattle.pst_scen.specs.declared.act.Link.TheVariants as link
use Rattle.pst_scen.specs.declared.scenario.Scenario.{Scenario}
use Rattle.pst_scen.specs.Scenarios.{leaves_of}
use Rattle.pst_scen.specs.Laws.{HasOneLeafEach}
use Rattle.pst_legal.specs.Growing.{nothing_yet, open_act, most_acts, most_nodes, IsWithin}
use Rattle.pst_legal.specs.Reading.{Reading, Wants, Stops, Reads, then_read, read_tree}
use Rattle.pst_legal.specs.SupplyReading.{Spot, Source, Initially, From, New, sources, inferred, may_infer, put_link, linked_to, supplied_by, read_supply}
use Rattle.pst_legal.specs.ValueReading.{answer_of, read_values}
use Rattle.pst_built.proofs.Goes.{Stands, stands}
use Rattle.pst_built.proofs.Readers.{goes_supply}
use Rattle.pst_built.proofs.Bares.{node_in, nodes_in, nodes_put}
use Rattle.pst_built.proofs.Parents.{parents, InOrder, in_preorder, is_preorder}
use Rattle.pst_built.proofs.Members.{in_get}
use Rattle.pst_built.proofs.Spots.{Suits, suits}
use Rattle.pst_built.proofs.Linking.{nodes_linked}
use Rattle.pst_built.proofs.Trees.{IsGrowth, tree_grows}
use Rattle.pst_built.proofs.Supply.{same_length}
use Rattle.pst_built.proofs.Values.{IsSameOrder}
use Rattle.pst_built.proofs.Built.{leaf_at}
use Rattle.pst_built.specs.SoFar.{HasRead}
use Rattle.pst_built.proofs.Filled.{gives_here}
use Rattle.pst_read_slots.proofs.Same.{values_same}
use Rattle.pst_order_ahead.specs.LaidOut.{IsLaidOut}
use Rattle.pst_order_ahead.specs.Laws.{TreesAreLaidOut}

-- the nodes stand in preorder, and the actions are those of the leaves and then some without a node
record Laid (s : Scenario) : Type 0 where
  order : InOrder (parents s.nodes)
  numbers : map (λ e. e.0) (leaves_of s.nodes) ≡ range_with_len 0 (length (leaves_of s.nodes))
  more : ℕ
  acts : nodes_in s.actions ≡ map (λ e. Some e.1) (leaves_of s.nodes) ++ replicate more None
  within : IsWithin s.nodes s.actions

grown_laid : (level : ℕ) (s : Scenario) (parent : Option ℕ) (t : Scenario) → IsGrowth level s parent t → Laid t
grown_laid level s parent t growth = record {
  order = growth.grown.order;
  numbers = growth.grown.numbers;
  more = 0;
  acts = growth.grown.acts ∙ sym (append-nil (map (λ e. Some e.1) (leaves_of t.nodes)));
  within = growth.within;
}

-- ---- sources

abbrev Keeps : Scenario → Scenario → Type 0
Keeps s t = Laid s → Laid t

keeps_then : (s t u : Scenario) → Keeps s t → Keeps t u → Keeps s u
keeps_then s t u one other laid = other (one laid)

relinked : (s : Scenario) (acts : List Act) → nodes_in acts ≡ nodes_in s.actions → Keeps s (record s { actions = acts })
relinked s acts same laid = record {
  order = laid.order;
  numbers = laid.numbers;
  more = laid.more;
  acts = same ∙ laid.acts;
  within = record { few_nodes = laid.within.few_nodes; few_acts = subst (λ k. k ≤ most_acts) (sym (same_length acts s.actions same)) laid.within.few_acts };
}

replicate_push : {A : Type 0} (n : ℕ) (x : A) → replicate n x ++ x ∷ [] ≡ replicate (n + 1) x
replicate_push n x = let e : suc n ≡ n + 1 = omega arith in go n ∙ ap (λ k. replicate k x) e
  where
    go : (k : ℕ) → replicate k x ++ x ∷ [] ≡ replicate (suc k) x
    go zero = refl
    go (suc k) = ap (λ xs. x ∷ xs) (go k)

pushed : (m : ModelTree) (s : Scenario) (action instance : ℕ) → may_infer s ≡ true → Keeps s (record s { actions = s.actions ++ open_act m action instance None ∷ [] })
pushed m s action instance may laid =
    let act = open_act m action instance None in
    let few : length s.actions < most_acts = ltb-true (length s.actions) most_acts (and_parts (nat_lt (inferred s) s.level) (nat_lt (length s.actions) most_acts) may).1 in
    record {
      order = laid.order;
      numbers = laid.numbers;
      more = laid.more + 1;
      acts = map-append node_in s.actions (act ∷ [])
          ∙ ap (λ ns. ns ++ None ∷ []) laid.acts
          ∙ append_assoc (map (λ e. Some e.1) (leaves_of s.nodes)) (replicate laid.more None) (None ∷ [])
          ∙ ap (λ ns. map (λ e. Some e.1) (leaves_of s.nodes) ++ ns) (replicate_push laid.more None);
      within = record { few_nodes = laid.within.few_nodes; few_acts = omega (arith, few, length-append s.actions (act ∷ [])) };
    }

source_keeps : (m : ModelTree) (s : Scenario) (need : Spot) (source : Source) → Suits m s need source → Keeps s (supplied_by m s need source)
source_keeps m s need Initially suit laid = relinked s (put_link need.act need.reference link.Initial s.actions) (nodes_put need.act need.reference link.Initial s.actions) laid
source_keeps m s need (From b q) suit laid = relinked s (linked_to need b q s.actions) (nodes_linked need b q s.actions) laid
source_keeps m s need (New action instance q) suit laid =
    let acts = s.actions ++ open_act m action instance None ∷ [] in
    relinked (record s { actions = acts }) (linked_to need (length s.actions) q acts) (nodes_linked need (length s.actions) q acts) (pushed m s action instance suit.may laid)

supply_keeps : (m : ModelTree) (seed : ℕ) (s : Scenario) (place : ℕ) (left : List ℕ) → Stands Keeps s (read_supply m seed s place left)
supply_keeps m seed s place left =
    stands Keeps s (read_supply m seed s place left) (λ more. read_supply m seed s place (left ++ more))
    (goes_supply Keeps (λ u laid. laid) keeps_then m seed (λ u need source k is there. source_keeps m u need source (suits m u need source (in_get (sources m u need) k source there))) left s place)

-- ---- claims and values

same_laid : (s t : Scenario) → IsSameOrder s t → Keeps s t
same_laid s t same laid = record {
  order = subst (λ nodes. InOrder (parents nodes)) (sym same.nodes) laid.order;
  numbers = subst (λ nodes. map (λ e. e.0) (leaves_of nodes) ≡ range_with_len 0 (length (leaves_of nodes))) (sym same.nodes) laid.numbers;
  more = laid.more;
  acts = subst (λ nodes. nodes_in t.actions ≡ map (λ e. Some e.1) (leaves_of nodes) ++ replicate laid.more None) (sym same.nodes) (same.acts ∙ laid.acts);
  within = record {
    few_nodes = subst (λ nodes. length nodes ≤ most_nodes) (sym same.nodes) laid.within.few_nodes;
    few_acts = subst (λ k. k ≤ most_acts) (sym (same_length t.actions s.actions same.acts)) laid.within.few_acts;
  };
}

so_far : (R : Scenario → Scenario → Type 0) (u s : Scenario) (r : Reading) → Stands R u r → HasRead (answer_of r) s → R u s
so_far R u s (Wants t n) on has = subst (R u) has on
so_far R u s Stops on has = absurd has
so_far R u s (Reads t place []) on has = subst (R u) has on
so_far R u s (Reads t place (d ∷ left)) on has = absurd has

behind : (m : ModelTree) (seed : ℕ) (u s : Scenario) (r : Reading) → Stands Keeps u r → HasRead (answer_of (then_read r (read_values m seed))) s → Keeps u s
behind m seed u s (Wants t n) on has laid = subst Laid has (on laid)
behind m seed u s Stops on has laid = absurd has
behind m seed u s (Reads t place left) on has laid =
    same_laid t s (so_far IsSameOrder t s (read_values m seed t place left) (values_same m seed t place left) has) (on laid)

-- ---- what is laid out

one_leaf : (s : Scenario) → Laid s → HasOneLeafEach s.nodes
one_leaf s laid = record {
  one = λ m n act first second is at leaf other.
      let both : Some (act, m) ≡ Some (act, n) = sym (leaf_at s m act first laid.numbers is leaf) ∙ leaf_at s n act second laid.numbers at other in
      ap (λ (p : ℕ × ℕ). p.1) (same_Some (act, m) (act, n) both);
}

many : (s : Scenario) (laid : Laid s) → length s.actions ≡ length (leaves_of s.nodes) + laid.more
many s laid =
    let e : length (nodes_in s.actions) ≡ length (map (λ x. Some x.1) (leaves_of s.nodes) ++ replicate laid.more None) = ap length laid.acts in
    let l : length (map (λ x. Some x.1) (leaves_of s.nodes) ++ replicate laid.more None) ≡ length (map (λ x. Some x.1) (leaves_of s.nodes)) + length (replicate laid.more None) =
    length-append (map (λ x. Some x.1) (leaves_of s.nodes)) (replicate laid.more None) in
    let n : length (replicate {A = Option ℕ} laid.more None) ≡ laid.more = length-replicate laid.more None in
    omega (arith, e, l, length-map s.actions node_in, length-map (leaves_of s.nodes) (λ x. Some x.1), n)

is_laid_out : (s : Scenario) → Laid s → IsLaidOut s
is_laid_out s laid = record {
  preorder = in_preorder s.nodes laid.order;
  parents = is_preorder s.nodes laid.order;
  one_leaf = one_leaf s laid;
  leaves_in = λ n act node is leaf.
      let l = slice_get_within (leaves_of s.nodes) act (act, n) (leaf_at s n act node laid.numbers is leaf) in
      omega (arith, l, many s laid);
  inferred = laid.more;
  leaves = record { numbers = laid.numbers; nodes = laid.acts };
  small = record { acts = omega (arith, laid.within.few_acts); nodes = omega (arith, laid.within.few_nodes) };
}

tree_laid : (m : ModelTree) (root seed level : ℕ) (choices : List ℕ) (u : Scenario) (place : ℕ) (left : List ℕ) → read_tree m seed root (nothing_yet level) 0 choices ≡ Reads u place left → Laid u
tree_laid m root seed level choices u place left e =
    grown_laid level (nothing_yet level) None u (gives_here (IsGrowth level (nothing_yet level) None) (read_tree m seed root (nothing_yet level) 0 choices) u place left (tree_grows m seed root level 0 choices) e)

pub laid_out : TreesAreLaidOut
laid_out m root seed level choices s (u, place, left, e) has =
    let here : HasRead (answer_of (then_read (read_supply m seed u place left) (read_values m seed))) s =
    subst (λ r. HasRead (answer_of (then_read (then_read r (read_supply m seed)) (read_values m seed))) s) e has in
    is_laid_out s (behind m seed u s (read_supply m seed u place left) (supply_keeps m seed u place left) here (tree_laid m root seed level choices u place left e))

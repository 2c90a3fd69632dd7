-- What the checks of a scenario come to. Only tests use them.
use Rattle.std.proofs.Common.{◌≡◌, ◌⊎◌, inl, inr, ⊎_elim, ◌<◌, ◌≤◌, ◌+◌, ◌-◌, ◌++◌, ◌∷◌, [], ℕ, zero, suc, List, Option, length, get_or, take, drop, map, Some, None, slice_get, refl, sym, subst, ap, ◌∙◌, arith}
use Rattle.std.specs.Prelude.{flat_map, replicate}
use Rattle.std.specs.List.{enumerate_from, range_with_len}
use Rattle.std.proofs.lemmas.Bool.{cases_lt}
use Rattle.std.proofs.lemmas.Grind.{flat_map-append}
use Rattle.std.proofs.lemmas.List.{take_more, map-append, take-append-drop, length-append, length-take-le}
use Rattle.std.proofs.lemmas.List.{append-nil}
use Rattle.std.proofs.lemmas.Option.{slice_get_within, slice_get-get_or}
use Rattle.pst_scen.specs.declared.tree.Node.{Node}
use Rattle.pst_scen.specs.declared.tree.Fill.{Fill}
use Rattle.pst_scen.specs.declared.tree.Fill.TheVariants.{Compound, Leaf, Sequence, Parallel, Schedule, Joined, Select, Repeat, Turn, If, Match}
use Rattle.pst_scen.specs.declared.act.Act.{Act}
use Rattle.pst_scen.specs.Scenarios.{leaf_of, leaves_of}
use Rattle.std.proofs.Math.Seq.{take-length}
use Rattle.pst_scen.specs.declared.act.Flow.{Flow}
use Rattle.pst_scen.specs.declared.act.Flow.TheVariants.{StateIn, StateOut}
use Rattle.pst_scen.specs.declared.act.Link.{Link}
use Rattle.pst_scen.specs.declared.act.Link.TheVariants as link
use Rattle.pst_scen.specs.declared.scenario.Scenario.{Scenario}
use Rattle.pst_scen.specs.Flows.{Refers}
use Rattle.pst_scen.specs.Laws.{IsPreorder, HasOneLeafEach}
use Rattle.pst_scen.specs.Scenarios.{AreInPreorder, HasLeavesFirst}
use Rattle.pst_order.specs.Facts.{IsLinked}
use Rattle.pst_tests_scenarios.specs.Checked.{IsNextNode, HasNode, IsNextLeaf, AreLeavesTo, AreLeavesIn, AreInferred, IsStateLink, IsReferenceLinked, AreActsLinked, HasNoRivals}
use Rattle.pst_tests_scenarios.proofs.Parents.{same_some}

-- LOOPS

-- what holds of each item before one, and of that one, holds of each before the next
pub each_more : {X : Type 0} (P : ℕ → X → Type 0) (xs : List X) (i : ℕ) (x : X) → slice_get xs i ≡ Some x → P i x → ((k : ℕ) (y : X) → k < i → slice_get xs k ≡ Some y → P k y) → (k : ℕ) (y : X) → k < i + 1 → slice_get xs k ≡ Some y → P k y
each_more {X = X} P xs i x at_i here before k y below at_k = go (cases_lt k i)
  where
    go : (k < i) ⊎ (i ≤ k) → P k y
    go (inl less) = before k y less at_k
    go (inr more) =
        let same : i ≡ k = omega (arith, more, below) in
        subst (λ (n : ℕ). P n y) same (subst (λ (z : X). P i z) (same_some x y (sym at_i ∙ ap (slice_get xs) same ∙ at_k)) here)

-- LEAVES

enumerate_push : {X : Type 0} (i : ℕ) (xs : List X) (y : X) → enumerate_from i (xs ++ y ∷ []) ≡ enumerate_from i xs ++ (i + length xs, y) ∷ []
enumerate_push i [] y = let same : i ≡ i + 0 = omega arith in ap (λ n. (n, y) ∷ []) same
enumerate_push i (x ∷ xs) y =
    let same : i + 1 + length xs ≡ i + suc (length xs) = omega arith in
    ap (λ rest. (i, x) ∷ rest) (enumerate_push (i + 1) xs y ∙ ap (λ n. enumerate_from (i + 1) xs ++ (n, y) ∷ []) same)

range_push : (a n : ℕ) → range_with_len a (suc n) ≡ range_with_len a n ++ (a + n) ∷ []
range_push a zero = let same : a ≡ a + 0 = omega arith in ap (λ m. m ∷ []) same
range_push a (suc n) =
    let same : a + 1 + n ≡ a + suc n = omega arith in
    ap (λ rest. a ∷ rest) (range_push (a + 1) n ∙ ap (λ m. range_with_len (a + 1) n ++ m ∷ []) same)

no_leaf : (fill : Fill) (n : ℕ) → ((act : ℕ) → fill ≡ Leaf act → ⊥) → leaf_of n fill ≡ []
no_leaf (Leaf act) n not = absurd (not act refl)
no_leaf (Compound action instance fields) n not = refl
no_leaf Sequence n not = refl
no_leaf Parallel n not = refl
no_leaf Schedule n not = refl
no_leaf (Joined parallel joined) n not = refl
no_leaf (Select branch) n not = refl
no_leaf Repeat n not = refl
no_leaf (Turn index) n not = refl
no_leaf (If taken) n not = refl
no_leaf (Match arm) n not = refl

same_leaf : (a b : ℕ) → Leaf a ≡ Leaf b → a ≡ b
same_leaf a b e = cc

module _ (nodes : List Node) (n : ℕ) (node : Node) (is : slice_get nodes n ≡ Some node) where
  within : n < length nodes
  within = slice_get_within nodes n node is

  taken : take (n + 1) nodes ≡ take n nodes ++ node ∷ []
  taken =
      let here : get_or nodes n node ≡ node = same_some (get_or nodes n node) node (sym (slice_get-get_or nodes n node within) ∙ is) in
      take_more nodes n node within ∙ ap (λ x. take n nodes ++ x ∷ []) here

  leaves_more : leaves_of (take (n + 1) nodes) ≡ leaves_of (take n nodes) ++ leaf_of n node.fill
  leaves_more =
      let taken_many = length-take-le n nodes (omega (arith, within)) in
      let many : 0 + length (take n nodes) ≡ n = omega (arith, taken_many) in
      let listed : enumerate_from 0 (take (n + 1) nodes) ≡ enumerate_from 0 (take n nodes) ++ (n, node) ∷ [] =
      ap (enumerate_from 0) taken ∙ enumerate_push 0 (take n nodes) node ∙ ap (λ m. enumerate_from 0 (take n nodes) ++ (m, node) ∷ []) many in
      let f : ℕ × Node → List (ℕ × ℕ) = λ e. leaf_of e.0 e.1.fill in
      ap (flat_map f) listed ∙ flat_map-append f (enumerate_from 0 (take n nodes)) ((n, node) ∷ []) ∙ ap (λ rest. leaves_of (take n nodes) ++ rest) (append-nil (leaf_of n node.fill))

  module _ (acts : List Act) (count : ℕ) (h : AreLeavesTo nodes acts n count) where
    pub other_next : ((act : ℕ) → node.fill ≡ Leaf act → ⊥) → AreLeavesTo nodes acts (n + 1) count
    other_next not =
        let same : leaves_of (take (n + 1) nodes) ≡ leaves_of (take n nodes) =
        leaves_more ∙ ap (λ rest. leaves_of (take n nodes) ++ rest) (no_leaf node.fill n not) ∙ append-nil (leaves_of (take n nodes)) in
        record {
          within = h.within;
          many = ap length same ∙ h.many;
          numbers = ap (map (λ e. e.0)) same ∙ h.numbers;
          nodes_of = h.nodes_of ∙ sym (ap (map (λ e. Some e.1)) same);
          below = λ m act x less at is_leaf. ⊎_elim (λ low. h.below m act x low at is_leaf)
              (λ high. let last : n ≡ m = omega (arith, high, less) in absurd (not act (ap (λ (y : Node). y.fill) (same_some node x (sym is ∙ ap (slice_get nodes) last ∙ at)) ∙ is_leaf)))
              (cases_lt m n);
          apart = λ m o act x y m_in o_in at_m at_o of_x of_y.
              h.apart m o act x y (earlier m act x m_in at_m of_x) (earlier o act y o_in at_o of_y) at_m at_o of_x of_y;
        }
      where
        earlier : (m act : ℕ) (x : Node) → m < n + 1 → slice_get nodes m ≡ Some x → x.fill ≡ Leaf act → m < n
        earlier m act x less at is_leaf =
            ⊎_elim (λ low. low)
            (λ high. let last : n ≡ m = omega (arith, high, less) in absurd (not act (ap (λ (y : Node). y.fill) (same_some node x (sym is ∙ ap (slice_get nodes) last ∙ at)) ∙ is_leaf)))
            (cases_lt m n)

    pub leaf_next : node.fill ≡ Leaf count → HasNode acts count n → AreLeavesTo nodes acts (n + 1) (count + 1)
    leaf_next is_next has =
        record {
          within = let inside = slice_get_within acts count has.0 has.1 in omega (arith, inside);
          many = ap length more ∙ length-append (leaves_of (take n nodes)) ((count, n) ∷ []) ∙ ap (λ m. m + 1) h.many;
          numbers = ap (map (λ e. e.0)) more ∙ map-append (λ e. e.0) (leaves_of (take n nodes)) ((count, n) ∷ []) ∙ ap (λ xs. xs ++ count ∷ []) h.numbers ∙ sym ranged;
          nodes_of = acts_more ∙ ap (λ xs. xs ++ Some n ∷ []) h.nodes_of ∙ sym (ap (map (λ e. Some e.1)) more ∙ map-append (λ e. Some e.1) (leaves_of (take n nodes)) ((count, n) ∷ []));
          below = λ m act x less at is_leaf. ⊎_elim (λ low. let small = h.below m act x low at is_leaf in omega (arith, small))
              (λ high. let own = at_last m act x high less at is_leaf in omega (arith, own)) (cases_lt m n);
          apart = λ m o act x y m_in o_in at_m at_o of_x of_y. pair m o act x y m_in o_in at_m at_o of_x of_y (cases_lt m n) (cases_lt o n);
        }
      where
        more : leaves_of (take (n + 1) nodes) ≡ leaves_of (take n nodes) ++ (count, n) ∷ []
        more = leaves_more ∙ ap (λ fill. leaves_of (take n nodes) ++ leaf_of n fill) is_next

        ranged : range_with_len 0 (count + 1) ≡ range_with_len 0 count ++ count ∷ []
        ranged =
            let one : count + 1 ≡ suc count = omega arith in
            let own : 0 + count ≡ count = omega arith in
            ap (range_with_len 0) one ∙ range_push 0 count ∙ ap (λ m. range_with_len 0 count ++ m ∷ []) own

        acts_more : map (λ (act : Act). act.node) (take (count + 1) acts) ≡ map (λ (act : Act). act.node) (take count acts) ++ Some n ∷ []
        acts_more =
            let inside = slice_get_within acts count has.0 has.1 in
            let here : get_or acts count has.0 ≡ has.0 = same_some (get_or acts count has.0) has.0 (sym (slice_get-get_or acts count has.0 inside) ∙ has.1) in
            ap (map (λ (act : Act). act.node)) (take_more acts count has.0 inside ∙ ap (λ x. take count acts ++ x ∷ []) here)
            ∙ map-append (λ (act : Act). act.node) (take count acts) (has.0 ∷ []) ∙ ap (λ x. map (λ (act : Act). act.node) (take count acts) ++ x ∷ []) has.2

        at_last : (m act : ℕ) (x : Node) → n ≤ m → m < n + 1 → slice_get nodes m ≡ Some x → x.fill ≡ Leaf act → act ≡ count
        at_last m act x high less at is_leaf =
            let last : n ≡ m = omega (arith, high, less) in
            same_leaf act count (sym is_leaf ∙ sym (ap (λ (y : Node). y.fill) (same_some node x (sym is ∙ ap (slice_get nodes) last ∙ at))) ∙ is_next)

        pair : (m o act : ℕ) (x y : Node) → m < n + 1 → o < n + 1 → slice_get nodes m ≡ Some x → slice_get nodes o ≡ Some y → x.fill ≡ Leaf act → y.fill ≡ Leaf act
            → (m < n) ⊎ (n ≤ m) → (o < n) ⊎ (n ≤ o) → m ≡ o
        pair m o act x y m_in o_in at_m at_o of_x of_y (inl low) (inl less) = h.apart m o act x y low less at_m at_o of_x of_y
        pair m o act x y m_in o_in at_m at_o of_x of_y (inl low) (inr high) =
            let small = h.below m act x low at_m of_x in let own = at_last o act y high o_in at_o of_y in absurd (omega (arith, small, own))
        pair m o act x y m_in o_in at_m at_o of_x of_y (inr high) (inl less) =
            let small = h.below o act y less at_o of_y in let own = at_last m act x high m_in at_m of_x in absurd (omega (arith, small, own))
        pair m o act x y m_in o_in at_m at_o of_x of_y (inr high) (inr more_high) = omega (arith, high, more_high, m_in, o_in)

    pub leaf_step : (next : ℕ) → IsNextLeaf node.fill acts n count next → AreLeavesTo nodes acts (n + 1) next
    leaf_step next (inl k) = subst (λ (m : ℕ). AreLeavesTo nodes acts (n + 1) m) (sym k.2) (leaf_next k.0 k.1)
    leaf_step next (inr k) = subst (λ (m : ℕ). AreLeavesTo nodes acts (n + 1) m) (sym k.1) (other_next k.0)

-- ACTIONS WITHOUT NODES

none_of : (acts : List Act) → ((a : ℕ) (act : Act) → slice_get acts a ≡ Some act → act.node ≡ None) → map (λ (act : Act). act.node) acts ≡ replicate (length acts) None
none_of [] none = refl
none_of (act ∷ acts) none =
    ap (λ (x : Option ℕ). x ∷ map (λ (y : Act). y.node) acts) (none 0 act refl) ∙ ap (λ rest. None ∷ rest) (none_of acts (λ a x at. none (suc a) x at))

none_behind : (acts : List Act) (first : ℕ) → AreInferred acts first → map (λ (act : Act). act.node) (drop first acts) ≡ replicate (length acts - first) None
none_behind acts zero none =
    let all : length acts ≡ length acts - 0 = omega arith in
    none_of acts (λ a act at. none a act (omega arith) at) ∙ ap (λ n. replicate n None) all
none_behind [] (suc first) none = let all : 0 ≡ 0 - suc first = omega arith in ap (λ n. replicate n None) all
none_behind (act ∷ acts) (suc first) none =
    let all : length acts - first ≡ suc (length acts) - suc first = omega arith in
    none_behind acts first (λ a x low at. none (suc a) x (omega (arith, low)) at) ∙ ap (λ n. replicate n None) all

pub nodes_whole : (acts : List Act) (first level : ℕ) (leaves : List (Option ℕ)) → first ≤ length acts → first + level ≡ length acts → map (λ (act : Act). act.node) (take first acts) ≡ leaves → AreInferred acts first
    → map (λ (act : Act). act.node) acts ≡ leaves ++ replicate level None
nodes_whole acts first level leaves within all front none =
    let rest : length acts - first ≡ level = omega (arith, all) in
    ap (map (λ (act : Act). act.node)) (sym (take-append-drop first acts)) ∙ map-append (λ (act : Act). act.node) (take first acts) (drop first acts)
    ∙ ap (λ xs. xs ++ map (λ (act : Act). act.node) (drop first acts)) front ∙ ap (λ xs. leaves ++ xs) (none_behind acts first none ∙ ap (λ n. replicate n None) rest)

pub preorder_whole : (nodes : List Node) → ((node : Node) → slice_get nodes 0 ≡ Some node → node.parent ≡ None) → ((n : ℕ) → n + 1 < length nodes → IsNextNode nodes n) → AreInPreorder nodes
preorder_whole nodes root next = record { root = root; below = λ n node is. next n (let inside = slice_get_within nodes (suc n) node is in omega (arith, inside)) node is }

pub leaves_whole : (s : Scenario) (count : ℕ) → AreLeavesTo s.nodes s.actions (length s.nodes) count → length s.actions - count ≡ s.level → AreInferred s.actions count
    → HasLeavesFirst s × HasOneLeafEach s.nodes × AreLeavesIn s
leaves_whole s count h level none = (
  record {
    numbers = subst (λ (nodes : List Node). map (λ e. e.0) (leaves_of nodes) ≡ range_with_len 0 (length (leaves_of nodes))) (take-length s.nodes) (h.numbers ∙ ap (range_with_len 0) (sym h.many));
    nodes = subst (λ (nodes : List Node). map (λ (act : Act). act.node) s.actions ≡ map (λ e. Some e.1) (leaves_of nodes) ++ replicate s.level None) (take-length s.nodes)
        (nodes_whole s.actions count s.level (map (λ e. Some e.1) (leaves_of (take (length s.nodes) s.nodes))) h.within (let within = h.within in omega (arith, within, level)) h.nodes_of none);
  },
  record { one = λ m n act first second at_m at_n of_m of_n. h.apart m n act first second (slice_get_within s.nodes m first at_m) (slice_get_within s.nodes n second at_n) at_m at_n of_m of_n },
  λ n act node at is_leaf. let low = h.below n act node (slice_get_within s.nodes n node at) at is_leaf in let within = h.within in omega (arith, low, within),
)

-- LINKS

module _ (s : Scenario) (linked : AreActsLinked s) where
  fine : (a pool : ℕ) (flow : Flow) (to : Link) → (r : Refers s a flow pool to) → IsReferenceLinked s a r.filled
  fine a pool flow to r = linked a r.act r.is_act r.reference r.filled r.is

  state_link : (a pool : ℕ) (flow : Flow) (to : Link) → (flow ≡ StateIn) ⊎ (flow ≡ StateOut) → Refers s a flow pool to → IsStateLink s to pool
  state_link a pool flow to kind r =
      subst (λ (x : Link). IsStateLink s x pool) r.linked
      (subst (λ (p : ℕ). IsStateLink s r.filled.link p) r.of_pool ((fine a pool flow to r).1 (⊎_elim (λ k. inl (r.of_flow ∙ k)) (λ k. inr (r.of_flow ∙ k)) kind)))

  pub linked_whole : IsPreorder s.nodes → HasOneLeafEach s.nodes → AreLeavesIn s → HasNoRivals s → IsLinked s
  linked_whole preorder one leaves rivals =
      record {
        preorder = preorder;
        one_leaf = one;
        leaves_in = leaves;
        links_in = λ a pool other reference flow r. ((fine a pool flow (link.Act other reference) r).0 other reference r.linked).0;
        links_other = λ a pool other reference flow r. ((fine a pool flow (link.Act other reference) r).0 other reference r.linked).1;
        reads_linked = λ a pool r. state_link a pool StateIn link.Nothing (inl refl) r;
        writes_linked = λ a pool w. state_link a pool StateOut link.Nothing (inr refl) w;
        states = record {
          source = λ a pool writer reference r. state_link a pool StateIn (link.Act writer reference) (inl refl) r;
          previous = λ a pool writer reference w. state_link a pool StateOut (link.Act writer reference) (inr refl) w;
          one_next = λ pool a reference b other previous x y.
              rivals a x.act x.is_act reference x.filled x.is b other y.act y.filled y.is_act y.is (x.of_flow, y.of_flow, x.of_pool ∙ sym y.of_pool, x.linked ∙ sym y.linked);
        };
      }

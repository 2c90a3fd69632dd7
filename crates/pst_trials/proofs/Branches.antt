-- Which actions stand in different branches of one node, as a list that computes.
use Rattle.std.proofs.Common.{◌≡◌, ℕ, zero, suc, ◌<◌, ◌≤◌, List, [], ◌∷◌, inl, Option, Some, None, Bool, true, false, ◌&&◌, ◌||◌, not, nat_eq, nat_lt, if◌then◌else◌, slice_get, refl, sym, subst, ap, ◌∙◌, arith, flat_map, option_and_then, lt-ltb, eq-eqb, ne_eqb, le_refl}
use Rattle.pst_scen.specs.declared.tree.Node.{Node}
use Rattle.pst_scen.specs.declared.tree.Fill.{Fill}
use Rattle.pst_scen.specs.declared.tree.Fill.TheVariants.{Compound, Leaf, Sequence, Parallel, Schedule, Joined, Select, Repeat, Turn, If, Match}
use Rattle.pst_scen.specs.declared.scenario.Scenario.{Scenario}
use Rattle.pst_scen.specs.Tree.{IsChild, StandsUnder, AtTop, Below, Contains-act, RunsInOrder, StandsEarlier}
use Rattle.pst_scen.specs.Plans.{IsParallel, StandParallel}
use Rattle.pst_scen.specs.Laws.{IsPreorder}
use Rattle.pst_trials.proofs.Cases.{EachOf, each_among, Among, among_flat, numbered, among_numbered, false_true}

-- ---- what stands under a node

abbrev pub holds_of : (ℕ → Bool) → Option ℕ → Bool
holds_of test None = false
holds_of test (Some n) = test n

abbrev pub parent_at : List Node → ℕ → Option ℕ
parent_at nodes n = option_and_then (λ node. node.parent) (slice_get nodes n)

-- the node is the top one or stands below it, in so many steps
abbrev pub is_below : List Node → ℕ → ℕ → ℕ → Bool
is_below nodes zero top n = nat_eq top n
is_below nodes (suc steps) top n = nat_eq top n || holds_of (is_below nodes steps top) (parent_at nodes n)

or_left : (a b : Bool) → a ≡ true → (a || b) ≡ true
or_left true b is = refl
or_left false b is = absurd (false_true is)

or_right : (a b : Bool) → b ≡ true → (a || b) ≡ true
or_right true b is = refl
or_right false b is = is

is_own_top : (nodes : List Node) (steps top : ℕ) → is_below nodes steps top top ≡ true
is_own_top nodes zero top = eq-eqb top top refl
is_own_top nodes (suc steps) top = or_left (nat_eq top top) (holds_of (is_below nodes steps top) (parent_at nodes top)) (eq-eqb top top refl)

child_parent : (nodes : List Node) (n parent : ℕ) → IsChild nodes n parent → parent_at nodes n ≡ Some parent
child_parent nodes n parent child = ap (option_and_then (λ node. node.parent)) child.is ∙ child.in_parent

pub under_is_below : (nodes : List Node) → IsPreorder nodes → (top n : ℕ) → StandsUnder nodes top n → (steps : ℕ) → n ≤ steps → is_below nodes steps top n ≡ true
under_is_below nodes preorder top _ AtTop steps enough = is_own_top nodes steps top
under_is_below nodes preorder top _ (Below n parent under child) zero enough =
    let lower : parent < n = preorder.parents n parent child.node child.is child.in_parent in
    absurd (omega arith)
under_is_below nodes preorder top _ (Below n parent under child) (suc steps) enough =
    let lower : parent < n = preorder.parents n parent child.node child.is child.in_parent in
    let less : parent ≤ steps = omega arith in
    let upper : is_below nodes steps top parent ≡ true = under_is_below nodes preorder top parent under steps less in
    or_right (nat_eq top n) (holds_of (is_below nodes steps top) (parent_at nodes n))
    (ap (holds_of (is_below nodes steps top)) (child_parent nodes n parent child) ∙ upper)

-- ---- the actions inside a node

abbrev pub act_if : Bool → Fill → List ℕ
act_if true (Leaf act) = act ∷ []
act_if _ _ = []

abbrev pub acts_inside : List Node → ℕ → List ℕ
acts_inside nodes n = flat_map (λ e. act_if (is_below nodes e.0 n e.0) e.1.fill) (numbered nodes)

act_of_leaf : (inside : Bool) (fill : Fill) (act : ℕ) → inside ≡ true → fill ≡ Leaf act → Among act (act_if inside fill)
act_of_leaf inside fill act is leaf =
    subst (λ b. Among act (act_if b fill)) (sym is) (subst (λ f. Among act (act_if true f)) (sym leaf) (inl refl))

pub contained_is_inside : (nodes : List Node) → IsPreorder nodes → (n act : ℕ) → Contains-act nodes n act → Among act (acts_inside nodes n)
contained_is_inside nodes preorder n act contains =
    let inside : is_below nodes contains.leaf n contains.leaf ≡ true = under_is_below nodes preorder n contains.leaf contains.under contains.leaf (le_refl contains.leaf) in
    among_flat (λ e. act_if (is_below nodes e.0 n e.0) e.1.fill) (numbered nodes) (contains.leaf, contains.node) act
    (among_numbered nodes contains.leaf contains.node contains.is)
    (act_of_leaf (is_below nodes contains.leaf n contains.leaf) contains.node.fill act inside contains.of_act)

-- ---- actions in different branches of one node

-- the node that has the branches, and the two actions
pub record Beside : Type 0 where
  pub parent : ℕ
  pub first : ℕ
  pub second : ℕ

abbrev pub tests_node : (Fill → Bool) → Option Node → Bool
tests_node test None = false
tests_node test (Some node) = test node.fill

abbrev pub fill_test : (Fill → Bool) → List Node → ℕ → Bool
fill_test test nodes n = tests_node test (slice_get nodes n)

abbrev pub pairs : ℕ → List ℕ → List ℕ → List Beside
pairs parent some others = flat_map (λ a. flat_map (λ b. record { parent = parent; first = a; second = b } ∷ []) others) some

abbrev pub by_parents : (ℕ → Bool) → List ℕ → List ℕ → Option ℕ → Option ℕ → List Beside
by_parents test some others None _ = []
by_parents test some others (Some p) None = []
by_parents test some others (Some p) (Some q) = if nat_eq p q && test p then pairs p some others else []

abbrev pub beside_in : (ℕ → ℕ → Bool) → (Fill → Bool) → List Node → ℕ × Node → ℕ × Node → List Beside
beside_in apart test nodes x y =
    if apart x.0 y.0 then by_parents (fill_test test nodes) (acts_inside nodes x.0) (acts_inside nodes y.0) x.1.parent y.1.parent else []

-- the actions in branches that are so apart of a node with such a fill
abbrev pub beside : (ℕ → ℕ → Bool) → (Fill → Bool) → List Node → List Beside
beside apart test nodes = flat_map (λ x. flat_map (beside_in apart test nodes x) (numbered nodes)) (numbered nodes)

among_pairs : (parent : ℕ) (some others : List ℕ) (a b : ℕ) → Among a some → Among b others → Among (record { parent = parent; first = a; second = b }) (pairs parent some others)
among_pairs parent some others a b in_as in_bs =
    among_flat (λ a. flat_map (λ b. record { parent = parent; first = a; second = b } ∷ []) others) some a (record { parent = parent; first = a; second = b }) in_as
    (among_flat (λ b. record { parent = parent; first = a; second = b } ∷ []) others b (record { parent = parent; first = a; second = b }) in_bs (inl refl))

among_if : (b : Bool) (x : Beside) (xs : List Beside) → b ≡ true → Among x xs → Among x (if b then xs else [])
among_if true x xs is among = among
among_if false x xs is among = absurd (false_true is)

both_true : (a b : Bool) → a ≡ true → b ≡ true → (a && b) ≡ true
both_true true b is_a is_b = is_b
both_true false b is_a is_b = is_a

fill_test_of : (test : Fill → Bool) (nodes : List Node) (n : ℕ) (node : Node) → slice_get nodes n ≡ Some node → test node.fill ≡ true → fill_test test nodes n ≡ true
fill_test_of test nodes n node is holds = ap (tests_node test) is ∙ holds

by_parents_of : (test : ℕ → Bool) (some others : List ℕ) (p : ℕ) (first second : Option ℕ) (x : Beside) → first ≡ Some p → second ≡ Some p → test p ≡ true → Among x (pairs p some others) → Among x (by_parents test some others first second)
by_parents_of test some others p first second x is_first is_second holds among =
    subst (λ f. Among x (by_parents test some others f second)) (sym is_first)
    (subst (λ g. Among x (by_parents test some others (Some p) g)) (sym is_second)
    (among_if (nat_eq p p && test p) x (pairs p some others) (both_true (nat_eq p p) (test p) (eq-eqb p p refl) holds) among))

pub beside_has : (apart : ℕ → ℕ → Bool) (test : Fill → Bool) (nodes : List Node) → IsPreorder nodes → (p : ℕ) (node : Node) (m n a b : ℕ)
    → slice_get nodes p ≡ Some node → test node.fill ≡ true → apart m n ≡ true → IsChild nodes m p → IsChild nodes n p
    → Contains-act nodes m a → Contains-act nodes n b → Among (record { parent = p; first = a; second = b }) (beside apart test nodes)
beside_has apart test nodes preorder p node m n a b is holds are_apart first second a_inside b_inside =
    let x : Beside = record { parent = p; first = a; second = b } in
    let here : Among x (pairs p (acts_inside nodes m) (acts_inside nodes n)) =
    among_pairs p (acts_inside nodes m) (acts_inside nodes n) a b (contained_is_inside nodes preorder m a a_inside) (contained_is_inside nodes preorder n b b_inside) in
    let by : Among x (by_parents (fill_test test nodes) (acts_inside nodes m) (acts_inside nodes n) first.node.parent second.node.parent) =
    by_parents_of (fill_test test nodes) (acts_inside nodes m) (acts_inside nodes n) p first.node.parent second.node.parent x first.in_parent second.in_parent
    (fill_test_of test nodes p node is holds) here in
    among_flat (λ x. flat_map (beside_in apart test nodes x) (numbered nodes)) (numbered nodes) (m, first.node) x (among_numbered nodes m first.node first.is)
    (among_flat (beside_in apart test nodes (m, first.node)) (numbered nodes) (n, second.node) x (among_numbered nodes n second.node second.is)
    (among_if (apart m n) x (by_parents (fill_test test nodes) (acts_inside nodes m) (acts_inside nodes n) first.node.parent second.node.parent) are_apart by))

-- ---- earlier statements, and branches in parallel

abbrev pub runs_in_order : Fill → Bool
runs_in_order (Compound action instance fields) = true
runs_in_order Sequence = true
runs_in_order Repeat = true
runs_in_order _ = false

abbrev pub is_parallel : Fill → Bool
is_parallel Parallel = true
is_parallel (Joined parallel joined) = parallel
is_parallel _ = false

in_order : (fill : Fill) → RunsInOrder fill → runs_in_order fill ≡ true
in_order (Compound action instance fields) is = refl
in_order Sequence is = refl
in_order Repeat is = refl
in_order (Leaf act) is = absurd is
in_order Parallel is = absurd is
in_order Schedule is = absurd is
in_order (Joined parallel joined) is = absurd is
in_order (Select branch) is = absurd is
in_order (Turn index) is = absurd is
in_order (If taken) is = absurd is
in_order (Match arm) is = absurd is

parallel : (fill : Fill) → IsParallel fill → is_parallel fill ≡ true
parallel Parallel is = refl
parallel (Joined p joined) is = is
parallel (Compound action instance fields) is = absurd is
parallel Sequence is = absurd is
parallel Repeat is = absurd is
parallel (Leaf act) is = absurd is
parallel Schedule is = absurd is
parallel (Select branch) is = absurd is
parallel (Turn index) is = absurd is
parallel (If taken) is = absurd is
parallel (Match arm) is = absurd is

-- by sequence: an action in an earlier statement, and one in a later
abbrev pub earliers : List Node → List Beside
earliers nodes = beside nat_lt runs_in_order nodes

-- by parallel block: two actions in different branches
abbrev pub parallels : List Node → List Beside
parallels nodes = beside (λ m n. not (nat_eq m n)) is_parallel nodes

pub each_earlier : (Q : ℕ → ℕ → ℕ → Type 0) (nodes : List Node) → IsPreorder nodes → EachOf (λ x. Q x.parent x.first x.second) (earliers nodes)
    → (sequence a b : ℕ) → StandsEarlier nodes sequence a b → Q sequence a b
each_earlier Q nodes preorder facts sequence a b earlier =
    each_among (λ x. Q x.parent x.first x.second) (earliers nodes) facts (record { parent = sequence; first = a; second = b })
    (beside_has nat_lt runs_in_order nodes preorder sequence earlier.is_sequence.node earlier.earlier earlier.later a b earlier.is_sequence.is
    (in_order earlier.is_sequence.node.fill earlier.is_sequence.in_order) (lt-ltb earlier.earlier earlier.later earlier.order)
    earlier.earlier_child earlier.later_child earlier.a_inside earlier.b_inside)

not_false : (b : Bool) → b ≡ false → not b ≡ true
not_false b is = ap not is

pub each_parallel : (Q : ℕ → ℕ → Type 0) (s : Scenario) → IsPreorder s.nodes → EachOf (λ x. Q x.first x.second) (parallels s.nodes)
    → (a b : ℕ) → StandParallel s a b → Q a b
each_parallel Q s preorder facts a b stand =
    each_among (λ x. Q x.first x.second) (parallels s.nodes) facts (record { parent = stand.block; first = a; second = b })
    (beside_has (λ m n. not (nat_eq m n)) is_parallel s.nodes preorder stand.block stand.node stand.a_branch stand.b_branch a b stand.is
    (parallel stand.node.fill stand.parallel) (not_false (nat_eq stand.a_branch stand.b_branch) (ne_eqb stand.a_branch stand.b_branch stand.different))
    stand.a_child stand.b_child stand.a_inside stand.b_inside)

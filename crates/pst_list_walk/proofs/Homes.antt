-- Leaves and their actions name each other in what is read of the activity and the sources.
use Rattle.std.proofs.Common.{◌≡◌, ◌⊎◌, ℕ, ℤ, zero, suc, ◌<◌, List, [], ◌∷◌, ◌++◌, length, Option, Some, None, refl, sym, ap, ◌∙◌, subst, inl, inr, ⊎_elim, arith}
use Rattle.std.specs.Prelude.{slice_get}
use Rattle.std.proofs.lemmas.List.{map-append, length-map}
use Rattle.std.proofs.lemmas.Option.{none-some, same_Some, slice_get-map, slice_get_within}
use Rattle.pst_model.specs.declared.action.Field.{Field}
use Rattle.pst_model.specs.ModelTree.{ModelTree}
use Rattle.pst_scen.specs.declared.act.Act.{Act}
use Rattle.pst_scen.specs.declared.act.Link.TheVariants as link
use Rattle.pst_scen.specs.declared.tree.Node.{Node}
use Rattle.pst_scen.specs.declared.tree.Fill.{Fill}
use Rattle.pst_scen.specs.declared.tree.Fill.TheVariants as fill
use Rattle.pst_scen.specs.declared.scenario.Scenario.{Scenario}
use Rattle.pst_scen.specs.Scenarios.{leaf_of}
use Rattle.pst_legal.specs.Growing.{nothing_yet, Look, Inner, Leaf, open_act, with_look}
use Rattle.pst_legal.specs.Menus.{Menu, Way, Place, Weighted, Closed, menu}
use Rattle.pst_legal.specs.Reading.{Wants, then_read, put_value, value_number, read_tree}
use Rattle.pst_legal.specs.SupplyReading.{Spot, Source, Initially, From, New, put_link, linked_to, supplied_by, read_supply}
use Rattle.pst_built.specs.Onward.{MoreValues}
use Rattle.pst_built.specs.StepsOf.{FieldSteps, AllWays}
use Rattle.pst_built.proofs.Goes.{Stands, stands, goes_then}
use Rattle.pst_built.proofs.Readers.{goes_tree, goes_supply}
use Rattle.pst_built.proofs.Bares.{node_in, nodes_in, nodes_put}
use Rattle.pst_built.proofs.Linking.{nodes_linked}
use Rattle.pst_built.proofs.Parents.{get_more, get_last, get_cases}
use Rattle.pst_built.proofs.Lists.{get_mapped}
use Rattle.pst_built.proofs.Leaves.{length_put}
use Rattle.pst_built.proofs.Nodes.{onward_put}
use Rattle.pst_built.proofs.Looks.{IsLook, menu_looks}
use Rattle.pst_built.proofs.Ways.{Ways}
use Rattle.pst_slots.proofs.Children.{behind}

-- each leaf is the node of its action, and the node of an action is its leaf
record AreHome (nodes : List Node) (homes : List (Option ℕ)) : Type 0 where
  leaves : (n a : ℕ) (node : Node) → slice_get nodes n ≡ Some node → node.fill ≡ fill.Leaf a → slice_get homes a ≡ Some (Some n)
  acts : (a n : ℕ) → slice_get homes a ≡ Some (Some n) → (node : Node) × (slice_get nodes n ≡ Some node) × (node.fill ≡ fill.Leaf a)

abbrev Home : Scenario → Type 0
Home s = AreHome s.nodes (nodes_in s.actions)

abbrev Keeps : Scenario → Scenario → Type 0
Keeps s t = Home s → Home t

-- ---- one node more

no_leaf : (f : Fill) (n a : ℕ) → leaf_of n f ≡ [] → f ≡ fill.Leaf a → ⊥
no_leaf f n a none e =
    let one : ((a, n) ∷ []) ≡ [] = sym (ap (leaf_of n) e) ∙ none in
    none-some (a, n) (ap (λ (xs : List (ℕ × ℕ)). slice_get xs 0) (sym one))

inner_home : (nodes : List Node) (homes : List (Option ℕ)) (parent : Option ℕ) (f : Fill) → ((n : ℕ) → leaf_of n f ≡ []) → AreHome nodes homes → AreHome (nodes ++ record { parent = parent; fill = f } ∷ []) homes
inner_home nodes homes parent f inner home =
    let x : Node = record { parent = parent; fill = f } in
    record {
      leaves = λ n a node is of. ⊎_elim (λ old. home.leaves n a node old of)
          (λ new. absurd (no_leaf f n a (inner n) (ap (λ (y : Node). y.fill) new.1 ∙ of)))
          (get_cases nodes x n node is);
      acts = λ a n is. let y = home.acts a n is in (y.0, get_more nodes (x ∷ []) n y.0 y.1, y.2);
    }

leaf_home : (nodes : List Node) (homes : List (Option ℕ)) (parent : Option ℕ) → AreHome nodes homes → AreHome (nodes ++ record { parent = parent; fill = fill.Leaf (length homes) } ∷ []) (homes ++ Some (length nodes) ∷ [])
leaf_home nodes homes parent home =
    let x : Node = record { parent = parent; fill = fill.Leaf (length homes) } in
    let last : slice_get (homes ++ Some (length nodes) ∷ []) (length homes) ≡ Some (Some (length nodes)) = get_last homes (Some (length nodes)) in
    record {
      leaves = λ n a node is of. ⊎_elim (λ old. get_more homes (Some (length nodes) ∷ []) a (Some n) (home.leaves n a node old of))
          (λ new.
          let same : fill.Leaf (length homes) ≡ fill.Leaf a = ap (λ (y : Node). y.fill) new.1 ∙ of in
          let number : length homes ≡ a = same_leaf (length homes) a same in
          subst (λ k. slice_get (homes ++ Some (length nodes) ∷ []) k ≡ Some (Some n)) number
          (subst (λ k. slice_get (homes ++ Some (length nodes) ∷ []) (length homes) ≡ Some (Some k)) (sym new.0) last))
          (get_cases nodes x n node is);
      acts = λ a n is. ⊎_elim
          (λ old. let y = home.acts a n old in (y.0, get_more nodes (x ∷ []) n y.0 y.1, y.2))
          (λ new.
          let number : length nodes ≡ n = same_Some (length nodes) n new.1 in
          (x, subst (λ k. slice_get (nodes ++ x ∷ []) k ≡ Some x) number (get_last nodes x), ap fill.Leaf (sym new.0)))
          (get_cases homes (Some (length nodes)) a (Some n) is);
    }
  where
    same_leaf : (b a : ℕ) → fill.Leaf b ≡ fill.Leaf a → b ≡ a
    same_leaf b a e = cc

look_keeps : (m : ModelTree) (s : Scenario) (parent : Option ℕ) (look : Look) → IsLook look → Keeps s (with_look m s parent look)
look_keeps m s parent (Inner f) inner home = inner_home s.nodes (nodes_in s.actions) parent f inner home
look_keeps m s parent (Leaf action instance) inner home =
    let act = open_act m action instance (Some (length s.nodes)) in
    subst (λ hs. AreHome (s.nodes ++ record { parent = parent; fill = fill.Leaf (length s.actions) } ∷ []) hs) (sym (map-append node_in s.actions (act ∷ [])))
    (subst (λ k. AreHome (s.nodes ++ record { parent = parent; fill = fill.Leaf k } ∷ []) (nodes_in s.actions ++ Some (length s.nodes) ∷ [])) (length-map s.actions node_in) (leaf_home s.nodes (nodes_in s.actions) parent home))

-- ---- a value more

leaf_more : (f g : Fill) (a : ℕ) → (g ≡ f) ⊎ MoreValues f g → f ≡ fill.Leaf a → g ≡ fill.Leaf a
leaf_more f g a (inl e) of = e ∙ of
leaf_more f g a (inr more) of = absurd (no_compound more.action more.instance more.old a (sym more.was ∙ of))
  where
    no_compound : (action instance : ℕ) (values : List ℤ) (a : ℕ) → fill.Compound action instance values ≡ fill.Leaf a → ⊥
    no_compound action instance values a e = cc

leaf_less : (f g : Fill) (a : ℕ) → (g ≡ f) ⊎ MoreValues f g → g ≡ fill.Leaf a → f ≡ fill.Leaf a
leaf_less f g a (inl e) of = sym e ∙ of
leaf_less f g a (inr more) of = absurd (no_compound more.action more.instance more.new a (sym more.is ∙ of))
  where
    no_compound : (action instance : ℕ) (values : List ℤ) (a : ℕ) → fill.Compound action instance values ≡ fill.Leaf a → ⊥
    no_compound action instance values a e = cc

there : {A : Type 0} (xs : List A) (n : ℕ) → n < length xs → (x : A) × (slice_get xs n ≡ Some x)
there [] n l = absurd (omega (arith, l))
there (x ∷ xs) zero l = (x, refl)
there (x ∷ xs) (suc n) l = there xs n (omega (arith, l))

put_keeps : (s : Scenario) (n : ℕ) (v : ℤ) → Keeps s (put_value s n v)
put_keeps s n v home =
    let t = put_value s n v in
    let more = (onward_put s n v).nodes in
    record {
      leaves = λ k a node is of.
          let within = slice_get_within t.nodes k node is in
          let long = length_put s.nodes n v in
          let x = there s.nodes k (omega (arith, within, long)) in
          let y = more k x.0 x.1 in
          let same : y.0 ≡ node = same_Some y.0 node (sym y.1 ∙ is) in
          home.leaves k a x.0 x.1 (leaf_less x.0.fill y.0.fill a y.2.fill (ap (λ (z : Node). z.fill) same ∙ of));
      acts = λ a k is.
          let x = home.acts a k is in
          let y = more k x.0 x.1 in
          (y.0, y.1, leaf_more x.0.fill y.0.fill a y.2.fill x.2);
    }

field_steps : (n : ℕ) (fields : List Field) (s : Scenario) → FieldSteps Keeps n fields s
field_steps n [] s = tt
field_steps n (field ∷ fields) s = λ k l. (put_keeps s n (value_number field k), field_steps n fields (put_value s n (value_number field k)))

-- ---- sources

same_keeps : (s : Scenario) (acts : List Act) → nodes_in acts ≡ nodes_in s.actions → Keeps s (record s { actions = acts })
same_keeps s acts same home = subst (AreHome s.nodes) (sym same) home

inferred_home : (nodes : List Node) (homes : List (Option ℕ)) → AreHome nodes homes → AreHome nodes (homes ++ None ∷ [])
inferred_home nodes homes home = record {
  leaves = λ n a node is of. get_more homes (None ∷ []) a (Some n) (home.leaves n a node is of);
  acts = λ a n is. ⊎_elim (λ old. home.acts a n old) (λ new. absurd (none-some n new.1)) (get_cases homes None a (Some n) is);
}

pushed : (m : ModelTree) (s : Scenario) (action instance : ℕ) → Keeps s (record s { actions = s.actions ++ open_act m action instance None ∷ [] })
pushed m s action instance home = subst (AreHome s.nodes) (sym (map-append node_in s.actions (open_act m action instance None ∷ []))) (inferred_home s.nodes (nodes_in s.actions) home)

source_keeps : (m : ModelTree) (s : Scenario) (need : Spot) (source : Source) → Keeps s (supplied_by m s need source)
source_keeps m s need Initially home = same_keeps s (put_link need.act need.reference link.Initial s.actions) (nodes_put need.act need.reference link.Initial s.actions) home
source_keeps m s need (From b q) home = same_keeps s (linked_to need b q s.actions) (nodes_linked need b q s.actions) home
source_keeps m s need (New action instance q) home =
    let acts = s.actions ++ open_act m action instance None ∷ [] in
    same_keeps (record s { actions = acts }) (linked_to need (length s.actions) q acts) (nodes_linked need (length s.actions) q acts) (pushed m s action instance home)

-- ---- all that is read

keeps_same : (s : Scenario) → Keeps s s
keeps_same s home = home

keeps_then : (s t u : Scenario) → Keeps s t → Keeps t u → Keeps s u
keeps_then s t u one other home = other (one home)

all_looks : (x : Menu) → Ways (λ look fields below. IsLook look) x → AllWays (λ look fields. IsLook look) x
all_looks (Way look fields below) is = is
all_looks (Place n after) is = λ k. all_looks (after k) (is k)
all_looks (Weighted weights after) is = λ k. all_looks (after k) (is k)
all_looks Closed is = tt

stay_home : (m : ModelTree) (root seed level : ℕ) (choices : List ℕ) → Stands Keeps (nothing_yet level) (then_read (read_tree m seed root (nothing_yet level) 0 choices) (read_supply m seed))
stay_home m root seed level choices =
    let start = nothing_yet level in
    stands Keeps start (then_read (read_tree m seed root start 0 choices) (read_supply m seed)) (λ more. then_read (read_tree m seed root start 0 (choices ++ more)) (read_supply m seed))
    (goes_then Keeps keeps_then start (read_tree m seed root start 0 choices) (λ more. read_tree m seed root start 0 (choices ++ more)) (read_supply m seed)
    (goes_tree Keeps keeps_same keeps_then m (λ look fields. IsLook look) (λ piece. all_looks (menu m piece) (menu_looks m piece))
    (λ s parent look fields is. (look_keeps m s parent look is, field_steps (length s.nodes) fields (with_look m s parent look))) seed root start 0 choices)
    (λ t q rest has. goes_supply Keeps keeps_same keeps_then m seed (λ s need source k is there. source_keeps m s need source) rest t q))

no_homes : AreHome [] []
no_homes = record { leaves = λ n a node is of. absurd (none-some node is); acts = λ a n is. absurd (none-some (Some n) is) }

-- at a place of the activity or of the sources
home_at : (m : ModelTree) (root seed level : ℕ) (choices : List ℕ) (s : Scenario) (n : ℕ) → then_read (read_tree m seed root (nothing_yet level) 0 choices) (read_supply m seed) ≡ Wants s n → Home s
home_at m root seed level choices s n e =
    let on : Keeps (nothing_yet level) s = subst (Stands Keeps (nothing_yet level)) e (stay_home m root seed level choices) in
    on no_homes

module _ (m : ModelTree) (root seed level : ℕ) (choices : List ℕ) (s : Scenario) (n : ℕ) (reads : then_read (read_tree m seed root (nothing_yet level) 0 choices) (read_supply m seed) ≡ Wants s n) where
  pub leaves_named : (k a : ℕ) (node : Node) → slice_get s.nodes k ≡ Some node → node.fill ≡ fill.Leaf a → (act : Act) × (slice_get s.actions a ≡ Some act) × (act.node ≡ Some k)
  leaves_named k a node is of =
      let at = (home_at m root seed level choices s n reads).leaves k a node is of in
      behind node_in (slice_get s.actions a) (Some k) (sym (slice_get-map node_in s.actions a) ∙ at)

  pub acts_named : (a k : ℕ) (act : Act) → slice_get s.actions a ≡ Some act → act.node ≡ Some k → (node : Node) × (slice_get s.nodes k ≡ Some node) × (node.fill ≡ fill.Leaf a)
  acts_named a k act is home =
      (home_at m root seed level choices s n reads).acts a k (get_mapped node_in s.actions a act is ∙ ap Some home)

-- What a walk answers, by the walk over the sources if there is one.
use Rattle.std.proofs.Common.{◌≡◌, ℕ, ◌+◌, List, [], ◌∷◌, ◌++◌, map, length, Option, Some, None, refl, sym, ap, ◌∙◌, subst, append-nil, append_assoc, length-append, arith}
use Rattle.pst_model.specs.declared.model.Model.{Model}
use Rattle.pst_model.specs.ModelView.{view_model}
use Rattle.pst_scen.specs.declared.act.Act.{Act}
use Rattle.pst_scen.specs.declared.tree.Node.{Node}
use Rattle.pst_scen.specs.declared.scenario.Scenario.{Scenario}
use Rattle.pst_legal.specs.Reading.{Reading, Wants, Stops, Reads}
use Rattle.pst_legal.specs.SupplyReading.{Spot, Source, Initially, From, New, supplied_by, read_supply}
use Rattle.pst_model.specs.ModelTree.{ModelTree}
use Rattle.pst_legal.specs.ValueReading.{Answer, Options, Dead, Whole, answer_of}
use Rattle.pst_built.proofs.Goes.{Stands as Relates, stands}
use Rattle.pst_built.proofs.Readers.{goes_supply}
use Rattle.pst_shape_parts.specs.Trees.{bare}
use Rattle.pst_shape.specs.Walks.{next_of, IfRead, HasDigit}
use Rattle.pst_open_ends.specs.Changes.{opened}
use Rattle.pst_supply.specs.Walks.{Kept as Supply, answer as supply_answer}
use Rattle.pst_supply.specs.Walks.{next_of as supply_next_of, IfRead as SupplyRead, HasDigit as SupplyDigit}
use Rattle.pst_link_walk.specs.Walks.{Kept, with_choice, tree_reading, answer}
use Rattle.pst_link_walk.specs.Made.{IsInside, choices_of, IsBehind, Stands}
use Rattle.pst_link_walk.proofs.Walking.{behind_reads, supply_answers}
use Rattle.pst_link_walk.proofs.Plain.{IsPlain, IfThere, plain_tree}
use Rattle.pst_link_walk.proofs.Beginning.{inside_answers}

pub next_same : (a : Answer) → supply_next_of a ≡ next_of a
next_same (Options s n) = refl
next_same Dead = refl
next_same (Whole s) = refl

pub read_same : (a : Answer) (P : Scenario → Type 0) → SupplyRead a P → IfRead a P
read_same (Options s n) P h = h
read_same Dead P h = tt
read_same (Whole s) P h = h

pub digit_same : (a : Answer) (d : ℕ) → HasDigit a d → SupplyDigit a d
digit_same (Options s n) d h = h
digit_same Dead d h = absurd h
digit_same (Whole s) d h = absurd h

pub read_more : (a : Answer) (P Q : Scenario → Type 0) → ((s : Scenario) → P s → Q s) → IfRead a P → IfRead a Q
read_more (Options s n) P Q each h = each s h
read_more Dead P Q each h = tt
read_more (Whole s) P Q each h = each s h

module _ (m : Model) (root seed level : ℕ) where
  abbrev pub kept_at : List ℕ → Kept
  kept_at choices = record { model = m; root = root; seed = seed; level = level; choices = choices }

  pub none_stands : (xs : List ℕ) (supply : Option Supply) → supply ≡ None → Stands m root seed level xs supply → IsInside (tree_reading m root seed level xs)
  none_stands xs supply e stands = subst (Stands m root seed level xs) e stands

  pub some_stands : (xs : List ℕ) (supply : Option Supply) (k : Supply) → supply ≡ Some k → Stands m root seed level xs supply → IsBehind m root seed level xs k
  some_stands xs supply k e stands = subst (Stands m root seed level xs) e stands

  pub none_answers : (xs : List ℕ) (supply : Option Supply) → supply ≡ None → Stands m root seed level xs supply → answer (kept_at (xs ++ choices_of supply)) ≡ answer_of (tree_reading m root seed level xs)
  none_answers xs supply e stands = ap (λ o. answer (kept_at (xs ++ choices_of o))) e ∙ inside_answers m root seed level xs (none_stands xs supply e stands)

  pub some_answers : (xs : List ℕ) (supply : Option Supply) (k : Supply) → supply ≡ Some k → Stands m root seed level xs supply → answer (kept_at (xs ++ choices_of supply)) ≡ supply_answer k
  some_answers xs supply k e stands = ap (λ o. answer (kept_at (xs ++ choices_of o))) e ∙ sym (supply_answers m root seed level xs k (some_stands xs supply k e stands))

  pub many : (xs : List ℕ) (supply : Option Supply) (made linked n : ℕ) → made ≡ length xs → linked ≡ length (choices_of supply) → n ≡ made + linked → n ≡ length (xs ++ choices_of supply)
  many xs supply made linked n a b e = let sum : length (xs ++ choices_of supply) ≡ length xs + length (choices_of supply) = length-append xs (choices_of supply) in omega (arith, a, b, e, sum)

  -- the leaves, opened, are the actions
  opened_by : (leaves acts : List Act) → acts ≡ map (opened (view_model m)) leaves → (r : Reading) → IfThere (IsPlain (view_model m) level) r → IfRead (answer_of r) (λ s. leaves ≡ map bare s.actions) → IfRead (answer_of r) (λ s. acts ≡ s.actions)
  opened_by leaves acts made (Wants s n) plain same = made ∙ ap (map (opened (view_model m))) same ∙ plain.acts
  opened_by leaves acts made Stops plain same = tt
  opened_by leaves acts made (Reads s q []) plain same = made ∙ ap (map (opened (view_model m))) same ∙ plain.acts
  opened_by leaves acts made (Reads s q (d ∷ left)) plain same = tt

  pub opened_acts : (xs : List ℕ) (leaves acts : List Act) → acts ≡ map (opened (view_model m)) leaves → IfRead (answer_of (tree_reading m root seed level xs)) (λ s. leaves ≡ map bare s.actions)
      → IfRead (answer_of (tree_reading m root seed level xs)) (λ s. acts ≡ s.actions)
  opened_acts xs leaves acts made same = opened_by leaves acts made (tree_reading m root seed level xs) (plain_tree (view_model m) level seed root xs) same

-- ---- the nodes stay

-- sources change no node
abbrev SameNodes : Scenario → Scenario → Type 0
SameNodes s u = u.nodes ≡ s.nodes

nodes_by : (t : Scenario) (r : Reading) (nodes : List Node) → nodes ≡ t.nodes → Relates SameNodes t r → IfRead (answer_of r) (λ s. nodes ≡ s.nodes)
nodes_by t (Wants s n) nodes e same = e ∙ sym same
nodes_by t Stops nodes e same = tt
nodes_by t (Reads s q []) nodes e same = e ∙ sym same
nodes_by t (Reads s q (d ∷ left)) nodes e same = tt

same_nodes_of : (m : ModelTree) (s : Scenario) (need : Spot) (source : Source) → SameNodes s (supplied_by m s need source)
same_nodes_of m s need Initially = refl
same_nodes_of m s need (From b q) = refl
same_nodes_of m s need (New action instance q) = refl

pub supply_nodes : (m : ModelTree) (seed : ℕ) (t : Scenario) (q : ℕ) (ys : List ℕ) → Relates SameNodes t (read_supply m seed t q ys)
supply_nodes m seed t q ys =
    stands SameNodes t (read_supply m seed t q ys) (λ more. read_supply m seed t q (ys ++ more))
    (goes_supply SameNodes (λ s. refl) (λ s t u a b. b ∙ a) m seed (λ s need source k is there. same_nodes_of m s need source) ys t q)

module _ (m : Model) (root seed level : ℕ) where
  -- the nodes that the walk through the activity has
  pub behind_nodes : (xs : List ℕ) (k : Supply) (nodes : List Node) → IsBehind m root seed level xs k → IfRead (answer_of (tree_reading m root seed level xs)) (λ s. nodes ≡ s.nodes)
      → IfRead (answer (record { model = m; root = root; seed = seed; level = level; choices = xs ++ k.choices })) (λ s. nodes ≡ s.nodes)
  behind_nodes xs k nodes behind same =
      let e : nodes ≡ behind.tree.nodes = subst (λ r. IfRead (answer_of r) (λ s. nodes ≡ s.nodes)) behind.reads same in
      subst (λ r. IfRead (answer_of r) (λ s. nodes ≡ s.nodes)) (sym (behind_reads m root seed level xs k behind k.choices))
      (nodes_by behind.tree (read_supply (view_model m) seed behind.tree behind.place k.choices) nodes e (supply_nodes (view_model m) seed behind.tree behind.place k.choices))

  -- ---- one choice more, and one less

  abbrev at_list : List ℕ → Kept
  at_list choices = record { model = m; root = root; seed = seed; level = level; choices = choices }

  pub more_links : (xs : List ℕ) (k l : Supply) (d : ℕ) → l ≡ record k { choices = k.choices ++ d ∷ [] } → at_list (xs ++ l.choices) ≡ with_choice (at_list (xs ++ k.choices)) d
  more_links xs k l d e = ap (λ (x : Supply). at_list (xs ++ x.choices)) e ∙ ap at_list (sym (append_assoc xs k.choices (d ∷ [])))

  pub links_more : (xs : List ℕ) (supply : Option Supply) (k l : Supply) (d : ℕ) → supply ≡ Some k → l ≡ record k { choices = k.choices ++ d ∷ [] } → at_list (xs ++ l.choices) ≡ with_choice (at_list (xs ++ choices_of supply)) d
  links_more xs supply k l d is e = more_links xs k l d e ∙ ap (λ o. with_choice (at_list (xs ++ choices_of o)) d) (sym is)

  pub one_linked : (k l : Supply) (d n : ℕ) → n ≡ length k.choices → l ≡ record k { choices = k.choices ++ d ∷ [] } → n + 1 ≡ length l.choices
  one_linked k l d n many e =
      let sum : length (k.choices ++ d ∷ []) ≡ length k.choices + 1 = length-append k.choices (d ∷ []) in
      let longer : length l.choices ≡ length (k.choices ++ d ∷ []) = ap (λ (x : Supply). length x.choices) e in
      omega (arith, many, sum, longer)

  -- with no choice of a source, the last choice is one of the activity
  pub only_shape : (xs : List ℕ) (supply : Option Supply) → length (choices_of supply) ≡ 0 → xs ++ choices_of supply ≡ xs
  only_shape xs supply none = ap (λ ys. xs ++ ys) (nothing (choices_of supply) none) ∙ append-nil xs
    where
      nothing : (ys : List ℕ) → length ys ≡ 0 → ys ≡ []
      nothing [] e = refl
      nothing (y ∷ ys) e = absurd (omega (arith, e))

  pub nodes_are : (xs : List ℕ) (supply : Option Supply) (nodes : List Node) → Stands m root seed level xs supply → IfRead (answer_of (tree_reading m root seed level xs)) (λ s. nodes ≡ s.nodes)
      → IfRead (answer (at_list (xs ++ choices_of supply))) (λ s. nodes ≡ s.nodes)
  nodes_are xs None nodes stands same = subst (λ a. IfRead a (λ s. nodes ≡ s.nodes)) (sym (inside_answers m root seed level xs stands)) same
  nodes_are xs (Some k) nodes stands same = behind_nodes xs k nodes stands same

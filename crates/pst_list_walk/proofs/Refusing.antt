-- What is told of the constraints of a list, by its parts.
use Rattle.std.proofs.Common.{◌≡◌, ℕ, List, [], ◌++◌, Bool, Option, Some, None, refl, sym, ap, ◌∙◌, subst, append-nil}
use Rattle.pst_model.specs.declared.model.Model.{Model}
use Rattle.pst_model.specs.ModelTree.{ModelTree}
use Rattle.pst_model.specs.ModelView.{view_model}
use Rattle.pst_scen.specs.declared.act.Act.{Act}
use Rattle.pst_scen.specs.declared.tree.Node.{Node}
use Rattle.pst_scen.specs.declared.scenario.First.{First}
use Rattle.pst_scen.specs.declared.scenario.Scenario.{Scenario}
use Rattle.pst_legal.specs.Reading.{Reading, Wants, Stops, Reads}
use Rattle.pst_legal.specs.ValueReading.{Answer, Options, Dead, Whole, answer_of}
use Rattle.pst_shape.specs.Walks.{IfRead}
use Rattle.pst_read_domains.specs.ReadNodesLaws.{NodesStandForPieces}
use Rattle.pst_refusals.specs.Answers.{StandEarlier, TellsRefusals}
use Rattle.pst_plan_so_far.specs.Laws.{ReadsSources}
use Rattle.pst_order_ahead.specs.LaidOut.{ReadsTree}
use Rattle.pst_value_walk.specs.Walks.{Kept as Values, answer as value_answer}
use Rattle.pst_value_walk.specs.Walks.{IfRead as ValueRead}
use Rattle.pst_link_walk.specs.Walks.{Kept, reading, AtEnd, HasTree}
use Rattle.pst_link_walk.specs.Walks.{answer as link_answer}
use Rattle.pst_link_walk.specs.Made.{IsInside}
use Rattle.pst_list_walk.specs.Walks.{answer, IsRead}
use Rattle.pst_list_walk.specs.Made.{choices_of, kept_at, linked_of, Stands}
use Rattle.pst_list_walk.proofs.Seen.{scenario_by, same_scenario, tells, earlier_in, inside_level, inside_firsts}
use Rattle.pst_list_walk.proofs.Answering.{read_same, none_stands, some_stands, none_answers, some_answers, behind_sources}

-- ---- copies

-- what the sources came to, with copies of the nodes and the actions
pub made_copy : (a : Answer) (level : ℕ) (nodes read : List Node) (acts : List Act) (firsts : List First) → nodes ≡ read → firsts ≡ [] → IfRead a (λ t. read ≡ t.nodes) → IfRead a (λ t. acts ≡ t.actions)
    → IfRead a (λ t. scenario_by level nodes acts firsts ≡ linked_of level t)
made_copy (Options s n) level nodes read acts firsts same none ns acs =
    ap (λ x. scenario_by level x acts firsts) (same ∙ ns) ∙ ap (λ x. scenario_by level s.nodes x firsts) acs ∙ ap (λ x. scenario_by level s.nodes s.actions x) none
made_copy Dead level nodes read acts firsts same none ns acs = tt
made_copy (Whole s) level nodes read acts firsts same none ns acs =
    ap (λ x. scenario_by level x acts firsts) (same ∙ ns) ∙ ap (λ x. scenario_by level s.nodes x firsts) acs ∙ ap (λ x. scenario_by level s.nodes s.actions x) none

-- a scenario that is being linked has the level that was asked for and no first objects
linked_in : (k : Kept) (r : Reading) (s : Scenario) → IsInside r → AtEnd k r → IfRead (answer_of r) (λ t. s ≡ linked_of k.level t) → IfRead (answer_of r) (λ t. s ≡ t)
linked_in k (Wants t n) s inside end same = same ∙ same_scenario t k.level t.nodes t.actions [] (sym end.0) refl refl (sym end.1)
linked_in k Stops s inside end same = tt
linked_in k (Reads t place left) s inside end same = absurd inside

pub told_of : (m : ModelTree) (s : Scenario) (nodes : List Node) (actions : List Act) (firsts : List First) (r : Bool) → nodes ≡ s.nodes → actions ≡ s.actions → firsts ≡ s.firsts → TellsRefusals m (scenario_by s.level nodes actions firsts) r
    → TellsRefusals m s r
told_of m s nodes actions firsts r n a f told = subst (λ t. TellsRefusals m t r) (same_scenario s s.level nodes actions firsts refl n a f) told

-- ---- what is read of a list

read_nodes : (a : Answer) (r : Scenario) → IfRead a (λ s. r ≡ s) → IfRead a (λ s. r.nodes ≡ s.nodes)
read_nodes (Options s n) r e = ap (λ (x : Scenario). x.nodes) e
read_nodes Dead r e = tt
read_nodes (Whole s) r e = ap (λ (x : Scenario). x.nodes) e

-- each node of the scenario has its parent before it
pub earlier_of : NodesStandForPieces → (k : Kept) (r : Scenario) → IsRead (answer k) → IfRead (answer k) (λ s. r ≡ s) → StandEarlier r.nodes
earlier_of law k r is same = earlier_in law (view_model k.model) k.root k.seed k.level k.choices r.nodes is (read_nodes (answer k) r same)

pub tells_same : (m : ModelTree) (a : Answer) (r : Scenario) (b : Bool) → IfRead a (λ s. r ≡ s) → TellsRefusals m r b → IfRead a (λ s. TellsRefusals m s b)
tells_same m (Options s n) r b e told = subst (λ t. TellsRefusals m t b) e told
tells_same m Dead r b e told = tt
tells_same m (Whole s) r b e told = subst (λ t. TellsRefusals m t b) e told

module _ (m : Model) (root seed level : ℕ) where
  abbrev all_of : List ℕ → Option Values → Kept
  all_of xs values = kept_at m root seed level (xs ++ choices_of values)

  -- ---- before the sources are read through

  pub inside_is : (links : Kept) (values : Option Values) → links ≡ kept_at m root seed level links.choices → values ≡ None → Stands m root seed level links.choices values → link_answer links ≡ answer (all_of links.choices values)
  inside_is links values e none stands = ap link_answer e ∙ sym (none_answers m root seed level links.choices values none stands)

  pub inside_earlier : NodesStandForPieces → (links : Kept) (values : Option Values) (nodes : List Node) → links ≡ kept_at m root seed level links.choices → values ≡ None → Stands m root seed level links.choices values
      → IsRead (answer (all_of links.choices values)) → IfRead (link_answer links) (λ s. nodes ≡ s.nodes) → StandEarlier nodes
  inside_earlier law links values nodes e none stands is same =
      earlier_in law (view_model m) root seed level (links.choices ++ choices_of values) nodes is (subst (λ a. IfRead a (λ s. nodes ≡ s.nodes)) (inside_is links values e none stands) same)

  pub inside_tells : (links : Kept) (values : Option Values) (nodes : List Node) (acts : List Act) (firsts : List First) (r : Bool) → links ≡ kept_at m root seed level links.choices → values ≡ None → Stands m root seed level links.choices values
      → AtEnd links (reading links) → IfRead (link_answer links) (λ s. nodes ≡ s.nodes) → IfRead (link_answer links) (λ s. acts ≡ s.actions) → firsts ≡ [] → TellsRefusals (view_model m) (scenario_by level nodes acts firsts) r
      → IfRead (answer (all_of links.choices values)) (λ s. TellsRefusals (view_model m) s r)
  inside_tells links values nodes acts firsts r e none stands end ns acs empty told =
      let inside : IsInside (reading links) = subst (λ k. IsInside (reading k)) (sym e) (none_stands m root seed level links.choices values none stands) in
      let of_level : links.level ≡ level = ap (λ (x : Kept). x.level) e in
      subst (λ a. IfRead a (λ s. TellsRefusals (view_model m) s r)) (inside_is links values e none stands)
      (tells (view_model m) (link_answer links) level nodes acts firsts r (subst (λ n. IfRead (link_answer links) (λ s. n ≡ s.level)) of_level (inside_level links inside end)) ns acs
      (subst (λ f. IfRead (link_answer links) (λ s. f ≡ s.firsts)) (sym empty) (inside_firsts links inside end)) told)

  pub inside_copied : (links : Kept) (values : Option Values) (s : Scenario) → links ≡ kept_at m root seed level links.choices → values ≡ None → Stands m root seed level links.choices values
      → AtEnd links (reading links) → IfRead (link_answer links) (λ t. s ≡ linked_of level t) → IfRead (answer (all_of links.choices values)) (λ t. s ≡ t)
  inside_copied links values s e none stands end same =
      let inside : IsInside (reading links) = subst (λ k. IsInside (reading k)) (sym e) (none_stands m root seed level links.choices values none stands) in
      let of_level : level ≡ links.level = sym (ap (λ (x : Kept). x.level) e) in
      subst (λ a. IfRead a (λ t. s ≡ t)) (inside_is links values e none stands)
      (linked_in links (reading links) s inside end (subst (λ n. IfRead (link_answer links) (λ t. s ≡ linked_of n t)) of_level same))

  -- the activity is read through
  pub inside_tree : (links : Kept) (values : Option Values) → links ≡ kept_at m root seed level links.choices → values ≡ None → HasTree links → ReadsTree (view_model m) root seed level (links.choices ++ choices_of values)
  inside_tree links values e none has =
      subst (λ o. ReadsTree (view_model m) root seed level (links.choices ++ choices_of o)) (sym none)
      (subst (λ xs. ReadsTree (view_model m) root seed level xs) (sym (append-nil links.choices)) (subst HasTree e has))

  -- ---- and behind them

  pub behind_read : (xs : List ℕ) (values : Option Values) (k : Values) (r : Scenario) → values ≡ Some k → Stands m root seed level xs values → ValueRead (value_answer k) (λ s. r ≡ s) → IfRead (answer (all_of xs values)) (λ s. r ≡ s)
  behind_read xs values k r is stands same =
      subst (λ a. IfRead a (λ s. r ≡ s)) (sym (some_answers m root seed level xs values k is stands)) (read_same (value_answer k) (λ s. r ≡ s) same)

  pub stands_sources : (xs : List ℕ) (values : Option Values) (k : Values) → values ≡ Some k → Stands m root seed level xs values → ReadsSources (view_model m) root seed level (xs ++ choices_of values)
  stands_sources xs values k is stands =
      subst (λ o. ReadsSources (view_model m) root seed level (xs ++ choices_of o)) (sym is) (behind_sources m root seed level xs k (some_stands m root seed level xs values k is stands))

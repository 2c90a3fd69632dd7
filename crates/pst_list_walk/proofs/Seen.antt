-- What is told of a scenario whose parts are known.
use Rattle.std.proofs.Common.{◌≡◌, ℕ, List, [], ◌∷◌, Bool, refl, sym, ap, ◌∙◌, subst}
use Rattle.pst_model.specs.ModelTree.{ModelTree}
use Rattle.pst_model.specs.ModelView.{view_model}
use Rattle.pst_scen.specs.declared.act.Act.{Act}
use Rattle.pst_scen.specs.declared.next.Next.TheVariants as next
use Rattle.pst_scen.specs.declared.tree.Node.{Node}
use Rattle.pst_scen.specs.declared.scenario.First.{First}
use Rattle.pst_scen.specs.declared.scenario.Scenario.{Scenario}
use Rattle.pst_legal.specs.Reading.{Reading, Wants, Stops, Reads, then_read}
use Rattle.pst_legal.specs.ValueReading.{Answer, Options, Dead, Whole, answer_of, read, read_values}
use Rattle.pst_shape.specs.Walks.{next_of, IfRead}
use Rattle.pst_built.specs.SoFar.{HasRead}
use Rattle.pst_read_domains.specs.ReadNodesLaws.{NodesStandForPieces}
use Rattle.pst_refusals.specs.Answers.{StandEarlier, TellsRefusals}
use Rattle.pst_link_walk.specs.Walks.{Kept, reading, AtEnd}
use Rattle.pst_link_walk.specs.Walks.{answer as link_answer}
use Rattle.pst_link_walk.specs.Made.{IsInside}
use Rattle.pst_list_walk.specs.Walks.{IsRead}

abbrev pub scenario_by : ℕ → List Node → List Act → List First → Scenario
scenario_by level nodes actions firsts = record { level = level; nodes = nodes; actions = actions; firsts = firsts }

-- each node of what is read has its parent before it
earlier_at : NodesStandForPieces → (m : ModelTree) (root seed level : ℕ) (xs : List ℕ) (nodes : List Node) (a : Answer) → read m root seed level xs ≡ a → IsRead a → IfRead a (λ s. nodes ≡ s.nodes) → StandEarlier nodes
earlier_at law m root seed level xs nodes (Options s n) e is same =
    subst StandEarlier (sym same) ((law m root seed level xs s (subst (λ a. HasRead a s) (sym e) refl)).1.earlier)
earlier_at law m root seed level xs nodes Dead e is same = absurd is
earlier_at law m root seed level xs nodes (Whole s) e is same =
    subst StandEarlier (sym same) ((law m root seed level xs s (subst (λ a. HasRead a s) (sym e) refl)).1.earlier)

pub earlier_in : NodesStandForPieces → (m : ModelTree) (root seed level : ℕ) (xs : List ℕ) (nodes : List Node) → IsRead (read m root seed level xs) → IfRead (read m root seed level xs) (λ s. nodes ≡ s.nodes) → StandEarlier nodes
earlier_in law m root seed level xs nodes is same = earlier_at law m root seed level xs nodes (read m root seed level xs) refl is same

-- and so it is of what is read up to a place of the activity or the sources
pub place_earlier : NodesStandForPieces → (k : Kept) (nodes : List Node) (n : ℕ) → next_of (link_answer k) ≡ next.Options n → IfRead (link_answer k) (λ s. nodes ≡ s.nodes) → StandEarlier nodes
place_earlier law k nodes n is same = go (reading k) refl is same
  where
    go : (r : Reading) → reading k ≡ r → next_of (answer_of r) ≡ next.Options n → IfRead (answer_of r) (λ s. nodes ≡ s.nodes) → StandEarlier nodes
    go (Wants s count) e is same =
        subst StandEarlier (sym same)
        ((law (view_model k.model) k.root k.seed k.level k.choices s (subst (λ r. HasRead (answer_of (then_read r (read_values (view_model k.model) k.seed))) s) (sym e) refl)).1.earlier)
    go Stops e is same = absurd cc
    go (Reads s place []) e is same = absurd cc
    go (Reads s place (digit ∷ left)) e is same = absurd cc

pub same_scenario : (s : Scenario) (level : ℕ) (nodes : List Node) (actions : List Act) (firsts : List First) → level ≡ s.level → nodes ≡ s.nodes → actions ≡ s.actions → firsts ≡ s.firsts → scenario_by level nodes actions firsts ≡ s
same_scenario s level nodes actions firsts l n a f =
    ap (λ x. scenario_by x nodes actions firsts) l
    ∙ ap (λ x. scenario_by s.level x actions firsts) n
    ∙ ap (λ x. scenario_by s.level s.nodes x firsts) a
    ∙ ap (λ x. scenario_by s.level s.nodes s.actions x) f

pub tells : (m : ModelTree) (a : Answer) (level : ℕ) (nodes : List Node) (actions : List Act) (firsts : List First) (r : Bool) → IfRead a (λ s. level ≡ s.level) → IfRead a (λ s. nodes ≡ s.nodes) → IfRead a (λ s. actions ≡ s.actions)
    → IfRead a (λ s. firsts ≡ s.firsts) → TellsRefusals m (scenario_by level nodes actions firsts) r → IfRead a (λ s. TellsRefusals m s r)
tells m (Options s n) level nodes actions firsts r l ns acs fs told = subst (λ t. TellsRefusals m t r) (same_scenario s level nodes actions firsts l ns acs fs) told
tells m Dead level nodes actions firsts r l ns acs fs told = tt
tells m (Whole s) level nodes actions firsts r l ns acs fs told = subst (λ t. TellsRefusals m t r) (same_scenario s level nodes actions firsts l ns acs fs) told

-- before the sources are read through, the level is the one that was asked for, and there are no first objects
level_by : (k : Kept) (r : Reading) → IsInside r → AtEnd k r → IfRead (answer_of r) (λ s. k.level ≡ s.level)
level_by k (Wants s n) inside end = sym end.0
level_by k Stops inside end = tt
level_by k (Reads s q left) inside end = absurd inside

firsts_by : (k : Kept) (r : Reading) → IsInside r → AtEnd k r → IfRead (answer_of r) (λ s. [] ≡ s.firsts)
firsts_by k (Wants s n) inside end = sym end.1
firsts_by k Stops inside end = tt
firsts_by k (Reads s q left) inside end = absurd inside

pub inside_level : (k : Kept) → IsInside (reading k) → AtEnd k (reading k) → IfRead (link_answer k) (λ s. k.level ≡ s.level)
inside_level k inside end = level_by k (reading k) inside end

pub inside_firsts : (k : Kept) → IsInside (reading k) → AtEnd k (reading k) → IfRead (link_answer k) (λ s. [] ≡ s.firsts)
inside_firsts k inside end = firsts_by k (reading k) inside end

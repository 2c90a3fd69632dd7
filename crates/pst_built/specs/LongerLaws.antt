-- Laws of longer lists of choices.
use Rattle.std.specs.Prelude.{◌≡◌, ℕ, ◌+◌, ◌<◌, ◌≤◌, List, [], ◌∷◌, ◌++◌, length}
use Rattle.pst_model.specs.ModelTree.{ModelTree}
use Rattle.pst_scen.specs.declared.scenario.Scenario.{Scenario}
use Rattle.pst_legal.specs.Growing.{nothing_yet}
use Rattle.pst_legal.specs.Reading.{Reads, Reader, read_place, read_tree}
use Rattle.pst_legal.specs.SupplyReading.{read_supply}
use Rattle.pst_legal.specs.ValueReading.{read_values, answer_of, Options, Dead, Whole, read}

-- the place at which a list has no choice left: each longer list reads just that place from the scenario so far
pub record IsAtPlace (m : ModelTree) (root seed level : ℕ) (choices : List ℕ) (s : Scenario) (n : ℕ) : Type 0 where
  pub some : 0 < n
  pub start : ℕ
  pub place : ℕ
  pub next : ℕ → Reader
  pub is : (more : List ℕ) → read m root seed level (choices ++ more) ≡ answer_of (read_place start n next s place more)

-- Where a list has no choice left, the place has an option, and longer lists read just that place and what comes after it.
abbrev pub PlacesGoOn : Type 0
PlacesGoOn = (m : ModelTree) (root seed level : ℕ) (choices : List ℕ) (s : Scenario) (n : ℕ) → read m root seed level choices ≡ Options s n → IsAtPlace m root seed level choices s n

-- A longer list of a dead one is dead.
abbrev pub DeadStaysDead : Type 0
DeadStaysDead = (m : ModelTree) (root seed level : ℕ) (choices more : List ℕ) → read m root seed level choices ≡ Dead → read m root seed level (choices ++ more) ≡ Dead

-- Nothing stands behind a list that is read whole.
abbrev pub WholeListsEnd : Type 0
WholeListsEnd = (m : ModelTree) (root seed level : ℕ) (choices : List ℕ) (s : Scenario) (digit : ℕ) (more : List ℕ) → read m root seed level choices ≡ Whole s → read m root seed level (choices ++ digit ∷ more) ≡ Dead

-- A choice that names no option is dead.
abbrev pub ChoicesNameOptions : Type 0
ChoicesNameOptions =
    (m : ModelTree) (root seed level : ℕ) (choices : List ℕ) (s : Scenario) (n digit : ℕ) (more : List ℕ)
    → read m root seed level choices ≡ Options s n → n ≤ digit → read m root seed level (choices ++ digit ∷ more) ≡ Dead

-- What the activity, the sources and the values read one after another, each from what the one before came to and at the place
-- that counts the choices so far, is what the whole list reads.
abbrev pub PartsAreOne : Type 0
PartsAreOne =
    (m : ModelTree) (root seed level : ℕ) (first second third : List ℕ) (t : Scenario) (q : ℕ) (u : Scenario) (p : ℕ)
    → read_tree m seed root (nothing_yet level) 0 first ≡ Reads t q [] → read_supply m seed t q second ≡ Reads u p []
    → (q ≡ length first) × (p ≡ length first + length second) × (read m root seed level (first ++ (second ++ third)) ≡ answer_of (read_values m seed u p third))

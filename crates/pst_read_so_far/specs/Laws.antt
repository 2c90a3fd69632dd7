-- Laws of what a list of choices has read, whole or so far.
use Rattle.std.specs.Prelude.{◌≡◌, ℕ, List, [], ◌∷◌, ◌++◌, length, Contains, true, flat_map}
use Rattle.std.specs.List.{enumerate_from}
use Rattle.pst_expr.specs.declared.ranges.Span.{Span}
use Rattle.pst_model.specs.ConstraintTree.{SlotTree, ConstraintTree}
use Rattle.pst_model.specs.ModelTree.{ModelTree}
use Rattle.pst_model.specs.Sound.{IsSound}
use Rattle.pst_scen.specs.declared.scenario.Scenario.{Scenario}
use Rattle.pst_legal.specs.Growing.{nothing_yet}
use Rattle.pst_legal.specs.Blanks.{Blank, used_state_pools, claim_blanks, first_blanks, act_blanks, options}
use Rattle.pst_legal.specs.Standing.{Standing, Open}
use Rattle.pst_legal.specs.Constraints.{HasConstraint, is_refused_at}
use Rattle.pst_legal.specs.Fits.{Fits}
use Rattle.pst_legal.specs.Reading.{Reads, then_read, read_tree}
use Rattle.pst_legal.specs.SupplyReading.{read_supply}
use Rattle.pst_legal.specs.ValueReading.{Options, Whole, with_firsts, read_blanks, answer_of, read}
use Rattle.pst_built.specs.Laws.{IsConcreteRoot}
use Rattle.pst_built.specs.Known.{Narrower}
use Rattle.pst_built.specs.Onward.{Onward}
use Rattle.pst_built.specs.SoFar.{HasRead}
use Rattle.pst_read_slots.specs.Laws.{ReadsSources}
use Rattle.pst_read_so_far.specs.Joined.{JoinOpenEnds}
use Rattle.pst_read_so_far.specs.OpenBlanks.{open_blanks, to_come}

-- ---- links

-- Links that a list has read join open ends of one pool.
abbrev pub LinksJoinOpenEnds : Type 0
LinksJoinOpenEnds = (m : ModelTree) (root seed level : ℕ) (choices : List ℕ) (s : Scenario) → HasRead (read m root seed level choices) s → JoinOpenEnds s.actions

-- ---- blanks

-- Of a sound model and a root that isn't abstract: the blanks in which nothing stands yet are those whose places are still to come.
abbrev pub OpenBlanksAreToCome : Type 0
OpenBlanksAreToCome =
    (m : ModelTree) (root seed level : ℕ) (choices : List ℕ) (s : Scenario) → IsSound m → IsConcreteRoot m root → HasRead (read m root seed level choices) s
    → open_blanks m s ≡ to_come m root seed level choices s

-- So behind the sources the place at which a list has no choice left is that of the first open blank,
abbrev pub PlacesAreOfOpenBlanks : Type 0
PlacesAreOfOpenBlanks =
    (m : ModelTree) (root seed level : ℕ) (choices : List ℕ) (s : Scenario) (n : ℕ) → IsSound m → IsConcreteRoot m root
    → ReadsSources m root seed level choices → read m root seed level choices ≡ Options s n
    → (blank : Blank) × (more : List Blank) × (open_blanks m s ≡ blank ∷ more) × (n ≡ options m s.actions blank)

-- and each list that goes on to a whole one has as many choices more as blanks are open.
abbrev pub AsManyPlacesCome : Type 0
AsManyPlacesCome =
    (m : ModelTree) (root seed level : ℕ) (choices more : List ℕ) (s t : Scenario) → IsSound m → IsConcreteRoot m root
    → ReadsSources m root seed level choices → HasRead (read m root seed level choices) s → read m root seed level (choices ++ more) ≡ Whole t
    → length more ≡ length (open_blanks m s)

-- Where a slot of a constraint is open, its value waits for one of these places.
abbrev pub OpenSlotsWait : Type 0
OpenSlotsWait =
    (m : ModelTree) (root seed level : ℕ) (choices : List ℕ) (s : Scenario) → IsSound m → IsConcreteRoot m root → HasRead (read m root seed level choices) s
    → (k : ConstraintTree) (standing : SlotTree → Standing) → HasConstraint m s k standing → (slot : SlotTree) → Contains k.slots slot
    → (blank : Blank) (span : Span) → standing slot ≡ Open blank span → Contains (open_blanks m s) blank

-- Behind the sources the instances of claims, the values of first objects and the values of actions are read one after another,
-- each from what the one before came to: what they come to is what the whole list reads.
abbrev pub BlanksAreReadInTurn : Type 0
BlanksAreReadInTurn =
    (m : ModelTree) (root seed level : ℕ) (front first second third : List ℕ) (u t v : Scenario) (p q r : ℕ)
    → then_read (read_tree m seed root (nothing_yet level) 0 front) (read_supply m seed) ≡ Reads u p []
    → read_blanks m seed (claim_blanks m u.actions) (with_firsts m u) p first ≡ Reads t q []
    → read_blanks m seed (flat_map (first_blanks m) (used_state_pools m u.actions)) t q second ≡ Reads v r []
    → read m root seed level (front ++ (first ++ (second ++ third))) ≡ answer_of (read_blanks m seed (flat_map (act_blanks m) (enumerate_from 0 u.actions)) v r third)

-- ---- values

-- What is known behind the sources is known of a scenario that fits: so each value so far is of its field's domain, and each
-- instance so far one of its pool.
abbrev pub ReadingsFitAhead : Type 0
ReadingsFitAhead =
    (m : ModelTree) (root seed level : ℕ) (choices : List ℕ) (s : Scenario) → IsSound m → IsConcreteRoot m root
    → ReadsSources m root seed level choices → HasRead (read m root seed level choices) s
    → (t : Scenario) × Onward s t × Fits m root t

-- ---- constraints

-- the same constraint, of which more is known: it is refused where it was
pub record StaysRefused (m : ModelTree) (t : Scenario) (k : ConstraintTree) (standing : SlotTree → Standing) : Type 0 where
  pub now : SlotTree → Standing
  pub has : HasConstraint m t k now
  pub narrower : (slot : SlotTree) → Narrower (now slot) (standing slot)
  pub refused : is_refused_at k standing ≡ true → is_refused_at k now ≡ true

-- Each constraint of what a list has read is one of what each longer list has read; the bounds of its slots have only narrowed, and
-- where it was refused it is refused.
abbrev pub ConstraintsStayRefused : Type 0
ConstraintsStayRefused =
    (m : ModelTree) (root seed level : ℕ) (choices more : List ℕ) (s t : Scenario) → IsSound m → IsConcreteRoot m root
    → HasRead (read m root seed level choices) s → HasRead (read m root seed level (choices ++ more)) t
    → (k : ConstraintTree) (standing : SlotTree → Standing) → HasConstraint m s k standing → StaysRefused m t k standing

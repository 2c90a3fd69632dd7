-- Behind the activity no node changes, and the level stays.
use Rattle.std.proofs.Common.{◌≡◌, ℕ, List, [], ◌∷◌, ◌++◌, refl, sym, ◌∙◌, subst}
use Rattle.pst_model.specs.declared.action.Field.{Field}
use Rattle.pst_model.specs.ModelTree.{ModelTree}
use Rattle.pst_scen.specs.declared.scenario.Scenario.{Scenario}
use Rattle.pst_legal.specs.Growing.{nothing_yet}
use Rattle.pst_legal.specs.Menus.{menu}
use Rattle.pst_legal.specs.Reading.{Reading, Wants, Stops, Reads, then_read, put_value, value_number, read_tree}
use Rattle.pst_legal.specs.SupplyReading.{Spot, Source, Initially, From, New, supplied_by, read_supply}
use Rattle.pst_legal.specs.ValueReading.{answer_of, read_values, read}
use Rattle.pst_built.specs.SoFar.{HasRead}
use Rattle.pst_built.specs.StepsOf.{FieldSteps}
use Rattle.pst_built.proofs.Goes.{Stands, After, stands}
use Rattle.pst_built.proofs.Readers.{goes_tree, goes_supply}
use Rattle.pst_built.proofs.Read.{AnyWay, any_ways}
use Rattle.pst_built.proofs.Values.{IsSameOrder}
use Rattle.pst_read_slots.proofs.Same.{values_same}
use Rattle.pst_order_ahead.specs.LaidOut.{ReadsTree}

pub record StaysIn (s t : Scenario) : Type 0 where
  pub level : t.level ≡ s.level
  pub nodes : t.nodes ≡ s.nodes

stays_same : (s : Scenario) → StaysIn s s
stays_same s = record { level = refl; nodes = refl }

stays_then : (s t u : Scenario) → StaysIn s t → StaysIn t u → StaysIn s u
stays_then s t u one other = record { level = other.level ∙ one.level; nodes = other.nodes ∙ one.nodes }

source_stays : (m : ModelTree) (s : Scenario) (need : Spot) (source : Source) → StaysIn s (supplied_by m s need source)
source_stays m s need Initially = record { level = refl; nodes = refl }
source_stays m s need (From b q) = record { level = refl; nodes = refl }
source_stays m s need (New action instance q) = record { level = refl; nodes = refl }

supply_stays : (m : ModelTree) (seed : ℕ) (s : Scenario) (place : ℕ) (left : List ℕ) → Stands StaysIn s (read_supply m seed s place left)
supply_stays m seed s place left =
    stands StaysIn s (read_supply m seed s place left) (λ more. read_supply m seed s place (left ++ more)) (goes_supply StaysIn stays_same stays_then m seed (λ u need source k turn is. source_stays m u need source) left s place)

order_stays : (s t : Scenario) → IsSameOrder s t → StaysIn s t
order_stays s t same = record { level = same.level; nodes = same.nodes }

so_far : (R : Scenario → Scenario → Type 0) (u s : Scenario) (r : Reading) → Stands R u r → HasRead (answer_of r) s → R u s
so_far R u s (Wants t n) on has = subst (R u) has on
so_far R u s Stops on has = absurd has
so_far R u s (Reads t place []) on has = subst (R u) has on
so_far R u s (Reads t place (d ∷ left)) on has = absurd has

behind : (m : ModelTree) (seed : ℕ) (u s : Scenario) (r : Reading) → Stands StaysIn u r → HasRead (answer_of (then_read r (read_values m seed))) s → StaysIn u s
behind m seed u s (Wants t n) on has = subst (StaysIn u) has on
behind m seed u s Stops on has = absurd has
behind m seed u s (Reads t place left) on has =
    stays_then u t s on (order_stays t s (so_far IsSameOrder t s (read_values m seed t place left) (values_same m seed t place left) has))

-- ---- the activity

abbrev Any : Scenario → Scenario → Type 0
Any s t = Unit {0}

any_fields : (n : ℕ) (fields : List Field) (s : Scenario) → FieldSteps Any n fields s
any_fields n [] s = tt
any_fields n (field ∷ fields) s = λ k l. (tt, any_fields n fields (put_value s n (value_number field k)))

after_any : (s u : Scenario) (r : Reading) (go : List ℕ → Reading) (place : ℕ) (left more : List ℕ) → After Any s r go → r ≡ Reads u place left → go more ≡ Reads u place (left ++ more)
after_any s u r go place left more after e = (subst (λ x. After Any s x go) e after).1 more

module _ (m : ModelTree) (root seed level : ℕ) (choices : List ℕ) (u : Scenario) (place : ℕ) (left : List ℕ) (tree : read_tree m seed root (nothing_yet level) 0 choices ≡ Reads u place left) where
  -- a longer list reads the same activity
  longer_tree : (more : List ℕ) → read_tree m seed root (nothing_yet level) 0 (choices ++ more) ≡ Reads u place (left ++ more)
  longer_tree more =
      after_any (nothing_yet level) u (read_tree m seed root (nothing_yet level) 0 choices) (λ others. read_tree m seed root (nothing_yet level) 0 (choices ++ others)) place left more
      (goes_tree Any (λ s. tt) (λ s t v one other. tt) m AnyWay (λ piece. any_ways (menu m piece)) (λ t parent look fields is. (tt, any_fields _ fields _)) seed root (nothing_yet level) 0 choices) tree

  stays_read : (ds rest : List ℕ) (s : Scenario) → read_tree m seed root (nothing_yet level) 0 ds ≡ Reads u place rest → HasRead (read m root seed level ds) s → StaysIn u s
  stays_read ds rest s e has =
      behind m seed u s (read_supply m seed u place rest) (supply_stays m seed u place rest)
      (subst (λ r. HasRead (answer_of (then_read (then_read r (read_supply m seed)) (read_values m seed))) s) e has)

  pub stays_here : (s : Scenario) → HasRead (read m root seed level choices) s → StaysIn u s
  stays_here s has = stays_read choices left s tree has

  pub stays_longer : (more : List ℕ) (t : Scenario) → HasRead (read m root seed level (choices ++ more)) t → StaysIn u t
  stays_longer more t has = stays_read (choices ++ more) (left ++ more) t (longer_tree more) has

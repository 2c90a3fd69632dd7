-- What a walk's parts read is what its list reads.
use Rattle.std.proofs.Common.{◌≡◌, ℕ, ◌+◌, List, [], ◌∷◌, ◌++◌, length, refl, sym, ap, ◌∙◌, subst}
use Rattle.pst_model.specs.declared.model.Model.{Model}
use Rattle.pst_model.specs.ModelTree.{ModelTree}
use Rattle.pst_model.specs.ModelView.{view_model}
use Rattle.pst_scen.specs.declared.scenario.Scenario.{Scenario}
use Rattle.pst_legal.specs.Growing.{nothing_yet}
use Rattle.pst_legal.specs.Menus.{menu}
use Rattle.pst_legal.specs.Reading.{Reading, Wants, Stops, Reads, Reader, then_read, read_tree}
use Rattle.pst_legal.specs.SupplyReading.{read_supply}
use Rattle.pst_legal.specs.ValueReading.{Whole, answer_of}
use Rattle.pst_built.proofs.Goes.{After}
use Rattle.pst_built.proofs.Readers.{goes_tree, goes_supply}
use Rattle.pst_built.proofs.Read.{Any, any_fields, AnyWay, any_ways}
use Rattle.pst_supply.specs.Walks.{answer as supply_answer}
use Rattle.pst_supply.specs.Walks.{Kept as Supply}
use Rattle.pst_link_walk.specs.Walks.{tree_reading, answer, IsUsed}
use Rattle.pst_link_walk.specs.Made.{IsInside, IsBehind}
use Rattle.pst_link_walk.proofs.Cut.{cuts_tree, cuts_supply}
use Rattle.pst_link_walk.proofs.Used.{next_used, back_inside, nil_used, place_is}
use Rattle.pst_link_walk.proofs.Plain.{IsPlain, IfThere, plain_tree, plain_is}

read_on : (s t : Scenario) (q : ℕ) (left : List ℕ) (r : Reading) (go : List ℕ → Reading) → After Any s r go → r ≡ Reads t q left → (more : List ℕ) → go more ≡ Reads t q (left ++ more)
read_on s t q left r go after e = (subst (λ x. After Any s x go) e after).1

module _ (m : ModelTree) (seed root level : ℕ) where
  abbrev R : List ℕ → Reading
  R xs = read_tree m seed root (nothing_yet level) 0 xs

  pub tree_on : (xs : List ℕ) (t : Scenario) (q : ℕ) (left : List ℕ) → R xs ≡ Reads t q left → (more : List ℕ) → R (xs ++ more) ≡ Reads t q (left ++ more)
  tree_on xs t q left e =
      read_on (nothing_yet level) t q left (R xs) (λ more. R (xs ++ more))
      (goes_tree Any (λ s. tt) (λ s t u a b. tt) m AnyWay (λ piece. any_ways (menu m piece)) (λ s parent look fields is. (tt, any_fields _ fields _)) seed root (nothing_yet level) 0 xs) e

  pub tree_next : (xs : List ℕ) (d : ℕ) → IsInside (R xs) → IsUsed (R (xs ++ d ∷ []))
  tree_next = next_used R tree_on 0 (λ ds. cuts_tree m seed root (nothing_yet level) 0 ds)

  pub tree_back : (xs : List ℕ) (d : ℕ) → IsUsed (R (xs ++ d ∷ [])) → IsInside (R xs)
  tree_back = back_inside R tree_on 0 (λ ds. cuts_tree m seed root (nothing_yet level) 0 ds)

  pub tree_nil : IsUsed (R [])
  tree_nil = nil_used R tree_on 0 (λ ds. cuts_tree m seed root (nothing_yet level) 0 ds)

  pub tree_place : (xs : List ℕ) (t : Scenario) (q : ℕ) → R xs ≡ Reads t q [] → q ≡ 0 + length xs
  tree_place = place_is R tree_on 0 (λ ds. cuts_tree m seed root (nothing_yet level) 0 ds)

module _ (m : ModelTree) (seed : ℕ) (t : Scenario) (q : ℕ) where
  abbrev S : List ℕ → Reading
  S ys = read_supply m seed t q ys

  pub supply_on : (ys : List ℕ) (u : Scenario) (p : ℕ) (left : List ℕ) → S ys ≡ Reads u p left → (more : List ℕ) → S (ys ++ more) ≡ Reads u p (left ++ more)
  supply_on ys u p left e = read_on t u p left (S ys) (λ more. S (ys ++ more)) (goes_supply Any (λ s. tt) (λ s t u a b. tt) m seed (λ s need source k is there. tt) ys t q) e

  pub supply_next : (ys : List ℕ) (d : ℕ) → IsInside (S ys) → IsUsed (S (ys ++ d ∷ []))
  supply_next = next_used S supply_on q (λ ds. cuts_supply m seed ds t q)

  pub supply_back : (ys : List ℕ) (d : ℕ) → IsUsed (S (ys ++ d ∷ [])) → IsInside (S ys)
  supply_back = back_inside S supply_on q (λ ds. cuts_supply m seed ds t q)

  pub supply_nil : IsUsed (S [])
  supply_nil = nil_used S supply_on q (λ ds. cuts_supply m seed ds t q)

  pub supply_place : (ys : List ℕ) (u : Scenario) (p : ℕ) → S ys ≡ Reads u p [] → p ≡ q + length ys
  supply_place = place_is S supply_on q (λ ds. cuts_supply m seed ds t q)

-- ---- answers

pub inside_answer : (r : Reading) (g : Reader) → IsInside r → then_read r g ≡ r
inside_answer (Wants s n) g inside = refl
inside_answer Stops g inside = refl
inside_answer (Reads t q left) g inside = absurd inside

-- a reading that comes to a whole scenario
pub whole_reads : (r : Reading) (t : Scenario) → answer_of r ≡ Whole t → (q : ℕ) × (r ≡ Reads t q [])
whole_reads (Wants s n) t e = absurd cc
whole_reads Stops t e = absurd cc
whole_reads (Reads s q []) t e = let same : s ≡ t = cc in (q, ap (λ u. Reads u q []) same)
whole_reads (Reads s q (d ∷ left)) t e = absurd cc

-- one that comes to none, with nothing left over
pub not_whole : (r : Reading) → IsUsed r → ((t : Scenario) → answer_of r ≡ Whole t → ⊥) → IsInside r
not_whole (Wants s n) used none = tt
not_whole Stops used none = tt
not_whole (Reads s q left) used none = none s (ap (λ l. answer_of (Reads s q l)) used)

module _ (m : Model) (root seed level : ℕ) where
  -- behind an activity that is read through, the whole list reads what the sources' choices read
  pub behind_reads : (xs : List ℕ) (k : Supply) (behind : IsBehind m root seed level xs k) (ys : List ℕ)
      → then_read (tree_reading m root seed level (xs ++ ys)) (read_supply (view_model m) seed) ≡ read_supply (view_model m) seed behind.tree behind.place ys
  behind_reads xs k behind ys = ap (λ r. then_read r (read_supply (view_model m) seed)) (tree_on (view_model m) seed root level xs behind.tree behind.place [] behind.reads ys)

  pub tree_plain : (xs : List ℕ) (t : Scenario) (q : ℕ) (left : List ℕ) → tree_reading m root seed level xs ≡ Reads t q left → IsPlain (view_model m) level t
  tree_plain xs t q left e = subst (IfThere (IsPlain (view_model m) level)) e (plain_tree (view_model m) level seed root xs)

  -- what the walk over the sources reads
  pub supply_reads : (xs : List ℕ) (k : Supply) (behind : IsBehind m root seed level xs k)
      → supply_answer k ≡ answer_of (read_supply (view_model m) seed behind.tree behind.place k.choices)
  supply_reads xs k behind =
      ap supply_answer behind.is
      ∙ ap (λ s. answer_of (read_supply (view_model m) seed s behind.place k.choices)) (plain_is (view_model m) level behind.tree (tree_plain xs behind.tree behind.place [] behind.reads))

  pub supply_answers : (xs : List ℕ) (k : Supply) → IsBehind m root seed level xs k
      → supply_answer k ≡ answer (record { model = m; root = root; seed = seed; level = level; choices = xs ++ k.choices })
  supply_answers xs k behind = supply_reads xs k behind ∙ ap answer_of (sym (behind_reads xs k behind k.choices))

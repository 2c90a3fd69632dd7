-- One choice more, and one less.
use Rattle.std.proofs.Common.{◌≡◌, ℕ, List, [], ◌∷◌, ◌++◌, length, map, Option, Some, None, sym, ap, ◌∙◌, subst}
use Rattle.std.specs.Prelude.{slice_get}
use Rattle.std.specs.Option.{option_map}
use Rattle.std.proofs.lemmas.Option.{slice_get-map}
use Rattle.pst_model.specs.declared.model.Model.{Model}
use Rattle.pst_model.specs.ModelTree.{ModelTree}
use Rattle.pst_scen.specs.declared.scenario.Scenario.{Scenario}
use Rattle.pst_legal.specs.Blanks.{Blank}
use Rattle.pst_legal.specs.ValueReading.{with_firsts}
use Rattle.pst_blanks.specs.declared.blank.Place.{Place}
use Rattle.pst_blanks.specs.Blanks.{blank_of, all_blanks}
use Rattle.pst_blanks.specs.Placed.{Rise, Keeps}
use Rattle.pst_value_walk.specs.Walks.{with_choice}
use Rattle.pst_value_walk.specs.Choices.{cleared_at, before, IsChoice, AreChoices, Stands, digits_of, begun, kept_at}

module _ (m : ModelTree) (seed place : ℕ) (places : List Place) where
  abbrev blanks : List Blank
  blanks = map blank_of places

  pub one_more : (made : List ℕ) (d : ℕ) (s t : Scenario) → Stands m seed place places made s → IsChoice m seed place blanks (length made) d s t → s ≡ cleared_at (slice_get blanks (length made)) t → Keeps m s t
      → Stands m seed place places (d ∷ made) t
  one_more made d s t h choice back keeps = record {
    blanks = h.blanks ∙ ap (λ x. all_blanks m (before blanks made x).actions) back;
    firsts = subst (λ x. before blanks made x ≡ with_firsts m (begun places made x)) back h.firsts;
    choices = subst (λ x. IsChoice m seed place blanks (length made) d x t × AreChoices m seed place blanks made x) back (choice, h.choices);
    placed = λ n p is. keeps.placed p (h.placed n p is);
    rising = subst (Rise 0) (sym keeps.pools) h.rising;
  }

  pub one_less : (made : List ℕ) (d : ℕ) (s t : Scenario) → Stands m seed place places (d ∷ made) s → t ≡ cleared_at (slice_get blanks (length made)) s → Keeps m s t
      → Stands m seed place places made t
  one_less made d s t h is keeps = record {
    blanks = h.blanks ∙ ap (λ x. all_blanks m (before blanks made x).actions) (sym is);
    firsts = subst (λ x. before blanks made x ≡ with_firsts m (begun places made x)) (sym is) h.firsts;
    choices = subst (λ x. AreChoices m seed place blanks made x) (sym is) h.choices.1;
    placed = λ n p at. keeps.placed p (h.placed n p at);
    rising = subst (Rise 0) (sym keeps.pools) h.rising;
  }

-- the walk with one choice more
pub kept_more : (model : Model) (seed place : ℕ) (places : List Place) (made : List ℕ) (d : ℕ) (s t : Scenario) → s ≡ cleared_at (slice_get (map blank_of places) (length made)) t
    → kept_at model seed place places (d ∷ made) t ≡ with_choice (kept_at model seed place places made s) d
kept_more model seed place places made d s t back =
    ap (λ (x : Scenario). record { model = model; linked = begun places made x; seed = seed; place = place; choices = digits_of made ++ d ∷ [] }) (sym back)

-- ---- the blank of a place

by_place : (o : Option Place) (place : Place) → o ≡ Some place → option_map blank_of o ≡ Some (blank_of place)
by_place o place is = ap (option_map blank_of) is

pub got_blank : (places : List Place) (n : ℕ) (place : Place) → slice_get places n ≡ Some place → slice_get (map blank_of places) n ≡ Some (blank_of place)
got_blank places n place is = slice_get-map blank_of places n ∙ by_place (slice_get places n) place is

pub no_blank : (places : List Place) (n : ℕ) → slice_get places n ≡ None → slice_get (map blank_of places) n ≡ None
no_blank places n is = slice_get-map blank_of places n ∙ ap (option_map blank_of) is

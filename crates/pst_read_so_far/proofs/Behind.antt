-- The open blanks of what a list has read.
use Rattle.std.proofs.Common.{◌≡◌, ℕ, ◌≤◌, List, [], ◌∷◌, ◌++◌, length, drop, true, Some, None, refl, sym, ap, ◌∙◌, subst, arith, length-append}
use Rattle.std.specs.Prelude.{slice_get}
use Rattle.std.specs.List.{filter}
use Rattle.std.proofs.lemmas.List.{length-drop}
use Rattle.std.proofs.lemmas.Option.{slice_get_within}
use Rattle.pst_expr.specs.Value.{variable_value}
use Rattle.pst_expr.specs.Spans.{size_of}
use Rattle.pst_model.specs.ModelTree.{ModelTree}
use Rattle.pst_scen.specs.declared.act.Act.{Act}
use Rattle.pst_model.specs.Sound.{IsSound}
use Rattle.pst_scen.specs.declared.scenario.First.{First}
use Rattle.pst_scen.specs.declared.scenario.Scenario.{Scenario}
use Rattle.pst_legal.specs.Growing.{nothing_yet}
use Rattle.pst_legal.specs.Blanks.{Blank, Instance, OfFirst, OfAct, OfOutput, OfClaim, claim_blanks, value_blanks}
use Rattle.pst_legal.specs.Slots.{first_values}
use Rattle.pst_legal.specs.Reading.{Reading, Wants, Stops, Reads, then_read, read_tree}
use Rattle.pst_legal.specs.SupplyReading.{read_supply}
use Rattle.pst_legal.specs.ValueReading.{Options, Whole, answer_of, with_firsts, read_blanks, read_values}
use Rattle.pst_built.specs.Laws.{IsConcreteRoot}
use Rattle.pst_built.specs.SoFar.{HasRead}
use Rattle.pst_built.proofs.Values.{IsSameOrder}
use Rattle.pst_read_domains.proofs.Ahead.{sources_on}
use Rattle.pst_read_domains.proofs.Empty.{IsUnvalued, place_unvalued}
use Rattle.pst_read_domains.proofs.Same.{same_domain}
use Rattle.pst_few_places.specs.Fillings.{all_blanks, filled, named}
use Rattle.pst_few_places.proofs.Named.{blanks_join}
use Rattle.pst_blank_values.specs.Rows.{stands_in}
use Rattle.pst_blank_values.specs.Values.{blank_values, AreBare, IsWithValues}
use Rattle.pst_blank_values.specs.Laws.{FilledBlanksStand}
use Rattle.pst_read_so_far.specs.OpenBlanks.{is_nothing, is_open, open_blanks, left_of}
use Rattle.pst_read_so_far.specs.Laws.{OpenBlanksAreToCome, PlacesAreOfOpenBlanks, AsManyPlacesCome}
use Rattle.pst_read_so_far.proofs.Same.{all_same}
use Rattle.pst_read_so_far.proofs.Bare.{unvalued_bare, sources_bare}
use Rattle.pst_read_so_far.proofs.Blanks.{come, at_place, as_many, known_at, past_at, filter_behind}

module _ (stand : FilledBlanksStand) (m : ModelTree) where
  -- ---- up to the sources

  filled_none : (blanks : List Blank) (s : Scenario) → filled m blanks [] s ≡ s
  filled_none [] s = refl
  filled_none (blank ∷ blanks) s = refl

  none_value : (acts : List Act) (blanks : List Blank) (i : ℕ) → variable_value (blank_values m acts blanks []) i ≡ None
  none_value acts [] i = refl
  none_value acts (blank ∷ blanks) i = refl

  -- first objects are there from the first place behind the sources on
  without_firsts : (s : Scenario) → s.firsts ≡ [] → (blank : Blank) → stands_in (with_firsts m s) blank ≡ None → stands_in s blank ≡ None
  without_firsts s firsts (Instance act claim) e = e
  without_firsts s firsts (OfFirst pool field) e = ap (λ (fs : List First). slice_get (first_values fs pool) field) firsts
  without_firsts s firsts (OfAct act field) e = e
  without_firsts s firsts (OfOutput act reference field) e = e
  without_firsts s firsts (OfClaim act claim field) e = e

  -- where nothing is filled in, nothing stands in a blank
  none_stands : (s : Scenario) → IsUnvalued s → (i : ℕ) (blank : Blank) → slice_get (all_blanks m s) i ≡ Some blank → is_open s blank ≡ true
  none_stands s none i blank is =
      ap is_nothing (without_firsts s none.firsts blank
      (ap (λ (t : Scenario). stands_in t blank) (sym (filled_none (all_blanks m s) (with_firsts m s))) ∙ (stand m s [] (unvalued_bare s none)).stands i blank is ∙ none_value s.actions (all_blanks m s) i))

  open_before : (s : Scenario) → IsUnvalued s → open_blanks m s ≡ all_blanks m s
  open_before s none = filter_behind (is_open s) 0 (all_blanks m s) (λ i blank is l. absurd (omega (arith, l))) (λ i blank is l. none_stands s none i blank is)

  -- ---- behind them

  module _ (seed : ℕ) (u : Scenario) (place : ℕ) (bare : AreBare u.actions) where
    abbrev blanks : List Blank
    blanks = all_blanks m u

    abbrev start : Scenario
    start = with_firsts m u

    start_same : IsSameOrder u start
    start_same = record { level = refl; nodes = refl; acts = refl; kinds = refl; references = refl }

    -- what all blanks, in order, come to
    as_blanks : (left : List ℕ) → read_values m seed u place left ≡ read_blanks m seed blanks start place left
    as_blanks left = blanks_join m seed (claim_blanks m u.actions) (value_blanks m u.actions) start place left

    -- what stands in the blanks
    pub record Filled (left : List ℕ) (s : Scenario) : Type 0 where
      pub same : IsSameOrder u s
      pub few : length left ≤ length blanks
      pub with_values : IsWithValues m u (blank_values m u.actions blanks (named m seed u.actions blanks place left)) s

    pub fills : (left : List ℕ) (s : Scenario) → HasRead (answer_of (read_values m seed u place left)) s → Filled left s
    fills left s has =
        let c = come m seed u blanks start place left s start_same (subst (λ r. HasRead (answer_of r) s) (as_blanks left) has) in
        let chosen = named m seed u.actions blanks place left in
        record { same = c.same; few = c.few; with_values = subst (IsWithValues m u (blank_values m u.actions blanks chosen)) (sym c.is) (stand m u chosen bare) }

    pub open_behind : (left : List ℕ) (s : Scenario) → Filled left s → open_blanks m s ≡ drop (length left) blanks
    open_behind left s is =
        let all = all_same m u s is.with_values.same in
        ap (filter (is_open s)) all
        ∙ filter_behind (is_open s) (length left) blanks
        (λ i blank at l. ap is_nothing (is.with_values.stands i blank at) ∙ known_at m seed u.actions blanks place left i l (slice_get_within blanks i blank at))
        (λ i blank at l. ap is_nothing (is.with_values.stands i blank at) ∙ past_at m seed u.actions blanks place left i l)

  -- ---- whatever was read

  open_by : (root seed level : ℕ) (choices : List ℕ) (s : Scenario) → IsSound m → IsConcreteRoot m root → (r : Reading) → then_read (read_tree m seed root (nothing_yet level) 0 choices) (read_supply m seed) ≡ r
      → HasRead (answer_of (then_read r (read_values m seed))) s → open_blanks m s ≡ drop (length (left_of r)) (all_blanks m s)
  open_by root seed level choices s sound concrete (Wants t n) e has = subst (λ x. open_blanks m x ≡ all_blanks m x) has (open_before t (place_unvalued m root seed level choices t n e))
  open_by root seed level choices s sound concrete Stops e has = absurd has
  open_by root seed level choices s sound concrete (Reads u place left) e has =
      let bare = sources_bare m root seed level choices u place left sound concrete e in
      let is = fills seed u place bare left s has in
      open_behind seed u place bare left s is ∙ ap (drop (length left)) (sym (all_same m u s is.with_values.same))

pub to_come_is : FilledBlanksStand → OpenBlanksAreToCome
to_come_is stand m root seed level choices s sound concrete has =
    open_by stand m root seed level choices s sound concrete (then_read (read_tree m seed root (nothing_yet level) 0 choices) (read_supply m seed)) refl has

wants_is : (r : Reading) (s : Scenario) (n : ℕ) → answer_of r ≡ Options s n → r ≡ Wants s n
wants_is (Wants t k) s n e = cc
wants_is Stops s n e = absurd cc
wants_is (Reads t p []) s n e = absurd cc
wants_is (Reads t p (d ∷ left)) s n e = absurd cc

pub of_blanks : FilledBlanksStand → PlacesAreOfOpenBlanks
of_blanks stand m root seed level choices s n sound concrete (u, place, left, e) options_are =
    let bare = sources_bare m root seed level choices u place left sound concrete e in
    let here : answer_of (read_values m seed u place left) ≡ Options s n = sym (ap (λ r. answer_of (then_read r (read_values m seed))) e) ∙ options_are in
    let is = fills stand m seed u place bare left s (subst (λ a. HasRead a s) (sym here) refl) in
    let wants : read_blanks m seed (all_blanks m u) (with_firsts m u) place left ≡ Wants s n =
    sym (blanks_join m seed (claim_blanks m u.actions) (value_blanks m u.actions) (with_firsts m u) place left) ∙ wants_is (read_values m seed u place left) s n here in
    let at = at_place m seed u (all_blanks m u) (with_firsts m u) place left s n (record { level = refl; nodes = refl; acts = refl; kinds = refl; references = refl }) wants in
    (at.blank, at.more, open_behind stand m seed u place bare left s is ∙ at.is, at.many ∙ sym (ap size_of (same_domain u s is.same m at.blank)))

whole_is : (r : Reading) (s : Scenario) → answer_of r ≡ Whole s → (end : ℕ) × (r ≡ Reads s end [])
whole_is (Wants t k) s e = absurd cc
whole_is Stops s e = absurd cc
whole_is (Reads t p []) s e = let same : t ≡ s = cc in (p, ap (λ v. Reads v p []) same)
whole_is (Reads t p (d ∷ left)) s e = absurd cc

pub count_is : FilledBlanksStand → AsManyPlacesCome
count_is stand m root seed level choices more s t sound concrete (u, place, left, e) has whole =
    let bare = sources_bare m root seed level choices u place left sound concrete e in
    let here : HasRead (answer_of (read_values m seed u place left)) s = subst (λ r. HasRead (answer_of (then_read r (read_values m seed))) s) e has in
    let is = fills stand m seed u place bare left s here in
    let later : answer_of (read_values m seed u place (left ++ more)) ≡ Whole t =
    sym (ap (λ r. answer_of (then_read r (read_values m seed))) (sources_on m root seed level choices more u place left e)) ∙ whole in
    let end = whole_is (read_values m seed u place (left ++ more)) t later in
    let blanks = all_blanks m u in
    let reads : read_blanks m seed blanks (with_firsts m u) place (left ++ more) ≡ Reads t end.0 [] =
    sym (blanks_join m seed (claim_blanks m u.actions) (value_blanks m u.actions) (with_firsts m u) place (left ++ more)) ∙ end.1 in
    let all = as_many m seed u blanks (with_firsts m u) place (left ++ more) t end.0 reads in
    let sum = length-append left more in
    let dropped = length-drop (length left) blanks in
    let opened : length (open_blanks m s) ≡ length (drop (length left) blanks) = ap length (open_behind stand m seed u place bare left s is) in
    omega (arith, all, sum, dropped, opened)

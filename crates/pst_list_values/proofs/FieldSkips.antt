-- Options of a compound action's field that are skipped.
use Rattle.std.proofs.Common.{◌≡◌, ℕ, ◌+◌, ◌%◌, ◌<◌, ◌≤◌, ℤ, pos, List, [], ◌∷◌, ◌++◌, length, get_or, true, Option, Some, None, refl, sym, ap, ◌∙◌, subst, inl, inr, ⊎_elim, append_assoc, length-append, arith}
use Rattle.std.specs.Prelude.{slice_get}
use Rattle.std.specs.Option.{option_and_then}
use Rattle.std.proofs.Math.Nat.{mod-lt}
use Rattle.std.proofs.lemmas.Bool.{cases_lt}
use Rattle.std.proofs.lemmas.List.{take_all, take-append-le}
use Rattle.std.proofs.lemmas.Option.{none-some, slice_get-get_or, slice_get_within}
use Rattle.pst_rng.specs.Words.{start_of}
use Rattle.pst_expr.specs.Spans.{values, size_of}
use Rattle.pst_expr.specs.Laws.{ListsValues}
use Rattle.pst_model.specs.declared.action.Field.{Field}
use Rattle.pst_model.specs.ModelTree.{ModelTree, ActionTree}
use Rattle.pst_model.specs.ModelView.{view_model}
use Rattle.pst_model.specs.Sound.{IsSound}
use Rattle.pst_scen.specs.declared.tree.Node.{Node}
use Rattle.pst_scen.specs.declared.scenario.Scenario.{Scenario}
use Rattle.pst_legal.specs.Types.{type_of, action_field}
use Rattle.pst_legal.specs.Standing.{field_span}
use Rattle.pst_legal.specs.Slots.{compound_in}
use Rattle.pst_legal.specs.Reading.{option_at, value_number}
use Rattle.pst_legal.specs.ValueReading.{Answer, Options, Dead, Whole, read}
use Rattle.pst_legal.specs.First.{ReadsLegal}
use Rattle.pst_built.specs.SoFar.{HasRead}
use Rattle.pst_built.specs.Known.{Allows}
use Rattle.pst_built.specs.ReadOnwardLaws.{LongerListsKeepWhatIsKnown}
use Rattle.pst_read_domains.specs.ReadNodesLaws.{ReadLeavesHaveActions, HandlesHaveTheirTypes}
use Rattle.pst_read_domains.specs.RefusalsStayLaws.{LegalScenariosAreInDomains}
use Rattle.pst_field_places.specs.Places.{IsAtField, HasValues}
use Rattle.pst_field_places.specs.Laws.{FieldsArePlaces, FieldsHaveValues}
use Rattle.pst_field_values.specs.Fields.{values_in, values_of, values_at, count_in, count_of, field_count, IsLater}
use Rattle.pst_field_values.specs.Kept.{AreOfFields, AreFieldsKeptBy}
use Rattle.pst_field_values.specs.Laws.{ExcludedFieldsHoldNothing}
use Rattle.pst_fitting.specs.declared.fitting.Fitting.{Fitting}
use Rattle.pst_value_search.specs.Values.{Kept as Given}
use Rattle.pst_value_search.specs.Values.{Skips as SkipsValues}
use Rattle.pst_shape.specs.Walks.{IfRead}
use Rattle.pst_link_walk.specs.Walks.{Kept}
use Rattle.pst_list_walk.specs.Walks.{answer}
use Rattle.pst_search_loop.specs.declared.conflict.Conflict.{Conflict}
use Rattle.pst_search_loop.specs.Conflicts.{IsEarlier}
use Rattle.pst_search_loop.specs.Kept.{HasOptions, Agrees, Excludes, Skips, with_choice}
use Rattle.pst_search_loop.specs.Kept.{Kept as Walked}
use Rattle.pst_search_places.specs.Laws.{IsByPlaces, BarrenListsConflict}
use Rattle.pst_list_values.specs.Walked.{kept_of}

-- ---- an option is excluded where no longer list that has it reads a legal scenario

module _ (w : Walked) (by : IsByPlaces w) (c : Conflict) (earlier : IsEarlier c (length w.choices)) (d : ℕ) where
  abbrev longer : List ℕ
  longer = w.choices ++ d ∷ []

  longer_count : length longer ≡ length w.choices + 1
  longer_count = length-append w.choices (d ∷ [])

  -- all places, with the one at hand
  abbrev with_place : Conflict
  with_place = record c { below = length w.choices + 1 }

  with_earlier : IsEarlier with_place (length longer)
  with_earlier = record {
    has = λ p l. let many = longer_count in inl (omega (arith, l, many));
    within = λ p has. let many = longer_count in ⊎_elim
        (λ (l : p < length w.choices + 1). omega (arith, l, many))
        (λ among. let l = earlier.within p (inr among) in omega (arith, l, many))
        has;
    on_level = earlier.on_level;
  }

  agrees_longer : (level : ℕ) (other : List ℕ) → Agrees w c level other → w.facts w.level longer level other ≡ true → Agrees (with_choice w d) with_place level other
  agrees_longer level other agrees fact = record {
    same_level = agrees.same_level;
    facts = λ p has. let l = with_earlier.within p has in let many = longer_count in ⊎_elim
        (λ (before : p < length w.choices).
        subst (λ xs. w.facts w.level xs level other ≡ true) (sym (take-append-le (p + 1) w.choices (d ∷ []) (omega (arith, before)))) (agrees.facts p (earlier.has p before)))
        (λ (behind : length w.choices ≤ p).
        subst (λ xs. w.facts w.level xs level other ≡ true) (sym (take_all (p + 1) longer (omega (arith, behind, many)))) fact)
        (cases_lt p (length w.choices));
  }

  pub excluded : BarrenListsConflict → ((rest : List ℕ) (t : Scenario) → ReadsLegal w.model w.root w.seed w.level (w.choices ++ d ∷ rest) t → ⊥) → Excludes w c d
  excluded barren none =
      let conflict = barren (with_choice w d) with_place by with_earlier
      (λ rest t reads. none rest t (subst (λ xs. ReadsLegal w.model w.root w.seed w.level xs t) (append_assoc w.choices (d ∷ []) rest) reads)) in
      record { none = λ level other agrees fact sought. conflict.none level other (agrees_longer level other agrees fact) sought }

-- ---- fields

-- a field that has a value in some scenario is one of the action's
field_there : (m : ModelTree) (action i : ℕ) (v : ℤ) → Allows (field_span (action_field m action i)) v → i < count_of m (Some action)
field_there m action i v allowed = go (action_field m action i) refl allowed
  where
    by_type : (o : Option ActionTree) (field : Field) → type_of m action ≡ o → option_and_then (λ (x : ActionTree). slice_get x.fields i) o ≡ Some field → i < count_of m (Some action)
    by_type None field of is = absurd (none-some field is)
    by_type (Some x) field of is = subst (λ o. i < count_in o) (sym of) (slice_get_within x.fields i field is)

    go : (o : Option Field) → action_field m action i ≡ o → Allows (field_span o) v → i < count_of m (Some action)
    go None is bad = absurd bad
    go (Some field) is allows = by_type (type_of m action) field refl is

last_there : (xs : List ℤ) (v : ℤ) → slice_get (xs ++ v ∷ []) (length xs) ≡ Some v
last_there [] v = refl
last_there (x ∷ xs) v = last_there xs v

pub options_of : (a : Answer) (count : ℕ) (s : Scenario) → HasOptions a count → IfRead a (λ t. s ≡ t) → a ≡ Options s count
options_of (Options t n) count s many same = ap (λ x. Options x n) (sym same) ∙ ap (Options s) many
options_of Dead count s many same = absurd many
options_of (Whole t) count s many same = absurd many

-- the list has read the scenario
pub read_so : (k : Kept) (s : Scenario) (count : ℕ) → HasOptions (answer k) count → IfRead (answer k) (λ t. s ≡ t) → HasRead (answer k) s
read_so k s count many same = subst (λ a. HasRead a s) (sym (options_of (answer k) count s many same)) refl

module _ (k : Kept) (node : ℕ) (field : Field) (more : List Field) (at : IsAtField (view_model k.model) k.root k.seed k.level k.choices node (field ∷ more)) (s : Scenario) (count : ℕ)
    (is : answer k ≡ Options s count) (places : FieldsArePlaces) where
  abbrev m : ModelTree
  m = view_model k.model

  pub size_is : count ≡ size_of field.domain
  size_is = (places m k.root k.seed k.level k.choices node field more s count at is).1

  has_read : HasRead (read m k.root k.seed k.level k.choices) s
  has_read = subst (λ a. HasRead a s) (sym is) refl

  -- the node so far
  entry_is : slice_get s.nodes node ≡ Some at.entry
  entry_is = ap (λ (x : Scenario). slice_get x.nodes node) (places m k.root k.seed k.level k.choices node field more s count at is).0 ∙ at.is

  known_is : values_at s.nodes node ≡ at.known
  known_is = ap (λ (o : Option Node). values_of o) entry_is ∙ ap values_in at.has

  fields_are : field_count m s.nodes node ≡ count_of m (Some at.action)
  fields_are = ap (λ (o : Option Node). count_of m (option_and_then (λ (x : Node). compound_in x.fill) o)) entry_is ∙ ap (λ f. count_of m (compound_in f)) at.has

  module _ (sound : IsSound m) (leaves : ReadLeavesHaveActions) (typed : HandlesHaveTheirTypes) (domains : LegalScenariosAreInDomains) (keeps : LongerListsKeepWhatIsKnown) where
    whole_read : (xs : List ℕ) (t : Scenario) → ReadsLegal m k.root k.seed k.level xs t → HasRead (read m k.root k.seed k.level xs) t
    whole_read xs t legal = subst (λ a. HasRead a t) (sym legal.reads) refl

    later : (d : ℕ) (rest : List ℕ) (t : Scenario) → ReadsLegal m k.root k.seed k.level (k.choices ++ d ∷ rest) t → IsLater m s t
    later d rest t legal =
        let reads = whole_read (k.choices ++ d ∷ rest) t legal in
        record {
          onward = keeps m k.root k.seed k.level k.choices (d ∷ rest) s t has_read reads;
          leaves = leaves m k.root k.seed k.level k.choices s has_read;
          domains = domains m k.root t sound legal.legal;
          typed = typed m k.root k.seed k.level (k.choices ++ d ∷ rest) t sound reads;
        }

    -- where no later scenario's constraints hold, none has a value of the field
    none_has : AreOfFields m s node None → (d : ℕ) (rest : List ℕ) (t : Scenario) → ReadsLegal m k.root k.seed k.level (k.choices ++ d ∷ rest) t → ⊥
    none_has none d rest t legal = none t (later d rest t legal) legal.legal.holds

    pub all_skipped : BarrenListsConflict → AreOfFields m s node None → (c : Conflict) → IsEarlier c (length k.choices) → (from : ℕ) → from ≤ count → Skips (kept_of k) from count (record { digit = count; conflict = c })
    all_skipped barren none c earlier from named = record {
      least = named;
      most = omega arith;
      within = earlier.within;
      each = λ d low high. excluded (kept_of k) refl c earlier d barren (λ rest t legal. none_has none d rest t legal);
    }

    -- a value that is excluded is no scenario's
    value_out : FieldsHaveValues → ExcludedFieldsHoldNothing → (g : Given) → AreFieldsKeptBy m s node g → (start : ℕ) → start ≡ start_of k.seed (length k.choices) count → ListsValues field.domain
        → (from : ℕ) (found : Fitting) → SkipsValues g field.domain start from found → (d : ℕ) → from ≤ d → d < found.place → (rest : List ℕ) (t : Scenario) → ReadsLegal m k.root k.seed k.level (k.choices ++ d ∷ rest) t → ⊥
    value_out have none g kept start start_is lists from found skips d low high rest t legal =
        let size = size_of field.domain in
        let most = skips.most in
        let some : 0 < size = omega (arith, high, most) in
        let n = (start + d) % size in
        let small : n < size = mod-lt (start + d) some in
        let long = lists.count in
        let v = get_or (values field.domain) n (pos 0) in
        let at_n : slice_get (values field.domain) n ≡ Some v = slice_get-get_or (values field.domain) n (pos 0) (omega (arith, small, long)) in
        let begins : start ≡ start_of k.seed (length k.choices) size = start_is ∙ ap (start_of k.seed (length k.choices)) size_is in
        let same : value_number field (option_at (start_of k.seed (length k.choices) size) size d) ≡ v = ap (λ b. value_number field (option_at b size d)) (sym begins) in
        let has = have m k.root k.seed k.level k.choices node field more d rest t at (whole_read (k.choices ++ d ∷ rest) t legal) in
        let first = subst (λ x. HasValues t.nodes node at.action (at.known ++ x ∷ [])) same has in
        let own : slice_get first.values (length at.known) ≡ Some v = first.keeps (length at.known) v (last_there at.known v) in
        let on = later d rest t legal in
        let count_is : length g.values ≡ length at.known = ap length (kept.known ∙ known_is) in
        let here : values_at t.nodes node ≡ first.values = ap (λ (o : Option Node). values_of o) first.is ∙ ap values_in first.has in
        let there : slice_get (values_at t.nodes node) (length g.values) ≡ Some v = ap (λ xs. slice_get xs (length g.values)) here ∙ ap (slice_get first.values) count_is ∙ own in
        let one : length at.known < count_of m (Some at.action) = field_there m at.action (length at.known) v (on.domains.compounds node first.node at.action first.instance first.values (length at.known) v first.is first.has own) in
        let below : length g.values < field_count m s.nodes node = subst (λ z. length g.values < z) (sym fields_are) (subst (λ z. z < count_of m (Some at.action)) (sym count_is) one) in
        none m s t node g found.reasons.items v kept (skips.each d low high v at_n) below on legal.legal.holds there

    pub some_skipped : BarrenListsConflict → FieldsHaveValues → ExcludedFieldsHoldNothing → (g : Given) → AreFieldsKeptBy m s node g → (start : ℕ) → start ≡ start_of k.seed (length k.choices) count → ListsValues field.domain
        → (c : Conflict) → IsEarlier c (length k.choices) → (from : ℕ) (found : Fitting) → SkipsValues g field.domain start from found → Skips (kept_of k) from count (record { digit = found.place; conflict = c })
    some_skipped barren have none g kept start start_is lists c earlier from found skips = record {
      least = skips.least;
      most = subst (λ n. found.place ≤ n) (sym size_is) skips.most;
      within = earlier.within;
      each = λ d low high. excluded (kept_of k) refl c earlier d barren (λ rest t legal. value_out have none g kept start start_is lists from found skips d low high rest t legal);
    }

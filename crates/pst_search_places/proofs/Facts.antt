-- What the facts of a list's choices say of another list.
use Rattle.std.proofs.Common.{◌≡◌, ℕ, zero, suc, ◌+◌, ◌-◌, ◌<◌, ◌≤◌, List, [], ◌∷◌, ◌++◌, take, length, get_or, true, ◌&&◌, nat_eq, Option, Some, None, refl, sym, ap, ap₂, ◌∙◌, subst, ⊎_elim, append-nil, length-append, arith}
use Rattle.std.specs.Prelude.{slice_get}
use Rattle.std.proofs.lemmas.Bool.{cases_lt}
use Rattle.pst_scen.specs.declared.scenario.Scenario.{Scenario}
use Rattle.pst_legal.specs.ValueReading.{Options, Dead, Whole, read}
use Rattle.pst_legal.specs.First.{ReadsLegal}
use Rattle.pst_built.specs.LongerLaws.{ChoicesNameOptions}
use Rattle.pst_search_loop.specs.declared.conflict.Conflict.{Conflict}
use Rattle.pst_search_loop.specs.Conflicts.{IsEarlier}
use Rattle.pst_search_loop.specs.Kept.{Kept, answer, Agrees, IsConflict, Rests}
use Rattle.pst_search_places.specs.Facts.{begins, have_same, sources_of, front_of, fact_by}
use Rattle.pst_search_places.specs.Laws.{IsByPlaces, PlaceFactsHold, BarrenListsConflict, PlacesRestOnEarlierOnes}
use Rattle.pst_search_places.proofs.Lists.{eq_self, both_true, take_whole, take_next, take_length, get_last, first_behind, some_at, same_some, some_same, list_begins, front_begins, begins_goes, shorter_begins, begins_next, begins_at}

-- of a list of the level that begins with the choices holds the last one's fact
pub fact_holds : (o : Option ℕ) (level : ℕ) (choices other : List ℕ) → 0 < length choices → begins choices other ≡ true → fact_by o level choices level other ≡ true
fact_holds None level choices other some b = b
fact_holds (Some front) level choices other some b =
    let p = length choices - 1 in
    let x = get_or choices p 0 in
    let is : slice_get choices p ≡ Some x = some_at choices p (omega (arith, some)) in
    ap₂ ◌&&◌ (eq_self level)
    (ap₂ ◌&&◌ (shorter_begins front choices other b) (some_same (slice_get choices p) (slice_get other p) x is (begins_at choices other p x b is)))

pub place_facts_hold : PlaceFactsHold
place_facts_hold m root seed level choices p l =
    let one : p + 1 ≡ suc p = omega arith in
    let long : length (take (p + 1) choices) ≡ suc p = ap (λ n. length (take n choices)) one ∙ take_length choices p l in
    fact_holds (front_of (sources_of m root seed level (take (p + 1) choices))) level (take (p + 1) choices) choices (omega (arith, long)) (front_begins (p + 1) choices)

-- from a list that begins with the choices before, to one that begins with them all
fact_goes : (o : Option ℕ) (level : ℕ) (xs : List ℕ) (x other_level : ℕ) (other : List ℕ) → fact_by o level (xs ++ x ∷ []) other_level other ≡ true → begins xs other ≡ true → begins (xs ++ x ∷ []) other ≡ true
fact_goes None level xs x other_level other e b = e
fact_goes (Some front) level xs x other_level other e b =
    let choices = xs ++ x ∷ [] in
    let p = length choices - 1 in
    let one = both_true (nat_eq other_level level) (begins (take front choices) other && have_same p choices other) e in
    let two = both_true (begins (take front choices) other) (have_same p choices other) one.1 in
    let same = same_some (slice_get choices p) (slice_get other p) two.1 in
    let many : length choices ≡ length xs + 1 = length-append xs (x ∷ []) in
    let at : p ≡ length xs = omega (arith, many) in
    let here : Some x ≡ Some same.0 = sym (get_last xs x) ∙ ap (slice_get choices) (sym at) ∙ same.1 in
    let there : slice_get other (length xs) ≡ Some x = ap (slice_get other) (sym at) ∙ same.2 ∙ sym here in
    begins_next xs other x b there

module _ (k : Kept) (by : IsByPlaces k) where
  pub told : (choices : List ℕ) (level : ℕ) (other : List ℕ) → k.facts k.level choices level other ≡ true
      → fact_by (front_of (sources_of k.model k.root k.seed k.level choices)) k.level choices level other ≡ true
  told choices level other e = subst (λ f. f k.level choices level other ≡ true) by e

  pub tells : (choices : List ℕ) (level : ℕ) (other : List ℕ) → fact_by (front_of (sources_of k.model k.root k.seed k.level choices)) k.level choices level other ≡ true
      → k.facts k.level choices level other ≡ true
  tells choices level other e = subst (λ f. f k.level choices level other ≡ true) (sym by) e

  up_to : (c : Conflict) (level : ℕ) (other : List ℕ) → IsEarlier c (length k.choices) → Agrees k c level other → (j : ℕ) → j ≤ length k.choices → begins (take j k.choices) other ≡ true
  up_to c level other earlier agrees zero l = refl
  up_to c level other earlier agrees (suc j) l =
      let below : j < length k.choices = omega (arith, l) in
      let x = get_or k.choices j 0 in
      let next : take (suc j) k.choices ≡ take j k.choices ++ x ∷ [] = take_next k.choices j x (some_at k.choices j below) in
      let one : j + 1 ≡ suc j = omega arith in
      let holds : k.facts k.level (take j k.choices ++ x ∷ []) level other ≡ true = subst (λ zs. k.facts k.level zs level other ≡ true) (ap (λ n. take n k.choices) one ∙ next) (agrees.facts j (earlier.has j below)) in
      subst (λ zs. begins zs other ≡ true) (sym next)
      (fact_goes (front_of (sources_of k.model k.root k.seed k.level (take j k.choices ++ x ∷ []))) k.level (take j k.choices) x level other (told (take j k.choices ++ x ∷ []) level other holds)
      (up_to c level other earlier agrees j (omega (arith, l))))

  -- a list that agrees at all places goes on from the choices
  agrees_begins : (c : Conflict) (level : ℕ) (other : List ℕ) → IsEarlier c (length k.choices) → Agrees k c level other → begins k.choices other ≡ true
  agrees_begins c level other earlier agrees = subst (λ zs. begins zs other ≡ true) (take_whole k.choices) (up_to c level other earlier agrees (length k.choices) (omega arith))

  pub barren : (c : Conflict) → IsEarlier c (length k.choices) → ((more : List ℕ) (s : Scenario) → ReadsLegal k.model k.root k.seed k.level (k.choices ++ more) s → ⊥) → IsConflict k c
  barren c earlier none = record {
    within = earlier.within;
    none = λ level other agrees sought.
        let goes = begins_goes k.choices other (agrees_begins c level other earlier agrees) in
        let e = agrees.same_level earlier.on_level in
        none goes.more sought.0
        (subst (λ ys. ReadsLegal k.model k.root k.seed k.level ys sought.0) goes.is (subst (λ v. ReadsLegal k.model k.root k.seed v other sought.0) e sought.1));
  }

  -- a list that reads a legal scenario goes on with an option
  options_go : ChoicesNameOptions → (s t : Scenario) (n : ℕ) → answer k ≡ Options s n → (more : List ℕ) → ReadsLegal k.model k.root k.seed k.level (k.choices ++ more) t
      → (digit : ℕ) × (digit < n) × (begins (k.choices ++ digit ∷ []) (k.choices ++ more) ≡ true)
  options_go names s t n is [] reads =
      let here : answer k ≡ Whole t = ap (read k.model k.root k.seed k.level) (sym (append-nil k.choices)) ∙ reads.reads in
      let both : Options s n ≡ Whole t = sym is ∙ here in
      absurd cc
  options_go names s t n is (digit ∷ more) reads = ⊎_elim
      (λ (l : digit < n). (digit, l, begins_next k.choices (k.choices ++ digit ∷ more) digit (list_begins k.choices (digit ∷ more)) (first_behind k.choices digit more)))
      (λ (l : n ≤ digit).
      let dead = names k.model k.root k.seed k.level k.choices s n digit more is l in
      let both : Dead ≡ Whole t = sym dead ∙ reads.reads in
      absurd cc)
      (cases_lt digit n)

  pub rests : ChoicesNameOptions → (c : Conflict) (s : Scenario) (n : ℕ) → IsEarlier c (length k.choices) → answer k ≡ Options s n → Rests k n c
  rests names c s n earlier is = record {
    within = earlier.within;
    some = λ level other agrees sought.
        let goes = begins_goes k.choices other (agrees_begins c level other earlier agrees) in
        let e = agrees.same_level earlier.on_level in
        let reads = subst (λ ys. ReadsLegal k.model k.root k.seed k.level ys sought.0) goes.is (subst (λ v. ReadsLegal k.model k.root k.seed v other sought.0) e sought.1) in
        let option = options_go names s sought.0 n is goes.more reads in
        let longer = k.choices ++ option.0 ∷ [] in
        let many : length longer ≡ length k.choices + 1 = length-append k.choices (option.0 ∷ []) in (
          option.0,
          option.1,
          tells longer level other
              (subst (λ v. fact_by (front_of (sources_of k.model k.root k.seed k.level longer)) k.level longer v other ≡ true) (sym e)
              (fact_holds (front_of (sources_of k.model k.root k.seed k.level longer)) k.level longer other (omega (arith, many))
              (subst (λ ys. begins longer ys ≡ true) (sym goes.is) option.2))),
        );
  }

pub barren_conflicts : BarrenListsConflict
barren_conflicts k c by earlier none = barren k by c earlier none

pub places_rest : ChoicesNameOptions → PlacesRestOnEarlierOnes
places_rest names k c s n by earlier is = rests k by names c s n earlier is

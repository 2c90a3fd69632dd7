-- Conflicts of few places behind the sources, and what these places rest on.
use Rattle.std.proofs.Common.{◌≡◌, ℕ, zero, suc, ◌+◌, ◌-◌, ◌<◌, List, [], ◌∷◌, ◌++◌, take, length, get_or, Bool, true, false, ◌&&◌, nat_eq, nat_lt, if◌then◌else◌, Some, None, refl, sym, ap, ap₂, ◌∙◌, subst, ⊎_elim, append_assoc, length-append, arith}
use Rattle.std.specs.Prelude.{slice_get, Contains}
use Rattle.std.proofs.lemmas.Bool.{ltb-true}
use Rattle.pst_rng.specs.Words.{start_of}
use Rattle.pst_expr.specs.Spans.{size_of}
use Rattle.pst_model.specs.ModelTree.{ModelTree}
use Rattle.pst_scen.specs.declared.scenario.Scenario.{Scenario}
use Rattle.pst_legal.specs.Blanks.{Blank, options, claim_blanks, value_blanks}
use Rattle.pst_legal.specs.Reading.{Reading, Wants, Stops, Reads, then_read, option_at}
use Rattle.pst_legal.specs.ValueReading.{Options, Whole, answer_of, with_option, with_firsts, read_blanks, read_values}
use Rattle.pst_legal.specs.First.{ReadsLegal}
use Rattle.pst_built.proofs.Values.{IsSameOrder}
use Rattle.pst_read_slots.proofs.Same.{same_then, option_same}
use Rattle.pst_few_places.proofs.PassedOn.{same_domain}
use Rattle.pst_few_places.proofs.PassedOn.{sources_on}
use Rattle.pst_few_places.specs.Fillings.{all_blanks}
use Rattle.pst_few_places.specs.Laws.{AgreeAt, FewPlacesRefuse}
use Rattle.pst_few_places.proofs.Named.{blanks_join}
use Rattle.pst_search_loop.specs.declared.conflict.Conflict.{Conflict}
use Rattle.pst_search_loop.specs.Kept.{Kept, answer, Agrees, IsWithin, IsConflict, Rests, Excludes}
use Rattle.pst_search_places.specs.Facts.{begins, have_same, sources_of, front_of, fact_by}
use Rattle.pst_search_places.specs.Laws.{IsByPlaces, IsBehind, IsOfPlaces, NoneHold, FewPlacesConflict, FewPlacesExclude, PlacesRestOnTheSources}
use Rattle.pst_search_places.proofs.Lists.{eq_self, both_true, take_all, take_behind, take_length, take_get, get_front, get_behind, get_last, some_at, same_some, some_same, list_begins, begins_goes}
use Rattle.pst_search_places.proofs.Facts.{told, tells}

-- ---- what blanks read

wants_reads : (s t : Scenario) (n end : ℕ) → Wants s n ≡ Reads t end [] → ⊥
wants_reads s t n end e = cc

stops_reads : (t : Scenario) (end : ℕ) → Stops ≡ Reads t end [] → ⊥
stops_reads t end e = cc

reads_wants : (s t : Scenario) (place n : ℕ) (left : List ℕ) → Reads s place left ≡ Wants t n → ⊥
reads_wants s t place n left e = cc

stops_wants : (t : Scenario) (n : ℕ) → Stops ≡ Wants t n → ⊥
stops_wants t n e = cc

-- a test that was passed
if_reads : {P : Type 0} (b : Bool) (r : Reading) (t : Scenario) (end : ℕ) → (b ≡ true → r ≡ Reads t end [] → P) → (if b then r else Stops) ≡ Reads t end [] → P
if_reads true r t end each e = each refl e
if_reads false r t end each e = absurd (stops_reads t end e)

if_wants : {P : Type 0} (b : Bool) (r : Reading) (t : Scenario) (n : ℕ) → (r ≡ Wants t n → P) → (if b then r else Stops) ≡ Wants t n → P
if_wants true r t n each e = each e
if_wants false r t n each e = absurd (stops_wants t n e)

same_count : (s t : Scenario) (k n : ℕ) → Wants s k ≡ Wants t n → k ≡ n
same_count s t k n e = cc

-- where one list wants an option of a blank, and another reads all blanks, that one has an option there
abbrev HasOption : List ℕ → ℕ → ℕ → Type 0
HasOption choices place n = (digit : ℕ) × (digit < n) × (slice_get choices place ≡ Some digit)

module _ (m : ModelTree) (seed : ℕ) (u : Scenario) where
  option_there : (blanks : List Blank) (s t : Scenario) (place : ℕ) (present other : List ℕ) (w v : Scenario) (n end : ℕ) → IsSameOrder u s → IsSameOrder u t
      → read_blanks m seed blanks s place present ≡ Wants w n → read_blanks m seed blanks t place other ≡ Reads v end [] → HasOption other (length present) n
  option_there [] s t place present other w v n end one two wants reads = absurd (reads_wants s w place n present wants)
  option_there (blank ∷ blanks) s t place present [] w v n end one two wants reads =
      if_reads (nat_lt 0 (options m t.actions blank)) (Wants t (options m t.actions blank)) v end (λ test h. absurd (wants_reads t v (options m t.actions blank) end h)) reads
  option_there (blank ∷ blanks) s t place [] (d ∷ other) w v n end one two wants reads =
      let own = options m s.actions blank in
      let its = options m t.actions blank in
      let same : its ≡ own = ap size_of (same_domain u t two m blank ∙ sym (same_domain u s one m blank)) in
      if_reads (nat_lt d its) (read_blanks m seed blanks (with_option m (option_at (start_of seed place its) its d) blank t) (place + 1) other) v end
      (λ test h.
      let count : own ≡ n = if_wants (nat_lt 0 own) (Wants s own) w n (λ e. same_count s w own n e) wants in
      (d, subst (λ k. d < k) (same ∙ count) (ltb-true d its test), refl)) reads
  option_there (blank ∷ blanks) s t place (c ∷ present) (d ∷ other) w v n end one two wants reads =
      let own = options m s.actions blank in
      let its = options m t.actions blank in
      let s_next = with_option m (option_at (start_of seed place own) own c) blank s in
      let t_next = with_option m (option_at (start_of seed place its) its d) blank t in
      if_reads (nat_lt d its) (read_blanks m seed blanks t_next (place + 1) other) v end
      (λ test h.
      if_wants (nat_lt c own) (read_blanks m seed blanks s_next (place + 1) present) w n
      (λ e. option_there blanks s_next t_next (place + 1) present other w v n end (same_then u s s_next one (option_same m s _ blank)) (same_then u t t_next two (option_same m t _ blank)) e h) wants) reads

whole_reads : (r : Reading) (t : Scenario) → answer_of r ≡ Whole t → (end : ℕ) × (r ≡ Reads t end [])
whole_reads (Wants s n) t e = absurd cc
whole_reads Stops t e = absurd cc
whole_reads (Reads s place []) t e = let same : s ≡ t = cc in (place, ap (λ v. Reads v place []) same)
whole_reads (Reads s place (d ∷ left)) t e = absurd cc

pub options_wants : (r : Reading) (t : Scenario) (n : ℕ) → answer_of r ≡ Options t n → r ≡ Wants t n
options_wants (Wants s k) t n e = let same : s ≡ t = cc in let count : k ≡ n = cc in ap (λ x. Wants x k) same ∙ ap (Wants t) count
options_wants Stops t n e = absurd cc
options_wants (Reads s place []) t n e = absurd cc
options_wants (Reads s place (d ∷ left)) t n e = absurd cc

-- ---- behind the sources

behind_some : (u : Scenario) (place i : ℕ) (present : List ℕ) → i < length present → front_of (Reads u place (take (suc i) present)) ≡ Some place
behind_some u place i [] l = let bad : ⊥ = omega (arith, l) in absurd bad
behind_some u place i (x ∷ xs) l = refl

longer_some : (u : Scenario) (place digit : ℕ) (present : List ℕ) → front_of (Reads u place (present ++ digit ∷ [])) ≡ Some place
longer_some u place digit [] = refl
longer_some u place digit (x ∷ xs) = refl

module _ (k : Kept) (by : IsByPlaces k) (front present : List ℕ) (u : Scenario) (behind : IsBehind k front present u) where
  count : length k.choices ≡ length front + length present
  count = ap length behind.choices ∙ length-append front present

  -- what more choices read of the sources
  on : (more : List ℕ) → sources_of k.model k.root k.seed k.level (front ++ more) ≡ Reads u (length front) more
  on more = sources_on k.model k.root k.seed k.level front more u (length front) [] behind.reads

  up_to : (i : ℕ) → take (length front + i) k.choices ≡ front ++ take i present
  up_to i = ap (take (length front + i)) behind.choices ∙ take_behind front present i

  -- the fact of the last place up to the sources
  begins_by : (c : Conflict) (places : List ℕ) (level : ℕ) (other xs : List ℕ) → front ≡ xs → IsOfPlaces c (length front) places → Agrees k c level other → begins xs other ≡ true
  begins_by c places level other [] e of agrees = refl
  begins_by c places level other (x ∷ xs) e of agrees =
      let many : length front ≡ length (x ∷ xs) = ap length e in
      let p = length xs in
      let one : p + 1 ≡ length front = omega (arith, many) in
      let here : take (p + 1) k.choices ≡ front = ap (λ n. take n k.choices) one ∙ ap (take (length front)) behind.choices ∙ take_all front present in
      let holds : k.facts k.level front level other ≡ true = subst (λ zs. k.facts k.level zs level other ≡ true) here (agrees.facts p (of.last p one)) in
      let fact : fact_by (front_of (sources_of k.model k.root k.seed k.level front)) k.level front level other ≡ true = told k by front level other holds in
      let plain : fact_by None k.level front level other ≡ true = subst (λ r. fact_by (front_of r) k.level front level other ≡ true) behind.reads fact in
      subst (λ zs. begins zs other ≡ true) e plain

  begins_front : (c : Conflict) (places : List ℕ) (level : ℕ) (other : List ℕ) → IsOfPlaces c (length front) places → Agrees k c level other → begins front other ≡ true
  begins_front c places level other of agrees = begins_by c places level other front refl of agrees

  -- the fact of a place behind them
  same_there : (c : Conflict) (places : List ℕ) (level : ℕ) (rest : List ℕ) → IsOfPlaces c (length front) places → Agrees k c level (front ++ rest)
      → (i : ℕ) → Contains places i → i < length present → slice_get rest i ≡ slice_get present i
  same_there c places level rest of agrees i there l =
      let p = length front + i in
      let many = count in
      let below : p < length k.choices = omega (arith, l, many) in
      let one : p + 1 ≡ suc p = omega arith in
      let two : suc p ≡ length front + suc i = omega arith in
      let choices = take (suc p) k.choices in
      let is : choices ≡ front ++ take (suc i) present = ap (λ n. take n k.choices) two ∙ up_to (suc i) in
      let holds : k.facts k.level choices level (front ++ rest) ≡ true = subst (λ n. k.facts k.level (take n k.choices) level (front ++ rest) ≡ true) one (agrees.facts p (of.named i there)) in
      let fact : fact_by (front_of (sources_of k.model k.root k.seed k.level choices)) k.level choices level (front ++ rest) ≡ true = told k by choices level (front ++ rest) holds in
      let which : front_of (sources_of k.model k.root k.seed k.level choices) ≡ Some (length front) =
      ap (λ zs. front_of (sources_of k.model k.root k.seed k.level zs)) is ∙ ap front_of (on (take (suc i) present)) ∙ behind_some u (length front) i present l in
      let plain : fact_by (Some (length front)) k.level choices level (front ++ rest) ≡ true = subst (λ o. fact_by o k.level choices level (front ++ rest) ≡ true) which fact in
      let n = length choices - 1 in
      let first = both_true (nat_eq level k.level) (begins (take (length front) choices) (front ++ rest) && have_same n choices (front ++ rest)) plain in
      let second = both_true (begins (take (length front) choices) (front ++ rest)) (have_same n choices (front ++ rest)) first.1 in
      let same = same_some (slice_get choices n) (slice_get (front ++ rest) n) second.1 in
      let long : length choices ≡ suc p = take_length k.choices p below in
      let at : n ≡ p = omega (arith, long) in
      let here : slice_get choices p ≡ slice_get present i = take_get k.choices p ∙ ap (λ zs. slice_get zs p) behind.choices ∙ get_behind front present i in
      sym (get_behind front rest i) ∙ ap (slice_get (front ++ rest)) (sym at) ∙ same.2 ∙ sym same.1 ∙ ap (slice_get choices) at ∙ here

  within : (c : Conflict) (places : List ℕ) → ((i : ℕ) → Contains places i → i < length present) → IsOfPlaces c (length front) places → IsWithin k c
  within c places inside of p has =
      let many = count in
      ⊎_elim (λ (l : p < length front). omega (arith, l, many))
      (λ (h : (i : ℕ) × Contains places i × (p ≡ length front + i)). let l = inside h.0 h.1 in let e = h.2 in omega (arith, l, e, many))
      (of.within p has)

  pub conflicts : FewPlacesRefuse → (c : Conflict) (places : List ℕ) → ((i : ℕ) → Contains places i → i < length present) → NoneHold k.model k.seed u (length front) present places → IsOfPlaces c (length front) places → IsConflict k c
  conflicts few c places inside none of = record {
    within = within c places inside of;
    none = λ level other agrees sought.
        let goes = begins_goes front other (begins_front c places level other of agrees) in
        let same : AgreeAt places goes.more present =
        λ i there. same_there c places level goes.more of (subst (Agrees k c level) goes.is agrees) i there (inside i there) in
        let e = agrees.same_level of.on_level in
        few k.model k.root k.seed k.level front present u (length front) places behind.reads none goes.more same sought.0
        (subst (λ ys. ReadsLegal k.model k.root k.seed k.level ys sought.0) goes.is (subst (λ v. ReadsLegal k.model k.root k.seed v other sought.0) e sought.1));
  }

  -- ---- what places rest on

  pub values_on : (more : List ℕ) → answer_of (read_values k.model k.seed u (length front) more) ≡ answer_of (then_read (sources_of k.model k.root k.seed k.level (front ++ more)) (read_values k.model k.seed))
  values_on more = ap (λ r. answer_of (then_read r (read_values k.model k.seed))) (sym (on more))

  all_read : (more : List ℕ) → read_values k.model k.seed u (length front) more ≡ read_blanks k.model k.seed (all_blanks k.model u) (with_firsts k.model u) (length front) more
  all_read more = blanks_join k.model k.seed (claim_blanks k.model u.actions) (value_blanks k.model u.actions) (with_firsts k.model u) (length front) more

  option_of : (s t : Scenario) (n : ℕ) → answer k ≡ Options s n → (rest : List ℕ) → ReadsLegal k.model k.root k.seed k.level (front ++ rest) t → HasOption rest (length present) n
  option_of s t n is rest reads =
      let start = with_firsts k.model u in
      let same : IsSameOrder u start = record { level = refl; nodes = refl; acts = refl; kinds = refl; references = refl } in
      let here : answer_of (read_values k.model k.seed u (length front) present) ≡ Options s n =
      values_on present ∙ ap (λ zs. answer_of (then_read (sources_of k.model k.root k.seed k.level zs) (read_values k.model k.seed))) (sym behind.choices) ∙ is in
      let there = whole_reads (read_values k.model k.seed u (length front) rest) t (values_on rest ∙ reads.reads) in
      option_there k.model k.seed u (all_blanks k.model u) start start (length front) present rest s t n there.0 same same
      (sym (all_read present) ∙ options_wants (read_values k.model k.seed u (length front) present) s n here) (sym (all_read rest) ∙ there.1)

  -- the fact of an option
  fact_of : (digit : ℕ) (rest : List ℕ) → slice_get rest (length present) ≡ Some digit → (level : ℕ) → level ≡ k.level → k.facts k.level (k.choices ++ digit ∷ []) level (front ++ rest) ≡ true
  fact_of digit rest there level e =
      let choices = k.choices ++ digit ∷ [] in
      let many = count in
      let long : length choices ≡ length k.choices + 1 = length-append k.choices (digit ∷ []) in
      let n = length choices - 1 in
      let at : n ≡ length k.choices = omega (arith, long) in
      let is : choices ≡ front ++ (present ++ digit ∷ []) = ap (λ zs. zs ++ digit ∷ []) behind.choices ∙ append_assoc front present (digit ∷ []) in
      let which : front_of (sources_of k.model k.root k.seed k.level choices) ≡ Some (length front) =
      ap (λ zs. front_of (sources_of k.model k.root k.seed k.level zs)) is ∙ ap front_of (on (present ++ digit ∷ [])) ∙ longer_some u (length front) digit present in
      let own : slice_get choices n ≡ Some digit = ap (slice_get choices) at ∙ get_last k.choices digit in
      let its : slice_get (front ++ rest) n ≡ Some digit = ap (slice_get (front ++ rest)) (at ∙ many) ∙ get_behind front rest (length present) ∙ there in
      let starts : begins (take (length front) choices) (front ++ rest) ≡ true =
      subst (λ zs. begins zs (front ++ rest) ≡ true) (sym (ap (take (length front)) is ∙ take_all front (present ++ digit ∷ []))) (list_begins front rest) in
      tells k by choices level (front ++ rest)
      (subst (λ o. fact_by o k.level choices level (front ++ rest) ≡ true) (sym which)
      (ap₂ ◌&&◌ (ap (λ v. nat_eq v k.level) e ∙ eq_self k.level) (ap₂ ◌&&◌ starts (some_same (slice_get choices n) (slice_get (front ++ rest) n) digit own its))))

  -- ---- options that are excluded

  -- the option of a fact
  option_told : (digit : ℕ) (rest : List ℕ) (level : ℕ) → k.facts k.level (k.choices ++ digit ∷ []) level (front ++ rest) ≡ true → slice_get rest (length present) ≡ Some digit
  option_told digit rest level holds =
      let choices = k.choices ++ digit ∷ [] in
      let many = count in
      let long : length choices ≡ length k.choices + 1 = length-append k.choices (digit ∷ []) in
      let n = length choices - 1 in
      let at : n ≡ length k.choices = omega (arith, long) in
      let is : choices ≡ front ++ (present ++ digit ∷ []) = ap (λ zs. zs ++ digit ∷ []) behind.choices ∙ append_assoc front present (digit ∷ []) in
      let which : front_of (sources_of k.model k.root k.seed k.level choices) ≡ Some (length front) =
      ap (λ zs. front_of (sources_of k.model k.root k.seed k.level zs)) is ∙ ap front_of (on (present ++ digit ∷ [])) ∙ longer_some u (length front) digit present in
      let fact : fact_by (front_of (sources_of k.model k.root k.seed k.level choices)) k.level choices level (front ++ rest) ≡ true = told k by choices level (front ++ rest) holds in
      let plain : fact_by (Some (length front)) k.level choices level (front ++ rest) ≡ true = subst (λ o. fact_by o k.level choices level (front ++ rest) ≡ true) which fact in
      let first = both_true (nat_eq level k.level) (begins (take (length front) choices) (front ++ rest) && have_same n choices (front ++ rest)) plain in
      let second = both_true (begins (take (length front) choices) (front ++ rest)) (have_same n choices (front ++ rest)) first.1 in
      let same = same_some (slice_get choices n) (slice_get (front ++ rest) n) second.1 in
      let own : slice_get choices n ≡ Some digit = ap (slice_get choices) at ∙ get_last k.choices digit in
      sym (get_behind front rest (length present)) ∙ ap (slice_get (front ++ rest)) (sym (at ∙ many)) ∙ same.2 ∙ sym same.1 ∙ own

  agree_with : (places : List ℕ) (digit : ℕ) (rest : List ℕ) → slice_get rest (length present) ≡ Some digit → ((i : ℕ) → Contains places i → i < length present)
      → ((i : ℕ) → Contains places i → i < length present → slice_get rest i ≡ slice_get present i) → AgreeAt (length present ∷ places) rest (present ++ digit ∷ [])
  agree_with places digit rest here inside same i (zero, l, e) = subst (λ j. slice_get rest j ≡ slice_get (present ++ digit ∷ []) j) e (here ∙ sym (get_last present digit))
  agree_with places digit rest here inside same i (suc q, l, e) =
      let there : Contains places i = (q, omega (arith, l), e) in
      let small = inside i there in
      let own : slice_get present i ≡ Some (get_or present i 0) = some_at present i small in
      same i there small ∙ own ∙ sym (get_front present (digit ∷ []) i (get_or present i 0) own)

  pub excludes : FewPlacesRefuse → (c : Conflict) (places : List ℕ) (digit : ℕ) → ((i : ℕ) → Contains places i → i < length present)
      → NoneHold k.model k.seed u (length front) (present ++ digit ∷ []) (length present ∷ places) → IsOfPlaces c (length front) places → Excludes k c digit
  excludes few c places digit inside none of = record {
    none = λ level other agrees holds sought.
        let goes = begins_goes front other (begins_front c places level other of agrees) in
        let here : slice_get goes.more (length present) ≡ Some digit =
        option_told digit goes.more level (subst (λ ys. k.facts k.level (k.choices ++ digit ∷ []) level ys ≡ true) goes.is holds) in
        let same : AgreeAt (length present ∷ places) goes.more (present ++ digit ∷ []) =
        agree_with places digit goes.more here inside (same_there c places level goes.more of (subst (Agrees k c level) goes.is agrees)) in
        let e = agrees.same_level of.on_level in
        few k.model k.root k.seed k.level front (present ++ digit ∷ []) u (length front) (length present ∷ places) behind.reads none goes.more same sought.0
        (subst (λ ys. ReadsLegal k.model k.root k.seed k.level ys sought.0) goes.is (subst (λ v. ReadsLegal k.model k.root k.seed v other sought.0) e sought.1));
  }

  pub rests : (c : Conflict) (s : Scenario) (n : ℕ) → IsOfPlaces c (length front) [] → answer k ≡ Options s n → Rests k n c
  rests c s n of is = record {
    within = within c [] (λ i (q, l, e). let bad : ⊥ = omega (arith, l) in absurd bad) of;
    some = λ level other agrees sought.
        let goes = begins_goes front other (begins_front c [] level other of agrees) in
        let e = agrees.same_level of.on_level in
        let reads = subst (λ ys. ReadsLegal k.model k.root k.seed k.level ys sought.0) goes.is (subst (λ v. ReadsLegal k.model k.root k.seed v other sought.0) e sought.1) in
        let option = option_of s sought.0 n is goes.more reads in (
          option.0,
          option.1,
          subst (λ ys. k.facts k.level (k.choices ++ option.0 ∷ []) level ys ≡ true) (sym goes.is) (fact_of option.0 goes.more option.2 level e),
        );
  }

pub few_conflict : FewPlacesRefuse → FewPlacesConflict
few_conflict few k c front present places u by behind inside none of = conflicts k by front present u behind few c places inside none of

pub few_exclude : FewPlacesRefuse → FewPlacesExclude
few_exclude few k c front present places digit u by behind inside none of = excludes k by front present u behind few c places digit inside none of

pub rest_on_sources : PlacesRestOnTheSources
rest_on_sources k c front present u s n by behind of is = rests k by front present u behind c s n of is

-- The levels that are passed, and what the next one adds.
use Rattle.std.proofs.Common.{◌≡◌, ◌≢◌, ◌⊎◌, ℕ, zero, suc, ◌+◌, ◌<◌, ◌≤◌, List, [], ◌∷◌, ◌++◌, length, Bool, true, false, refl, sym, ap, ◌∙◌, subst, inl, inr, ⊎_elim, arith, length-append}
use Rattle.std.specs.Prelude.{Some, slice_get, sum_by}
use Rattle.std.proofs.lemmas.Bool.{cases_lt}
use Rattle.std.proofs.lemmas.Option.{none-some}
use Rattle.std.proofs.lemmas.List.Sums.{sum_by-append}
use Rattle.pst_model.specs.ModelTree.{ModelTree}
use Rattle.pst_model.specs.Sound.{IsSound}
use Rattle.pst_scen.specs.declared.scenario.Scenario.{Scenario}
use Rattle.pst_legal.specs.ValueReading.{Whole}
use Rattle.pst_legal.specs.Legal.{Legal}
use Rattle.pst_legal.specs.First.{ReadsLegal, NoneBelow, NoneBefore, AreLive, IsFirst, Spent}
use Rattle.pst_built.specs.Laws.{WholeReadingsAreBuilt}
use Rattle.pst_built.specs.ReachedLaws.{LegalScenariosAreRead}
use Rattle.pst_search_loop.specs.Kept.{Facts, Kept, at_level, answer, Sought, SameKept}
use Rattle.pst_search_loop.specs.Search.{IsLeast, IsSpent, IsEmpty}
use Rattle.pst_search_loop.specs.Levels.{ArePast, IsOfSearch}

pub past_first : (k : Kept) (budget : ℕ) → 0 < budget → ArePast k 0 budget budget
past_first k budget some = record {
  below = λ s l legal. let bad : ⊥ = omega (arith, l) in bad;
  lists = [];
  levels = refl;
  live = λ j of_level is. absurd (none-some of_level is);
  count = omega arith;
  more = some;
}

-- ---- one more level

get_cases : (lists : List (List (List ℕ))) (x y : List (List ℕ)) (j : ℕ) → slice_get (lists ++ x ∷ []) j ≡ Some y → (slice_get lists j ≡ Some y) ⊎ ((j ≡ length lists) × (x ≡ y))
get_cases [] x y zero h = let e : x ≡ y = cc in inr (refl, e)
get_cases [] x y (suc j) h = absurd (none-some y h)
get_cases (list ∷ lists) x y zero h = inl h
get_cases (list ∷ lists) x y (suc j) h = ⊎_elim (λ a. inl a) (λ b. inr (ap suc b.0, b.1)) (get_cases lists x y j h)

get_last : (lists : List (List (List ℕ))) (x : List (List ℕ)) → slice_get (lists ++ x ∷ []) (length lists) ≡ Some x
get_last [] x = refl
get_last (list ∷ lists) x = get_last lists x

sum_last : (lists : List (List (List ℕ))) (x : List (List ℕ)) → sum_by length (lists ++ x ∷ []) ≡ sum_by length lists + length x
sum_last lists x =
    let e : sum_by length (lists ++ x ∷ []) ≡ sum_by length lists + (0 + length x) = sum_by-append length lists (x ∷ []) in
    omega (arith, e)

level_lives : (k : Kept) (lists : List (List (List ℕ))) (x : List (List ℕ)) (level : ℕ) → length lists ≡ level
    → ((j : ℕ) (of_level : List (List ℕ)) → slice_get lists j ≡ Some of_level → AreLive k.model k.root k.seed j of_level) → AreLive k.model k.root k.seed level x
    → (j : ℕ) (of_level : List (List ℕ)) → slice_get (lists ++ x ∷ []) j ≡ Some of_level → AreLive k.model k.root k.seed j of_level
level_lives k lists x level size each here j of_level is = ⊎_elim
    (λ a. each j of_level a)
    (λ b. subst (AreLive k.model k.root k.seed j) b.1 (subst (λ i. AreLive k.model k.root k.seed i x) (sym size ∙ sym b.0) here))
    (get_cases lists x of_level j is)

-- a legal scenario is read by some list of its level
legal_is_sought : LegalScenariosAreRead → (k : Kept) → IsSound k.model → (s : Scenario) → Legal k.model k.root s → (choices : List ℕ) × Sought k s.level choices
legal_is_sought read_all k sound s legal =
    let found = read_all k.model k.root k.seed s sound legal in
    (found.0, (s, record { reads = found.1; legal = legal }))

none_to : LegalScenariosAreRead → (k : Kept) (level budget left rest : ℕ) (on_level : Bool) → IsSound k.model → ArePast k level budget left → IsEmpty (at_level k level) on_level left rest
    → (s : Scenario) → s.level ≤ level → Legal k.model k.root s → ⊥
none_to read_all k level budget left rest on_level sound past empty s few legal = ⊎_elim
    (λ (l : s.level < level). past.below s l legal)
    (λ (l : level ≤ s.level).
    let e : s.level ≡ level = omega (arith, few, l) in
    let found = legal_is_sought read_all k sound s legal in
    empty.none s.level found.0 (λ on. e) found.1)
    (cases_lt s.level level)

-- where nothing rested on the level, no level has a legal scenario
pub none_anywhere : LegalScenariosAreRead → (k : Kept) (level left rest : ℕ) (on_level : Bool) → IsSound k.model → on_level ≡ false → IsEmpty (at_level k level) on_level left rest → (s : Scenario) → Legal k.model k.root s → ⊥
none_anywhere read_all k level left rest on_level sound off empty s legal =
    let found = legal_is_sought read_all k sound s legal in
    empty.none s.level found.0 (λ on. let bad : true ≡ false = sym on ∙ off in absurd cc) found.1

pub none_at_last : LegalScenariosAreRead → (k : Kept) (level budget left rest infer : ℕ) (on_level : Bool) → IsSound k.model → infer ≤ level → ArePast k level budget left → IsEmpty (at_level k level) on_level left rest
    → (s : Scenario) → s.level ≤ infer → Legal k.model k.root s → ⊥
none_at_last read_all k level budget left rest infer on_level sound last past empty s few legal = none_to read_all k level budget left rest on_level sound past empty s (omega (arith, few, last)) legal

pub past_on : LegalScenariosAreRead → (k : Kept) (level budget left rest : ℕ) (on_level : Bool) → IsSound k.model → ArePast k level budget left → IsEmpty (at_level k level) on_level left rest → ArePast k (level + 1) budget rest
past_on read_all k level budget left rest on_level sound past empty =
    let size : length (past.lists ++ empty.lists ∷ []) ≡ length past.lists + 1 = length-append past.lists (empty.lists ∷ []) in
    let sum : sum_by length (past.lists ++ empty.lists ∷ []) ≡ sum_by length past.lists + length empty.lists = sum_last past.lists empty.lists in
    let many : length empty.lists ≡ empty.used = empty.counted.many in
    let a : empty.used + rest ≡ left = empty.sum in
    let b : sum_by length past.lists + left ≡ budget = past.count in
    let c : length past.lists ≡ level = past.levels in
    record {
      below = λ s l legal. none_to read_all k level budget left rest on_level sound past empty s (omega (arith, l)) legal;
      lists = past.lists ++ empty.lists ∷ [];
      levels = omega (arith, size, c);
      live = level_lives k past.lists empty.lists level past.levels past.live empty.counted.live;
      count = omega (arith, sum, many, a, b);
      more = empty.more;
    }

-- ---- answers

nonempty : (lists : List (List ℕ)) (n : ℕ) → length lists ≡ n → 0 < n → lists ≢ []
nonempty lists n size some e = let z : length lists ≡ length {A = List ℕ} [] = ap length e in let bad : ⊥ = omega (arith, size, some, z) in bad

pub spent_here : (k : Kept) (level budget left : ℕ) → ArePast k level budget left → IsSpent (at_level k level) left → Spent k.model k.root k.seed level budget
spent_here k level budget left past spent =
    let size : length (past.lists ++ spent.lists ∷ []) ≡ length past.lists + 1 = length-append past.lists (spent.lists ∷ []) in
    let sum : sum_by length (past.lists ++ spent.lists ∷ []) ≡ sum_by length past.lists + length spent.lists = sum_last past.lists spent.lists in
    let many : length spent.lists ≡ left = spent.counted.many in
    let b : sum_by length past.lists + left ≡ budget = past.count in
    let c : length past.lists ≡ level = past.levels in
    record {
      below = past.below;
      lists = past.lists ++ spent.lists ∷ [];
      levels = omega (arith, size, c);
      live = level_lives k past.lists spent.lists level past.levels past.live spent.counted.live;
      count = omega (arith, sum, many, b);
      here = spent.lists;
      is = subst (λ n. slice_get (past.lists ++ spent.lists ∷ []) n ≡ Some spent.lists) past.levels (get_last past.lists spent.lists);
      some = nonempty spent.lists left spent.counted.many past.more;
      before = spent.before;
    }

reads_same : (k l : Kept) (ds : List ℕ) (s : Scenario) → SameKept k l → ReadsLegal l.model l.root l.seed l.level ds s → ReadsLegal k.model k.root k.seed k.level ds s
reads_same k l ds s same reads =
    subst (λ m. ReadsLegal m k.root k.seed k.level ds s) same.model (subst (λ r. ReadsLegal l.model r k.seed k.level ds s) same.root
    (subst (λ x. ReadsLegal l.model l.root x k.level ds s) same.seed (subst (λ x. ReadsLegal l.model l.root l.seed x ds s) same.level reads)))

before_same : (k l : Kept) (ds : List ℕ) → SameKept k l → NoneBefore l.model l.root l.seed l.level ds → NoneBefore k.model k.root k.seed k.level ds
before_same k l ds same none =
    subst (λ m. NoneBefore m k.root k.seed k.level ds) same.model (subst (λ r. NoneBefore l.model r k.seed k.level ds) same.root
    (subst (λ x. NoneBefore l.model l.root x k.level ds) same.seed (subst (λ x. NoneBefore l.model l.root l.seed x ds) same.level none)))

pub found_here : WholeReadingsAreBuilt → (k n : Kept) (level budget left infer : ℕ) → level ≤ infer → ArePast k level budget left → IsLeast (at_level k level) n
    → (s : Scenario) × (answer n ≡ Whole s) × IsFirst k.model k.root k.seed infer s
found_here built k n level budget left infer few past least =
    let s = least.sought.0 in
    let reads = least.sought.1 in
    let here = reads_same (at_level k level) n n.choices s least.same reads in
    let e : s.level ≡ level = (built k.model k.root k.seed level n.choices s here.reads).1 in (
      s,
      reads.reads,
      record {
        few = subst (λ x. x ≤ infer) (sym e) few;
        below = subst (NoneBelow k.model k.root) (sym e) past.below;
        choices = n.choices;
        reads = subst (λ x. ReadsLegal k.model k.root k.seed x n.choices s) (sym e) here;
        before = subst (λ x. NoneBefore k.model k.root k.seed x n.choices) (sym e) (before_same (at_level k level) n n.choices least.same least.before);
      },
    )

-- ---- the walker of a search

pub of_search_first : (k : Kept) → IsOfSearch k k
of_search_first k level = refl

pub begun : (k l b : Kept) (level : ℕ) → IsOfSearch k l → b ≡ at_level l level → b ≡ at_level k level
begun k l b level of is = is ∙ of level

abbrev kept_at : ModelTree → ℕ → ℕ → Facts → ℕ → Kept
kept_at m r s f v = record { model = m; root = r; seed = s; facts = f; level = v; choices = [] }

level_of : (k l : Kept) → SameKept k l → (level : ℕ) → at_level l level ≡ at_level k level
level_of k l same level =
    ap (λ m. kept_at m l.root l.seed l.facts level) same.model
    ∙ ap (λ r. kept_at k.model r l.seed l.facts level) same.root
    ∙ ap (λ s. kept_at k.model k.root s l.facts level) same.seed
    ∙ ap (λ f. kept_at k.model k.root k.seed f level) same.facts

pub still_of_search : (k b n : Kept) (level : ℕ) → b ≡ at_level k level → SameKept b n → IsOfSearch k n
still_of_search k b n level is same other = level_of b n same other ∙ ap (λ (x : Kept). at_level x other) is

-- The steps of a search pass no list that reads a legal scenario.
use Rattle.std.proofs.Common.{◌≡◌, ◌⊎◌, ℕ, zero, suc, ◌+◌, ◌<◌, ◌≤◌, List, [], ◌∷◌, ◌++◌, length, get_or, AllPairs, refl, sym, ap, ◌∙◌, subst, inl, inr, ⊎_elim, arith, length-append}
use Rattle.std.proofs.lemmas.Bool.{cases_lt}
use Rattle.std.proofs.lemmas.List.{get_or_append_left, get_or-append-add}
use Rattle.pst_scen.specs.declared.scenario.Scenario.{Scenario}
use Rattle.pst_legal.specs.ValueReading.{Dead, Whole, read}
use Rattle.pst_legal.specs.First.{IsBefore, ReadsLegal, IsLive, last_of}
use Rattle.pst_built.specs.LongerLaws.{ChoicesNameOptions}
use Rattle.pst_built.specs.ReachedLaws.{LegalScenariosAreRead}
use Rattle.pst_list_order.specs.Laws.{NothingIsFirst, GoesDown, GoesToNext, GoesUp, GoesOver, LevelsEnd, LiveListsRise}
use Rattle.pst_list_order.proofs.Order.{before_zero, before_next, GoesOn, passed_front, Begins, passed_cases, before_then}

pub first : NothingIsFirst
first m root seed level other s before reads = before

pub down : GoesDown
down m root seed level choices not none other s before reads =
    ⊎_elim (λ b. none other s b reads) (λ same. not s (subst (λ ds. ReadsLegal m root seed level ds s) same reads)) (before_zero choices other before)

pub next : GoesToNext
next m root seed level choices digit none other s before reads = none other s (before_next choices other digit before) reads

not_whole : (s : Scenario) → Dead ≡ Whole s → ⊥
not_whole s e = cc

pub up : ChoicesNameOptions → GoesUp
up named m root seed level choices t n digit is few none other s passed reads =
    ⊎_elim (λ p. none other s p reads)
    (λ (g : GoesOn choices other digit).
    let greater = g.greater in
    let dead = named m root seed level choices t n g.digit g.rest is (omega (arith, greater, few)) in
    not_whole s (sym dead ∙ ap (read m root seed level) (sym g.is) ∙ reads.reads))
    (passed_front choices other digit passed)

pub over : GoesOver
over m root seed level choices closed none other s passed reads =
    ⊎_elim (λ b. none other s b reads) (λ (g : Begins choices other). closed g.rest s (subst (λ ds. ReadsLegal m root seed level ds s) g.is reads)) (passed_cases choices other passed)

pub ends : LegalScenariosAreRead → LevelsEnd
ends read_all m root seed level sound none s same legal =
    let r = read_all m root seed s sound legal in
    none r.0 s tt (record { reads = subst (λ l. read m root seed l r.0 ≡ Whole s) same r.1; legal = legal })

-- ---- live lists

-- the last of lists is behind the others or one of them
last_is : (last : List ℕ) (lists : List (List ℕ)) (k : ℕ) (d : List ℕ) → k < length lists → AllPairs IsBefore lists → IsBefore (get_or lists k d) (last_of last lists) ⊎ (get_or lists k d ≡ last_of last lists)
last_is last [] k d l pairs = absurd (omega (arith, l))
last_is last (list ∷ []) zero d l pairs = inr refl
last_is last (list ∷ []) (suc k) d l pairs = absurd (omega (arith, l))
last_is last (list ∷ other ∷ lists) zero d l pairs =
    let near : IsBefore list other = pairs zero (suc zero) d (omega arith) (omega arith) in
    ⊎_elim (λ b. inl (before_then list other (last_of list (other ∷ lists)) near b)) (λ e. inl (subst (λ ds. IsBefore list ds) e near))
    (last_is list (other ∷ lists) zero d (omega arith) (λ i j e less within. pairs (suc i) (suc j) e (omega (arith, less)) (omega (arith, within))))
last_is last (list ∷ other ∷ lists) (suc k) d l pairs =
    last_is list (other ∷ lists) k d (omega (arith, l)) (λ i j e less within. pairs (suc i) (suc j) e (omega (arith, less)) (omega (arith, within)))

at_end : (lists : List (List ℕ)) (list d : List ℕ) (j : ℕ) → j ≡ length lists → get_or (lists ++ list ∷ []) j d ≡ list
at_end lists list d j same = let here : j ≡ length lists + 0 = omega (arith, same) in ap (λ k. get_or (lists ++ list ∷ []) k d) here ∙ get_or-append-add lists (list ∷ []) 0 d

pub rise : LiveListsRise
rise m root seed level lists list are behind live =
    let long = length-append lists (list ∷ []) in
    record {
      live = λ k d l.
          ⊎_elim (λ (n : k < length lists). subst (IsLive m root seed level) (sym (get_or_append_left lists (list ∷ []) d k n)) (are.live k d n))
          (λ (n : length lists ≤ k). subst (IsLive m root seed level) (sym (at_end lists list d k (omega (arith, n, l, long)))) live)
          (cases_lt k (length lists));
      rising = λ i j d less l.
          ⊎_elim
          (λ (n : j < length lists).
          subst (λ ds. IsBefore (get_or (lists ++ list ∷ []) i d) ds) (sym (get_or_append_left lists (list ∷ []) d j n))
          (subst (λ ds. IsBefore ds (get_or lists j d)) (sym (get_or_append_left lists (list ∷ []) d i (omega (arith, n, less)))) (are.rising i j d less n)))
          (λ (n : length lists ≤ j).
          let before : i < length lists = omega (arith, n, l, less, long) in
          subst (λ ds. IsBefore (get_or (lists ++ list ∷ []) i d) ds) (sym (at_end lists list d j (omega (arith, n, l, long))))
          (subst (λ ds. IsBefore ds list) (sym (get_or_append_left lists (list ∷ []) d i before))
          (⊎_elim (λ b. before_then (get_or lists i d) (last_of [] lists) list b behind) (λ e. subst (λ ds. IsBefore ds list) (sym e) behind) (last_is [] lists i d before are.rising))))
          (cases_lt j (length lists));
    }

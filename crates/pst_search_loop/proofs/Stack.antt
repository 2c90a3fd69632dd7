-- The stack of choices: what it keeps, and that no list before the one at hand is sought.
use Rattle.std.proofs.Common.{◌≡◌, ℕ, suc, ◌+◌, ◌<◌, List, [], ◌∷◌, ◌++◌, length, reverse, true, refl, sym, ap, ◌∙◌, subst, ⊎_elim, arith, length-append}
use Rattle.std.proofs.lemmas.List.{reverse-append, length-reverse}
use Rattle.pst_scen.specs.declared.scenario.Scenario.{Scenario}
use Rattle.pst_legal.specs.ValueReading.{Options, Whole}
use Rattle.pst_legal.specs.First.{ReadsLegal, NoneBefore}
use Rattle.pst_search_loop.specs.declared.conflict.Conflict.{Conflict}
use Rattle.pst_search_loop.specs.declared.frame.Frame.{Frame}
use Rattle.pst_search_loop.specs.Conflicts.{Has}
use Rattle.pst_search_loop.specs.Kept.{Kept, at_list, with_choice, answer, FactsHold, Agrees, SameKept}
use Rattle.pst_search_loop.specs.Stack.{digits_of, ArePassed, IsRight, AllRight, Stands}
use Rattle.pst_search_loop.proofs.Lists.{take_front, take_next, same_front, PartsAt, before_cases}
use Rattle.pst_search_loop.proofs.Conflicts.{same_on, same_back, at_same, at_own}

right_same : (k l : Kept) → SameKept k l → (frames : List Frame) → AllRight k frames → AllRight l frames
right_same k l same [] all = tt
right_same k l same (f ∷ older) all = (subst (λ x. IsRight x f) (at_same k l (digits_of older) same) all.0, right_same k l same older all.1)

plus_one : (n : ℕ) → n + 1 ≡ suc n
plus_one n = omega arith

length_digits : (frames : List Frame) → length (digits_of frames) ≡ length frames
length_digits [] = refl
length_digits (f ∷ older) =
    let a : length (digits_of older ++ f.digit ∷ []) ≡ length (digits_of older) + 1 = length-append (digits_of older) (f.digit ∷ []) in
    let b : length (digits_of older) ≡ length older = length_digits older in
    a ∙ ap (λ n. n + 1) b ∙ plus_one (length older)

-- as many choices as frames
pub length_stands : (k : Kept) (frames : List Frame) → Stands k frames → length k.choices ≡ length frames
length_stands k frames stands = ap length stands.choices ∙ length_digits (reverse frames) ∙ length-reverse frames

-- at the empty list
pub stands_first : (k : Kept) → k.choices ≡ [] → Stands k []
stands_first k e = record { choices = e; right = tt }

reverse_next : (frames : List Frame) (f : Frame) → reverse (frames ++ f ∷ []) ≡ f ∷ reverse frames
reverse_next frames f = reverse-append frames (f ∷ [])

-- one choice more
pub stands_on : (k l : Kept) (frames later : List Frame) (f : Frame) → Stands k frames → l ≡ with_choice k f.digit → later ≡ frames ++ f ∷ [] → (s : Scenario) → answer k ≡ Options s f.count → f.digit < f.count → ArePassed k f.reasons f.digit → Stands l later
stands_on k l frames later f stands is more s options named passed =
    let turned : reverse later ≡ f ∷ reverse frames = ap reverse more ∙ reverse_next frames f in
    let same = same_on k l f.digit is in
    let here : IsRight (at_list k (digits_of (reverse frames))) f =
    subst (λ x. IsRight x f) (sym (at_own k (digits_of (reverse frames)) stands.choices)) (record { scenario = s; options = options; named = named; passed = passed }) in
    record {
      choices = ap (λ (x : Kept). x.choices) is ∙ ap (λ xs. xs ++ f.digit ∷ []) stands.choices ∙ sym (ap digits_of turned);
      right = subst (AllRight l) (sym turned) (right_same k l same (f ∷ reverse frames) (here, stands.right));
    }

-- one choice less
pub record IsPopped (k l : Kept) (frames : List Frame) (f : Frame) : Type 0 where
  pub is : k.choices ≡ l.choices ++ f.digit ∷ []
  pub same : SameKept k l
  pub stands : Stands l frames
  pub right : IsRight l f

pub stands_back : (k l : Kept) (frames later : List Frame) (f : Frame) (d : ℕ) → Stands k later → later ≡ frames ++ f ∷ [] → k ≡ with_choice l d → IsPopped k l frames f
stands_back k l frames later f d stands more is =
    let turned : reverse later ≡ f ∷ reverse frames = ap reverse more ∙ reverse_next frames f in
    let all : AllRight k (f ∷ reverse frames) = subst (AllRight k) turned stands.right in
    let choices : k.choices ≡ digits_of (reverse frames) ++ f.digit ∷ [] = stands.choices ∙ ap digits_of turned in
    let front : l.choices ≡ digits_of (reverse frames) = same_front l.choices (digits_of (reverse frames)) d f.digit (sym (ap (λ (x : Kept). x.choices) is) ∙ choices) in
    let same = same_back k l d is in
    let here = right_same k l same (f ∷ reverse frames) all in
    record {
      is = choices ∙ ap (λ xs. xs ++ f.digit ∷ []) (sym front);
      same = same;
      stands = record { choices = front; right = here.1 };
      right = subst (λ x. IsRight x f) (at_own l (digits_of (reverse frames)) front) here.0;
    }

-- ---- no list before the one at hand is sought

not_whole : (k : Kept) (xs : List ℕ) (s t : Scenario) (n : ℕ) → answer (at_list k xs) ≡ Options s n → ReadsLegal k.model k.root k.seed k.level xs t → ⊥
not_whole k xs s t n is reads = let both : Options s n ≡ Whole t = sym is ∙ reads.reads in absurd cc

agrees_itself : (k : Kept) (xs : List ℕ) (digit : ℕ) (rest : List ℕ) (c : Conflict) → FactsHold k.facts → ((p : ℕ) → Has c p → p < length xs) → Agrees (at_list k xs) c k.level (xs ++ digit ∷ rest)
agrees_itself k xs digit rest c facts within = record {
  same_level = λ e. refl;
  facts = λ p h.
      let l : p < length xs = within p h in
      let n : length (xs ++ digit ∷ rest) ≡ length xs + length (digit ∷ rest) = length-append xs (digit ∷ rest) in
      subst (λ ys. k.facts k.level ys k.level (xs ++ digit ∷ rest) ≡ true) (take_front xs (digit ∷ rest) p l) (facts k.level (xs ++ digit ∷ rest) p (omega (arith, l, n)));
}

last_holds : (k : Kept) (xs : List ℕ) (digit : ℕ) (rest : List ℕ) → FactsHold k.facts → k.facts k.level (xs ++ digit ∷ []) k.level (xs ++ digit ∷ rest) ≡ true
last_holds k xs digit rest facts =
    let n : length (xs ++ digit ∷ rest) ≡ length xs + length (digit ∷ rest) = length-append xs (digit ∷ rest) in
    subst (λ ys. k.facts k.level ys k.level (xs ++ digit ∷ rest) ≡ true) (take_next xs digit rest) (facts k.level (xs ++ digit ∷ rest) (length xs) (omega (arith, n)))

none_before : (k : Kept) → FactsHold k.facts → (frames : List Frame) → AllRight k frames → NoneBefore k.model k.root k.seed k.level (digits_of frames)
none_before k facts [] all other s before reads = before
none_before k facts (f ∷ older) all other s before reads =
    let xs = digits_of older in
    let right = all.0 in
    ⊎_elim
    (λ b. ⊎_elim
    (λ c. none_before k facts older all.1 other s c reads)
    (λ (q : other ≡ xs). not_whole k xs right.scenario s f.count right.options (subst (λ ys. ReadsLegal k.model k.root k.seed k.level ys s) q reads)) b)
    (λ (p : PartsAt xs other f.digit).
    (right.passed.each p.digit p.less).none k.level (xs ++ p.digit ∷ p.rest)
    (agrees_itself k xs p.digit p.rest f.reasons facts right.passed.within) (last_holds k xs p.digit p.rest facts)
    (s, subst (λ ys. ReadsLegal k.model k.root k.seed k.level ys s) p.is reads))
    (before_cases xs other f.digit before)

pub none_before_here : (k : Kept) (frames : List Frame) → FactsHold k.facts → Stands k frames → NoneBefore k.model k.root k.seed k.level k.choices
none_before_here k frames facts stands = subst (NoneBefore k.model k.root k.seed k.level) (sym stands.choices) (none_before k facts (reverse frames) stands.right)

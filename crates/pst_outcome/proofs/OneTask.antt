-- The words of a line ask for one thing.
use Rattle.std.proofs.Common.{◌≡◌, ◌∙◌, ℕ, ◌+◌, ◌*◌, ◌^◌, ◌<◌, ◌≤◌, ◌⊎◌, inl, inr, Bool, true, false, List, [], ◌∷◌, ◌++◌, length, drop, decimal, nat_lt, cond, refl, ap, sym, subst, arith}
use Rattle.std.specs.Prelude.{All, Some, None, IsTrue}
use Rattle.std.proofs.lemmas.Bool.{ltb-true, ltb-false}
use Rattle.std.proofs.lemmas.List.{append_cancel_left}
use Rattle.std.proofs.lemmas.List.Elements.{All-head, All-tail}
use Rattle.pst_generated.specs.Generated.{generated_text}
use Rattle.pst_words.specs.declared.command.Command.{Command}
use Rattle.pst_words.specs.declared.command.Command.TheVariants.{Run, Solve, Check, Gen, Static, Place, Sweep}
use Rattle.pst_words.specs.declared.command.Lines.{Lines}
use Rattle.pst_words.specs.declared.command.Lines.TheVariants as lines
use Rattle.pst_words.specs.declared.key.Key.{Key}
use Rattle.pst_words.specs.declared.key.Key.TheVariants.{Seed, Infer, Budget, Lanes, Size, Over, Space, Base, First, Count}
use Rattle.pst_words.specs.Table.{is_served, key_start, IsValue}
use Rattle.pst_words.specs.Lines.{IsArgument, AKey, AFile, is_of, given, AreSeeds}
use Rattle.pst_words.proofs.Keys.{word_is, is_word_of, one_key, key_no_file}
use Rattle.pst_words.proofs.Given.{given_here, given_later}
use Rattle.pst_outcome.specs.declared.task.Task.{Task}
use Rattle.pst_outcome.specs.declared.task.Work.{Work}
use Rattle.pst_outcome.specs.declared.task.Work.TheVariants as work
use Rattle.pst_outcome.specs.Tasks.{IsNumberGiven, AreSources, IsWork, FitsLanes, IsSweep, IsAskedBy, AreLimits, IsTask}

-- ---- numbers

-- each value of the key has that
abbrev EachValue : ℕ → Key → (List ℕ → Type 0) → Type 0
EachValue have key P = (text : List ℕ) → IsValue have key text → P text

value_of_key : (have : ℕ) (key k : Key) (word text : List ℕ) (P : List ℕ → Type 0) → EachValue have key P → is_of key word ≡ true → word ≡ key_start k ++ text → IsValue have k text → P (drop (length (key_start key)) word)
value_of_key have key k word text P has is are value =
    let own : is_of k word ≡ true = subst (λ (w : List ℕ). is_of k w ≡ true) (sym are) (is_word_of k text) in
    let same : k ≡ key = one_key k key word own is in
    let moved : word ≡ key_start key ++ text = are ∙ ap (λ (l : Key). key_start l ++ text) same in
    let rest : text ≡ drop (length (key_start key)) word = append_cancel_left (key_start key) text (drop (length (key_start key)) word) (sym moved ∙ word_is key word is) in
    subst P rest (has text (subst (λ (l : Key). IsValue have l text) same value))

value_by : (command : Command) (have : ℕ) (key : Key) (word : List ℕ) (P : List ℕ → Type 0) → EachValue have key P → is_of key word ≡ true → IsArgument command have word → P (drop (length (key_start key)) word)
value_by command have key word P has is (AKey k text among are value) = value_of_key have key k word text P has is are value
value_by command have key word P has is (AFile file) = let both : false ≡ true = sym (key_no_file key word is) ∙ file in absurd cc

-- the key is given no value, or one that has what each value has
pub value_cases : (command : Command) (have : ℕ) (key : Key) (words : List (List ℕ)) (P : List ℕ → Type 0) → EachValue have key P → All (IsArgument command have) words
    → (given key words ≡ None) ⊎ ((text : List ℕ) × (given key words ≡ Some text) × P text)
value_cases command have key [] P has each = inl refl
value_cases command have key (word ∷ more) P has each =
    by (value_cases command have key more P has (All-tail (IsArgument command have) word more each)) (is_of key word) refl
  where
    by : (given key more ≡ None) ⊎ ((text : List ℕ) × (given key more ≡ Some text) × P text) → (b : Bool) → is_of key word ≡ b
        → (given key (word ∷ more) ≡ None) ⊎ ((text : List ℕ) × (given key (word ∷ more) ≡ Some text) × P text)
    by rest true is =
        inr (drop (length (key_start key)) word, given_here key word more is, value_by command have key word P has is (All-head (IsArgument command have) word more each))
    by (inl none) false is = inl (given_later key word more is ∙ none)
    by (inr (text, some, holds)) false is = inr (text, given_later key word more is ∙ some, holds)

-- a number that fits 64 bits, which the text spells
abbrev Spells : List ℕ → Type 0
Spells text = (k : ℕ) × (k < 2 ^ 64) × (text ≡ decimal k)

-- each value of the key is one
abbrev IsNumberKey : ℕ → Key → Type 0
IsNumberKey have key = EachValue have key Spells

seeds : (have : ℕ) → IsNumberKey have Seed
seeds have text is = let high = is.high in (is.number, omega (arith, high), is.spelled)

infers : (have : ℕ) → IsNumberKey have Infer
infers have text is = let high = is.high in (is.number, omega (arith, high), is.spelled)

budgets : (have : ℕ) → IsNumberKey have Budget
budgets have text is = let high = is.high in (is.number, omega (arith, high), is.spelled)

overs : (have : ℕ) → IsNumberKey have Over
overs have text is = let high = is.high in (is.number, omega (arith, high), is.spelled)

few_lanes : (b : Bool) (have n : ℕ) → nat_lt have 16 ≡ b → n ≤ cond b have 16 → n < 2 ^ 64
few_lanes true have n is high = let few : have < 16 = ltb-true have 16 is in omega (arith, few, high)
few_lanes false have n is high = omega (arith, high)

lanes : (have : ℕ) → IsNumberKey have Lanes
lanes have text is = (is.number, few_lanes (nat_lt have 16) have is.number refl is.high, is.spelled)

sizes : (have : ℕ) → IsNumberKey have Size
sizes have text is = let high = is.high in (is.eighth * 8, omega (arith, high), is.spelled)

spaces : (have : ℕ) → IsNumberKey have Space
spaces have text is = let high = is.high in (is.number, omega (arith, high), is.spelled)

bases : (have : ℕ) → IsNumberKey have Base
bases have text is = let high = is.high in (is.number, omega (arith, high), is.spelled)

firsts : (have : ℕ) → IsNumberKey have First
firsts have text is = let high = is.high in (is.number, omega (arith, high), is.spelled)

counts : (have : ℕ) → IsNumberKey have Count
counts have text is = let high = is.high in (is.number, omega (arith, high), is.spelled)

-- the key is given no value, or a number that fits 64 bits
cases : (command : Command) (have : ℕ) (key : Key) (words : List (List ℕ)) → IsNumberKey have key → All (IsArgument command have) words
    → (given key words ≡ None) ⊎ ((k : ℕ) × (k < 2 ^ 64) × (given key words ≡ Some (decimal k)))
cases command have key words numbers each = by (value_cases command have key words Spells numbers each)
  where
    by : (given key words ≡ None) ⊎ ((text : List ℕ) × (given key words ≡ Some text) × Spells text) → (given key words ≡ None) ⊎ ((k : ℕ) × (k < 2 ^ 64) × (given key words ≡ Some (decimal k)))
    by (inl none) = inl none
    by (inr (text, some, (k, small, spelled))) = inr (k, small, some ∙ ap Some spelled)

module _ (command : Command) (have : ℕ) (arguments : List (List ℕ)) (each : All (IsArgument command have) arguments) where
  one_number : (key : Key) (otherwise n m : ℕ) → IsNumberKey have key → IsNumberGiven key arguments otherwise n → IsNumberGiven key arguments otherwise m → n ≡ m
  one_number key otherwise n m numbers one other = by (cases command have key arguments numbers each)
    where
      by : (given key arguments ≡ None) ⊎ ((k : ℕ) × (k < 2 ^ 64) × (given key arguments ≡ Some (decimal k))) → n ≡ m
      by (inl none) = one.is_not none ∙ sym (other.is_not none)
      by (inr (k, small, some)) = one.is_given k small some ∙ sym (other.is_given k small some)

-- ---- what is done

one_run : (have : ℕ) (arguments : List (List ℕ)) (a b : Work) → All (IsArgument Run have) arguments → IsWork Run arguments a → IsWork Run arguments b → a ≡ b
one_run have arguments a b each h k =
    let same : h.0 ≡ k.0 = one_number Run have arguments each Lanes 1 h.0 k.0 (lanes have) h.1 k.1 in
    h.2 ∙ ap (λ (n : ℕ). work.Run n) same ∙ sym k.2

one_generation : (have : ℕ) (arguments : List (List ℕ)) (a b : Work) → All (IsArgument Gen have) arguments → IsWork Gen arguments a → IsWork Gen arguments b → a ≡ b
one_generation have arguments a b each h k =
    let size : h.0 ≡ k.0 = one_number Gen have arguments each Size 0 h.0 k.0 (sizes have) h.2 k.2 in
    let same : h.1 ≡ k.1 = one_number Gen have arguments each Lanes 1 h.1 k.1 (lanes have) h.3 k.3 in
    h.4 ∙ ap (λ (n : ℕ). work.Generate h.0 n) same ∙ ap (λ (n : ℕ). work.Generate n k.1) size ∙ sym k.4

one_place : (have : ℕ) (arguments : List (List ℕ)) (a b : Work) → All (IsArgument Place have) arguments → IsWork Place arguments a → IsWork Place arguments b → a ≡ b
one_place have arguments a b each h k =
    let base : h.0 ≡ k.0 = one_number Place have arguments each Base 0 h.0 k.0 (bases have) h.2 k.2 in
    let size : h.1 ≡ k.1 = one_number Place have arguments each Space 0 h.1 k.1 (spaces have) h.3 k.3 in
    h.4 ∙ ap (λ (n : ℕ). work.Place (record { base = h.0; size = n })) size ∙ ap (λ (n : ℕ). work.Place (record { base = n; size = k.1 })) base ∙ sym k.4

one_sweep : (have : ℕ) (arguments : List (List ℕ)) (a b : Work) → All (IsArgument Sweep have) arguments → IsWork Sweep arguments a → IsWork Sweep arguments b → a ≡ b
one_sweep have arguments a b each h k =
    let first : h.0 ≡ k.0 = one_number Sweep have arguments each First 1 h.0 k.0 (firsts have) h.2 k.2 in
    let count : h.1 ≡ k.1 = one_number Sweep have arguments each Count 0 h.1 k.1 (counts have) h.3 k.3 in
    h.4 ∙ ap (λ (n : ℕ). work.Sweep h.0 n) count ∙ ap (λ (n : ℕ). work.Sweep n k.1) first ∙ sym k.4

one_static : (have : ℕ) (arguments : List (List ℕ)) (a b : Work) → All (IsArgument Static have) arguments → IsWork Static arguments a → IsWork Static arguments b → a ≡ b
one_static have arguments a b each h k =
    let same : h.0 ≡ k.0 = one_number Static have arguments each Over 1 h.0 k.0 (overs have) h.1 k.1 in
    h.2 ∙ ap (λ (n : ℕ). work.Static n) same ∙ sym k.2

one_work : (command : Command) (have : ℕ) (arguments : List (List ℕ)) (a b : Work) → All (IsArgument command have) arguments → IsWork command arguments a → IsWork command arguments b → a ≡ b
one_work Run have arguments a b each h k = one_run have arguments a b each h k
one_work Gen have arguments a b each h k = one_generation have arguments a b each h k
one_work Static have arguments a b each h k = one_static have arguments a b each h k
one_work Place have arguments a b each h k = one_place have arguments a b each h k
one_work Sweep have arguments a b each h k = one_sweep have arguments a b each h k
one_work command have arguments a b each h k = h ∙ sym k

one_limits : (command : Command) (have : ℕ) (arguments : List (List ℕ)) (i j b c : ℕ) → All (IsArgument command have) arguments → AreLimits command arguments i b → AreLimits command arguments j c → (i ≡ j) × (b ≡ c)
one_limits Gen have arguments i j b c each h k = (h.0 ∙ sym k.0, h.1 ∙ sym k.1)
one_limits command have arguments i j b c each h k =
    (one_number command have arguments each Infer 2 i j (infers have) h.0 k.0, one_number command have arguments each Budget 100000 b c (budgets have) h.1 k.1)

-- a line asks for one thing
pub one_task : (command : Command) (have : ℕ) (arguments : List (List ℕ)) (a b : Task) → All (IsArgument command have) arguments → IsTask command arguments a → IsTask command arguments b → a ≡ b
one_task command have arguments a b each one other =
    let limits = one_limits command have arguments a.infer b.infer a.budget b.budget each one.limits other.limits in
    same (one_work command have arguments a.work b.work each one.work_is other.work_is) (one_number command have arguments each Seed 1 a.seed b.seed (seeds have) one.seed_is other.seed_is) limits.0 limits.1
  where
    same : a.work ≡ b.work → a.seed ≡ b.seed → a.infer ≡ b.infer → a.budget ≡ b.budget → a ≡ b
    same o p q r =
        ap (λ (w : Work). record { work = w; seed = a.seed; infer = a.infer; budget = a.budget }) o ∙ ap (λ (n : ℕ). record { work = b.work; seed = n; infer = a.infer; budget = a.budget }) p
        ∙ ap (λ (n : ℕ). record { work = b.work; seed = b.seed; infer = n; budget = a.budget }) q ∙ ap (λ (n : ℕ). record { work = b.work; seed = b.seed; infer = b.infer; budget = n }) r

-- ---- lanes

abbrev SpellsFew : ℕ → List ℕ → Type 0
SpellsFew have text = (k : ℕ) × (1 ≤ k) × (k ≤ have) × (k < 2 ^ 64) × (text ≡ decimal k)

no_more : (b : Bool) (have n : ℕ) → nat_lt have 16 ≡ b → (have ≤ 16) → n ≤ cond b have 16 → n ≤ have
no_more true have n is few high = high
no_more false have n is few high = let many : 16 ≤ have = ltb-false have 16 is in omega (arith, few, many, high)

-- the number of lanes that a line gives is there
few_given : (command : Command) (have n : ℕ) (arguments : List (List ℕ)) → 0 < have → have ≤ 16 → All (IsArgument command have) arguments → IsNumberGiven Lanes arguments 1 n → (1 ≤ n) × (n ≤ have)
few_given command have n arguments some few each is = by (value_cases command have Lanes arguments (SpellsFew have) spelled each)
  where
    spelled : EachValue have Lanes (SpellsFew have)
    spelled text v = (v.number, v.low, no_more (nat_lt have 16) have v.number refl few v.high, few_lanes (nat_lt have 16) have v.number refl v.high, v.spelled)

    by : (given Lanes arguments ≡ None) ⊎ ((text : List ℕ) × (given Lanes arguments ≡ Some text) × SpellsFew have text) → (1 ≤ n) × (n ≤ have)
    by (inl none) = let one = is.is_not none in (omega (arith, one), omega (arith, one, some))
    by (inr (text, given_is, (k, low, high, small, spells))) =
        let same = is.is_given k small (given_is ∙ ap Some spells) in (omega (arith, same, low), omega (arith, same, high))

-- ---- programs

abbrev SpellsOver : List ℕ → Type 0
SpellsOver text = (k : ℕ) × (1 ≤ k) × (k ≤ 16) × (k < 2 ^ 64) × (text ≡ decimal k)

few_overs : (have : ℕ) → EachValue have Over SpellsOver
few_overs have text v = let high = v.high in (v.number, v.low, high, omega (arith, high), v.spelled)

-- the number of lanes that a line gives for programs is 1 to 16
over_given : (have n : ℕ) (arguments : List (List ℕ)) → All (IsArgument Static have) arguments → IsNumberGiven Over arguments 1 n → (1 ≤ n) × (n ≤ 16)
over_given have n arguments each is = by (value_cases Static have Over arguments SpellsOver (few_overs have) each)
  where
    by : (given Over arguments ≡ None) ⊎ ((text : List ℕ) × (given Over arguments ≡ Some text) × SpellsOver text) → (1 ≤ n) × (n ≤ 16)
    by (inl none) = let one = is.is_not none in (omega (arith, one), omega (arith, one))
    by (inr (text, given_is, (k, low, high, small, spells))) =
        let same = is.is_given k small (given_is ∙ ap Some spells) in (omega (arith, same, low), omega (arith, same, high))

-- ---- spaces

abbrev SpellsPart : List ℕ → Type 0
SpellsPart text = (k : ℕ) × (k ≤ 2 ^ 62) × (k < 2 ^ 64) × (text ≡ decimal k)

space_parts : (have : ℕ) → EachValue have Space SpellsPart
space_parts have text v = let high = v.high in (v.number, omega (arith, high), omega (arith, high), v.spelled)

base_parts : (have : ℕ) → EachValue have Base SpellsPart
base_parts have text v = let high = v.high in (v.number, omega (arith, high), omega (arith, high), v.spelled)

-- the number that a line gives for a key of a space is at most 2^62
part_given : (command : Command) (have n : ℕ) (key : Key) (arguments : List (List ℕ)) → EachValue have key SpellsPart → All (IsArgument command have) arguments → IsNumberGiven key arguments 0 n → n ≤ 2 ^ 62
part_given command have n key arguments spelled each is = by (value_cases command have key arguments SpellsPart spelled each)
  where
    by : (given key arguments ≡ None) ⊎ ((text : List ℕ) × (given key arguments ≡ Some text) × SpellsPart text) → n ≤ 2 ^ 62
    by (inl none) = let zero = is.is_not none in omega (arith, zero)
    by (inr (text, given_is, (k, low, small, spells))) = let same = is.is_given k small (given_is ∙ ap Some spells) in omega (arith, same, low)

space_fits : (have : ℕ) (arguments : List (List ℕ)) (base size : ℕ) → All (IsArgument Place have) arguments → IsNumberGiven Base arguments 0 base → IsNumberGiven Space arguments 0 size → base + size ≤ 2 ^ 63
space_fits have arguments base size each base_is size_is =
    let low = part_given Place have base Base arguments (base_parts have) each base_is in
    let many = part_given Place have size Space arguments (space_parts have) each size_is in
    omega (arith, low, many)

-- ---- seeds

abbrev SpellsCount : List ℕ → Type 0
SpellsCount text = (k : ℕ) × (k ≤ 4096) × (k < 2 ^ 64) × (text ≡ decimal k)

few_seeds : (have : ℕ) → EachValue have Count SpellsCount
few_seeds have text v = let high = v.high in (v.number, high, omega (arith, high), v.spelled)

-- the seeds of a sweep end within 2^64
sweep_fits : (have : ℕ) (arguments : List (List ℕ)) (first count : ℕ) → All (IsArgument Sweep have) arguments → AreSeeds arguments → IsNumberGiven First arguments 1 first → IsNumberGiven Count arguments 0 count
    → first + count ≤ 2 ^ 64
sweep_fits have arguments first count each seeds first_is count_is = by (cases Sweep have First arguments (firsts have) each) (value_cases Sweep have Count arguments SpellsCount (few_seeds have) each)
  where
    by : (given First arguments ≡ None) ⊎ ((k : ℕ) × (k < 2 ^ 64) × (given First arguments ≡ Some (decimal k))) → (given Count arguments ≡ None) ⊎ ((text : List ℕ) × (given Count arguments ≡ Some text) × SpellsCount text)
        → first + count ≤ 2 ^ 64
    by (inl none) (inl missing) = let one = first_is.is_not none in let zero = count_is.is_not missing in omega (arith, one, zero)
    by (inl none) (inr (text, given_is, (n, low, small, spells))) =
        let one = first_is.is_not none in let same = count_is.is_given n small (given_is ∙ ap Some spells) in omega (arith, one, same, low)
    by (inr (k, below, some)) (inl missing) = let same = first_is.is_given k below some in let zero = count_is.is_not missing in omega (arith, same, zero, below)
    by (inr (k, below, some)) (inr (text, given_is, (n, low, small, spells))) =
        let same = first_is.is_given k below some in
        let too = count_is.is_given n small (given_is ∙ ap Some spells) in
        let within = seeds k n below small some (given_is ∙ ap Some spells) in omega (arith, same, too, within)

-- Where so many lanes are there, and at most 16, the lanes of a line's task are there; its programs are for 1 to 16 lanes, its space ends within 2^63,
-- and the seeds of its sweep within 2^64.
pub work_fits : (command : Command) (have : ℕ) (arguments : List (List ℕ)) (w : Work) → 0 < have → have ≤ 16 → All (IsArgument command have) arguments → AreSeeds arguments → IsWork command arguments w → FitsLanes have w
work_fits Run have arguments w some few each seeds h = subst (FitsLanes have) (sym h.2) (few_given Run have h.0 arguments some few each h.1)
work_fits Gen have arguments w some few each seeds h = subst (FitsLanes have) (sym h.4) (few_given Gen have h.1 arguments some few each h.3)
work_fits Solve have arguments w some few each seeds h = subst (FitsLanes have) (sym h) tt
work_fits Check have arguments w some few each seeds h = subst (FitsLanes have) (sym h) tt
work_fits Static have arguments w some few each seeds h = subst (FitsLanes have) (sym h.2) (over_given have h.0 arguments each h.1)
work_fits Place have arguments w some few each seeds h = subst (FitsLanes have) (sym h.4) (space_fits have arguments h.0 h.1 each h.2 h.3)
work_fits Sweep have arguments w some few each seeds h = subst (FitsLanes have) (sym h.4) (sweep_fits have arguments h.0 h.1 each seeds h.2 h.3)

-- ---- sweeps

-- what a line asks for, one of these commands may ask for
pub work_asked : (served : Lines) (command : Command) (arguments : List (List ℕ)) (w : Work) → IsTrue (is_served served command) → IsWork command arguments w → IsAskedBy served w
work_asked lines.All command arguments w is h = tt
work_asked lines.WithoutSweep Run arguments w is h = λ sweep. subst IsSweep h.2 sweep
work_asked lines.WithoutSweep Solve arguments w is h = λ sweep. subst IsSweep h sweep
work_asked lines.WithoutSweep Check arguments w is h = λ sweep. subst IsSweep h sweep
work_asked lines.WithoutSweep Gen arguments w is h = λ sweep. subst IsSweep h.4 sweep
work_asked lines.WithoutSweep Static arguments w is h = λ sweep. subst IsSweep h.2 sweep
work_asked lines.WithoutSweep Place arguments w is h = λ sweep. subst IsSweep h.4 sweep
work_asked lines.WithoutSweep Sweep arguments w is h = let both : false ≡ true = is in absurd cc
work_asked lines.SweepAlone Run arguments w is h = let both : false ≡ true = is in absurd cc
work_asked lines.SweepAlone Solve arguments w is h = let both : false ≡ true = is in absurd cc
work_asked lines.SweepAlone Check arguments w is h = let both : false ≡ true = is in absurd cc
work_asked lines.SweepAlone Gen arguments w is h = let both : false ≡ true = is in absurd cc
work_asked lines.SweepAlone Static arguments w is h = let both : false ≡ true = is in absurd cc
work_asked lines.SweepAlone Place arguments w is h = let both : false ≡ true = is in absurd cc
work_asked lines.SweepAlone Sweep arguments w is h = subst IsSweep (sym h.4) tt

-- ---- several lanes

-- a scenario is run on so many lanes
abbrev pub IsOnLanes : ℕ → Work → Type 0
IsOnLanes count (work.Run lanes) = lanes ≡ count
IsOnLanes count (work.Generate size lanes) = lanes ≡ count
IsOnLanes count other = ⊥

-- a line that asks for that gives the number
pub lanes_given : (command : Command) (arguments : List (List ℕ)) (w : Work) (count : ℕ) → IsWork command arguments w → IsOnLanes count w → IsNumberGiven Lanes arguments 1 count
lanes_given Run arguments w count h on = subst (λ (n : ℕ). IsNumberGiven Lanes arguments 1 n) (subst (IsOnLanes count) h.2 on) h.1
lanes_given Gen arguments w count h on = subst (λ (n : ℕ). IsNumberGiven Lanes arguments 1 n) (subst (IsOnLanes count) h.4 on) h.3
lanes_given Solve arguments w count h on = absurd (subst (IsOnLanes count) h on)
lanes_given Check arguments w count h on = absurd (subst (IsOnLanes count) h on)
lanes_given Static arguments w count h on = absurd (subst (IsOnLanes count) h.2 on)
lanes_given Place arguments w count h on = absurd (subst (IsOnLanes count) h.4 on)
lanes_given Sweep arguments w count h on = absurd (subst (IsOnLanes count) h.4 on)

-- ---- sources

-- a line has one list of sources
pub one_sources : (command : Command) (have : ℕ) (arguments texts xs ys : List (List ℕ)) → All (IsArgument command have) arguments → AreSources command arguments texts xs → AreSources command arguments texts ys → xs ≡ ys
one_sources Gen have arguments texts xs ys each h k =
    let size : h.0 ≡ k.0 = one_number Gen have arguments each Size 0 h.0 k.0 (sizes have) h.1 k.1 in
    h.2 ∙ ap (λ (n : ℕ). generated_text n ∷ []) size ∙ sym k.2
one_sources command have arguments texts xs ys each h k = h ∙ sym k

-- What the blanks have come to, and which of them are open.
use Rattle.std.proofs.Common.{◌≡◌, ℕ, zero, suc, ◌+◌, ◌<◌, ◌≤◌, List, [], ◌∷◌, length, drop, Bool, true, false, cond, nat_lt, if◌then◌else◌, Some, refl, sym, ap, ◌∙◌, subst, arith}
use Rattle.std.specs.Prelude.{slice_get}
use Rattle.std.specs.List.{filter}
use Rattle.pst_rng.specs.Words.{start_of}
use Rattle.pst_expr.specs.Value.{variable_value}
use Rattle.pst_expr.specs.Spans.{size_of}
use Rattle.pst_model.specs.ModelTree.{ModelTree}
use Rattle.pst_scen.specs.declared.act.Act.{Act}
use Rattle.pst_scen.specs.declared.scenario.Scenario.{Scenario}
use Rattle.pst_legal.specs.Blanks.{Blank, options}
use Rattle.pst_legal.specs.Reading.{Reading, Wants, Stops, Reads, option_at}
use Rattle.pst_legal.specs.ValueReading.{answer_of, with_option, read_blanks}
use Rattle.pst_built.specs.SoFar.{HasRead}
use Rattle.pst_built.proofs.Values.{IsSameOrder}
use Rattle.pst_read_slots.proofs.Same.{same_then, option_same}
use Rattle.pst_read_domains.proofs.Same.{same_domain}
use Rattle.pst_few_places.specs.Fillings.{filled, named}
use Rattle.pst_blank_values.specs.Values.{blank_values}
use Rattle.pst_read_so_far.specs.OpenBlanks.{is_nothing}

-- ---- the first blanks are filled

-- what some of the blanks, filled, have come to
pub record Come (m : ModelTree) (seed : ℕ) (u : Scenario) (blanks : List Blank) (s : Scenario) (place : ℕ) (choices : List ℕ) (t : Scenario) : Type 0 where
  pub same : IsSameOrder u t
  pub few : length choices ≤ length blanks
  pub is : t ≡ filled m blanks (named m seed u.actions blanks place choices) s

-- the blank whose place is at hand, and those behind it
pub record AtPlace (m : ModelTree) (u : Scenario) (blanks : List Blank) (choices : List ℕ) (n : ℕ) : Type 0 where
  pub blank : Blank
  pub more : List Blank
  pub is : drop (length choices) blanks ≡ blank ∷ more
  pub many : n ≡ options m u.actions blank

-- a reading that isn't dead
has_if : {P : Type 0} (b : Bool) (r : Reading) (t : Scenario) → (HasRead (answer_of r) t → P) → HasRead (answer_of (if b then r else Stops)) t → P
has_if true r t each has = each has
has_if false r t each has = absurd has

wants_if : {P : Type 0} (b : Bool) (r : Reading) (t : Scenario) (n : ℕ) → (r ≡ Wants t n → P) → (if b then r else Stops) ≡ Wants t n → P
wants_if true r t n each e = each e
wants_if false r t n each e = absurd cc

reads_if : {P : Type 0} (b : Bool) (r : Reading) (t : Scenario) (end : ℕ) → (r ≡ Reads t end [] → P) → (if b then r else Stops) ≡ Reads t end [] → P
reads_if true r t end each e = each e
reads_if false r t end each e = absurd cc

reads_wants : (s t : Scenario) (place n : ℕ) (left : List ℕ) → Reads s place left ≡ Wants t n → ⊥
reads_wants s t place n left e = cc

wants_reads : (s t : Scenario) (n end : ℕ) → Wants s n ≡ Reads t end [] → ⊥
wants_reads s t n end e = cc

same_wants : (s t : Scenario) (n k : ℕ) → Wants s n ≡ Wants t k → n ≡ k
same_wants s t n k e = cc

reads_left : (s t : Scenario) (place end : ℕ) (left : List ℕ) → Reads s place left ≡ Reads t end [] → left ≡ []
reads_left s t place end left e = cc

module _ (m : ModelTree) (seed : ℕ) (u : Scenario) where
  same_options : (s : Scenario) (blank : Blank) → IsSameOrder u s → options m s.actions blank ≡ options m u.actions blank
  same_options s blank same = ap size_of (same_domain u s same m blank)

  -- one blank more
  abbrev next : Scenario → Blank → ℕ → ℕ → Scenario
  next s blank place d = with_option m (option_at (start_of seed place (options m s.actions blank)) (options m s.actions blank) d) blank s

  next_same : (s : Scenario) (blank : Blank) (place d : ℕ) → IsSameOrder u s → IsSameOrder u (next s blank place d)
  next_same s blank place d same =
      same_then u s (next s blank place d) same (option_same m s (option_at (start_of seed place (options m s.actions blank)) (options m s.actions blank) d) blank)

  pub come : (blanks : List Blank) (s : Scenario) (place : ℕ) (choices : List ℕ) (t : Scenario) → IsSameOrder u s → HasRead (answer_of (read_blanks m seed blanks s place choices)) t → Come m seed u blanks s place choices t
  come [] s place [] t same has = record { same = subst (IsSameOrder u) has same; few = omega arith; is = sym has }
  come [] s place (d ∷ choices) t same has = absurd has
  come (blank ∷ blanks) s place [] t same has =
      has_if (nat_lt 0 (options m s.actions blank)) (Wants s (options m s.actions blank)) t (λ e. record { same = subst (IsSameOrder u) e same; few = omega arith; is = sym e }) has
  come (blank ∷ blanks) s place (d ∷ choices) t same has =
      has_if (nat_lt d (options m s.actions blank)) (read_blanks m seed blanks (next s blank place d) (place + 1) choices) t
      (λ h.
      let rest = come blanks (next s blank place d) (place + 1) choices t (next_same s blank place d same) h in
      let few = rest.few in
      let option : option_at (start_of seed place (options m s.actions blank)) (options m s.actions blank) d ≡ option_at (start_of seed place (options m u.actions blank)) (options m u.actions blank) d =
      ap (λ c. option_at (start_of seed place c) c d) (same_options s blank same) in
      record { same = rest.same; few = omega (arith, few); is = rest.is ∙ ap (λ c. filled m blanks (named m seed u.actions blanks (place + 1) choices) (with_option m c blank s)) option }) has

  pub at_place : (blanks : List Blank) (s : Scenario) (place : ℕ) (choices : List ℕ) (t : Scenario) (n : ℕ) → IsSameOrder u s → read_blanks m seed blanks s place choices ≡ Wants t n → AtPlace m u blanks choices n
  at_place [] s place choices t n same e = absurd (reads_wants s t place n choices e)
  at_place (blank ∷ blanks) s place [] t n same e =
      wants_if (nat_lt 0 (options m s.actions blank)) (Wants s (options m s.actions blank)) t n
      (λ h. record { blank = blank; more = blanks; is = refl; many = sym (same_wants s t (options m s.actions blank) n h) ∙ same_options s blank same }) e
  at_place (blank ∷ blanks) s place (d ∷ choices) t n same e =
      wants_if (nat_lt d (options m s.actions blank)) (read_blanks m seed blanks (next s blank place d) (place + 1) choices) t n
      (λ h. let rest = at_place blanks (next s blank place d) (place + 1) choices t n (next_same s blank place d same) h in record { blank = rest.blank; more = rest.more; is = rest.is; many = rest.many }) e

  pub as_many : (blanks : List Blank) (s : Scenario) (place : ℕ) (choices : List ℕ) (t : Scenario) (end : ℕ) → read_blanks m seed blanks s place choices ≡ Reads t end [] → length choices ≡ length blanks
  as_many [] s place choices t end e = ap length (reads_left s t place end choices e)
  as_many (blank ∷ blanks) s place [] t end e =
      reads_if (nat_lt 0 (options m s.actions blank)) (Wants s (options m s.actions blank)) t end (λ h. absurd (wants_reads s t (options m s.actions blank) end h)) e
  as_many (blank ∷ blanks) s place (d ∷ choices) t end e =
      reads_if (nat_lt d (options m s.actions blank)) (read_blanks m seed blanks (next s blank place d) (place + 1) choices) t end
      (λ h. ap suc (as_many blanks (next s blank place d) (place + 1) choices t end h)) e

-- ---- which values there are

pub known_at : (m : ModelTree) (seed : ℕ) (acts : List Act) (blanks : List Blank) (place : ℕ) (choices : List ℕ) (i : ℕ) → i < length choices → i < length blanks
    → is_nothing (variable_value (blank_values m acts blanks (named m seed acts blanks place choices)) i) ≡ false
known_at m seed acts [] place choices i l k = absurd (omega (arith, k))
known_at m seed acts (blank ∷ blanks) place [] i l k = absurd (omega (arith, l))
known_at m seed acts (blank ∷ blanks) place (d ∷ choices) zero l k = refl
known_at m seed acts (blank ∷ blanks) place (d ∷ choices) (suc i) l k = known_at m seed acts blanks (place + 1) choices i (omega (arith, l)) (omega (arith, k))

pub past_at : (m : ModelTree) (seed : ℕ) (acts : List Act) (blanks : List Blank) (place : ℕ) (choices : List ℕ) (i : ℕ) → length choices ≤ i
    → is_nothing (variable_value (blank_values m acts blanks (named m seed acts blanks place choices)) i) ≡ true
past_at m seed acts [] place choices i l = refl
past_at m seed acts (blank ∷ blanks) place [] i l = refl
past_at m seed acts (blank ∷ blanks) place (d ∷ choices) zero l = absurd (omega (arith, l))
past_at m seed acts (blank ∷ blanks) place (d ∷ choices) (suc i) l = past_at m seed acts blanks (place + 1) choices i (omega (arith, l))

-- ---- the elements from a place on

pub filter_behind : {A : Type 0} (test : A → Bool) (n : ℕ) (xs : List A) → ((i : ℕ) (x : A) → slice_get xs i ≡ Some x → i < n → test x ≡ false) → ((i : ℕ) (x : A) → slice_get xs i ≡ Some x → n ≤ i → test x ≡ true)
    → filter test xs ≡ drop n xs
filter_behind test zero [] before behind = refl
filter_behind test (suc n) [] before behind = refl
filter_behind test zero (x ∷ xs) before behind =
    ap (λ b. cond b (x ∷ filter test xs) (filter test xs)) (behind 0 x refl (omega arith))
    ∙ ap (λ more. x ∷ more) (filter_behind test zero xs (λ i y is l. absurd (omega (arith, l))) (λ i y is l. behind (suc i) y is (omega arith)))
filter_behind test (suc n) (x ∷ xs) before behind =
    ap (λ b. cond b (x ∷ filter test xs) (filter test xs)) (before 0 x refl (omega arith))
    ∙ filter_behind test n xs (λ i y is l. before (suc i) y is (omega (arith, l))) (λ i y is l. behind (suc i) y is (omega (arith, l)))

-- What blanks that are read through have come to.
use Rattle.std.proofs.Common.{◌≡◌, ℕ, zero, suc, ◌+◌, ◌<◌, List, [], ◌∷◌, ◌++◌, Bool, true, false, nat_lt, if◌then◌else◌, Some, None, refl, sym, ap, ◌∙◌, subst}
use Rattle.std.specs.Prelude.{slice_get}
use Rattle.std.proofs.lemmas.Option.{none-some, same_Some}
use Rattle.pst_rng.specs.Words.{start_of}
use Rattle.pst_expr.specs.Spans.{size_of}
use Rattle.pst_model.specs.ModelTree.{ModelTree}
use Rattle.pst_scen.specs.declared.act.Act.{Act}
use Rattle.pst_scen.specs.declared.scenario.Scenario.{Scenario}
use Rattle.pst_legal.specs.Blanks.{Blank, options}
use Rattle.pst_legal.specs.Reading.{Reading, Wants, Stops, Reads, Reader, then_read, option_at}
use Rattle.pst_legal.specs.ValueReading.{with_option, read_blanks}
use Rattle.pst_built.proofs.Goes.{option_is}
use Rattle.pst_built.proofs.Values.{IsSameOrder}
use Rattle.std.proofs.lemmas.Bool.{ltb-true}
use Rattle.pst_read_domains.proofs.PassedOn.{same_then, option_same}
use Rattle.pst_read_domains.proofs.Same.{same_domain}
use Rattle.pst_few_places.specs.Fillings.{AreOptions, filled, named}

-- blanks behind blanks
then_if : (b : Bool) (r : Reading) (g : Reader) → then_read (if b then r else Stops) g ≡ (if b then then_read r g else Stops)
then_if true r g = refl
then_if false r g = refl

same_if : (b : Bool) (r other : Reading) → r ≡ other → (if b then r else Stops) ≡ (if b then other else Stops)
same_if b r other e = ap (λ x. if b then x else Stops) e

pub blanks_join : (m : ModelTree) (seed : ℕ) (xs ys : List Blank) (s : Scenario) (place : ℕ) (choices : List ℕ)
    → then_read (read_blanks m seed xs s place choices) (read_blanks m seed ys) ≡ read_blanks m seed (xs ++ ys) s place choices
blanks_join m seed [] ys s place choices = refl
blanks_join m seed (blank ∷ xs) ys s place [] = then_if (nat_lt 0 (options m s.actions blank)) (Wants s (options m s.actions blank)) (read_blanks m seed ys)
blanks_join m seed (blank ∷ xs) ys s place (d ∷ choices) =
    let n = options m s.actions blank in
    let next = with_option m (option_at (start_of seed place n) n d) blank s in
    then_if (nat_lt d n) (read_blanks m seed xs next (place + 1) choices) (read_blanks m seed ys)
    ∙ same_if (nat_lt d n) _ _ (blanks_join m seed xs ys next (place + 1) choices)

-- what was chosen
pub record Named (m : ModelTree) (seed : ℕ) (u : Scenario) (blanks : List Blank) (s : Scenario) (place : ℕ) (choices : List ℕ) (t : Scenario) : Type 0 where
  pub options : AreOptions m u.actions blanks (named m seed u.actions blanks place choices)
  pub is : t ≡ filled m blanks (named m seed u.actions blanks place choices) s

more_options : (m : ModelTree) (acts : List Act) (blank : Blank) (blanks : List Blank) (k : ℕ) (chosen : List ℕ) → k < options m acts blank → AreOptions m acts blanks chosen → AreOptions m acts (blank ∷ blanks) (k ∷ chosen)
more_options m acts blank blanks k chosen l more = record { many = ap suc more.many; below = by }
  where
    by : (i : ℕ) (b : Blank) (j : ℕ) → slice_get (blank ∷ blanks) i ≡ Some b → slice_get (k ∷ chosen) i ≡ Some j → j < options m acts b
    by zero b j is at = subst (λ c. j < options m acts c) (same_Some blank b is) (subst (λ n. n < options m acts blank) (same_Some k j at) l)
    by (suc i) b j is at = more.below i b j is at

whole_reads : (s t : Scenario) (place end : ℕ) (left : List ℕ) → Reads s place left ≡ Reads t end [] → t ≡ s
whole_reads s t place end left e = cc

wants_reads : (s t : Scenario) (n end : ℕ) → Wants s n ≡ Reads t end [] → ⊥
wants_reads s t n end e = cc

stops_reads : (t : Scenario) (end : ℕ) → Stops ≡ Reads t end [] → ⊥
stops_reads t end e = cc

no_place : {P : Type 0} (b : Bool) (s t : Scenario) (n end : ℕ) → (if b then Wants s n else Stops) ≡ Reads t end [] → P
no_place true s t n end e = absurd (wants_reads s t n end e)
no_place false s t n end e = absurd (stops_reads t end e)

went_on : {P : Type 0} (b : Bool) (r : Reading) (t : Scenario) (end : ℕ) → (b ≡ true → r ≡ Reads t end [] → P) → (if b then r else Stops) ≡ Reads t end [] → P
went_on true r t end each e = each refl e
went_on false r t end each e = absurd (stops_reads t end e)

module _ (m : ModelTree) (seed : ℕ) (u : Scenario) where
  pub blanks_named : (blanks : List Blank) (s : Scenario) (place : ℕ) (choices : List ℕ) (t : Scenario) (end : ℕ) → IsSameOrder u s → read_blanks m seed blanks s place choices ≡ Reads t end [] → Named m seed u blanks s place choices t
  blanks_named [] s place choices t end same e = record { options = record { many = refl; below = λ i b k is at. absurd (none-some b is) }; is = whole_reads s t place end choices e }
  blanks_named (blank ∷ blanks) s place [] t end same e = no_place (nat_lt 0 (options m s.actions blank)) s t (options m s.actions blank) end e
  blanks_named (blank ∷ blanks) s place (d ∷ choices) t end same e =
      let n = options m s.actions blank in
      let many = options m u.actions blank in
      let k = option_at (start_of seed place n) n d in
      let own = option_at (start_of seed place many) many d in
      let equal : n ≡ many = ap size_of (same_domain u s same m blank) in
      let named_same : k ≡ own = ap (λ c. option_at (start_of seed place c) c d) equal in
      let next = with_option m k blank s in
      went_on (nat_lt d n) (read_blanks m seed blanks next (place + 1) choices) t end
      (λ test h.
      let rest = blanks_named blanks next (place + 1) choices t end (same_then u s next same (option_same m s k blank)) h in
      let below : k < n = option_is (start_of seed place n) n d (ltb-true d n test) in
      record {
        options = more_options m u.actions blank blanks own (named m seed u.actions blanks (place + 1) choices) (subst (λ c. c < many) named_same (subst (λ c. k < c) equal below)) rest.options;
        is = rest.is ∙ ap (λ c. filled m blanks (named m seed u.actions blanks (place + 1) choices) (with_option m c blank s)) named_same;
      }) e

-- no option is named where there is no choice
empty_at : (m : ModelTree) (seed : ℕ) (acts : List Act) (blanks : List Blank) (place : ℕ) (ys : List ℕ) (i : ℕ) → slice_get ys i ≡ None → None ≡ slice_get (named m seed acts blanks place ys) i
empty_at m seed acts [] place ys i e = refl
empty_at m seed acts (blank ∷ blanks) place [] i e = refl
empty_at m seed acts (blank ∷ blanks) place (y ∷ ys) zero e = absurd (none-some y (sym e))
empty_at m seed acts (blank ∷ blanks) place (y ∷ ys) (suc i) e = empty_at m seed acts blanks (place + 1) ys i e

-- the same choices name the same options
pub named_at : (m : ModelTree) (seed : ℕ) (acts : List Act) (blanks : List Blank) (place : ℕ) (xs ys : List ℕ) (i : ℕ) → slice_get xs i ≡ slice_get ys i
    → slice_get (named m seed acts blanks place xs) i ≡ slice_get (named m seed acts blanks place ys) i
named_at m seed acts [] place xs ys i e = refl
named_at m seed acts (blank ∷ blanks) place [] [] i e = refl
named_at m seed acts (blank ∷ blanks) place [] (y ∷ ys) zero e = absurd (none-some y e)
named_at m seed acts (blank ∷ blanks) place [] (y ∷ ys) (suc i) e = empty_at m seed acts blanks (place + 1) ys i (sym e)
named_at m seed acts (blank ∷ blanks) place (x ∷ xs) [] zero e = absurd (none-some x (sym e))
named_at m seed acts (blank ∷ blanks) place (x ∷ xs) [] (suc i) e = sym (empty_at m seed acts blanks (place + 1) xs i e)
named_at m seed acts (blank ∷ blanks) place (x ∷ xs) (y ∷ ys) zero e = ap (λ d. Some (option_at (start_of seed place (options m acts blank)) (options m acts blank) d)) (same_Some x y e)
named_at m seed acts (blank ∷ blanks) place (x ∷ xs) (y ∷ ys) (suc i) e = named_at m seed acts blanks (place + 1) xs ys i e

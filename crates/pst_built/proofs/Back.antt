-- What blanks that are filled one after another come to.
use Rattle.std.proofs.Common.{◌≡◌, ℕ, zero, suc, ◌+◌, ◌<◌, ℤ, pos, List, [], ◌∷◌, ◌++◌, map, length, get_or, Some, refl, sym, ap, ◌∙◌, subst, arith, append_assoc, append-nil, length-append}
use Rattle.std.specs.Prelude.{slice_get, flat_map}
use Rattle.std.specs.List.{enumerate_from, range_with_len, AllZip}
use Rattle.std.proofs.lemmas.Option.{none-some, same_Some}
use Rattle.pst_rng.specs.Words.{start_of}
use Rattle.pst_expr.specs.Spans.{values, size_of}
use Rattle.pst_expr.specs.Laws.{DomainsListValues}
use Rattle.pst_model.specs.declared.action.Field.{Field}
use Rattle.pst_model.specs.ModelTree.{ModelTree}
use Rattle.pst_scen.specs.declared.scenario.Scenario.{Scenario}
use Rattle.pst_legal.specs.Pieces.{IsValueOf}
use Rattle.pst_legal.specs.Blanks.{Blank, domain_of, options, option_value}
use Rattle.pst_legal.specs.Reading.{Reads, Reader, value_number}
use Rattle.pst_legal.specs.ValueReading.{with_option, read_blanks}
use Rattle.pst_built.proofs.Blanks.{Steps, at_length}
use Rattle.pst_built.proofs.Went.{place_went, value_of, AreDomains}

same_read : (s t : Scenario) (place end : ℕ) (left rest : List ℕ) → Reads s place left ≡ Reads t end rest → t ≡ s
same_read s t place end left rest e = cc

pub blanks_went : (m : ModelTree) (seed : ℕ) (blanks : List Blank) (s t : Scenario) (place : ℕ) (left : List ℕ) (end : ℕ) (rest : List ℕ) → read_blanks m seed blanks s place left ≡ Reads t end rest → Steps m blanks s t
blanks_went m seed [] s t place left end rest e = same_read s t place end left rest e
blanks_went m seed (blank ∷ blanks) s t place left end rest e =
    let n = options m s.actions blank in
    let next : ℕ → Reader = λ k read. read_blanks m seed blanks (with_option m k blank read) in
    let w = place_went (start_of seed place n) n next s t place left end rest e in
    (w.k, w.below, blanks_went m seed blanks (with_option m w.k blank s) t (place + 1) w.left end rest w.reads)

pub record Cut (m : ModelTree) (xs ys : List Blank) (s u : Scenario) : Type 0 where
  pub mid : Scenario
  pub first : Steps m xs s mid
  pub second : Steps m ys mid u

pub steps_cut : (m : ModelTree) (xs ys : List Blank) (s u : Scenario) → Steps m (xs ++ ys) s u → Cut m xs ys s u
steps_cut m [] ys s u steps = record { mid = s; first = refl; second = steps }
steps_cut m (blank ∷ xs) ys s u steps =
    let c = steps_cut m xs ys (with_option m steps.0 blank s) u steps.2 in
    record { mid = c.mid; first = (steps.0, steps.1, c.first); second = c.second }

-- ---- values of fields

module _ (listed : DomainsListValues) (m : ModelTree) (blank : ℕ → Blank) (at : List ℤ → Scenario) (all : List Field) (domain : (known : List ℤ) (field : Field) → slice_get all (length known) ≡ Some field → domain_of m (at known).actions (blank (length known)) ≡ field.domain)
    (put : (known : List ℤ) (k : ℕ) → with_option m k (blank (length known)) (at known) ≡ at (known ++ option_value m (at known).actions (blank (length known)) k ∷ [])) where
  pub record Valued (todo : List Field) (known : List ℤ) (u : Scenario) : Type 0 where
    pub rest : List ℤ
    pub zip : AllZip IsValueOf todo rest
    pub is : u ≡ at (known ++ rest)

  values_back : (done todo : List Field) (known : List ℤ) (u : Scenario) → AreDomains todo → all ≡ done ++ todo → length done ≡ length known → Steps m (map blank (range_with_len (length known) (length todo))) (at known) u → Valued todo known u
  values_back done [] known u domains is long steps = record { rest = []; zip = tt; is = steps ∙ ap at (sym (append-nil known)) }
  values_back done (field ∷ todo) known u domains is long steps =
      let b = blank (length known) in
      let k = steps.0 in
      let here : slice_get all (length known) ≡ Some field = ap (λ xs. slice_get xs (length known)) is ∙ ap (slice_get (done ++ field ∷ todo)) (sym long) ∙ at_length done todo field in
      let same = domain known field here in
      let v = value_number field k in
      let value : option_value m (at known).actions b k ≡ v = ap (λ spans. get_or (values spans) k (pos 0)) same in
      let more = known ++ v ∷ [] in
      let next : length known + 1 ≡ length more = sym (length-append known (v ∷ [])) in
      let moved = subst (λ w. Steps m (map blank (range_with_len (length known + 1) (length todo))) w u) (put known k ∙ ap (λ w. at (known ++ w ∷ [])) value) steps.2 in
      let x = length-append done (field ∷ []) in
      let r = values_back (done ++ field ∷ []) todo more u domains.1 (is ∙ sym (append_assoc done (field ∷ []) todo)) (omega (arith, x, next, long)) (subst (λ n. Steps m (map blank (range_with_len n (length todo))) (at more) u) next moved) in
      record {
        rest = v ∷ r.rest;
        zip = (value_of listed field k domains.0 (subst (λ spans. k < size_of spans) same steps.1), r.zip);
        is = r.is ∙ ap at (append_assoc known (v ∷ []) r.rest);
      }

  pub values_come : (u : Scenario) → AreDomains all → Steps m (map blank (range_with_len 0 (length all))) (at []) u → Valued all [] u
  values_come u domains steps = values_back [] all [] u domains refl refl steps

-- ---- one element after another

pub record Rows {A C : Type 0} (at : List A → Scenario) (Rel : ℕ → C → A → Type 0) (first : ℕ) (before : List A) (todo : List C) (u : Scenario) : Type 0 where
  pub rows : List A
  pub long : length rows ≡ length todo
  pub each : (i : ℕ) (x : C) (y : A) → slice_get todo i ≡ Some x → slice_get rows i ≡ Some y → Rel (first + i) x y
  pub is : u ≡ at (before ++ rows)

rows_each : {A C : Type 0} (Rel : ℕ → C → A → Type 0) (n next : ℕ) (x : C) (y : A) (xs : List C) (ys : List A) → n + 1 ≡ next → Rel n x y → ((i : ℕ) (z : C) (w : A) → slice_get xs i ≡ Some z → slice_get ys i ≡ Some w → Rel (next + i) z w)
    → (i : ℕ) (z : C) (w : A) → slice_get (x ∷ xs) i ≡ Some z → slice_get (y ∷ ys) i ≡ Some w → Rel (n + i) z w
rows_each Rel n next x y xs ys long first each zero z w is has =
    let here : n ≡ n + zero = omega arith in
    subst (λ k. Rel k z w) here (subst (λ v. Rel n z v) (same_Some y w has) (subst (λ v. Rel n v y) (same_Some x z is) first))
rows_each Rel n next x y xs ys long first each (suc i) z w is has =
    let here : next + i ≡ n + suc i = omega (arith, long) in
    subst (λ k. Rel k z w) here (each i z w is has)

pub rows_back : {A C E : Type 0} (m : ModelTree) (at : List A → Scenario) (blanks : ℕ × E → List Blank) (seen : C → E) (from : C → A) (Rel : ℕ → C → A → Type 0) (before : List A) (todo : List C) (u : Scenario)
    → ((i : ℕ) (x : C) → slice_get todo i ≡ Some x → (pre post : List A) → length pre ≡ length before + i → (v : Scenario) → Steps m (blanks (length pre, seen x)) (at (pre ++ from x ∷ post)) v → (y : A) × Rel (length before + i) x y × (v ≡ at (pre ++ y ∷ post)))
    → Steps m (flat_map blanks (enumerate_from (length before) (map seen todo))) (at (before ++ map from todo)) u → Rows at Rel (length before) before todo u
rows_back m at blanks seen from Rel before [] u each steps = record { rows = []; long = refl; each = λ i x y is has. absurd (none-some x is); is = steps }
rows_back {A = A} m at blanks seen from Rel before (x ∷ xs) u each steps =
    let c = steps_cut m (blanks (length before, seen x)) (flat_map blanks (enumerate_from (length before + 1) (map seen xs))) (at (before ++ from x ∷ map from xs)) u steps in
    let one = each zero x refl before (map from xs) (omega arith) c.mid c.first in
    let y = one.0 in
    let next = before ++ y ∷ [] in
    let long : length before + 1 ≡ length next = sym (length-append before (y ∷ [])) in
    let start : c.mid ≡ at (next ++ map from xs) = one.2 ∙ ap at (sym (append_assoc before (y ∷ []) (map from xs))) in
    let moved = subst (λ n. Steps m (flat_map blanks (enumerate_from n (map seen xs))) (at (next ++ map from xs)) u) long (subst (λ w. Steps m (flat_map blanks (enumerate_from (length before + 1) (map seen xs))) w u) start c.second) in
    let r = rows_back m at blanks seen from Rel next xs u
    (λ i z is pre post e v st.
    let on : length next + i ≡ length before + suc i = omega (arith, long) in
    let w = each (suc i) z is pre post (e ∙ on) v st in
    (w.0, subst (λ n. Rel n z w.0) (sym on) w.1, w.2)) moved in
    let here : length before + zero ≡ length before = omega arith in
    record {
      rows = y ∷ r.rows;
      long = ap suc r.long;
      each = λ i z w is has. rows_each Rel (length before) (length next) x y xs r.rows long (subst (λ n. Rel n x y) here one.1) r.each i z w is has;
      is = r.is ∙ ap at (append_assoc before (y ∷ []) r.rows);
    }

-- Blanks that are filled one after another.
use Rattle.std.proofs.Common.{◌≡◌, ℕ, zero, suc, ◌+◌, ◌<◌, ℤ, List, [], ◌∷◌, ◌++◌, map, length, get_or, true, false, nat_eq, if◌then◌else◌, Some, refl, sym, ap, ap₂, ◌∙◌, subst, arith, append_assoc, append-nil, length-append, pos}
use Rattle.std.specs.Prelude.{slice_get, flat_map}
use Rattle.std.specs.List.{enumerate_from, range_with_len, AllZip}
use Rattle.std.proofs.lemmas.Bool.{eqb-true, false_from_ne_true, eq-eqb}
use Rattle.pst_rng.specs.Words.{start_of}
use Rattle.pst_expr.specs.Spans.{values, size_of}
use Rattle.pst_model.specs.declared.action.Field.{Field}
use Rattle.pst_model.specs.ModelTree.{ModelTree}
use Rattle.pst_scen.specs.declared.scenario.Scenario.{Scenario}
use Rattle.pst_legal.specs.Pieces.{IsValueOf}
use Rattle.pst_legal.specs.Blanks.{Blank, domain_of, options, option_value}
use Rattle.pst_legal.specs.SupplyReading.{alter}
use Rattle.pst_legal.specs.Reading.{Reads, Reader, read_place}
use Rattle.pst_legal.specs.ValueReading.{with_option, read_blanks}
use Rattle.pst_built.specs.Reached.{IsReached}
use Rattle.pst_built.proofs.Domains.{number_of}
use Rattle.pst_built.proofs.Led.{led_place, led_same}

-- each blank is filled with one of its options
abbrev pub Steps : ModelTree → List Blank → Scenario → Scenario → Type 0
Steps m [] s t = t ≡ s
Steps m (blank ∷ blanks) s t = (k : ℕ) × (k < options m s.actions blank) × Steps m blanks (with_option m k blank s) t

pub steps_led : (m : ModelTree) (seed : ℕ) (blanks : List Blank) (s t : Scenario) (place : ℕ) → Steps m blanks s t → IsReached (read_blanks m seed blanks) s place t
steps_led m seed [] s t place steps = record { choices = []; end = place; reads = λ more. ap (λ u. Reads u place more) (sym steps) }
steps_led m seed (blank ∷ blanks) s t place steps =
    let n = options m s.actions blank in
    let next : ℕ → Reader = λ k read. read_blanks m seed blanks (with_option m k blank read) in
    let rest = steps_led m seed blanks (with_option m steps.0 blank s) t (place + 1) steps.2 in
    led_same (read_blanks m seed (blank ∷ blanks)) (read_place (start_of seed place n) n next) s t place (λ more. refl)
    (led_place (start_of seed place n) n steps.0 next s t place steps.1 (record { choices = rest.choices; end = rest.end; reads = rest.reads }))

pub steps_join : (m : ModelTree) (xs ys : List Blank) (s t u : Scenario) → Steps m xs s t → Steps m ys t u → Steps m (xs ++ ys) s u
steps_join m [] ys s t u one other = subst (λ v. Steps m ys v u) one other
steps_join m (blank ∷ xs) ys s t u one other = (one.0, one.1, steps_join m xs ys (with_option m one.0 blank s) t u one.2 other)

-- ---- one element of a list

pub at_length : {A : Type 0} (xs ys : List A) (x : A) → slice_get (xs ++ x ∷ ys) (length xs) ≡ Some x
at_length [] ys x = refl
at_length (y ∷ xs) ys x = at_length xs ys x

abbrev altered : {A : Type 0} → (A → A) → ℕ → ℕ → List A → List A
altered f n k xs = map (λ e. if nat_eq e.0 n then f e.1 else e.1) (enumerate_from k xs)

past : {A : Type 0} (f : A → A) (n k : ℕ) (xs : List A) → n < k → altered f n k xs ≡ xs
past f n k [] l = refl
past f n k (x ∷ xs) l =
    let off : nat_eq k n ≡ false = false_from_ne_true (nat_eq k n) (λ e. let same : k ≡ n = eqb-true k n e in omega (arith, l, same)) in
    ap₂ (λ a b. a ∷ b) (ap (λ b. if b then f x else x) off) (past f n (k + 1) xs (omega (arith, l)))

altered_at : {A : Type 0} (f : A → A) (n k : ℕ) (xs ys : List A) (x : A) → n ≡ k + length xs → altered f n k (xs ++ x ∷ ys) ≡ xs ++ f x ∷ ys
altered_at f n k [] ys x same =
    let on : nat_eq k n ≡ true = eq-eqb k n (omega (arith, same)) in
    ap₂ (λ a b. a ∷ b) (ap (λ b. if b then f x else x) on) (past f n (k + 1) ys (omega (arith, same)))
altered_at f n k (y ∷ xs) ys x same =
    let off : nat_eq k n ≡ false = false_from_ne_true (nat_eq k n) (λ e. let here : k ≡ n = eqb-true k n e in omega (arith, same, here)) in
    ap₂ (λ a b. a ∷ b) (ap (λ b. if b then f y else y) off) (altered_at f n (k + 1) xs ys x (omega (arith, same)))

pub alter_at : {A : Type 0} (f : A → A) (xs ys : List A) (x : A) → alter f (length xs) (xs ++ x ∷ ys) ≡ xs ++ f x ∷ ys
alter_at f xs ys x = altered_at f (length xs) 0 xs ys x (omega arith)

-- ---- values of fields, one after another

module _ (m : ModelTree) (blank : ℕ → Blank) (at : List ℤ → Scenario) (all : List Field) (domain : (known : List ℤ) (field : Field) → slice_get all (length known) ≡ Some field → domain_of m (at known).actions (blank (length known)) ≡ field.domain)
    (put : (known : List ℤ) (k : ℕ) → with_option m k (blank (length known)) (at known) ≡ at (known ++ option_value m (at known).actions (blank (length known)) k ∷ [])) where
  values_from : (done todo : List Field) (known rest : List ℤ) → all ≡ done ++ todo → length done ≡ length known → AllZip IsValueOf todo rest → Steps m (map blank (range_with_len (length known) (length todo))) (at known) (at (known ++ rest))
  values_from done [] known [] is long zip = ap at (append-nil known)
  values_from done [] known (v ∷ rest) is long zip = absurd zip
  values_from done (field ∷ todo) known [] is long zip = absurd zip
  values_from done (field ∷ todo) known (v ∷ rest) is long zip =
      let b = blank (length known) in
      let k = number_of field.domain v zip.0 in
      let here : slice_get all (length known) ≡ Some field = ap (λ xs. slice_get xs (length known)) is ∙ ap (slice_get (done ++ field ∷ todo)) (sym long) ∙ at_length done todo field in
      let same = domain known field here in
      let value : option_value m (at known).actions b k.0 ≡ v = ap (λ spans. get_or (values spans) k.0 (pos 0)) same ∙ k.2 in
      let more = known ++ v ∷ [] in
      let next : length more ≡ length known + 1 = length-append known (v ∷ []) in
      let rest_steps = values_from (done ++ field ∷ []) todo more rest (is ∙ sym (append_assoc done (field ∷ []) todo)) (let x = length-append done (field ∷ []) in omega (arith, x, next, long)) zip.1 in (
        k.0,
        subst (λ spans. k.0 < size_of spans) (sym same) k.1,
        subst (λ u. Steps m (map blank (range_with_len (length known + 1) (length todo))) u (at (known ++ v ∷ rest))) (sym (put known k.0 ∙ ap (λ w. at (known ++ w ∷ [])) value))
            (subst (λ vs. Steps m (map blank (range_with_len (length known + 1) (length todo))) (at more) (at vs)) (append_assoc known (v ∷ []) rest)
            (subst (λ n. Steps m (map blank (range_with_len n (length todo))) (at more) (at (more ++ rest))) next rest_steps)),
      )

  pub values_steps : (rest : List ℤ) → AllZip IsValueOf all rest → Steps m (map blank (range_with_len 0 (length all))) (at []) (at rest)
  values_steps rest zip = values_from [] all [] rest refl refl zip

-- ---- one element after another

pub rows_steps : {A C E : Type 0} (m : ModelTree) (at : List A → Scenario) (blanks : ℕ × E → List Blank) (seen : C → E) (from to : C → A) (before : List A) (todo : List C)
    → ((i : ℕ) (x : C) → slice_get todo i ≡ Some x → (pre post : List A) → length pre ≡ length before + i → Steps m (blanks (length pre, seen x)) (at (pre ++ from x ∷ post)) (at (pre ++ to x ∷ post)))
    → Steps m (flat_map blanks (enumerate_from (length before) (map seen todo))) (at (before ++ map from todo)) (at (before ++ map to todo))
rows_steps m at blanks seen from to before [] each = refl
rows_steps m at blanks seen from to before (x ∷ xs) each =
    let next = before ++ to x ∷ [] in
    let long : length next ≡ length before + 1 = length-append before (to x ∷ []) in
    let rest = rows_steps m at blanks seen from to next xs (λ i y is pre post e. each (suc i) y is pre post (omega (arith, e, long))) in
    let moved = subst (λ n. Steps m (flat_map blanks (enumerate_from n (map seen xs))) (at (next ++ map from xs)) (at (next ++ map to xs))) long rest in
    let first = subst (λ ys. Steps m (flat_map blanks (enumerate_from (length before + 1) (map seen xs))) (at ys) (at (next ++ map to xs))) (append_assoc before (to x ∷ []) (map from xs)) moved in
    let last = subst (λ ys. Steps m (flat_map blanks (enumerate_from (length before + 1) (map seen xs))) (at (before ++ to x ∷ map from xs)) (at ys)) (append_assoc before (to x ∷ []) (map to xs)) first in
    steps_join m (blanks (length before, seen x)) (flat_map blanks (enumerate_from (length before + 1) (map seen xs)))
    (at (before ++ from x ∷ map from xs)) (at (before ++ to x ∷ map from xs)) (at (before ++ to x ∷ map to xs)) (each zero x refl before (map from xs) (omega arith)) last

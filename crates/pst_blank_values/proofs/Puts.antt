-- What a value in a blank changes in the rows of a scenario.
use Rattle.std.proofs.Common.{◌≡◌, ℕ, zero, suc, ℤ, pos, List, [], ◌∷◌, ◌++◌, length, map, Bool, true, false, ◌&&◌, nat_eq, if◌then◌else◌, Option, Some, None, refl, sym, ap, ◌∙◌, subst, ◌⊎◌, inl, inr, arith}
use Rattle.std.specs.Prelude.{slice_get}
use Rattle.std.specs.Option.{option_map}
use Rattle.std.proofs.lemmas.Bool.{eq-eqb, eqb-true, ne_eqb, false≢true}
use Rattle.std.proofs.lemmas.Option.{none-some}
use Rattle.pst_model.specs.ModelTree.{ModelTree}
use Rattle.pst_scen.specs.declared.act.Act.{Act}
use Rattle.pst_scen.specs.declared.act.Filled.{Filled}
use Rattle.pst_scen.specs.declared.act.Claimed.{Claimed}
use Rattle.pst_scen.specs.declared.scenario.First.{First}
use Rattle.pst_scen.specs.declared.scenario.Scenario.{Scenario}
use Rattle.pst_legal.specs.Blanks.{Blank, Instance, OfFirst, OfAct, OfOutput, OfClaim, option_value}
use Rattle.pst_legal.specs.Slots.{first_values, output_values, claim_values}
use Rattle.pst_legal.specs.SupplyReading.{alter}
use Rattle.pst_legal.specs.ValueReading.{more_values, claimed_as, with_claim, act_with_value, filled_with_value, claimed_with_value, with_output_value, with_claim_value, first_with_value, with_option}
use Rattle.pst_built.proofs.Members.{In}
use Rattle.pst_built.proofs.Bares.{alter_at, alter_off, alter_same}
use Rattle.pst_blank_values.specs.Rows.{Part, Claims, Fields, Output, Resource, Row, InFirst, InAct, values_of, of_act, values_in, row_of}
use Rattle.pst_blank_values.specs.Values.{value_of_option}
use Rattle.pst_blank_values.proofs.Counts.{kind, second, same_row}

-- a value more, where the row is the one
abbrev pub more_if : Bool → ℤ → List ℤ → List ℤ
more_if b v xs = if b then more_values v xs else xs

-- ---- lists

map_join : {A B : Type 0} (f : A → B) (xs ys : List A) → map f (xs ++ ys) ≡ map f xs ++ map f ys
map_join f [] ys = refl
map_join f (x ∷ xs) ys = ap (λ l. f x ∷ l) (map_join f xs ys)

get_pushed : {A : Type 0} (xs : List A) (x : A) (i : ℕ) (y : A) → slice_get xs i ≡ Some y → slice_get (xs ++ x ∷ []) i ≡ Some y
get_pushed [] x i y is = absurd (none-some y is)
get_pushed (z ∷ zs) x zero y is = is
get_pushed (z ∷ zs) x (suc i) y is = get_pushed zs x i y is

pub get_last : {A : Type 0} (xs : List A) (x : A) (i : ℕ) → i ≡ length xs → slice_get (xs ++ x ∷ []) i ≡ Some x
get_last [] x zero e = refl
get_last [] x (suc i) e = absurd (omega (arith, e))
get_last (z ∷ zs) x zero e = absurd (omega (arith, e))
get_last (z ∷ zs) x (suc i) e = get_last zs x i (omega (arith, e))

pub get_more : {A : Type 0} (xs : List A) (x : A) (i : ℕ) (y : A) → slice_get xs i ≡ Some y → slice_get (xs ++ x ∷ []) i ≡ Some y
get_more xs x i y is = get_pushed xs x i y is

-- ---- claims of which one more without values is there

claim_none : (xs : List Claimed) (c : Claimed) (i : ℕ) → c.values ≡ [] → claim_values (slice_get (xs ++ c ∷ []) i) ≡ claim_values (slice_get xs i)
claim_none [] c zero e = e
claim_none [] c (suc i) e = refl
claim_none (x ∷ xs) c zero e = refl
claim_none (x ∷ xs) c (suc i) e = claim_none xs c i e

-- ---- one action

module _ (m : ModelTree) (x : Act) where
  claim_put : (claim k : ℕ) (part : Part) → values_of part (with_claim m claim k x) ≡ more_if (same_row (InAct 0 Claims) (InAct 0 part)) (pos k) (values_of part x)
  claim_put claim k Claims = map_join (λ (c : Claimed). pos c.instance) x.claims (claimed_as m x claim k ∷ [])
  claim_put claim k Fields = refl
  claim_put claim k (Output reference) = refl
  claim_put claim k (Resource other) = claim_none x.claims (claimed_as m x claim k) other refl

  field_put : (v : ℤ) (part : Part) → values_of part (act_with_value v x) ≡ more_if (same_row (InAct 0 Fields) (InAct 0 part)) v (values_of part x)
  field_put v Claims = refl
  field_put v Fields = refl
  field_put v (Output reference) = refl
  field_put v (Resource claim) = refl

  more_output : (v : ℤ) (o : Option Filled) (f : Filled) → o ≡ Some f → output_values (option_map (filled_with_value v) o) ≡ more_values v (output_values o)
  more_output v None f e = absurd (none-some f e)
  more_output v (Some g) f e = refl

  output_put : (reference : ℕ) (v : ℤ) (f : Filled) → slice_get x.references reference ≡ Some f → (part : Part)
      → values_of part (with_output_value reference v x) ≡ more_if (same_row (InAct 0 (Output reference)) (InAct 0 part)) v (values_of part x)
  output_put reference v f is Claims = refl
  output_put reference v f is Fields = refl
  output_put reference v f is (Resource claim) = refl
  output_put reference v f is (Output other) = by (nat_eq reference other) refl
    where
      by : (b : Bool) → nat_eq reference other ≡ b → output_values (slice_get (alter (filled_with_value v) reference x.references) other) ≡ more_if b v (output_values (slice_get x.references other))
      by true e =
          let same : reference ≡ other = eqb-true reference other e in
          subst (λ n. output_values (slice_get (alter (filled_with_value v) reference x.references) n) ≡ more_values v (output_values (slice_get x.references n))) same
          (ap output_values (alter_at (filled_with_value v) reference x.references) ∙ more_output v (slice_get x.references reference) f is)
      by false e = ap output_values (alter_off (filled_with_value v) reference other x.references (λ same. false≢true (sym e ∙ eq-eqb reference other same)))

  more_claimed : (v : ℤ) (o : Option Claimed) (c : Claimed) → o ≡ Some c → claim_values (option_map (claimed_with_value v) o) ≡ more_values v (claim_values o)
  more_claimed v None c e = absurd (none-some c e)
  more_claimed v (Some d) c e = refl

  resource_put : (claim : ℕ) (v : ℤ) (c : Claimed) → slice_get x.claims claim ≡ Some c → (part : Part)
      → values_of part (with_claim_value claim v x) ≡ more_if (same_row (InAct 0 (Resource claim)) (InAct 0 part)) v (values_of part x)
  resource_put claim v c is Claims = alter_same (λ (d : Claimed). pos d.instance) (claimed_with_value v) (λ d. refl) claim x.claims
  resource_put claim v c is Fields = refl
  resource_put claim v c is (Output reference) = refl
  resource_put claim v c is (Resource other) = by (nat_eq claim other) refl
    where
      by : (b : Bool) → nat_eq claim other ≡ b → claim_values (slice_get (alter (claimed_with_value v) claim x.claims) other) ≡ more_if b v (claim_values (slice_get x.claims other))
      by true e =
          let same : claim ≡ other = eqb-true claim other e in
          subst (λ n. claim_values (slice_get (alter (claimed_with_value v) claim x.claims) n) ≡ more_values v (claim_values (slice_get x.claims n))) same
          (ap claim_values (alter_at (claimed_with_value v) claim x.claims) ∙ more_claimed v (slice_get x.claims claim) c is)
      by false e = ap claim_values (alter_off (claimed_with_value v) claim other x.claims (λ same. false≢true (sym e ∙ eq-eqb claim other same)))

-- ---- one action among all

and_false : (b : Bool) → (b && false) ≡ false
and_false true = refl
and_false false = refl

and_true : (b : Bool) → (b && true) ≡ b
and_true true = refl
and_true false = refl

module _ (g : Act → Act) (v : ℤ) (own : Part) (acts : List Act) (a : ℕ) (x : Act) (is : slice_get acts a ≡ Some x)
    (changes : (part : Part) → values_of part (g x) ≡ more_if (same_row (InAct 0 own) (InAct 0 part)) v (values_of part x)) where
  act_put : (other : ℕ) (part : Part) → of_act part (slice_get (alter g a acts) other) ≡ more_if (same_row (InAct a own) (InAct other part)) v (of_act part (slice_get acts other))
  act_put other part = by (nat_eq a other) refl
    where
      by : (b : Bool) → nat_eq a other ≡ b → of_act part (slice_get (alter g a acts) other)
          ≡ more_if (nat_eq (kind (InAct a own)) (kind (InAct other part)) && (b && nat_eq (second (InAct a own)) (second (InAct other part)))) v (of_act part (slice_get acts other))
      by true e =
          let same : a ≡ other = eqb-true a other e in
          let new : slice_get (alter g a acts) a ≡ Some (g x) = alter_at g a acts ∙ ap (option_map g) is in
          subst (λ n. of_act part (slice_get (alter g a acts) n) ≡ more_if (nat_eq (kind (InAct a own)) (kind (InAct other part)) && nat_eq (second (InAct a own)) (second (InAct other part))) v (of_act part (slice_get acts n))) same
          (ap (of_act part) new ∙ changes part ∙ ap (λ o. more_if (nat_eq (kind (InAct a own)) (kind (InAct other part)) && nat_eq (second (InAct a own)) (second (InAct other part))) v (of_act part o)) (sym is))
      by false e =
          ap (of_act part) (alter_off g a other acts (λ same. false≢true (sym e ∙ eq-eqb a other same)))
          ∙ ap (λ b. more_if b v (of_act part (slice_get acts other))) (sym (and_false (nat_eq (kind (InAct a own)) (kind (InAct other part)))))

-- ---- first objects

abbrev pub pool_of : First → ℕ
pool_of f = f.pool

first_here : (pool : ℕ) (v : ℤ) (xs : List First) → In pool (map pool_of xs) → first_values (map (first_with_value pool v) xs) pool ≡ more_values v (first_values xs pool)
first_here pool v [] has = absurd has
first_here pool v (x ∷ xs) has = by (nat_eq x.pool pool) refl has (first_here pool v xs)
  where
    tail_of : nat_eq x.pool pool ≡ false → (x.pool ≡ pool) ⊎ In pool (map pool_of xs) → In pool (map pool_of xs)
    tail_of e (inl same) = absurd (false≢true (sym e ∙ eq-eqb x.pool pool same))
    tail_of e (inr more) = more

    by : (b : Bool) → nat_eq x.pool pool ≡ b → In pool (map pool_of (x ∷ xs)) → (In pool (map pool_of xs) → first_values (map (first_with_value pool v) xs) pool ≡ more_values v (first_values xs pool))
        → (if nat_eq (if b then record x { values = more_values v x.values } else x).pool pool then (if b then record x { values = more_values v x.values } else x).values else first_values (map (first_with_value pool v) xs) pool)
        ≡ more_values v (if b then x.values else first_values xs pool)
    by true e has rest = ap (λ c. if c then more_values v x.values else first_values (map (first_with_value pool v) xs) pool) e
    by false e has rest = ap (λ c. if c then x.values else first_values (map (first_with_value pool v) xs) pool) e ∙ rest (tail_of e has)

first_off : (pool other : ℕ) (v : ℤ) (xs : List First) → (pool ≡ other → ⊥) → first_values (map (first_with_value pool v) xs) other ≡ first_values xs other
first_off pool other v [] apart = refl
first_off pool other v (x ∷ xs) apart = by (nat_eq x.pool pool) refl (first_off pool other v xs apart)
  where
    by : (b : Bool) → nat_eq x.pool pool ≡ b → first_values (map (first_with_value pool v) xs) other ≡ first_values xs other
        → (if nat_eq (if b then record x { values = more_values v x.values } else x).pool other then (if b then record x { values = more_values v x.values } else x).values else first_values (map (first_with_value pool v) xs) other)
        ≡ (if nat_eq x.pool other then x.values else first_values xs other)
    by true e rest =
        let off : nat_eq x.pool other ≡ false = ne_eqb x.pool other (λ same. apart (sym (eqb-true x.pool pool e) ∙ same)) in
        ap (λ c. if c then more_values v x.values else first_values (map (first_with_value pool v) xs) other) off ∙ rest ∙ sym (ap (λ c. if c then x.values else first_values xs other) off)
    by false e rest = ap (λ r. if nat_eq x.pool other then x.values else r) rest

-- ---- a blank

-- what the blank is of is there
abbrev pub IsThere : Scenario → Blank → Type 0
IsThere s (Instance act claim) = (x : Act) × (slice_get s.actions act ≡ Some x)
IsThere s (OfFirst pool field) = In pool (map pool_of s.firsts)
IsThere s (OfAct act field) = (x : Act) × (slice_get s.actions act ≡ Some x)
IsThere s (OfOutput act reference field) = (x : Act) × (f : Filled) × (slice_get s.actions act ≡ Some x) × (slice_get x.references reference ≡ Some f)
IsThere s (OfClaim act claim field) = (x : Act) × (c : Claimed) × (slice_get s.actions act ≡ Some x) × (slice_get x.claims claim ≡ Some c)

first_put : (pool : ℕ) (v : ℤ) (s : Scenario) → In pool (map pool_of s.firsts) → (row : Row)
    → values_in (record s { firsts = map (first_with_value pool v) s.firsts }) row ≡ more_if (same_row (InFirst pool) row) v (values_in s row)
first_put pool v s has (InAct act Claims) = refl
first_put pool v s has (InAct act Fields) = refl
first_put pool v s has (InAct act (Output reference)) = refl
first_put pool v s has (InAct act (Resource claim)) = refl
first_put pool v s has (InFirst other) = by (nat_eq pool other) refl ∙ ap (λ b. more_if b v (first_values s.firsts other)) (sym (and_true (nat_eq pool other)))
  where
    by : (b : Bool) → nat_eq pool other ≡ b → first_values (map (first_with_value pool v) s.firsts) other ≡ more_if b v (first_values s.firsts other)
    by true e =
        let same : pool ≡ other = eqb-true pool other e in
        subst (λ n. first_values (map (first_with_value pool v) s.firsts) n ≡ more_values v (first_values s.firsts n)) same (first_here pool v s.firsts has)
    by false e = first_off pool other v s.firsts (λ same. false≢true (sym e ∙ eq-eqb pool other same))

pub put : (m : ModelTree) (k : ℕ) (blank : Blank) (s : Scenario) → IsThere s blank → (row : Row)
    → values_in (with_option m k blank s) row ≡ more_if (same_row (row_of blank) row) (value_of_option m s.actions blank k) (values_in s row)
put m k (Instance act claim) s there (InFirst pool) = refl
put m k (Instance act claim) s there (InAct other part) = act_put (with_claim m claim k) (pos k) Claims s.actions act there.0 there.1 (claim_put m there.0 claim k) other part
put m k (OfFirst pool field) s there row = first_put pool (option_value m s.actions (OfFirst pool field) k) s there row
put m k (OfAct act field) s there (InFirst pool) = refl
put m k (OfAct act field) s there (InAct other part) =
    let v = option_value m s.actions (OfAct act field) k in
    act_put (act_with_value v) v Fields s.actions act there.0 there.1 (field_put m there.0 v) other part
put m k (OfOutput act reference field) s there (InFirst pool) = refl
put m k (OfOutput act reference field) s there (InAct other part) =
    let v = option_value m s.actions (OfOutput act reference field) k in
    act_put (with_output_value reference v) v (Output reference) s.actions act there.0 there.2 (output_put m there.0 reference v there.1 there.3) other part
put m k (OfClaim act claim field) s there (InFirst pool) = refl
put m k (OfClaim act claim field) s there (InAct other part) =
    let v = option_value m s.actions (OfClaim act claim field) k in
    act_put (with_claim_value claim v) v (Resource claim) s.actions act there.0 there.2 (resource_put m there.0 claim v there.1 there.3) other part

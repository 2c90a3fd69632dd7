-- What stands in blanks that are filled one after another.
use Rattle.std.proofs.Common.{◌≡◌, ℕ, zero, suc, ◌+◌, ℤ, pos, List, [], ◌∷◌, ◌++◌, length, get_or, map, Bool, true, false, nat_eq, if◌then◌else◌, All, Option, Some, None, refl, sym, ap, ap₂, ◌∙◌, subst, arith, length-append}
use Rattle.std.specs.Prelude.{slice_get}
use Rattle.std.specs.Option.{option_map, option_and_then}
use Rattle.std.proofs.lemmas.Option.{none-some, same_Some, slice_get-map, slice_get_past, option_and_then_some}
use Rattle.pst_expr.specs.Spans.{values}
use Rattle.pst_expr.specs.Value.{variable_value}
use Rattle.pst_model.specs.ModelTree.{ModelTree}
use Rattle.pst_scen.specs.declared.act.Act.{Act}
use Rattle.pst_scen.specs.declared.act.Filled.{Filled}
use Rattle.pst_scen.specs.declared.act.Claimed.{Claimed}
use Rattle.pst_scen.specs.declared.scenario.First.{First}
use Rattle.pst_scen.specs.declared.scenario.Scenario.{Scenario}
use Rattle.pst_scen.specs.Scenarios.{reference_at}
use Rattle.pst_legal.specs.Blanks.{Blank, Instance, OfFirst, OfAct, OfOutput, OfClaim, used_state_pools, option_value}
use Rattle.pst_legal.specs.Slots.{first_values, output_values, claim_values}
use Rattle.pst_legal.specs.ValueReading.{more_values, first_with_value, empty_first, with_firsts, with_option}
use Rattle.pst_built.proofs.Members.{In}
use Rattle.pst_built.proofs.SoundActs.{all_get}
use Rattle.pst_built.proofs.Bares.{Bare, bare, bares_in, bare_from, bare_of, Kind, kind_in}
use Rattle.pst_built.proofs.Values.{IsSameOrder}
use Rattle.pst_built.specs.Onward.{Both, Row as Paired}
use Rattle.pst_read_slots.proofs.Same.{same_then, option_same}
use Rattle.pst_few_places.proofs.PassedOn.{same_domain}
use Rattle.pst_built.proofs.Lists.{get_below}
use Rattle.pst_few_places.specs.Fillings.{all_blanks, filled}
use Rattle.pst_blank_values.specs.Rows.{Part, Claims, Fields, Output, Resource, Row, InFirst, InAct, values_of, of_act, values_in, row_of, place_of, stands_in}
use Rattle.pst_blank_values.specs.Values.{value_of_option, blank_values, IsBareAct, AreBare, IsSameReference, IsSameAct, IsSameButValues}
use Rattle.pst_blank_values.specs.Laws.{FilledBlanksStand}
use Rattle.pst_blank_values.proofs.Counts.{same_row, same_itself, one_if, count, count_one}
use Rattle.pst_blank_values.proofs.Turns.{Stands, AreInTurn, later}
use Rattle.pst_blank_values.proofs.Listed.{all_turn}
use Rattle.pst_blank_values.proofs.Puts.{more_if, get_last, get_more, pool_of, IsThere, put}

-- ---- the same but for values

by_mapped : {A K : Type 0} (view : A → K) (o : Option A) (k : K) → option_map view o ≡ Some k → (y : A) × (o ≡ Some y) × (view y ≡ k)
by_mapped view None k e = absurd (none-some k e)
by_mapped view (Some y) k e = (y, refl, same_Some (view y) k e)

paired : {A K : Type 0} (view : A → K) (G : A → A → Type 0) → ((x y : A) → view y ≡ view x → G x y) → (o p : Option A) → option_map view p ≡ option_map view o → Both G o p
paired view G same None None e = tt
paired view G same None (Some y) e = none-some (view y) (sym e)
paired view G same (Some x) None e = none-some (view x) e
paired view G same (Some x) (Some y) e = same x y (same_Some (view y) (view x) e)

bare_same : (f g : Filled) → bare g ≡ bare f → IsSameReference f g
bare_same f g e = record { pool = ap (λ (b : Bare). b.pool) e; flow = ap (λ (b : Bare). b.flow) e; link = ap (λ (b : Bare). b.link) e }

references_same : (xs ys : List Filled) → map bare ys ≡ map bare xs → Paired IsSameReference xs ys
references_same xs ys e r = paired bare IsSameReference bare_same (slice_get xs r) (slice_get ys r) (sym (slice_get-map bare ys r) ∙ ap (λ bs. slice_get bs r) e ∙ slice_get-map bare xs r)

act_same : (o p : Option Act) → option_map kind_in p ≡ option_map kind_in o → option_map bares_in p ≡ option_map bares_in o → Both IsSameAct o p
act_same None None e f = tt
act_same None (Some y) e f = none-some (kind_in y) (sym e)
act_same (Some x) None e f = none-some (kind_in x) e
act_same (Some x) (Some y) e f =
    let k = same_Some (kind_in y) (kind_in x) e in
    record { action = ap (λ (z : Kind). z.action) k; instance = ap (λ (z : Kind). z.instance) k; references = references_same x.references y.references (same_Some (bares_in y) (bares_in x) f) }

pub same_from : (u t : Scenario) → IsSameOrder u t → IsSameButValues u t
same_from u t same = record {
  nodes = same.nodes;
  acts = λ a. act_same (slice_get u.actions a) (slice_get t.actions a)
      (sym (slice_get-map kind_in t.actions a) ∙ ap (λ ks. slice_get ks a) same.kinds ∙ slice_get-map kind_in u.actions a)
      (sym (slice_get-map bares_in t.actions a) ∙ ap (λ ks. slice_get ks a) same.references ∙ slice_get-map bares_in u.actions a);
}

-- ---- what a blank is of is there

module _ (u s : Scenario) (same : IsSameOrder u s) where
  act_there : (a : ℕ) (x : Act) → slice_get u.actions a ≡ Some x → (y : Act) × (slice_get s.actions a ≡ Some y)
  act_there a x is =
      let e : option_map kind_in (slice_get s.actions a) ≡ Some (kind_in x) =
      sym (slice_get-map kind_in s.actions a) ∙ ap (λ ks. slice_get ks a) same.kinds ∙ slice_get-map kind_in u.actions a ∙ ap (option_map kind_in) is in
      let y = by_mapped kind_in (slice_get s.actions a) (kind_in x) e in
      (y.0, y.1)

  abbrev HasReference : ℕ → ℕ → Type 0
  HasReference a r = (x : Act) × (f : Filled) × (slice_get s.actions a ≡ Some x) × (slice_get x.references r ≡ Some f)

  reference_there : (a r : ℕ) (f : Filled) → reference_at u.actions a r ≡ Some f → HasReference a r
  reference_there a r f is =
      let g = bare_of s.actions a r (bare f) (ap (λ rows. option_and_then (λ xs. slice_get xs r) (slice_get rows a)) same.references ∙ bare_from u.actions a r f is) in
      option_and_then_some {P = HasReference a r} (λ (x : Act). slice_get x.references r) (slice_get s.actions a) g.0 g.1 (λ x at has. (x, g.0, at, has))

  length_mapped : {A B : Type 0} (f : A → B) (xs : List A) → length (map f xs) ≡ length xs
  length_mapped f [] = refl
  length_mapped f (x ∷ xs) = ap suc (length_mapped f xs)

  there : (m : ModelTree) (done : List Blank) → map pool_of s.firsts ≡ used_state_pools m u.actions → ((row : Row) → length (values_in s row) ≡ count row done) → (blank : Blank) → Stands m u.actions done blank → IsThere s blank
  there m done pools long (Instance act claim) has = act_there act has.0 has.1
  there m done pools long (OfFirst pool field) has = subst (λ ps. In pool ps) (sym pools) has
  there m done pools long (OfAct act field) has = act_there act has.0 has.1
  there m done pools long (OfOutput act reference field) has = reference_there act reference has.0 has.1
  there m done pools long (OfClaim act claim field) has =
      let y = act_there act has.0 has.1 in
      let many : length y.0.claims ≡ count (InAct act Claims) done = sym (length_mapped (λ (c : Claimed). pos c.instance) y.0.claims) ∙ ap (λ o. length (of_act Claims o)) (sym y.1) ∙ long (InAct act Claims) in
      let few = has.2 in
      let c = get_below y.0.claims claim (omega (arith, many, few)) in
      (y.0, c.0, y.1, c.1)

-- ---- first objects

by_pool : (pool : ℕ) (v : ℤ) (x : First) (b : Bool) → pool_of (if b then record x { values = more_values v x.values } else x) ≡ pool_of x
by_pool pool v x true = refl
by_pool pool v x false = refl

pools_stay : (pool : ℕ) (v : ℤ) (xs : List First) → map pool_of (map (first_with_value pool v) xs) ≡ map pool_of xs
pools_stay pool v [] = refl
pools_stay pool v (x ∷ xs) = ap₂ (λ a b. a ∷ b) (by_pool pool v x (nat_eq x.pool pool)) (pools_stay pool v xs)

firsts_stay : (m : ModelTree) (k : ℕ) (blank : Blank) (s : Scenario) → map pool_of (with_option m k blank s).firsts ≡ map pool_of s.firsts
firsts_stay m k (Instance act claim) s = refl
firsts_stay m k (OfFirst pool field) s = pools_stay pool (option_value m s.actions (OfFirst pool field) k) s.firsts
firsts_stay m k (OfAct act field) s = refl
firsts_stay m k (OfOutput act reference field) s = refl
firsts_stay m k (OfClaim act claim field) s = refl

pub empty_pools : (pools : List ℕ) → map pool_of (map empty_first pools) ≡ pools
empty_pools [] = refl
empty_pools (pool ∷ pools) = ap (λ ps. pool ∷ ps) (empty_pools pools)

-- ---- values

length_more : (b : Bool) (v : ℤ) (xs : List ℤ) → length (more_if b v xs) ≡ length xs + one_if b
length_more true v xs = length-append xs (v ∷ [])
length_more false v xs = omega arith

stays_more : (b : Bool) (v : ℤ) (xs : List ℤ) (n : ℕ) (w : ℤ) → slice_get xs n ≡ Some w → slice_get (more_if b v xs) n ≡ Some w
stays_more true v xs n w is = get_more xs v n w is
stays_more false v xs n w is = is

module _ (m : ModelTree) (u : Scenario) where
  value_same : (s : Scenario) → IsSameOrder u s → (blank : Blank) (k : ℕ) → value_of_option m s.actions blank k ≡ value_of_option m u.actions blank k
  value_same s same (Instance act claim) k = refl
  value_same s same (OfFirst pool field) k = refl
  value_same s same (OfAct act field) k = ap (λ spans. get_or (values spans) k (pos 0)) (same_domain u s same m (OfAct act field))
  value_same s same (OfOutput act reference field) k = ap (λ spans. get_or (values spans) k (pos 0)) (same_domain u s same m (OfOutput act reference field))
  value_same s same (OfClaim act claim field) k = ap (λ spans. get_or (values spans) k (pos 0)) (same_domain u s same m (OfClaim act claim field))

  record Come (blanks : List Blank) (chosen : List ℕ) (s t : Scenario) : Type 0 where
    same : IsSameOrder u t
    stays : (row : Row) (n : ℕ) (v : ℤ) → slice_get (values_in s row) n ≡ Some v → slice_get (values_in t row) n ≡ Some v
    stands : (i : ℕ) (blank : Blank) → slice_get blanks i ≡ Some blank → stands_in t blank ≡ variable_value (blank_values m u.actions blanks chosen) i

  come : (done blanks : List Blank) (chosen : List ℕ) (s : Scenario) → IsSameOrder u s → map pool_of s.firsts ≡ used_state_pools m u.actions → ((row : Row) → length (values_in s row) ≡ count row done)
      → AreInTurn m u.actions done blanks → Come blanks chosen s (filled m blanks chosen s)
  come done [] chosen s same pools long turns = record { same = same; stays = λ row n v is. is; stands = λ i blank is. absurd (none-some blank is) }
  come done (blank ∷ blanks) [] s same pools long turns = record {
    same = same;
    stays = λ row n v is. is;
    stands = λ i b is.
        let after = later m u.actions done (blank ∷ blanks) i b turns is in
        let many = long (row_of b) in
        slice_get_past (values_in s (row_of b)) (place_of b) (omega (arith, after, many));
  }
  come done (blank ∷ blanks) (k ∷ chosen) s same pools long turns =
      let next = with_option m k blank s in
      let v = value_of_option m s.actions blank k in
      let changed : (row : Row) → values_in next row ≡ more_if (same_row (row_of blank) row) v (values_in s row) = put m k blank s (there u s same m done pools long blank turns.0) in
      let rest = come (done ++ blank ∷ []) blanks chosen next (same_then u s next same (option_same m s k blank)) (firsts_stay m k blank s ∙ pools)
      (λ row.
      let a = ap length (changed row) in
      let b = length_more (same_row (row_of blank) row) v (values_in s row) in
      let c = count_one row done blank in
      let d = long row in
      omega (arith, a, b, c, d))
      turns.2 in
      let own : slice_get (values_in next (row_of blank)) (place_of blank) ≡ Some v =
      ap (λ xs. slice_get xs (place_of blank)) (changed (row_of blank) ∙ ap (λ b. more_if b v (values_in s (row_of blank))) (same_itself (row_of blank)))
      ∙ get_last (values_in s (row_of blank)) v (place_of blank) (turns.1 ∙ sym (long (row_of blank))) in
      record {
        same = rest.same;
        stays = λ row n w is. rest.stays row n w (subst (λ xs. slice_get xs n ≡ Some w) (sym (changed row)) (stays_more (same_row (row_of blank) row) v (values_in s row) n w is));
        stands = by (filled m blanks chosen next) v (value_same s same blank k) (rest.stays (row_of blank) (place_of blank) v own) rest.stands;
      }
    where
      by : (t : Scenario) (v : ℤ) → v ≡ value_of_option m u.actions blank k → stands_in t blank ≡ Some v
          → ((i : ℕ) (b : Blank) → slice_get blanks i ≡ Some b → stands_in t b ≡ variable_value (blank_values m u.actions blanks chosen) i)
          → (i : ℕ) (b : Blank) → slice_get (blank ∷ blanks) i ≡ Some b → stands_in t b ≡ variable_value (blank_values m u.actions (blank ∷ blanks) (k ∷ chosen)) i
      by t v e here more zero b is = ap (stands_in t) (sym (same_Some blank b is)) ∙ here ∙ ap Some e
      by t v e here more (suc i) b is = more i b is

  -- ---- before anything is filled in

  empty_output : (refs : List Filled) (r : ℕ) (o : Option Filled) → All (λ (f : Filled). f.values ≡ []) refs → slice_get refs r ≡ o → output_values o ≡ []
  empty_output refs r None all is = refl
  empty_output refs r (Some f) all is = all_get (λ (g : Filled). g.values ≡ []) refs r f all is

  empty_act : (x : Act) → IsBareAct x → (part : Part) → values_of part x ≡ []
  empty_act x is Claims = ap (map (λ (c : Claimed). pos c.instance)) is.claims
  empty_act x is Fields = is.fields
  empty_act x is (Output reference) = empty_output x.references reference (slice_get x.references reference) is.references refl
  empty_act x is (Resource claim) = ap (λ cs. claim_values (slice_get cs claim)) is.claims

  empty_row : AreBare u.actions → (a : ℕ) (part : Part) (o : Option Act) → slice_get u.actions a ≡ o → of_act part o ≡ []
  empty_row bare a part None is = refl
  empty_row bare a part (Some x) is = empty_act x (all_get IsBareAct u.actions a x bare is) part

  empty_firsts : (pools : List ℕ) (pool : ℕ) → first_values (map empty_first pools) pool ≡ []
  empty_firsts [] pool = refl
  empty_firsts (p ∷ pools) pool = by (nat_eq p pool) (empty_firsts pools pool)
    where
      by : (b : Bool) → first_values (map empty_first pools) pool ≡ [] → (if b then [] else first_values (map empty_first pools) pool) ≡ []
      by true rest = refl
      by false rest = rest

  empty : AreBare u.actions → (row : Row) → length (values_in (with_firsts m u) row) ≡ count row []
  empty bare (InFirst pool) = ap length (empty_firsts (used_state_pools m u.actions) pool)
  empty bare (InAct act part) = ap length (empty_row bare act part (slice_get u.actions act) refl)

pub stand : FilledBlanksStand
stand m u chosen bare =
    let start = with_firsts m u in
    let c = come m u [] (all_blanks m u) chosen start (record { level = refl; nodes = refl; acts = refl; kinds = refl; references = refl }) (empty_pools (used_state_pools m u.actions)) (empty m u bare) (all_turn m u.actions) in
    record { same = same_from u (filled m (all_blanks m u) chosen start) c.same; stands = c.stands }

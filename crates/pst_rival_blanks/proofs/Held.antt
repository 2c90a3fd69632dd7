-- The claims of a scenario with options in its blanks.
use Rattle.std.proofs.Common.{◌≡◌, ℕ, zero, suc, ◌+◌, ℤ, pos, List, [], ◌∷◌, ◌++◌, length, map, Bool, true, false, nat_eq, Option, Some, None, refl, sym, ap, ◌∙◌, subst, ⊎_elim, arith, length-append}
use Rattle.std.specs.Prelude.{slice_get}
use Rattle.std.specs.Option.{option_map, unwrap_or}
use Rattle.std.proofs.lemmas.Bool.{eqb-true, eq-eqb, false≢true}
use Rattle.std.proofs.lemmas.Option.{none-some}
use Rattle.pst_model.specs.ModelTree.{ModelTree}
use Rattle.pst_scen.specs.declared.act.Act.{Act}
use Rattle.pst_scen.specs.declared.act.Claimed.{Claimed}
use Rattle.pst_scen.specs.declared.scenario.Scenario.{Scenario}
use Rattle.pst_legal.specs.Types.{action_claim, served_claim}
use Rattle.pst_legal.specs.Blanks.{Blank, Instance, OfFirst, OfAct, OfOutput, OfClaim, option_value}
use Rattle.pst_legal.specs.SupplyReading.{alter}
use Rattle.pst_legal.specs.ValueReading.{is_lock, claimed_as, with_claim, act_with_value, with_output_value, claimed_with_value, with_claim_value, with_option, with_firsts}
use Rattle.pst_built.proofs.Bares.{alter_at, alter_off, alter_same}
use Rattle.pst_built.proofs.SoundActs.{all_get}
use Rattle.pst_few_places.specs.Fillings.{all_blanks, filled}
use Rattle.pst_blank_values.specs.Rows.{Claims, InAct, row_of, place_of}
use Rattle.pst_blank_values.specs.Values.{IsBareAct, AreBare}
use Rattle.pst_blank_values.proofs.Counts.{same_row, same_itself, AreOne, are_one, one_if, count, count_one, none_if}
use Rattle.pst_blank_values.proofs.Turns.{AreInTurn}
use Rattle.pst_blank_values.proofs.Listed.{all_turn}
use Rattle.pst_claim_rivals.proofs.Lists.{by_mapped, map_join, get_pushed}

-- an element of a list of which one is altered
altered : (P Q : ℕ → Act → Type 0) (f : Act → Act) (n : ℕ) (xs : List Act) → ((x : Act) → P n x → Q n (f x)) → ((a : ℕ) (x : Act) → (n ≡ a → ⊥) → P a x → Q a x)
    → ((a : ℕ) (x : Act) → slice_get xs a ≡ Some x → P a x) → (a : ℕ) (y : Act) → slice_get (alter f n xs) a ≡ Some y → Q a y
altered P Q f n xs own other all a y is = by (nat_eq n a) refl
  where
    by : (b : Bool) → nat_eq n a ≡ b → Q a y
    by true e =
        let same : n ≡ a = eqb-true n a e in
        let at : slice_get (alter f n xs) n ≡ Some y = subst (λ k. slice_get (alter f n xs) k ≡ Some y) (sym same) is in
        let x = by_mapped f (slice_get xs n) y (sym (alter_at f n xs) ∙ at) in
        subst (λ k. Q k y) same (subst (Q n) x.2 (own x.0 (all n x.0 x.1)))
    by false e =
        let off : n ≡ a → ⊥ = λ same. false≢true (sym e ∙ eq-eqb n a same) in
        other a y off (all a y (sym (alter_off f n a xs off) ∙ is))

-- the pool of a claim, and whether it locks
abbrev pub shape : Claimed → ℕ × Bool
shape c = (c.pool, c.lock)

abbrev pub shapes : Act → List (ℕ × Bool)
shapes y = map shape y.claims

module _ (m : ModelTree) where
  abbrev pub model_shape : Act → ℕ → ℕ × Bool
  model_shape y c = (unwrap_or (served_claim m y.action y.instance c) 0, is_lock (action_claim m y.action c))

  -- the claims of an action are as many as its blanks that are done, and as the model says
  pub record Held (done : List Blank) (a : ℕ) (y : Act) : Type 0 where
    pub long : length (shapes y) ≡ count (InAct a Claims) done
    pub each : (c : ℕ) (v : ℕ × Bool) → slice_get (shapes y) c ≡ Some v → v ≡ model_shape y c

  abbrev pub AllHeld : List Blank → List Act → Type 0
  AllHeld done acts = (a : ℕ) (y : Act) → slice_get acts a ≡ Some y → Held done a y

  -- a blank that isn't one of the action's claims
  kept : (done : List Blank) (blank : Blank) (a : ℕ) (x y : Act) → (AreOne (row_of blank) (InAct a Claims) → ⊥) → y.action ≡ x.action → y.instance ≡ x.instance → shapes y ≡ shapes x → Held done a x
      → Held (done ++ blank ∷ []) a y
  kept done blank a x y off action instance same held = record {
    long =
        let e = count_one (InAct a Claims) done blank in
        let z = none_if (same_row (row_of blank) (InAct a Claims)) (λ t. off (are_one (row_of blank) (InAct a Claims) t)) in
        let l = held.long in
        let n = ap length same in
        omega (arith, e, z, l, n);
    each = λ c v is. held.each c v (subst (λ xs. slice_get xs c ≡ Some v) same is) ∙ model_same c;
  }
    where
      model_same : (c : ℕ) → model_shape x c ≡ model_shape y c
      model_same c = λ i. (unwrap_or (served_claim m (sym action i) (sym instance i) c) 0, is_lock (action_claim m (sym action i) c))

  -- one more claim
  pushed : (done : List Blank) (act claim k : ℕ) (x : Act) → claim ≡ count (InAct act Claims) done → Held done act x → Held (done ++ Instance act claim ∷ []) act (with_claim m claim k x)
  pushed done act claim k x turn held = record {
    long =
        let e = count_one (InAct act Claims) done (Instance act claim) in
        let o : one_if (same_row (InAct act Claims) (InAct act Claims)) ≡ 1 = ap one_if (same_itself (InAct act Claims)) in
        let l = held.long in
        let n = ap length joined ∙ length-append (shapes x) (shape (claimed_as m x claim k) ∷ []) in
        omega (arith, e, o, l, n);
    each = λ c v is. ⊎_elim (held.each c v) (λ last. last.1 ∙ ap (model_shape x) (turn ∙ sym held.long ∙ sym last.0)) (get_pushed (shapes x) (shape (claimed_as m x claim k)) c v (subst (λ xs. slice_get xs c ≡ Some v) joined is));
  }
    where
      joined : shapes (with_claim m claim k x) ≡ shapes x ++ shape (claimed_as m x claim k) ∷ []
      joined = map_join shape x.claims (claimed_as m x claim k ∷ [])

  other_kind : (blank : Blank) (a : ℕ) (n : ℕ) → (AreOne (row_of blank) (InAct a Claims) → n ≡ 1) → (n ≡ 1 → ⊥) → AreOne (row_of blank) (InAct a Claims) → ⊥
  other_kind blank a n is off one = off (is one)

  step : (k : ℕ) (blank : Blank) (s : Scenario) (done : List Blank) → place_of blank ≡ count (row_of blank) done → AllHeld done s.actions → AllHeld (done ++ blank ∷ []) (with_option m k blank s).actions
  step k (Instance act claim) s done turn held =
      altered (Held done) (Held (done ++ Instance act claim ∷ [])) (with_claim m claim k) act s.actions
      (λ x h. pushed done act claim k x turn h)
      (λ a x off h. kept done (Instance act claim) a x x (λ one. off one.firsts) refl refl refl h)
      held
  step k (OfFirst pool field) s done turn held = λ a y is. kept done (OfFirst pool field) a y y (λ one. let e = one.kinds in omega (arith, e)) refl refl refl (held a y is)
  step k (OfAct act field) s done turn held =
      let off : (a : ℕ) → AreOne (row_of (OfAct act field)) (InAct a Claims) → ⊥ = λ a one. (let e = one.kinds in omega (arith, e)) in
      altered (Held done) (Held (done ++ OfAct act field ∷ [])) (act_with_value (option_value m s.actions (OfAct act field) k)) act s.actions
      (λ x h. kept done (OfAct act field) act x (act_with_value (option_value m s.actions (OfAct act field) k) x) (off act) refl refl refl h)
      (λ a x other h. kept done (OfAct act field) a x x (off a) refl refl refl h)
      held
  step k (OfOutput act reference field) s done turn held =
      let off : (a : ℕ) → AreOne (row_of (OfOutput act reference field)) (InAct a Claims) → ⊥ = λ a one. (let e = one.kinds in omega (arith, e)) in
      altered (Held done) (Held (done ++ OfOutput act reference field ∷ [])) (with_output_value reference (option_value m s.actions (OfOutput act reference field) k)) act s.actions
      (λ x h. kept done (OfOutput act reference field) act x (with_output_value reference (option_value m s.actions (OfOutput act reference field) k) x) (off act) refl refl refl h)
      (λ a x other h. kept done (OfOutput act reference field) a x x (off a) refl refl refl h)
      held
  step k (OfClaim act claim field) s done turn held =
      let v = option_value m s.actions (OfClaim act claim field) k in
      let off : (a : ℕ) → AreOne (row_of (OfClaim act claim field)) (InAct a Claims) → ⊥ = λ a one. (let e = one.kinds in omega (arith, e)) in
      altered (Held done) (Held (done ++ OfClaim act claim field ∷ [])) (with_claim_value claim v) act s.actions
      (λ x h. kept done (OfClaim act claim field) act x (with_claim_value claim v x) (off act) refl refl (alter_same shape (claimed_with_value v) (λ c. refl) claim x.claims) h)
      (λ a x other h. kept done (OfClaim act claim field) a x x (off a) refl refl refl h)
      held

  fill : (acts : List Act) (done blanks : List Blank) (chosen : List ℕ) (s : Scenario) → AreInTurn m acts done blanks → AllHeld done s.actions → (more : List Blank) × AllHeld more (filled m blanks chosen s).actions
  fill acts done [] chosen s turns held = (done, held)
  fill acts done (blank ∷ blanks) [] s turns held = (done, held)
  fill acts done (blank ∷ blanks) (k ∷ chosen) s turns held = fill acts (done ++ blank ∷ []) blanks chosen (with_option m k blank s) turns.2 (step k blank s done turns.1 held)

  empty : (u : Scenario) → AreBare u.actions → AllHeld [] u.actions
  empty u bare a y is =
      let none : y.claims ≡ [] = (all_get IsBareAct u.actions a y bare is).claims in
      let nothing : shapes y ≡ [] = ap (map shape) none in
      record { long = ap length nothing; each = λ c v at. absurd (none-some v (subst (λ xs. slice_get xs c ≡ Some v) nothing at)) }

  -- each claim is as the model says
  pub held_shapes : (u : Scenario) (chosen : List ℕ) → AreBare u.actions → (a c : ℕ) (y : Act) (v : ℕ × Bool) → slice_get (filled m (all_blanks m u) chosen (with_firsts m u)).actions a ≡ Some y
      → slice_get (shapes y) c ≡ Some v → v ≡ model_shape y c
  held_shapes u chosen bare a c y v is at =
      let all = fill u.actions [] (all_blanks m u) chosen (with_firsts m u) (all_turn m u.actions) (empty u bare) in
      (all.1 a y is).each c v at

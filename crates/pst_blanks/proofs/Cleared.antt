-- A blank that was filled is cleared again, and what else stays.
use Rattle.std.proofs.Common.{◌≡◌, ℕ, ◌-◌, ℤ, List, [], ◌∷◌, ◌++◌, map, length, take, Bool, true, false, nat_eq, if◌then◌else◌, Option, Some, None, refl, sym, ap, ap₂, ◌∙◌, subst, arith, length-append}
use Rattle.std.specs.Prelude.{slice_get}
use Rattle.std.specs.Option.{option_map, option_and_then}
use Rattle.std.proofs.lemmas.Option.{slice_get-map}
use Rattle.std.proofs.Math.Seq.{take-append_seam}
use Rattle.pst_model.specs.ModelTree.{ModelTree}
use Rattle.pst_scen.specs.declared.act.Act.{Act}
use Rattle.pst_scen.specs.declared.act.Filled.{Filled}
use Rattle.pst_scen.specs.declared.act.Claimed.{Claimed}
use Rattle.pst_scen.specs.declared.scenario.First.{First}
use Rattle.pst_scen.specs.declared.scenario.Scenario.{Scenario}
use Rattle.pst_legal.specs.Types.{served_claim}
use Rattle.pst_legal.specs.Blanks.{Blank, Instance, OfFirst, OfAct, OfOutput, OfClaim, option_value}
use Rattle.pst_legal.specs.SupplyReading.{alter}
use Rattle.pst_legal.specs.ValueReading.{with_option, more_values, with_claim, claimed_as, act_with_value, with_output_value, with_claim_value, filled_with_value, claimed_with_value, first_with_value}
use Rattle.pst_blanks.specs.Blanks.{blank_of, served_at}
use Rattle.pst_blanks.specs.Placed.{ServedAt, FoundAt, pools_of, Keeps}
use Rattle.pst_blanks.specs.Filling.{but_last, act_cleared, cleared, filled_without_value, claimed_without_value, first_without_value, first_less}
use Rattle.pst_blanks.proofs.Alters.{alter_back, alter_same}
use Rattle.pst_blanks.proofs.Each.{map_map}

but_last_more : {A : Type 0} (xs : List A) (x : A) → but_last (xs ++ x ∷ []) ≡ xs
but_last_more xs x =
    let e : length (xs ++ x ∷ []) - 1 ≡ length xs = ap (λ n. n - 1) (length-append xs (x ∷ [])) ∙ omega arith in
    ap (λ n. take n (xs ++ x ∷ [])) e ∙ take-append_seam xs (x ∷ [])

filled_back : (v : ℤ) (x : Filled) → filled_without_value (filled_with_value v x) ≡ x
filled_back v x = ap (λ vs. record x { values = vs }) (but_last_more x.values v)

claimed_back : (v : ℤ) (x : Claimed) → claimed_without_value (claimed_with_value v x) ≡ x
claimed_back v x = ap (λ vs. record x { values = vs }) (but_last_more x.values v)

first_back : (pool : ℕ) (v : ℤ) (x : First) → first_without_value pool (first_with_value pool v x) ≡ x
first_back pool v x = go (nat_eq x.pool pool) refl
  where
    go : (b : Bool) → nat_eq x.pool pool ≡ b → first_without_value pool (if b then record x { values = more_values v x.values } else x) ≡ x
    go true e = ap (λ b. if b then first_less (record x { values = more_values v x.values }) else record x { values = more_values v x.values }) e ∙ ap (λ vs. record x { values = vs }) (but_last_more x.values v)
    go false e = ap (λ b. if b then first_less x else x) e

map_same : {A : Type 0} (f : A → A) (xs : List A) → ((x : A) → f x ≡ x) → map f xs ≡ xs
map_same f [] h = refl
map_same f (x ∷ xs) h = ap₂ (λ y ys. y ∷ ys) (h x) (map_same f xs h)

map_twice : {A : Type 0} (f g : A → A) (xs : List A) → ((x : A) → g (f x) ≡ x) → map g (map f xs) ≡ xs
map_twice f g [] h = refl
map_twice f g (x ∷ xs) h = ap₂ (λ y ys. y ∷ ys) (h x) (map_twice f g xs h)

acts_back : (s : Scenario) (f g : Act → Act) (n : ℕ) → ((x : Act) → g (f x) ≡ x) → record s { actions = alter g n (alter f n s.actions) } ≡ s
acts_back s f g n h = ap (λ acts. record s { actions = acts }) (alter_back f g n s.actions h)

-- what was filled is cleared again
pub cleared_back : (m : ModelTree) (k : ℕ) (b : Blank) (s : Scenario) → cleared b (with_option m k b s) ≡ s
cleared_back m k (Instance act claim) s =
    acts_back s (with_claim m claim k) (act_cleared (Instance act claim)) act (λ x. ap (λ l. record x { claims = l }) (but_last_more x.claims (claimed_as m x claim k)))
cleared_back m k (OfFirst pool field) s =
    let v = option_value m s.actions (OfFirst pool field) k in
    ap (λ l. record s { firsts = l }) (map_twice (first_with_value pool v) (first_without_value pool) s.firsts (first_back pool v))
cleared_back m k (OfAct act field) s =
    let v = option_value m s.actions (OfAct act field) k in
    acts_back s (act_with_value v) (act_cleared (OfAct act field)) act (λ x. ap (λ l. record x { fields = l }) (but_last_more x.fields v))
cleared_back m k (OfOutput act reference field) s =
    let v = option_value m s.actions (OfOutput act reference field) k in
    acts_back s (with_output_value reference v) (act_cleared (OfOutput act reference field)) act
    (λ x. ap (λ l. record x { references = l }) (alter_back (filled_with_value v) filled_without_value reference x.references (filled_back v)))
cleared_back m k (OfClaim act claim field) s =
    let v = option_value m s.actions (OfClaim act claim field) k in
    acts_back s (with_claim_value claim v) (act_cleared (OfClaim act claim field)) act
    (λ x. ap (λ l. record x { claims = l }) (alter_back (claimed_with_value v) claimed_without_value claim x.claims (claimed_back v)))

-- ---- what stays

-- the type and the instance of an action
abbrev kind : Act → ℕ × ℕ
kind act = (act.action, act.instance)

by_kind : (m : ModelTree) (o : Option Act) (claim : ℕ) → option_and_then (λ e. served_claim m e.0 e.1 claim) (option_map kind o) ≡ option_and_then (λ a. served_claim m a.action a.instance claim) o
by_kind m None claim = refl
by_kind m (Some act) claim = refl

served_is : (m : ModelTree) (acts : List Act) (a claim : ℕ) → option_and_then (λ e. served_claim m e.0 e.1 claim) (slice_get (map kind acts) a) ≡ served_at m acts a claim
served_is m acts a claim = ap (option_and_then (λ e. served_claim m e.0 e.1 claim)) (slice_get-map kind acts a) ∙ by_kind m (slice_get acts a) claim

served_same : (m : ModelTree) (xs ys : List Act) → map kind ys ≡ map kind xs → (b : Blank) (at : Option ℕ) → ServedAt m xs b at → ServedAt m ys b at
served_same m xs ys e (Instance a claim) at h = h ∙ sym (served_is m xs a claim) ∙ ap (λ l. option_and_then (λ e. served_claim m e.0 e.1 claim) (slice_get l a)) (sym e) ∙ served_is m ys a claim
served_same m xs ys e (OfFirst pool field) at h = tt
served_same m xs ys e (OfAct act field) at h = tt
served_same m xs ys e (OfOutput act reference field) at h = tt
served_same m xs ys e (OfClaim act claim field) at h = tt

keeps : (m : ModelTree) (s t : Scenario) → map kind t.actions ≡ map kind s.actions → pools_of t.firsts ≡ pools_of s.firsts → Keeps m s t
keeps m s t kinds pools = record {
  placed = λ place h. (served_same m s.actions t.actions kinds (blank_of place) place.at h.0, subst (λ ps. FoundAt ps (blank_of place) place.at) (sym pools) h.1);
  pools = pools;
}

pub keeps_same : (m : ModelTree) (s : Scenario) → Keeps m s s
keeps_same m s = keeps m s s refl refl

acts_keep : (m : ModelTree) (s : Scenario) (f : Act → Act) (n : ℕ) → ((x : Act) → kind (f x) ≡ kind x) → Keeps m s (record s { actions = alter f n s.actions })
acts_keep m s f n same = keeps m s (record s { actions = alter f n s.actions }) (alter_same kind f n s.actions same) refl

pool_stays : (b : Bool) (x y : First) → y.pool ≡ x.pool → (if b then y else x).pool ≡ x.pool
pool_stays true x y e = e
pool_stays false x y e = refl

pub keeps_filled : (m : ModelTree) (k : ℕ) (b : Blank) (s : Scenario) → Keeps m s (with_option m k b s)
keeps_filled m k (Instance act claim) s = acts_keep m s (with_claim m claim k) act (λ x. refl)
keeps_filled m k (OfFirst pool field) s =
    let v = option_value m s.actions (OfFirst pool field) k in
    keeps m s _ refl (map_map (λ (x : First). x.pool) (first_with_value pool v) (λ x. x.pool) s.firsts (λ x. pool_stays (nat_eq x.pool pool) x (record x { values = more_values v x.values }) refl))
keeps_filled m k (OfAct act field) s = acts_keep m s (act_with_value (option_value m s.actions (OfAct act field) k)) act (λ x. refl)
keeps_filled m k (OfOutput act reference field) s = acts_keep m s (with_output_value reference (option_value m s.actions (OfOutput act reference field) k)) act (λ x. refl)
keeps_filled m k (OfClaim act claim field) s = acts_keep m s (with_claim_value claim (option_value m s.actions (OfClaim act claim field) k)) act (λ x. refl)

pub keeps_cleared : (m : ModelTree) (b : Blank) (s : Scenario) → Keeps m s (cleared b s)
keeps_cleared m (Instance act claim) s = acts_keep m s (act_cleared (Instance act claim)) act (λ x. refl)
keeps_cleared m (OfFirst pool field) s =
    keeps m s _ refl (map_map (λ (x : First). x.pool) (first_without_value pool) (λ x. x.pool) s.firsts (λ x. pool_stays (nat_eq x.pool pool) x (first_less x) refl))
keeps_cleared m (OfAct act field) s = acts_keep m s (act_cleared (OfAct act field)) act (λ x. refl)
keeps_cleared m (OfOutput act reference field) s = acts_keep m s (act_cleared (OfOutput act reference field)) act (λ x. refl)
keeps_cleared m (OfClaim act claim field) s = acts_keep m s (act_cleared (OfClaim act claim field)) act (λ x. refl)

-- What is read whole has its values.
use Rattle.std.proofs.Common.{◌≡◌, ◌≢◌, ℕ, zero, suc, ◌+◌, ◌<◌, ◌≤◌, ℤ, List, [], ◌∷◌, ◌++◌, map, length, cond, Bool, true, false, nat_eq, ◌&&◌, if◌then◌else◌, Option, Some, None, refl, sym, ap, ap₂, ◌∙◌, subst, arith, append_assoc, inl, inr, ⊎_elim}
use Rattle.std.specs.Prelude.{slice_get, flat_map}
use Rattle.std.specs.List.{enumerate_from, filter, list_any, range_with_len}
use Rattle.std.specs.Option.{option_and_then}
use Rattle.std.proofs.lemmas.Bool.{and_parts, eqb-true, eq-eqb, false≢true, false_from_ne_true}
use Rattle.std.proofs.lemmas.List.{map-id}
use Rattle.std.proofs.lemmas.Option.{none-some, same_Some, slice_get_within}
use Rattle.pst_expr.specs.Laws.{DomainsListValues}
use Rattle.pst_model.specs.declared.model.Pool.{Pool}
use Rattle.pst_model.specs.declared.object.ObjectKind.TheVariants.{State}
use Rattle.pst_model.specs.ModelTree.{ModelTree, ObjectTree}
use Rattle.pst_model.specs.Sound.{IsSound}
use Rattle.pst_scen.specs.declared.act.Act.{Act}
use Rattle.pst_scen.specs.declared.act.Claimed.{Claimed}
use Rattle.pst_scen.specs.declared.scenario.First.{First}
use Rattle.pst_scen.specs.declared.scenario.Scenario.{Scenario}
use Rattle.pst_legal.specs.Types.{type_of, pool_object, is_state_pool, has_kind}
use Rattle.pst_legal.specs.Growing.{nothing_yet}
use Rattle.pst_legal.specs.Fits.{AreObjectValues, IsActOf, HasValues}
use Rattle.pst_legal.specs.Blanks.{OfFirst, places, fields_of, claims_of, refers_to, used_state_pools, first_blanks, instance_blanks, act_blanks, claim_blanks, value_blanks, domain_in, option_value}
use Rattle.pst_legal.specs.Reading.{Reads, then_read, read_tree}
use Rattle.pst_legal.specs.SupplyReading.{read_supply}
use Rattle.pst_legal.specs.ValueReading.{more_values, first_with_value, empty_first, with_firsts, read_blanks, read_values, read_all}
use Rattle.pst_built.proofs.Members.{In, in_append, in_map, in_filter}
use Rattle.pst_built.proofs.Whole.{whole_is_within}
use Rattle.pst_built.proofs.Lists.{get_below, get_mapped, zipped}
use Rattle.pst_built.proofs.Blanks.{Steps}
use Rattle.pst_built.proofs.ReachedValues.{pool_field_is}
use Rattle.pst_built.specs.ReadFitsLaws.{WholeReadingsFit}
use Rattle.pst_built.proofs.Went.{twice}
use Rattle.pst_built.proofs.Back.{blanks_went, steps_cut, values_come, rows_back}
use Rattle.pst_built.proofs.Filled.{answered, gives_here, whole_fills_root}
use Rattle.pst_built.proofs.Fresh.{AreFresh, fresh_tree, fresh_supply}
use Rattle.pst_built.proofs.Come.{object_domains, IsClaimRead, with_claims, claims_come, act_come}

-- ---- first objects

-- each is greater than the one before it, and the first no less than that
abbrev Rising : ℕ → List ℕ → Type 0
Rising low [] = Unit {0}
Rising low (x ∷ xs) = (low ≤ x) × Rising (x + 1) xs

rising_more : (low other : ℕ) (xs : List ℕ) → other ≤ low → Rising low xs → Rising other xs
rising_more low other [] l rising = tt
rising_more low other (x ∷ xs) l rising = (omega (arith, l, rising.0), rising.1)

rising_range : (test : ℕ → Bool) (a n : ℕ) → Rising a (filter test (range_with_len a n))
rising_range test a zero = tt
rising_range test a (suc n) = by (test a) (rising_range test (a + 1) n)
  where
    by : (b : Bool) → Rising (a + 1) (filter test (range_with_len (a + 1) n)) → Rising a (cond b (a ∷ filter test (range_with_len (a + 1) n)) (filter test (range_with_len (a + 1) n)))
    by true rising = (omega arith, rising)
    by false rising = rising_more (a + 1) a (filter test (range_with_len (a + 1) n)) (omega arith) rising

rising_in : (low : ℕ) (xs : List ℕ) (y : ℕ) → Rising low xs → In y xs → low ≤ y
rising_in low [] y rising has = absurd has
rising_in low (x ∷ xs) y rising (inl e) = let l = rising.0 in omega (arith, l, e)
rising_in low (x ∷ xs) y rising (inr has) = let l = rising.0 in let r = rising_in (x + 1) xs y rising.1 has in omega (arith, l, r)

other_first : (pool : ℕ) (v : ℤ) (x : First) → x.pool ≢ pool → first_with_value pool v x ≡ x
other_first pool v x other = ap (λ b. if b then record x { values = more_values v x.values } else x) (false_from_ne_true (nat_eq x.pool pool) (λ e. other (eqb-true x.pool pool e)))

others_stay : (pool : ℕ) (v : ℤ) (xs : List First) → ((x : First) → In x xs → x.pool ≢ pool) → map (first_with_value pool v) xs ≡ xs
others_stay pool v [] each = refl
others_stay pool v (x ∷ xs) each = ap₂ (λ a b. a ∷ b) (other_first pool v x (each x (inl refl))) (others_stay pool v xs (λ y has. each y (inr has)))

first_at : (pool : ℕ) (v : ℤ) (known : List ℤ) (before after : List First) → ((x : First) → In x before → x.pool ≢ pool) → ((x : First) → In x after → x.pool ≢ pool)
    → map (first_with_value pool v) (before ++ record { pool = pool; values = known } ∷ after) ≡ before ++ record { pool = pool; values = more_values v known } ∷ after
first_at pool v known [] after early late =
    ap₂ (λ a b. a ∷ b) (ap (λ b. if b then record { pool = pool; values = more_values v known } else record { pool = pool; values = known }) (eq-eqb pool pool refl)) (others_stay pool v after late)
first_at pool v known (x ∷ before) after early late =
    ap₂ (λ a b. a ∷ b) (other_first pool v x (early x (inl refl))) (first_at pool v known before after (λ y has. early y (inr has)) late)

state_object : (m : ModelTree) (pool : ℕ) → is_state_pool m pool ≡ true → (p : Pool) × (object : ObjectTree) × (slice_get m.pools pool ≡ Some p) × (slice_get m.objects p.object ≡ Some object)
state_object m pool e = by (slice_get m.pools pool) refl e
  where
    inner : (p : Pool) (o : Option ObjectTree) → slice_get m.pools pool ≡ Some p → slice_get m.objects p.object ≡ o → has_kind State o ≡ true → (p : Pool) × (object : ObjectTree) × (slice_get m.pools pool ≡ Some p) × (slice_get m.objects p.object ≡ Some object)
    inner p None at is h = absurd (false≢true h)
    inner p (Some object) at is h = (p, object, at, is)

    by : (o : Option Pool) → slice_get m.pools pool ≡ o → has_kind State (option_and_then (λ (q : Pool). slice_get m.objects q.object) o) ≡ true → (p : Pool) × (object : ObjectTree) × (slice_get m.pools pool ≡ Some p) × (slice_get m.objects p.object ≡ Some object)
    by None at h = absurd (false≢true h)
    by (Some p) at h = inner p (slice_get m.objects p.object) at refl h

module _ (listed : DomainsListValues) (m : ModelTree) (sound : IsSound m) (t : Scenario) where
  abbrev having : List First → Scenario
  having firsts = record t { firsts = firsts }

  record Firsts-read (before : List First) (u : Scenario) : Type 0 where
    firsts : List First
    each : (k : ℕ) (f : First) → slice_get firsts k ≡ Some f → AreObjectValues (pool_object m f.pool) f.values
    same : u ≡ having (before ++ firsts)

  firsts_back : (before : List First) (low : ℕ) (pools : List ℕ) (u : Scenario) → ((x : First) → In x before → x.pool < low) → Rising low pools → ((p : ℕ) → In p pools → is_state_pool m p ≡ true)
      → Steps m (flat_map (first_blanks m) pools) (having (before ++ map empty_first pools)) u → Firsts-read before u
  firsts_back before low [] u below rising states steps = record { firsts = []; each = λ k f is. absurd (none-some f is); same = steps }
  firsts_back before low (pool ∷ pools) u below rising states steps =
      let o = state_object m pool (states pool (inl refl)) in
      let is : pool_object m pool ≡ Some o.1 = ap (option_and_then (λ (p : Pool). slice_get m.objects p.object)) o.2 ∙ o.3 in
      let c = steps_cut m (first_blanks m pool) (flat_map (first_blanks m) pools) (having (before ++ map empty_first (pool ∷ pools))) u steps in
      let after = map empty_first pools in
      let there : List ℤ → Scenario = λ known. having (before ++ record { pool = pool; values = known } ∷ after) in
      let early : (x : First) → In x before → x.pool ≢ pool = λ x has e. let l = below x has in let r = rising.0 in omega (arith, l, r, e) in
      let late : (x : First) → In x after → x.pool ≢ pool = λ x has e.
      let i = in_map empty_first pools x has in
      let l = rising_in (pool + 1) pools i.0 rising.1 i.1 in
      let same : i.0 ≡ x.pool = ap (λ (f : First). f.pool) i.2 in
      omega (arith, l, same, e) in
      let r = values_come listed m (OfFirst pool) there o.1.fields
      (λ known field has. ap domain_in (pool_field_is m pool (length known) o.1 is ∙ has))
      (λ known k. ap having (first_at pool (option_value m t.actions (OfFirst pool (length known)) k) known before after early late))
      c.mid (object_domains m sound o.0.object o.1 o.3) (subst (λ q. Steps m (map (OfFirst pool) (places (fields_of q))) (there []) c.mid) is c.first) in
      let first : First = record { pool = pool; values = r.rest } in
      let next = before ++ first ∷ [] in
      let start : c.mid ≡ having (next ++ after) = r.is ∙ ap having (sym (append_assoc before (first ∷ []) after)) in
      let rest = firsts_back next (pool + 1) pools u
      (λ x has. ⊎_elim (λ old. let l = below x old in let r = rising.0 in omega (arith, l, r)) (λ new. ⊎_elim (λ (e : first ≡ x). let same : pool ≡ x.pool = ap (λ (f : First). f.pool) e in omega (arith, same)) (λ none. absurd none) new) (in_append before (first ∷ []) x has))
      rising.1 (λ p has. states p (inr has)) (subst (λ v. Steps m (flat_map (first_blanks m) pools) v u) start c.second) in
      record {
        firsts = first ∷ rest.firsts;
        each = λ k f at. one k f rest.firsts first at rest.each (subst (λ q. AreObjectValues q r.rest) (sym is) r.zip);
        same = rest.same ∙ ap having (append_assoc before (first ∷ []) rest.firsts);
      }
    where
      one : (k : ℕ) (f : First) (fs : List First) (first : First) → slice_get (first ∷ fs) k ≡ Some f → ((i : ℕ) (g : First) → slice_get fs i ≡ Some g → AreObjectValues (pool_object m g.pool) g.values)
          → AreObjectValues (pool_object m first.pool) first.values → AreObjectValues (pool_object m f.pool) f.values
      one zero f fs first at each here = subst (λ (g : First). AreObjectValues (pool_object m g.pool) g.values) (same_Some first f at) here
      one (suc k) f fs first at each here = each k f at

-- ---- all values

abbrev ClaimsRead : ModelTree → ℕ → Act → Act → Type 0
ClaimsRead m a x y = (held : List Claimed) × (length held ≡ length (claims_of (type_of m x.action))) × ((i : ℕ) (c : Claimed) → slice_get held i ≡ Some c → IsClaimRead m x i c) × (y ≡ with_claims x held)

values_fit : DomainsListValues → (m : ModelTree) → IsSound m → (seed : ℕ) (u s : Scenario) (place : ℕ) (left : List ℕ) (end : ℕ) (rest : List ℕ) → AreFresh m u → read_values m seed u place left ≡ Reads s end rest → HasValues m s
values_fit listed m sound seed u s place left end rest fresh e =
    let t = with_firsts m u in
    let w = twice (read_blanks m seed (claim_blanks m u.actions) t place left) (read_blanks m seed (value_blanks m u.actions)) s end rest e in
    let claim_steps = blanks_went m seed (claim_blanks m u.actions) t w.mid place left w.place w.left w.first in
    let value_steps = blanks_went m seed (value_blanks m u.actions) w.mid s w.place w.left end rest w.second in
    let same_acts = map-id u.actions in
    let claims = rows_back m (λ acts. record t { actions = acts }) (instance_blanks m) (λ (x : Act). x) (λ (x : Act). x) (ClaimsRead m) [] u.actions w.mid
    (λ i x is pre post long v st.
    let r = claims_come listed m sound t pre post x (fresh i x is) v st in
    (with_claims x r.claims, (r.claims, r.long, (λ j c at. let here : 0 + j ≡ j = omega arith in subst (λ n. IsClaimRead m x n c) here (r.each j c at)), refl), r.same))
    (subst (λ xs. Steps m (flat_map (instance_blanks m) (enumerate_from 0 xs)) (record t { actions = xs }) w.mid) (sym same_acts) claim_steps) in
    let mid = subst (λ v. Steps m (value_blanks m u.actions) v s) claims.is value_steps in
    let c = steps_cut m (flat_map (first_blanks m) (used_state_pools m u.actions)) (flat_map (act_blanks m) (enumerate_from 0 u.actions)) (record t { actions = claims.rows }) s mid in
    let test : ℕ → Bool = λ pool. is_state_pool m pool && list_any (refers_to pool) u.actions in
    let firsts = firsts_back listed m sound (record t { actions = claims.rows }) [] 0 (used_state_pools m u.actions) c.mid (λ x none. absurd none) (rising_range test 0 (length m.pools))
    (λ p has. (and_parts (is_state_pool m p) (list_any (refers_to p) u.actions) (in_filter test (range_with_len 0 (length m.pools)) p has).1).0) c.first in
    let both = zipped u.actions claims.rows (sym claims.long) in
    let second = subst (λ v. Steps m (flat_map (act_blanks m) (enumerate_from 0 u.actions)) v s) firsts.same c.second in
    let base : Scenario = record { level = u.level; nodes = u.nodes; actions = []; firsts = firsts.firsts } in
    let seen = subst (λ xs. Steps m (flat_map (act_blanks m) (enumerate_from 0 xs)) (record base { actions = claims.rows }) s) (sym both.1) second in
    let begun = subst (λ xs. Steps m (flat_map (act_blanks m) (enumerate_from 0 (map (λ (p : Act × Act). p.0) both.0))) (record base { actions = xs }) s) (sym both.2) seen in
    let acts = rows_back m (λ xs. record base { actions = xs }) (act_blanks m) (λ p. p.0) (λ p. p.1) (λ a p y. IsActOf m y) [] both.0 s
    (λ i p is pre post long v st.
    let at_x : slice_get u.actions i ≡ Some p.0 = ap (λ xs. slice_get xs i) (sym both.1) ∙ get_mapped (λ (q : Act × Act). q.0) both.0 i p is in
    let at_y : slice_get claims.rows i ≡ Some p.1 = ap (λ xs. slice_get xs i) (sym both.2) ∙ get_mapped (λ (q : Act × Act). q.1) both.0 i p is in
    let held = claims.each i p.0 p.1 at_x at_y in
    let r = act_come listed m sound base pre post p.0 (fresh i p.0 at_x) held.0 held.1 held.2 v (subst (λ y. Steps m (act_blanks m (length pre, p.0)) (record base { actions = pre ++ y ∷ post }) v) held.3 st) in
    (r.act, r.of, r.same)) begun in
    subst (HasValues m) (sym acts.is)
    (record {
      acts = λ a act at.
          let within = slice_get_within acts.rows a act at in
          let p = get_below both.0 a (omega (arith, within, acts.long)) in
          acts.each a p.0 act p.1 at;
      firsts = firsts.each;
    })

pub whole_fits : DomainsListValues → WholeReadingsFit
whole_fits listed m root seed level choices s sound concrete e =
    let a = answered (read_all m seed root (nothing_yet level) 0 choices) s e in
    let w = twice (then_read (read_tree m seed root (nothing_yet level) 0 choices) (read_supply m seed)) (read_values m seed) s a.0 [] a.1 in
    let v = twice (read_tree m seed root (nothing_yet level) 0 choices) (read_supply m seed) w.mid w.place w.left w.first in
    let first = gives_here (AreFresh m) (read_tree m seed root (nothing_yet level) 0 choices) v.mid v.place v.left (fresh_tree m sound seed root level 0 choices concrete) v.first in
    let fresh = gives_here (AreFresh m) (read_supply m seed v.mid v.place v.left) w.mid w.place w.left (fresh_supply m seed v.mid v.place v.left first) v.second in
    record {
      tree = whole_fills_root listed m root seed level choices s sound e;
      values = values_fit listed m sound seed w.mid s w.place w.left a.0 [] fresh w.second;
      within = whole_is_within m root seed level choices s e;
    }

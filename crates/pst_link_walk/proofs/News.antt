-- What one choice more makes new.
use Rattle.std.proofs.Common.{◌≡◌, ◌⊎◌, ℕ, zero, suc, ◌+◌, ◌-◌, ◌<◌, ◌≤◌, List, [], ◌∷◌, ◌++◌, map, length, take, drop, get_or, Bor, Bool, true, false, nat_eq, nat_lt, if◌then◌else◌, Option, Some, None, refl, sym, ap, ◌∙◌, subst, inl, inr, ⊎_elim, append-nil, append_assoc, arith}
use Rattle.std.specs.Prelude.{slice_get}
use Rattle.std.specs.Option.{option_map, is_some, IfSome}
use Rattle.std.specs.Global.{Vec}
use Rattle.std.proofs.lemmas.Bool.{cases_lt, eqb-true, ltb-false, ltb-true}
use Rattle.std.proofs.lemmas.Option.{none-some, same_Some, slice_get-get_or, slice_get_past, slice_get_read}
use Rattle.pst_model.specs.declared.model.Model.{Model}
use Rattle.pst_model.specs.ModelTree.{ModelTree}
use Rattle.pst_model.specs.ModelView.{view_model}
use Rattle.pst_scen.specs.declared.act.Act.{Act}
use Rattle.pst_scen.specs.declared.act.Link.{Link}
use Rattle.pst_scen.specs.declared.tree.Node.{Node}
use Rattle.pst_scen.specs.declared.scenario.Scenario.{Scenario}
use Rattle.pst_legal.specs.Reading.{Reading, Reader, Wants, Stops, Reads, then_read}
use Rattle.pst_legal.specs.SupplyReading.{Spot, inferred, next_need, sources, act_with_link, put_link, read_turn, read_supply}
use Rattle.pst_legal.specs.ValueReading.{Answer, Options, answer_of}
use Rattle.pst_built.proofs.Goes.{Stands as Relates}
use Rattle.pst_built.proofs.ReadOnwardLinks.{alter_at}
use Rattle.pst_shape_parts.specs.Trees.{bare}
use Rattle.pst_shape.specs.Walks.{IfRead}
use Rattle.pst_open_ends.specs.declared.links.Relinked.{Relinked}
use Rattle.pst_open_ends.specs.declared.links.Change.{Change}
use Rattle.pst_open_ends.specs.Changes.{opened, unlinked, far_unlinked, ends_undone, undone}
use Rattle.pst_supply.specs.Walks.{Kept as Supply, answer as supply_answer, IsChange}
use Rattle.pst_supply.specs.Walks.{IfRead as SupplyRead}
use Rattle.pst_link_walk.specs.Walks.{tree_reading, reading, answer, IsUsed}
use Rattle.pst_link_walk.specs.Made.{IsInside, choices_of, IsBehind, Stands}
use Rattle.pst_link_walk.specs.News.{IsSize, GoesOnBy, IsNews, OpensFrom, act_of, far_act, changed_acts, AreChanged}
use Rattle.pst_link_walk.proofs.Walking.{inside_answer, behind_reads, supply_reads}
use Rattle.pst_link_walk.proofs.Choosing.{snoc_same}
use Rattle.pst_link_walk.proofs.Answering.{kept_at, none_stands, some_stands, opened_acts, supply_nodes}
use Rattle.pst_link_walk.proofs.Grown.{Grown, grown}

-- ---- lists that grow

split_get : {A : Type 0} (xs ys : List A) (k : ℕ) (y : A) → slice_get (xs ++ ys) k ≡ Some y → (slice_get xs k ≡ Some y) ⊎ ((i : ℕ) × (slice_get ys i ≡ Some y))
split_get [] ys k y is = inr (k, is)
split_get (x ∷ xs) ys zero y is = inl is
split_get (x ∷ xs) ys (suc k) y is = split_get xs ys k y is

drop_front : {A : Type 0} (xs ys : List A) → drop (length xs) (xs ++ ys) ≡ ys
drop_front [] ys = refl
drop_front (x ∷ xs) ys = drop_front xs ys

-- an old node but the last stands there as it did
old_nodes : (s t : Scenario) → Grown s t → (n : ℕ) (node : Node) → n + 1 < length s.nodes → slice_get t.nodes n ≡ Some node → slice_get s.nodes n ≡ Some node
old_nodes s t grows n node l is =
    let within : n < length s.nodes = omega (arith, l) in
    let x = get_or s.nodes n node in
    let was : slice_get s.nodes n ≡ Some x = slice_get-get_or s.nodes n node within in
    let same : x ≡ node = same_Some x node (sym (grows.front n x l was) ∙ is) in
    was ∙ ap Some same

by_growth : (s t : Scenario) (fresh : List Act) → Grown s t → fresh ≡ drop (length s.actions) t.actions → GoesOnBy s t fresh
by_growth s t fresh grows new = record {
  nodes = old_nodes s t grows;
  acts = λ a act is.
      let more : fresh ≡ grows.more = new ∙ ap (drop (length s.actions)) grows.acts ∙ drop_front s.actions grows.more in
      subst (λ f. (slice_get s.actions a ≡ Some act) ⊎ ((i : ℕ) × (slice_get f i ≡ Some act))) (sym more) (split_get s.actions grows.more a act (subst (λ acts. slice_get acts a ≡ Some act) grows.acts is));
}

-- ---- what is looked up

pub none_there : {X : Type 0} (xs : List X) (n : ℕ) (item : Option (Bor X)) → is_some item ≡ nat_lt n (length xs) → item ≡ None → slice_get xs n ≡ None
none_there xs n item same e = slice_get_past xs n (ltb-false n (length xs) (sym same ∙ ap is_some e))

pub some_there : {X : Type 0} (xs : List X) (n : ℕ) (item : Option (Bor X)) (x : Bor X) → is_some item ≡ nat_lt n (length xs) → IfSome item (λ y. y.now ≡ get_or xs n y.now) → item ≡ Some x → slice_get xs n ≡ Some x.now
some_there xs n item x same value e =
    slice_get_read xs (length xs) n x.now refl (ltb-true n (length xs) (sym same ∙ ap is_some e)) (subst (λ i. IfSome i (λ y. y.now ≡ get_or xs n y.now)) e value)

-- ---- changes of links

put_other : (b r : ℕ) (to : Link) (acts : List Act) (a : ℕ) → nat_eq a b ≡ false → slice_get (put_link b r to acts) a ≡ slice_get acts a
put_other b r to acts a other = alter_at (act_with_link r to) b acts a ∙ by (slice_get acts a)
  where
    by : (o : Option Act) → option_map (λ (x : Act). if nat_eq a b then act_with_link r to x else x) o ≡ o
    by None = refl
    by (Some x) = ap (λ c. Some (if c then act_with_link r to x else x)) other

far_other : (far : Option Relinked) (acts : List Act) (a : ℕ) (act : Act) → slice_get acts a ≡ Some act → (slice_get (far_unlinked far acts) a ≡ Some act) ⊎ ((i : ℕ) × (slice_get (far_act acts far) i ≡ Some act))
far_other None acts a act is = inl is
far_other (Some far) acts a act is = by (nat_eq a far.act) refl
  where
    by : (c : Bool) → nat_eq a far.act ≡ c → (slice_get (unlinked far acts) a ≡ Some act) ⊎ ((i : ℕ) × (slice_get (act_of (slice_get acts far.act)) i ≡ Some act))
    by true e = inr (0, ap (λ o. slice_get (act_of o) 0) (ap (slice_get acts) (sym (eqb-true a far.act e)) ∙ is))
    by false e = inl (put_other far.act far.reference far.was acts a e ∙ is)

need_other : (need : Relinked) (acts all : List Act) (a : ℕ) (act : Act) → slice_get acts a ≡ Some act → slice_get all a ≡ Some act → (slice_get (unlinked need acts) a ≡ Some act) ⊎ ((i : ℕ) × (slice_get (act_of (slice_get all need.act)) i ≡ Some act))
need_other need acts all a act is of = by (nat_eq a need.act) refl
  where
    by : (c : Bool) → nat_eq a need.act ≡ c → (slice_get (unlinked need acts) a ≡ Some act) ⊎ ((i : ℕ) × (slice_get (act_of (slice_get all need.act)) i ≡ Some act))
    by true e = inr (0, ap (λ o. slice_get (act_of o) 0) (ap (slice_get all) (sym (eqb-true a need.act e)) ∙ of))
    by false e = inl (put_other need.act need.reference need.was acts a e ∙ is)

get_front : {A : Type 0} (n : ℕ) (xs : List A) (k : ℕ) (x : A) → k < n → slice_get xs k ≡ Some x → slice_get (take n xs) k ≡ Some x
get_front n [] k x l is = absurd (none-some x is)
get_front zero (y ∷ ys) k x l is = absurd (omega (arith, l))
get_front (suc n) (y ∷ ys) zero x l is = is
get_front (suc n) (y ∷ ys) (suc k) x l is = get_front n ys k x (omega (arith, l)) is

get_behind : {A : Type 0} (n : ℕ) (xs : List A) (k : ℕ) (x : A) → n ≤ k → slice_get xs k ≡ Some x → slice_get (drop n xs) (k - n) ≡ Some x
get_behind zero xs k x l is = let same : k ≡ k - 0 = omega arith in subst (λ i. slice_get xs i ≡ Some x) same is
get_behind (suc n) [] k x l is = absurd (none-some x is)
get_behind (suc n) (y ∷ ys) zero x l is = absurd (omega (arith, l))
get_behind (suc n) (y ∷ ys) (suc k) x l is = let same : k - n ≡ suc k - suc n = omega arith in subst (λ i. slice_get (drop n ys) i ≡ Some x) same (get_behind n ys k x (omega (arith, l)) is)

get_left : {A : Type 0} (xs ys : List A) (k : ℕ) (x : A) → slice_get xs k ≡ Some x → slice_get (xs ++ ys) k ≡ Some x
get_left [] ys k x is = absurd (none-some x is)
get_left (y ∷ xs) ys zero x is = is
get_left (y ∷ xs) ys (suc k) x is = get_left xs ys k x is

get_right : {A : Type 0} (xs ys : List A) (k : ℕ) (x : A) → slice_get ys k ≡ Some x → (i : ℕ) × (slice_get (xs ++ ys) i ≡ Some x)
get_right [] ys k x is = (k, is)
get_right (y ∷ xs) ys k x is = let r = get_right xs ys k x is in (suc r.0, r.1)

-- an action was there as it is, or it is among those that changed
pub unchanged : (change : Change) (acts : List Act) (a : ℕ) (act : Act) → slice_get acts a ≡ Some act → (slice_get (undone change acts) a ≡ Some act) ⊎ ((i : ℕ) × (slice_get (changed_acts change acts) i ≡ Some act))
unchanged change acts a act is = ⊎_elim (λ below. old below) (λ above. inr (fresh above)) (cases_lt a change.count)
  where
    front : List Act
    front = drop change.count acts

    need : List Act
    need = act_of (slice_get acts change.ends.need.act)

    far : List Act
    far = far_act acts change.ends.far

    fresh : change.count ≤ a → (i : ℕ) × (slice_get (changed_acts change acts) i ≡ Some act)
    fresh above = let at = get_behind change.count acts a act above is in (a - change.count, get_left (front ++ need) far (a - change.count) act (get_left front need (a - change.count) act at))

    old : a < change.count → (slice_get (undone change acts) a ≡ Some act) ⊎ ((i : ℕ) × (slice_get (changed_acts change acts) i ≡ Some act))
    old below =
        ⊎_elim
        (λ kept. ⊎_elim (λ own. inl (get_front change.count (ends_undone change.ends acts) a act below own))
        (λ one. let r = get_right front need one.0 act one.1 in inr (r.0, get_left (front ++ need) far r.0 act r.1))
        (need_other change.ends.need (far_unlinked change.ends.far acts) acts a act kept is))
        (λ one. inr (get_right (front ++ need) far one.0 act one.1))
        (far_other change.ends.far acts a act is)

-- ---- readings

place_same : (s t : Scenario) (n i : ℕ) (b : Bool) → (if b then Wants s n else Stops) ≡ Wants t i → s ≡ t
place_same s t n i true e = cc
place_same s t n i false e = absurd cc

end_none : (s t : Scenario) (q i : ℕ) (b : Bool) → (if b then Reads s q [] else Stops) ≡ Wants t i → ⊥
end_none s t q i true e = cc
end_none s t q i false e = cc

turn_same : (m : ModelTree) (seed : ℕ) (o : Option Spot) (go : Reader) (s t : Scenario) (q i : ℕ) → read_turn m seed o go s q [] ≡ Wants t i → s ≡ t
turn_same m seed None go s t q i e = absurd (end_none s t q i (nat_eq (inferred s) s.level) e)
turn_same m seed (Some need) go s t q i e = place_same s t (length (sources m s need)) i (nat_lt 0 (length (sources m s need))) e

-- before the first source
first_source : (m : ModelTree) (seed : ℕ) (s t : Scenario) (q i : ℕ) → read_supply m seed s q [] ≡ Wants t i → s ≡ t
first_source m seed s t q i e = turn_same m seed (next_need m s) (λ s place left. Stops) s t q i e

wants_read : (a : Answer) (s : Scenario) (n : ℕ) (P : Scenario → Type 0) → a ≡ Options s n → IfRead a P → P s
wants_read a s n P e h = subst (λ b. IfRead b P) e h

module _ (m : Model) (root seed level : ℕ) where
  abbrev T : List ℕ → Reading
  T ys = tree_reading m root seed level ys

  link_reading : (ys : List ℕ) → IsInside (T ys) → reading (kept_at m root seed level ys) ≡ T ys
  link_reading ys inside = inside_answer (T ys) (read_supply (view_model m) seed) inside

  -- the leaves that are new, opened
  fresh_leaves : (leaves : List Act) (size : Option ℕ) (acts : List Act) (n : ℕ) (s t : Scenario) → size ≡ Some n → acts ≡ drop n (map (opened (view_model m)) leaves) → n ≡ length s.actions → map (opened (view_model m)) leaves ≡ t.actions
      → acts ≡ drop (length s.actions) t.actions
  fresh_leaves leaves size acts n s t is new count all = new ∙ ap (drop n) all ∙ ap (λ k. drop k t.actions) count

  module _ (xs : List ℕ) (d n : ℕ) (s : Scenario) (k : ℕ) (sized : IsSize (kept_at m root seed level xs) (Some n)) (here : reading (kept_at m root seed level xs) ≡ Wants s k) where
    tree_here : T xs ≡ Wants s k
    tree_here = sym (link_reading xs sized.0) ∙ here

    counts : n ≡ length s.actions
    counts = wants_read (answer (kept_at m root seed level xs)) s k (λ s. n ≡ length s.actions) (ap answer_of here) sized.1

    -- inside the activity
    pub inside_news : (t : Scenario) (i : ℕ) (leaves acts : List Act) → IsInside (T (xs ++ d ∷ [])) → reading (kept_at m root seed level (xs ++ d ∷ [])) ≡ Wants t i → IfRead (answer_of (T (xs ++ d ∷ []))) (λ s. leaves ≡ map bare s.actions)
        → acts ≡ drop n (map (opened (view_model m)) leaves) → GoesOnBy s t acts
    inside_news t i leaves acts inside there same new =
        let on : T (xs ++ d ∷ []) ≡ Wants t i = sym (link_reading (xs ++ d ∷ []) inside) ∙ there in
        let grows : Grown s t = subst (Relates Grown s) on (grown (view_model m) seed root level xs d s k tree_here) in
        let all : map (opened (view_model m)) leaves ≡ t.actions =
        subst (λ r. IfRead (answer_of r) (λ s. map (opened (view_model m)) leaves ≡ s.actions)) on (opened_acts m root seed level (xs ++ d ∷ []) leaves (map (opened (view_model m)) leaves) refl same) in
        by_growth s t acts grows (fresh_leaves leaves (Some n) acts n s t refl new counts all)

    -- at its end
    pub end_news : (u t : Scenario) (q i : ℕ) (leaves acts : List Act) → T (xs ++ d ∷ []) ≡ Reads u q [] → reading (kept_at m root seed level (xs ++ d ∷ [])) ≡ Wants t i → IfRead (answer_of (T (xs ++ d ∷ []))) (λ s. leaves ≡ map bare s.actions)
        → acts ≡ drop n (map (opened (view_model m)) leaves) → GoesOnBy s t acts
    end_news u t q i leaves acts ends there same new =
        let begun : read_supply (view_model m) seed u q [] ≡ Wants t i = sym (behind_read u q ends) ∙ there in
        let one : u ≡ t = first_source (view_model m) seed u t q i begun in
        let grows : Grown s t = subst (Grown s) one (subst (Relates Grown s) ends (grown (view_model m) seed root level xs d s k tree_here)) in
        let all : map (opened (view_model m)) leaves ≡ u.actions =
        subst (λ r. IfRead (answer_of r) (λ s. map (opened (view_model m)) leaves ≡ s.actions)) ends (opened_acts m root seed level (xs ++ d ∷ []) leaves (map (opened (view_model m)) leaves) refl same) in
        by_growth s t acts grows (fresh_leaves leaves (Some n) acts n s t refl new counts (all ∙ ap (λ (x : Scenario). x.actions) one))
      where
        behind_read : (u : Scenario) (q : ℕ) → T (xs ++ d ∷ []) ≡ Reads u q [] → reading (kept_at m root seed level (xs ++ d ∷ [])) ≡ read_supply (view_model m) seed u q []
        behind_read u q e = ap (λ r. then_read r (read_supply (view_model m) seed)) e

  -- ---- a source

  -- what the walk over the sources reads, and the nodes stay
  supply_place : (xs : List ℕ) (k : Supply) (behind : IsBehind m root seed level xs k) (ys : List ℕ) (s : Scenario) (n : ℕ) → reading (kept_at m root seed level (xs ++ ys)) ≡ Wants s n
      → (read_supply (view_model m) seed behind.tree behind.place ys ≡ Wants s n) × (s.nodes ≡ behind.tree.nodes)
  supply_place xs k behind ys s n is =
      let e : read_supply (view_model m) seed behind.tree behind.place ys ≡ Wants s n = sym (behind_reads m root seed level xs k behind ys) ∙ is in
      (e, subst (Relates (λ a b. b.nodes ≡ a.nodes) behind.tree) e (supply_nodes (view_model m) seed behind.tree behind.place ys))

  before_it : (xs : List ℕ) (k : Supply) (behind : IsBehind m root seed level xs k) (before : List ℕ) (s : Scenario) (n : ℕ) → read_supply (view_model m) seed behind.tree behind.place before ≡ Wants s n
      → supply_answer (record k { choices = before }) ≡ Options s n
  before_it xs k behind before s n e =
      supply_reads m root seed level xs (record k { choices = before }) (record {
        tree = behind.tree;
        place = behind.place;
        reads = behind.reads;
        is = ap (λ (x : Supply). record x { choices = before }) behind.is;
        used = subst IsUsed (sym e) tt;
      })
      ∙ ap answer_of e

  supply_read : (a : Answer) (s : Scenario) (n : ℕ) (P : Scenario → Type 0) → a ≡ Options s n → SupplyRead a P → P s
  supply_read a s n P e h = subst (λ b. SupplyRead b P) e h

  -- ---- the news of a walk

  pub none_news : (xs : List ℕ) (supply : Option Supply) (size : Option ℕ) (leaves : List Act) (o : Option (Vec Act)) → supply ≡ None → Stands m root seed level xs supply → IfRead (answer_of (T xs)) (λ s. leaves ≡ map bare s.actions)
      → OpensFrom (view_model m) leaves size o → IsNews (kept_at m root seed level (xs ++ choices_of supply)) size o
  none_news xs supply size leaves None none stands same opens = tt
  none_news xs supply size leaves (Some acts) none stands same opens = λ ys d e sized s t k i here there.
      let all : xs ≡ ys ++ d ∷ [] = sym (ap (λ o. xs ++ choices_of o) none ∙ append-nil xs) ∙ e in
      let inside : IsInside (T (ys ++ d ∷ [])) = subst (λ zs. IsInside (T zs)) all (none_stands m root seed level xs supply none stands) in
      inside_news ys d opens.0 s k (subst (IsSize (kept_at m root seed level ys)) opens.1 sized) here t i leaves acts.items inside (subst (λ zs. reading (kept_at m root seed level zs) ≡ Wants t i) e there)
      (subst (λ zs. IfRead (answer_of (T zs)) (λ s. leaves ≡ map bare s.actions)) all same) opens.2

  pub first_news : (xs : List ℕ) (supply : Option Supply) (kept : Supply) (size : Option ℕ) (leaves : List Act) (o : Option (Vec Act)) → supply ≡ Some kept → Stands m root seed level xs supply → kept.choices ≡ [] → IfRead (answer_of (T xs)) (λ s. leaves ≡ map bare s.actions)
      → OpensFrom (view_model m) leaves size o → IsNews (kept_at m root seed level (xs ++ choices_of supply)) size o
  first_news xs supply kept size leaves None is stands none same opens = tt
  first_news xs supply kept size leaves (Some acts) is stands none same opens = λ ys d e sized s t k i here there.
      let behind = some_stands m root seed level xs supply kept is stands in
      let all : xs ≡ ys ++ d ∷ [] = sym (ap (λ o. xs ++ choices_of o) is ∙ ap (λ zs. xs ++ zs) none ∙ append-nil xs) ∙ e in
      end_news ys d opens.0 s k (subst (IsSize (kept_at m root seed level ys)) opens.1 sized) here behind.tree t behind.place i leaves acts.items (subst (λ zs. T zs ≡ Reads behind.tree behind.place []) all behind.reads)
      (subst (λ zs. reading (kept_at m root seed level zs) ≡ Wants t i) e there) (subst (λ zs. IfRead (answer_of (T zs)) (λ s. leaves ≡ map bare s.actions)) all same) opens.2

  pub change_news : (xs : List ℕ) (supply : Option Supply) (kept : Supply) (size : Option ℕ) (change : Change) (acts : List Act) (o : Option (Vec Act)) → supply ≡ Some kept → Stands m root seed level xs supply → IsChange kept (Some change)
      → SupplyRead (supply_answer kept) (λ s. acts ≡ s.actions) → AreChanged change acts o → IsNews (kept_at m root seed level (xs ++ choices_of supply)) size o
  change_news xs supply kept size change acts None is stands changed same found = tt
  change_news xs supply kept size change acts (Some all) is stands changed same found = λ ys d e sized s t k i here there.
      let behind = some_stands m root seed level xs supply kept is stands in
      let before = changed.0 in
      let last = changed.1 in
      let choices : xs ++ kept.choices ≡ ys ++ d ∷ [] = sym (ap (λ o. xs ++ choices_of o) is) ∙ e in
      let front : ys ≡ xs ++ before = snoc_same ys (xs ++ before) d last (sym choices ∙ ap (λ zs. xs ++ zs) changed.2 ∙ sym (append_assoc xs before (last ∷ []))) in
      let was = supply_place xs kept behind before s k (subst (λ zs. reading (kept_at m root seed level zs) ≡ Wants s k) front here) in
      let now = supply_place xs kept behind kept.choices t i (subst (λ zs. reading (kept_at m root seed level zs) ≡ Wants t i) (ap (λ o. xs ++ choices_of o) is) there) in
      let shown : supply_answer kept ≡ Options t i = supply_reads m root seed level xs kept behind ∙ ap answer_of now.0 in
      let undoes : s.actions ≡ undone change t.actions =
      supply_read (supply_answer (record kept { choices = before })) s k (λ u. u.actions ≡ undone change t.actions) (before_it xs kept behind before s k was.0)
      (supply_read (supply_answer kept) t i (λ v. SupplyRead (supply_answer (record kept { choices = before })) (λ u. u.actions ≡ undone change v.actions)) shown changed.3) in
      let seen : acts ≡ t.actions = supply_read (supply_answer kept) t i (λ v. acts ≡ v.actions) shown same in
      let fresh : all.items ≡ changed_acts change t.actions = found ∙ ap (changed_acts change) seen in
      record {
        nodes = λ j node l at. subst (λ nodes. slice_get nodes j ≡ Some node) (now.1 ∙ sym was.1) at;
        acts = λ a act at. ⊎_elim (λ old. inl (subst (λ zs. slice_get zs a ≡ Some act) (sym undoes) old)) (λ one. inr (one.0, subst (λ zs. slice_get zs one.0 ≡ Some act) (sym fresh) one.1)) (unchanged change t.actions a act at);
      }

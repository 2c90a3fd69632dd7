-- What is asked of the mentions of handles, and what breaks the rule.
use Rattle.std.proofs.Common.{◌≡◌, ◌⊎◌, inl, inr, ⊎_elim, ℕ, zero, suc, ◌+◌, ◌<◌, Bool, true, false, not, List, [], ◌∷◌, ◌++◌, length, map, Option, refl, sym, ap, subst, ◌∙◌, arith, true≢false}
use Rattle.std.specs.Prelude.{Some, None, is_some, IsTrue, slice_get, Contains, if◌then◌else◌}
use Rattle.std.specs.List.{flat_map}
use Rattle.std.specs.Option.{option_map, option_map_or, option_or, option_and_then, option_to_list}
use Rattle.std.proofs.lemmas.List.Elements.{Contains-append_left, Contains-append_right, Contains-append_cases}
use Rattle.pst_base.specs.Laws.{BeforeGoesOn}
use Rattle.pst_base.specs.declared.position.Place.{Place}
use Rattle.pst_base.specs.declared.table.NameId.{NameId}
use Rattle.pst_ast.specs.declared.leaf.Name.{Name}
use Rattle.pst_ast.specs.DeclarationTree.{UnitTree}
use Rattle.pst_ast.specs.declared.scope_declaration.Declaration.{Declaration}
use Rattle.pst_ast.specs.declared.environment.Environment.{Environment}
use Rattle.pst_ast.specs.declared.referent.Finding.{Finding}
use Rattle.pst_ast.specs.declared.referent.Owner.{Owner}
use Rattle.pst_ast.specs.declared.referent.Owner.TheVariants.{Nobody, OfAction, OfObject}
use Rattle.pst_ast.specs.declared.referent.Referent.{Referent}
use Rattle.pst_ast.specs.declared.referent.Referent.TheVariants.{Declared, Initial, Previous, Number}
use Rattle.pst_ast.specs.declared.referent.Traversal.{Traversal}
use Rattle.pst_ast.specs.Declarations.{declarations}
use Rattle.pst_ast.specs.Lookups.{member_of, stands_for, traversed, traversed_member}
use Rattle.pst_ast.specs.Paths.{is_handle_referent}
use Rattle.pst_ast.specs.Sorts.{is_action, is_handle}
use Rattle.pst_ast.specs.Uses
use Rattle.pst_ast.specs.Uses.{Use, uses}
use Rattle.pst_type_rules.specs.Handles.{Mention, mention, mentions, first_names, is_member_constraint, IsJudgedBy, ByTraversed, ByOwner, ByDerived, IsSteadyIn}
use Rattle.pst_type_rules.specs.Members.{IsOrDerives, Itself, Derives}
use Rattle.pst_name_rules.specs.Leasts.{IsLeastOf}
use Rattle.pst_name_rules.proofs.Leasts.{told}
use Rattle.pst_handle_uses.specs.declared.handle_use.Judging.{Judging}
use Rattle.pst_handle_uses.specs.Handled.{action_in, having, judge_of, judging, judgings_of, traversed_with, with_judge}
use Rattle.pst_steady.specs.Lined.{HasUnsteady}
use Rattle.pst_steady.proofs.Numbering.{base_acts}
use Rattle.pst_handle_rules.specs.Broken.{IsUnsteady}
use Rattle.pst_handle_rules.specs.Judged.{IsBroken, IsBrokenAt, IsBrokenBefore, broken_at}
use Rattle.pst_handle_rules.proofs.Elements.{none_in, cons_cases, cons_first, cons_rest, placed}
use Rattle.pst_handle_rules.proofs.Firsts.{some_is}
use Rattle.pst_handle_rules.proofs.Bound.{is_finding}

no_some : {X : Type 0} {x : X} → None ≡ Some x → ⊥
no_some {X} {x} e = cc

-- ---- elements

contains_at : {X : Type 0} (xs : List X) (k : ℕ) (x : X) → slice_get xs k ≡ Some x → Contains xs x
contains_at [] k x e = absurd (no_some e)
contains_at (y ∷ xs) zero x e = subst (λ (z : _). Contains (y ∷ xs) z) (some_is e) (cons_first y xs)
contains_at (y ∷ xs) (suc k) x e = cons_rest y x xs (contains_at xs k x e)

in_flat_map : {X Y : Type 0} (f : X → List Y) (xs : List X) (x : X) (y : Y) → Contains xs x → Contains (f x) y → Contains (flat_map f xs) y
in_flat_map f [] x y among there = absurd (none_in x among)
in_flat_map f (z ∷ zs) x y among there = ⊎_elim
    (λ e. Contains-append_left (f z) (flat_map f zs) y (subst (λ w. Contains (f w) y) (sym e) there))
    (λ more. Contains-append_right (f z) (flat_map f zs) y (in_flat_map f zs x y more there))
    (cons_cases z x zs among)

flat_map_cases : {X Y : Type 0} (f : X → List Y) (xs : List X) (y : Y) → Contains (flat_map f xs) y → (x : X) × Contains xs x × Contains (f x) y
flat_map_cases f [] y there = absurd (none_in y there)
flat_map_cases f (z ∷ zs) y there = ⊎_elim
    (λ first. (z, cons_first z zs, first))
    (λ later. let more = flat_map_cases f zs y later in (more.0, cons_rest z more.0 zs more.1, more.2))
    (Contains-append_cases (f z) (flat_map f zs) y there)

map_cases : {X Y : Type 0} (f : X → Y) (xs : List X) (y : Y) → Contains (map f xs) y → (x : X) × (f x ≡ y)
map_cases f [] y there = absurd (none_in y there)
map_cases f (x ∷ xs) y there = ⊎_elim (λ e. (x, e)) (λ more. map_cases f xs y more) (cons_cases (f x) y (map f xs) there)

in_option : {X : Type 0} (o : Option X) (x : X) → Contains (option_to_list o) x → o ≡ Some x
in_option None x there = absurd (none_in x there)
in_option (Some y) x there = ⊎_elim (λ e. ap Some e) (λ more. absurd (none_in x more)) (cons_cases y x [] there)

option_in : {X : Type 0} (o : Option X) (x : X) → o ≡ Some x → Contains (option_to_list o) x
option_in o x e = subst (λ (p : Option _). Contains (option_to_list p) x) (sym e) (cons_first x [])

-- ---- mentions that derived actions have too

no_traversal : (t : Option Traversal) → not (is_some t) ≡ true → t ≡ None
no_traversal None e = refl
no_traversal (Some t) e = absurd (true≢false (sym e))

of_member : (at : Environment) (n : Name) (m : Mention) → mention at (is_member_constraint at) n ≡ m → m.inherited ≡ true → m.at.traversal ≡ None
of_member at n m is e = subst (λ (x : Mention). x.inherited ≡ true → x.at.traversal ≡ None) is (λ i. no_traversal at.traversal i) e

of_body : (at : Environment) (n : Name) (m : Mention) → mention at false n ≡ m → m.inherited ≡ true → m.at.traversal ≡ None
of_body at n m is e = absurd (true≢false (sym e ∙ ap (λ (x : Mention). x.inherited) (sym is)))

single_in : (x m : Mention) → Contains (x ∷ []) m → x ≡ m
single_in x m there = ⊎_elim (λ e. e) (λ more. absurd (none_in m more)) (cons_cases x m [] there)

inherited_alone : (u : Use) (m : Mention) → Contains (mentions u) m → m.inherited ≡ true → m.at.traversal ≡ None
inherited_alone (Uses.Judges at Uses.Constrains expr) m there e = let n = map_cases (mention at (is_member_constraint at)) (first_names at expr) m there in of_member at n.0 m n.1 e
inherited_alone (Uses.Judges at Uses.InBody expr) m there e = let n = map_cases (mention at false) (first_names at expr) m there in of_body at n.0 m n.1 e
inherited_alone (Uses.Repeats at first rest) m there e = of_member at first.name m (single_in (mention at (is_member_constraint at) first.name) m there) e
inherited_alone (Uses.Ends at handle reference) m there e = of_body at handle m (single_in (mention at false handle) m there) e
inherited_alone (Uses.Assigns at name) m there e = of_body at name m (single_in (mention at false name) m there) e
inherited_alone (Uses.Judges at (Uses.Width signed) expr) m there e = absurd (none_in m there)
inherited_alone (Uses.Judges at Uses.LowestBit expr) m there e = absurd (none_in m there)
inherited_alone (Uses.Judges at Uses.RangeEnd expr) m there e = absurd (none_in m there)
inherited_alone (Uses.Judges at Uses.EnumValue expr) m there e = absurd (none_in m there)
inherited_alone (Uses.Judges at (Uses.PoolSize object) expr) m there e = absurd (none_in m there)
inherited_alone (Uses.Judges at Uses.ArraySize expr) m there e = absurd (none_in m there)
inherited_alone (Uses.Judges at Uses.Weight expr) m there e = absurd (none_in m there)
inherited_alone (Uses.Judges at (Uses.JoinCount branches) expr) m there e = absurd (none_in m there)
inherited_alone (Uses.Judges at Uses.Condition expr) m there e = absurd (none_in m there)
inherited_alone (Uses.HasPlain at plain) m there e = absurd (none_in m there)
inherited_alone (Uses.HasType at type) m there e = absurd (none_in m there)
inherited_alone (Uses.Uniques items) m there e = absurd (none_in m there)
inherited_alone (Uses.Branches places) m there e = absurd (none_in m there)
inherited_alone (Uses.Arms at labels) m there e = absurd (none_in m there)
inherited_alone (Uses.Performs at place traversal) m there e = absurd (none_in m there)
inherited_alone (Uses.Ties at first others) m there e = absurd (none_in m there)
inherited_alone (Uses.Passes component name arguments needed) m there e = absurd (none_in m there)
inherited_alone (Uses.Reads at first rest) m there e = absurd (none_in m there)
inherited_alone (Uses.TakesItem at component enum item) m there e = absurd (none_in m there)
inherited_alone (Uses.NamesType component wanted name) m there e = absurd (none_in m there)
inherited_alone (Uses.NamesBase action name) m there e = absurd (none_in m there)
inherited_alone (Uses.Calls component name) m there e = absurd (none_in m there)
inherited_alone (Uses.Traverses at name) m there e = absurd (none_in m there)
inherited_alone (Uses.Joins labels name) m there e = absurd (none_in m there)
inherited_alone (Uses.Binds component pool) m there e = absurd (none_in m there)
inherited_alone (Uses.Targets component pool instances action reference) m there e = absurd (none_in m there)

-- ---- what is asked

handle_of : (r : Option Referent) → option_map_or is_handle_referent r false ≡ true → (h : Declaration) × (r ≡ Some (Declared h)) × IsTrue (is_handle h.sort)
handle_of None e = absurd (true≢false (sym e))
handle_of (Some (Declared h)) e = (h, refl, e)
handle_of (Some (Initial h)) e = absurd (true≢false (sym e))
handle_of (Some (Previous h)) e = absurd (true≢false (sym e))
handle_of (Some (Number h)) e = absurd (true≢false (sym e))

owned_by : (o : Owner) (a : Declaration) → action_in o ≡ Some a → o ≡ OfAction a
owned_by Nobody a e = absurd (no_some e)
owned_by (OfAction b) a e = ap OfAction (some_is e)
owned_by (OfObject b) a e = absurd (no_some e)

module _ (units : List UnitTree) (names : List (List ℕ)) where
  abbrev ds : List Declaration
  ds = declarations units

  -- through the action that is traversed, or not
  data Way (at : Environment) (name : NameId) : Type 0 where
    Through : (t : Traversal) (a x : Declaration) → at.traversal ≡ Some t → traversed ds names at t ≡ Some a → member_of ds a name ≡ Some x → Way at name
    Else : traversed_with ds names at name ≡ None → traversed_member ds names at name ≡ None → Way at name

  abbrev with_by : Environment → NameId → Option Traversal → Option Declaration
  with_by at name o = option_and_then (λ t. option_and_then (having ds name) (traversed ds names at t)) o

  abbrev member_by : Environment → NameId → Option Traversal → Option Declaration
  member_by at name o = option_and_then (λ t. option_and_then (λ a. member_of ds a name) (traversed ds names at t)) o

  way_by : (at : Environment) (name : NameId) (o : Option Traversal) → at.traversal ≡ o → Way at name
  way_by at name None is = Else (ap (with_by at name) is) (ap (member_by at name) is)
  way_by at name (Some t) is = by_action (traversed ds names at t) refl
    where
      by_member : (a : Declaration) → traversed ds names at t ≡ Some a → (x : Option Declaration) → member_of ds a name ≡ x → Way at name
      by_member a there None none = Else
          (ap (with_by at name) is ∙ (ap (λ (o : Option Declaration). option_and_then (having ds name) o) there ∙ ap (λ (o : Option Declaration). option_map (λ m. a) o) none))
          (ap (member_by at name) is ∙ (ap (λ (o : Option Declaration). option_and_then (λ b. member_of ds b name) o) there ∙ none))
      by_member a there (Some x) has = Through t a x is there has

      by_action : (a : Option Declaration) → traversed ds names at t ≡ a → Way at name
      by_action None there = Else
          (ap (with_by at name) is ∙ ap (λ (o : Option Declaration). option_and_then (having ds name) o) there)
          (ap (member_by at name) is ∙ ap (λ (o : Option Declaration). option_and_then (λ b. member_of ds b name) o) there)
      by_action (Some a) there = by_member a there (member_of ds a name) refl

  through_with : (at : Environment) (name : NameId) (t : Traversal) (a x : Declaration) → at.traversal ≡ Some t → traversed ds names at t ≡ Some a → member_of ds a name ≡ Some x → traversed_with ds names at name ≡ Some a
  through_with at name t a x is there has = ap (with_by at name) is ∙ (ap (λ (o : Option Declaration). option_and_then (having ds name) o) there ∙ ap (λ (o : Option Declaration). option_map (λ m. a) o) has)

  through_member : (at : Environment) (name : NameId) (t : Traversal) (a x : Declaration) → at.traversal ≡ Some t → traversed ds names at t ≡ Some a → member_of ds a name ≡ Some x → traversed_member ds names at name ≡ Some x
  through_member at name t a x is there has = ap (member_by at name) is ∙ (ap (λ (o : Option Declaration). option_and_then (λ b. member_of ds b name) o) there ∙ has)

  or_owner : (at : Environment) (name : NameId) → traversed_with ds names at name ≡ None → judge_of ds names at name ≡ action_in at.owner
  or_owner at name none = ap (λ (o : Option Declaration). option_or o (action_in at.owner)) none

  judged_by : (m : Mention) (action : Declaration) → Way m.at m.name.id → judge_of ds names m.at m.name.id ≡ Some action → IsJudgedBy units names m action
  judged_by m action (Through t a x is there has) e =
      let same : a ≡ action = some_is (sym (ap (λ (o : Option Declaration). option_or o (action_in m.at.owner)) (through_with m.at m.name.id t a x is there has)) ∙ e) in
      subst (IsJudgedBy units names m) same (ByTraversed t a x is there has)
  judged_by m action (Else none no_member) e = ByOwner action (owned_by m.at.owner action (sym (or_owner m.at m.name.id none) ∙ e)) no_member

  alone_owner : (m : Mention) (action : Declaration) → m.at.traversal ≡ None → judge_of ds names m.at m.name.id ≡ Some action → m.at.owner ≡ OfAction action
  alone_owner m action none e = owned_by m.at.owner action (sym (or_owner m.at m.name.id (ap (with_by m.at m.name.id) none)) ∙ e)

  pub record Asked (m : Mention) (j : Judging) : Type 0 where
    pub handle : Declaration
    pub named : stands_for ds names m.at m.name.id ≡ Some (Declared handle)
    pub is : IsTrue (is_handle handle.sort)
    pub action : Declaration
    pub judge : judge_of ds names m.at m.name.id ≡ Some action
    pub asks : j ≡ with_judge m action

  asked_by : (m : Mention) (j : Judging) (b : Bool) → option_map_or is_handle_referent (stands_for ds names m.at m.name.id) false ≡ b → (o : Option Declaration) → judge_of ds names m.at m.name.id ≡ o
      → (if b then option_map (with_judge m) o else None) ≡ Some j → Asked m j
  asked_by m j false b o is e = absurd (no_some e)
  asked_by m j true b None is e = absurd (no_some e)
  asked_by m j true b (Some action) is e =
      let h = handle_of (stands_for ds names m.at m.name.id) b in
      record { handle = h.0; named = h.1; is = h.2; action = action; judge = is; asks = sym (some_is e) }

  asked : (m : Mention) (j : Judging) → judging ds names m ≡ Some j → Asked m j
  asked m j e = asked_by m j (option_map_or is_handle_referent (stands_for ds names m.at m.name.id) false) refl (judge_of ds names m.at m.name.id) refl e

  asks_for : (m : Mention) (handle action : Declaration) → stands_for ds names m.at m.name.id ≡ Some (Declared handle) → IsTrue (is_handle handle.sort) → judge_of ds names m.at m.name.id ≡ Some action → judging ds names m ≡ Some (with_judge m action)
  asks_for m handle action named is judge =
      ap (λ (b : Bool). if b then option_map (with_judge m) (judge_of ds names m.at m.name.id) else None) (ap (λ (r : Option Referent). option_map_or is_handle_referent r false) named ∙ is)
      ∙ ap (λ (o : Option Declaration). option_map (with_judge m) o) judge

  abbrev all_asked : List Judging
  all_asked = flat_map (judgings_of ds names) (uses units)

  to_unsteady : (f : Finding) → IsBrokenBefore units all_asked (length all_asked) f → IsUnsteady units names f
  to_unsteady f (k, l, (j, there, broken, is)) =
      let u = flat_map_cases (judgings_of ds names) (uses units) j (contains_at all_asked k j there) in
      let m = flat_map_cases (λ (m : Mention). option_to_list (judging ds names m)) (mentions u.0) j u.2 in
      let a = asked m.0 j (in_option (judging ds names m.0) j m.2) in
      let at : f ≡ broken_at (with_judge m.0 a.action) = is ∙ ap (λ (i : Judging). broken_at i) a.asks in
      by_broken f u.0 m.0 a.handle a.action u.1 m.1 a.named a.is a.judge at (subst (IsBroken units) a.asks broken)
    where
      by_broken : (f : Finding) (u : Use) (m : Mention) (handle action : Declaration) → Contains (uses units) u → Contains (mentions u) m → stands_for ds names m.at m.name.id ≡ Some (Declared handle) → IsTrue (is_handle handle.sort)
          → judge_of ds names m.at m.name.id ≡ Some action → f ≡ broken_at (with_judge m action) → IsBroken units (with_judge m action) → IsUnsteady units names f
      by_broken f u m handle action among mentioned named is judge at (inl unsteady) = record {
        used = u;
        mention = m;
        handle = handle;
        action = action;
        among = among;
        mentioned = mentioned;
        named = named;
        is = is;
        judged = judged_by m action (way_by m.at m.name.id m.at.traversal refl) judge;
        unsteady = unsteady;
        place = ap (λ (g : Finding). g.place) at;
        rule = ap (λ (g : Finding). g.rule) at;
      }
      by_broken f u m handle action among mentioned named is judge at (inr (inherited, h)) = record {
        used = u;
        mention = m;
        handle = handle;
        action = h.derived;
        among = among;
        mentioned = mentioned;
        named = named;
        is = is;
        judged = ByDerived action h.derived (alone_owner m action (inherited_alone u m mentioned inherited) judge) inherited (contains_at ds h.number h.derived h.there) h.derives;
        unsteady = h.unsteady;
        place = ap (λ (g : Finding). g.place) at;
        rule = ap (λ (g : Finding). g.rule) at;
      }

  derives_acts : (d a : Declaration) → IsOrDerives ds d a → (d ≡ a) ⊎ IsTrue (is_action a.sort)
  derives_acts d a (Itself e) = inl refl
  derives_acts d a (Derives e base f led on) = elim (derives_acts base a on) [
    | inl same ↦ inr (subst (λ (x : Declaration). IsTrue (is_action x.sort)) same (base_acts ds d base led))
    | inr acts ↦ inr acts
  ]

  -- the action that judges the mention, and what it breaks
  breaks : (u : Use) (m : Mention) (action : Declaration) → Contains (mentions u) m → IsJudgedBy units names m action → (IsSteadyIn units action m.name.id → ⊥)
      → (judge : Declaration) × (judge_of ds names m.at m.name.id ≡ Some judge) × IsBroken units (with_judge m judge)
  breaks u m action mentioned (ByTraversed t a x is there has) unsteady =
      (a, ap (λ (o : Option Declaration). option_or o (action_in m.at.owner)) (through_with m.at m.name.id t a x is there has), inl unsteady)
  breaks u m action mentioned (ByOwner a owner no_member) unsteady =
      (a, or_owner m.at m.name.id (by_way (way_by m.at m.name.id m.at.traversal refl)) ∙ ap action_in owner, inl unsteady)
    where
      by_way : Way m.at m.name.id → traversed_with ds names m.at m.name.id ≡ None
      by_way (Through t b x is there has) = absurd (no_some (sym no_member ∙ through_member m.at m.name.id t b x is there has))
      by_way (Else none also) = none
  breaks u m action mentioned (ByDerived a derived owner inherited among derives) unsteady = (
    a,
    or_owner m.at m.name.id (ap (with_by m.at m.name.id) (inherited_alone u m mentioned inherited)) ∙ ap action_in owner,
    elim (derives_acts derived a derives) [
      | inl same ↦ inl (λ s. unsteady (subst (λ (x : Declaration). IsSteadyIn units x m.name.id) (sym same) s))
      | inr acts ↦ let p = placed ds derived among in inr (inherited, record { number = p.0; derived = derived; there = p.2; derives = derives; acts = acts; unsteady = unsteady })
    ],
  )

  from_unsteady : (f : Finding) → IsUnsteady units names f → IsBrokenBefore units all_asked (length all_asked) f
  from_unsteady f h =
      let b = breaks h.used h.mention h.action h.mentioned h.judged h.unsteady in
      let j = with_judge h.mention b.0 in
      let asks = asks_for h.mention h.handle b.0 h.named h.is b.1 in
      let there = in_flat_map (judgings_of ds names) (uses units) h.used j h.among (in_flat_map (λ (m : Mention). option_to_list (judging ds names m)) (mentions h.used) h.mention j h.mentioned (option_in (judging ds names h.mention) j asks)) in
      let p = placed all_asked j there in
      (p.0, p.1, (j, p.2, b.2, is_finding f h.mention.name.place 18 h.place h.rule))

  unsteady_here : (on : BeforeGoesOn) (least : Option Finding) → IsLeastOf (IsBrokenBefore units all_asked (length all_asked)) least → IsLeastOf (IsUnsteady units names) least
  unsteady_here on least h = told on (IsBrokenBefore units all_asked (length all_asked)) (IsUnsteady units names) least to_unsteady from_unsteady h

  pub unsteady : (on : BeforeGoesOn) (declared : List Declaration) → declared ≡ ds → (js : List Judging) → js ≡ flat_map (judgings_of declared names) (uses units) → (least : Option Finding)
      → IsLeastOf (IsBrokenBefore units js (length js)) least → IsLeastOf (IsUnsteady units names) least
  unsteady on declared e js is least h =
      unsteady_here on least (subst (λ (xs : List Judging). IsLeastOf (IsBrokenBefore units xs (length xs)) least) (is ∙ ap (λ (d : List Declaration). flat_map (judgings_of d names) (uses units)) e) h)

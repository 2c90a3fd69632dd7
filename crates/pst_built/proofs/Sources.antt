-- Each supplied scenario's sources are read by some choices.
use Rattle.std.proofs.Common.{◌≡◌, ◌≢◌, ℕ, zero, suc, ◌+◌, ◌<◌, ◌≤◌, List, [], ◌∷◌, ◌++◌, map, length, replicate, Bool, true, false, not, ◌&&◌, ◌||◌, nat_eq, nat_lt, if◌then◌else◌, Option, Some, None, refl, sym, ap, ◌∙◌, subst, arith, length-append, inl, inr, ⊎_elim}
use Rattle.std.specs.Prelude.{slice_get, flat_map, option_to_list}
use Rattle.std.specs.List.{enumerate_from, filter, find, range_with_len}
use Rattle.std.specs.Option.{option_map, option_and_then}
use Rattle.std.proofs.lemmas.Bool.{and_parts, and_from, and_right, or_parts, or_cases, eqb-true, eq-eqb, lt-ltb, cases_lt, false≢true, false_from_ne_true}
use Rattle.std.proofs.lemmas.List.{length-map, length-replicate}
use Rattle.std.proofs.lemmas.Option.{none-some, same_Some, slice_get_within, option_and_then_some}
use Rattle.pst_rng.specs.Words.{start_of}
use Rattle.pst_model.specs.declared.activity.Tie.{Tie}
use Rattle.pst_model.specs.ModelTree.{ModelTree, ActionTree, ContentTree, Atomic, Compound}
use Rattle.pst_scen.specs.declared.tree.Node.{Node}
use Rattle.pst_scen.specs.declared.tree.Fill.{Fill}
use Rattle.pst_scen.specs.declared.tree.Fill.TheVariants as fill
use Rattle.pst_scen.specs.declared.act.Act.{Act}
use Rattle.pst_scen.specs.declared.act.Filled.{Filled}
use Rattle.pst_scen.specs.declared.act.Flow.{Flow}
use Rattle.pst_scen.specs.declared.act.Flow.TheVariants.{BufferIn, BufferOut, StreamIn, StreamOut, StateIn, StateOut}
use Rattle.pst_scen.specs.declared.act.Link.{Link}
use Rattle.pst_scen.specs.declared.act.Link.TheVariants as link
use Rattle.pst_scen.specs.declared.scenario.Scenario.{Scenario}
use Rattle.pst_scen.specs.Scenarios.{reference_at, leaf_of, leaves_of, IsLinkOf, IsStream, IsScenario}
use Rattle.pst_legal.specs.Types.{activity_in, action_instances}
use Rattle.pst_legal.specs.Growing.{open_act, most_acts, IsWithin}
use Rattle.pst_legal.specs.Binds.{Bound, act_in, act_behind, bound_by, ties_at, bounds_of, is_to, is_from, from_of, to_of, fixed_source}
use Rattle.pst_legal.specs.Slots.{node_behind}
use Rattle.pst_legal.specs.Supplied.{is_need, is_source_for, IsSource, IsInferable, Linking, linkings, NamesBelow, AreNamedInTurn, Supplied}
use Rattle.pst_legal.specs.Fits.{IsActOf}
use Rattle.pst_legal.specs.Reading.{Stops, Reads, option_at}
use Rattle.pst_legal.specs.SupplyReading.{Spot, spots, same_link, is_open, fixed_for, is_elsewhere, has_turn, next_need, Source, Initially, From, New, is_state, is_writer, is_stream, is_previous, initial_sources, is_free, fits, is_candidate, source_of, old_sources, sources_in, is_inferable, sources_of_type, inferred, may_infer, new_sources, sources_by, sources, put_link, linked_to, supplied_by, end_supply, chosen, read_turn, read_supply}
use Rattle.pst_built.proofs.Members.{In, to_left, to_right, to_map, in_flat_map, to_flat_map, to_numbered, to_filter, in_find, none_found, any_found}
use Rattle.pst_built.proofs.SoundActs.{in_place}
use Rattle.pst_built.proofs.Spots.{spot_is, to_spot, same_link_self}
use Rattle.pst_built.specs.Reached.{IsReached}
use Rattle.pst_built.specs.Parts.{without_link, leaves_alone, links_alone}
use Rattle.pst_built.proofs.Lists.{in_contains, get_mapped}
use Rattle.pst_built.proofs.Led.{named}
use Rattle.pst_built.proofs.ReachedNodes.{bare_is_open}
use Rattle.pst_built.proofs.Splits.{IsEarlier, spot_at, linking_at, cut_linkings, in_linkings, first_found}
use Rattle.pst_built.proofs.Naming.{names_next, names_all, below_more}
use Rattle.pst_built.proofs.Shown.{Known, none_known, also, shown_as, shown, so_far, length_shown, shown_at, at_shown, put_shown, shown_push, none_shown, all_shown}
use Rattle.pst_built.proofs.ReachedLinks.{same_is, not_initial, same_action, same_reference, need_linked, other_unlinked, initial_state, state_apart, writer_is, stream_is, is_stream_of, stream_source, open_unknown, also_here, also_more, also_is, left, also_less}

-- ---- what a scenario's leaves and binds are

behind : (n a : ℕ) (y : Option ℕ) → slice_get (replicate n None) a ≡ Some y → y ≡ None
behind zero a y is = absurd (none-some y is)
behind (suc n) zero y is = sym (same_Some None y is)
behind (suc n) (suc a) y is = behind n a y is

behind_all : (xs : List (Option ℕ)) (n a : ℕ) (y : Option ℕ) → length xs ≤ a → slice_get (xs ++ replicate n None) a ≡ Some y → y ≡ None
behind_all [] n a y most is = behind n a y is
behind_all (x ∷ xs) n zero y most is = absurd (omega (arith, most))
behind_all (x ∷ xs) n (suc a) y most is = behind_all xs n a y (omega (arith, most)) is

in_range : (k n x : ℕ) → In x (range_with_len k n) → x < k + n
in_range k zero x has = absurd has
in_range k (suc n) x (inl e) = omega (arith, e)
in_range k (suc n) x (inr has) = let r = in_range (k + 1) n x has in omega (arith, r)

leaf_has : (n : ℕ) (f : Fill) (a : ℕ) → act_in f ≡ Some a → In (a, n) (leaf_of n f)
leaf_has n (fill.Leaf act) a e = inl (λ i. (same_Some act a e i, n))
leaf_has n (fill.Compound action instance fields) a e = absurd (none-some a e)
leaf_has n fill.Sequence a e = absurd (none-some a e)
leaf_has n fill.Parallel a e = absurd (none-some a e)
leaf_has n fill.Schedule a e = absurd (none-some a e)
leaf_has n (fill.Joined parallel joined) a e = absurd (none-some a e)
leaf_has n (fill.Select branch) a e = absurd (none-some a e)
leaf_has n fill.Repeat a e = absurd (none-some a e)
leaf_has n (fill.Turn index) a e = absurd (none-some a e)
leaf_has n (fill.If taken) a e = absurd (none-some a e)
leaf_has n (fill.Match arm) a e = absurd (none-some a e)

mapped : {A B : Type 0} (f : A → B) (o : Option A) (y : B) → option_map f o ≡ Some y → (x : A) × (o ≡ Some x) × (f x ≡ y)
mapped f None y e = absurd (none-some y e)
mapped f (Some x) y e = (x, refl, same_Some (f x) y e)

in_option : {A : Type 0} (o : Option A) (x : A) → In x (option_to_list o) → o ≡ Some x
in_option None x has = absurd has
in_option (Some y) x (inl e) = ap Some e
in_option (Some y) x (inr has) = absurd has

inferable_is : (type : ActionTree) (content : ContentTree) → activity_in content ≡ None → type.is_abstract ≡ false → is_inferable type content ≡ true
inferable_is type (Atomic body) atomic concrete = ap not concrete
inferable_is type (Compound activity) atomic concrete = absurd (none-some activity (sym atomic))

-- the link that is shown, where there is one
shown_link : (known : Bool) (filled : Filled) (l : Link) → l ≢ link.Nothing → (shown_as known filled).link ≡ l → (known ≡ true) × (filled.link ≡ l)
shown_link true filled l some e = (refl, e)
shown_link false filled l some e = absurd (some (sym e))

elsewhere_not : (o : Option (ℕ × ℕ)) (spot : Spot) → ((b q : ℕ) → o ≡ Some (b, q) → spot.filled.link ≡ link.Act b q) → is_elsewhere o spot ≡ false
elsewhere_not None spot each = refl
elsewhere_not (Some e) spot each =
    and_right (not (is_open spot)) (not (same_link spot.filled.link (link.Act e.0 e.1)))
    (ap not (ap (λ l. same_link l (link.Act e.0 e.1)) (each e.0 e.1 refl) ∙ same_link_self (link.Act e.0 e.1)))

module _ (m : ModelTree) (s : Scenario) (scenario : IsScenario s) (supplied : Supplied m s) (of : (a : ℕ) (act : Act) → slice_get s.actions a ≡ Some act → IsActOf m act) (within : IsWithin s.nodes s.actions) where
  abbrev leaves : ℕ
  leaves = length (leaves_of s.nodes)

  total : length s.actions ≡ leaves + s.level
  total =
      let a = sym (length-map s.actions (λ act. act.node)) ∙ ap length scenario.leaves.nodes in
      let b = length-append (map (λ e. Some e.1) (leaves_of s.nodes)) (replicate s.level None) in
      let c = length-map (leaves_of s.nodes) (λ e. Some e.1) in
      let nothing : Option ℕ = None in
      let d = length-replicate s.level nothing in
      omega (arith, a, b, c, d)

  no_node : (a : ℕ) (act : Act) → leaves ≤ a → slice_get s.actions a ≡ Some act → act.node ≡ None
  no_node a act most is =
      let c = length-map (leaves_of s.nodes) (λ e. Some e.1) in
      behind_all (map (λ e. Some e.1) (leaves_of s.nodes)) s.level a act.node (omega (arith, c, most))
      (sym (ap (λ xs. slice_get xs a) scenario.leaves.nodes) ∙ get_mapped (λ (x : Act). x.node) s.actions a act is)

  leaf_below : (n a : ℕ) (node : Node) → slice_get s.nodes n ≡ Some node → act_in node.fill ≡ Some a → a < leaves
  leaf_below n a node is e =
      let has = to_flat_map (λ x. leaf_of x.0 x.1.fill) (enumerate_from 0 s.nodes) (n, node) (a, n) (to_numbered s.nodes n node is) (leaf_has n node.fill a e) in
      let first = to_map (λ x. x.0) (leaves_of s.nodes) (a, n) has in
      let low = in_range 0 leaves a (subst (In a) scenario.leaves.numbers first) in
      omega (arith, low)

  behind_below : (top handle a : ℕ) → act_behind m s.nodes top handle ≡ Some a → a < leaves
  behind_below top handle a e =
      option_and_then_some (λ n. option_and_then (λ (node : Node). act_in node.fill) (slice_get s.nodes n)) (node_behind m s.nodes top handle) a e
      (λ n is more. option_and_then_some (λ (node : Node). act_in node.fill) (slice_get s.nodes n) a more (λ node at has. leaf_below n a node at has))

  bound_below : (bound : Bound) → In bound (bounds_of m s.nodes) → (bound.from_act < leaves) × (bound.to_act < leaves)
  bound_below bound has =
      let f = in_flat_map (λ e. flat_map (λ tie. option_to_list (bound_by m s.nodes e.0 tie)) (ties_at m s.nodes e.0)) (enumerate_from 0 s.nodes) bound has in
      let top = f.0.0 in
      let g = in_flat_map (λ tie. option_to_list (bound_by m s.nodes top tie)) (ties_at m s.nodes top) bound f.2 in
      let tie : Tie = g.0 in
      option_and_then_some (λ a. option_map (λ b. record { from_act = a; from_reference = tie.from_reference; to_act = b; to_reference = tie.to_reference }) (act_behind m s.nodes top tie.to_handle))
      (act_behind m s.nodes top tie.from_handle) bound (in_option (bound_by m s.nodes top tie) bound g.2)
      (λ a is more.
      let b = mapped (λ b. record { from_act = a; from_reference = tie.from_reference; to_act = b; to_reference = tie.to_reference }) (act_behind m s.nodes top tie.to_handle) bound more in
      (subst (λ (x : Bound). x.from_act < leaves) b.2 (behind_below top tie.from_handle a is), subst (λ (x : Bound). x.to_act < leaves) b.2 (behind_below top tie.to_handle b.0 b.1)))

  from_below : (a r b q : ℕ) → option_map from_of (find (is_to a r) (bounds_of m s.nodes)) ≡ Some (b, q) → b < leaves
  from_below a r b q e =
      let x = mapped from_of (find (is_to a r) (bounds_of m s.nodes)) (b, q) e in
      subst (λ k. k < leaves) (ap (λ p. p.0) x.2) (bound_below x.0 (in_find (is_to a r) (bounds_of m s.nodes) x.0 x.1).0).0

  to_below : (a r b q : ℕ) → option_map to_of (find (is_from a r) (bounds_of m s.nodes)) ≡ Some (b, q) → b < leaves
  to_below a r b q e =
      let x = mapped to_of (find (is_from a r) (bounds_of m s.nodes)) (b, q) e in
      subst (λ k. k < leaves) (ap (λ p. p.0) x.2) (bound_below x.0 (in_find (is_from a r) (bounds_of m s.nodes) x.0 x.1).0).1

  fixed_below : (flow : Flow) (a r b q : ℕ) → fixed_source (bounds_of m s.nodes) a r flow ≡ Some (b, q) → b < leaves
  fixed_below BufferIn a r b q e = from_below a r b q e
  fixed_below StreamIn a r b q e = from_below a r b q e
  fixed_below StateIn a r b q e = from_below a r b q e
  fixed_below StreamOut a r b q e = to_below a r b q e
  fixed_below BufferOut a r b q e = absurd (none-some (b, q) e)
  fixed_below StateOut a r b q e = absurd (none-some (b, q) e)

  -- ---- what is read so far

  record Knows (known : Known) (n : ℕ) : Type 0 where
    from : leaves ≤ n
    most : n ≤ length s.actions
    inside : (a r : ℕ) → known a r ≡ true → a < n
    below : (a r : ℕ) (filled : Filled) → reference_at s.actions a r ≡ Some filled → known a r ≡ true → NamesBelow n filled.link
    back : (a r b q : ℕ) (filled : Filled) → reference_at s.actions a r ≡ Some filled → IsStream filled.flow → filled.link ≡ link.Act b q → known a r ≡ true → known b q ≡ true

  same_filled : (a r b q : ℕ) (f g : Filled) → (a ≡ b) × (r ≡ q) → reference_at s.actions a r ≡ Some f → reference_at s.actions b q ≡ Some g → f ≡ g
  same_filled a r b q f g same is at = same_Some f g (sym is ∙ (λ i. reference_at s.actions (same.0 i) (same.1 i)) ∙ at)

  knows_one : (known : Known) (n a r : ℕ) (f : Filled) → Knows known n → reference_at s.actions a r ≡ Some f → a < n → NamesBelow n f.link → (IsStream f.flow → ⊥) → Knows (also known a r) n
  knows_one known n a r f knows is l names apart = record {
    from = knows.from;
    most = knows.most;
    inside = λ x y k. ⊎_elim (λ (old : known x y ≡ true). knows.inside x y old) (λ (new : (x ≡ a) × (y ≡ r)). subst (λ v. v < n) (sym new.0) l) (also_is known a r x y k);
    below = λ x y g at k.
        ⊎_elim (λ (old : known x y ≡ true). knows.below x y g at old)
        (λ (new : (x ≡ a) × (y ≡ r)). subst (λ (v : Filled). NamesBelow n v.link) (sym (same_filled x y a r g f new at is)) names) (also_is known a r x y k);
    back = λ x y b q g at stream to k.
        ⊎_elim (λ (old : known x y ≡ true). also_more known a r b q (knows.back x y b q g at stream to old))
        (λ (new : (x ≡ a) × (y ≡ r)). absurd (apart (subst (λ (v : Filled). IsStream v.flow) (same_filled x y a r g f new at is) stream))) (also_is known a r x y k);
  }

  knows_two : (known : Known) (n a r b q : ℕ) (f g : Filled) → Knows known n → reference_at s.actions a r ≡ Some f → reference_at s.actions b q ≡ Some g → f.link ≡ link.Act b q → g.link ≡ link.Act a r → a < n → b < n
      → Knows (also (also known a r) b q) n
  knows_two known n a r b q f g knows is at to back l k =
      let one = also known a r in
      let here : also one b q a r ≡ true = also_more one b q a r (also_here known a r) in
      let there : also one b q b q ≡ true = also_here one b q in
      let f_below : NamesBelow n f.link = subst (NamesBelow n) (sym to) k in
      let g_below : NamesBelow n g.link = subst (NamesBelow n) (sym back) l in
      record {
        from = knows.from;
        most = knows.most;
        inside = λ x y e.
            ⊎_elim (λ (old : one x y ≡ true). ⊎_elim (λ (o : known x y ≡ true). knows.inside x y o) (λ (new : (x ≡ a) × (y ≡ r)). subst (λ v. v < n) (sym new.0) l) (also_is known a r x y old))
            (λ (new : (x ≡ b) × (y ≡ q)). subst (λ v. v < n) (sym new.0) k) (also_is one b q x y e);
        below = λ x y h has e.
            ⊎_elim
            (λ (old : one x y ≡ true).
            ⊎_elim (λ (o : known x y ≡ true). knows.below x y h has o) (λ (new : (x ≡ a) × (y ≡ r)). subst (λ (v : Filled). NamesBelow n v.link) (sym (same_filled x y a r h f new has is)) f_below) (also_is known a r x y old))
            (λ (new : (x ≡ b) × (y ≡ q)). subst (λ (v : Filled). NamesBelow n v.link) (sym (same_filled x y b q h g new has at)) g_below) (also_is one b q x y e);
        back = λ x y u v h has stream link e.
            ⊎_elim
            (λ (old : one x y ≡ true).
            ⊎_elim (λ (o : known x y ≡ true). also_more one b q u v (also_more known a r u v (knows.back x y u v h has stream link o)))
            (λ (new : (x ≡ a) × (y ≡ r)).
            let same = sym to ∙ ap (λ (z : Filled). z.link) (sym (same_filled x y a r h f new has is)) ∙ link in
            subst (λ z. also one b q u z ≡ true) (same_reference b q u v same) (subst (λ z. also one b q z q ≡ true) (same_action b q u v same) there))
            (also_is known a r x y old))
            (λ (new : (x ≡ b) × (y ≡ q)).
            let same = sym back ∙ ap (λ (z : Filled). z.link) (sym (same_filled x y b q h g new has at)) ∙ link in
            subst (λ z. also one b q u z ≡ true) (same_reference a r u v same) (subst (λ z. also one b q z r ≡ true) (same_action a r u v same) here))
            (also_is one b q x y e);
      }

  knows_push : (known : Known) (n : ℕ) → Knows known n → n < length s.actions → Knows known (suc n)
  knows_push known n knows l = record {
    from = omega (arith, knows.from);
    most = omega (arith, l);
    inside = λ x y k. let r = knows.inside x y k in omega (arith, r);
    below = λ x y g at k. below_more n (suc n) g.link (omega arith) (knows.below x y g at k);
    back = knows.back;
  }

  -- ---- a need

  module _ (known : Known) (n : ℕ) (knows : Knows known n) where
    abbrev st : Scenario
    st = so_far s known n

    -- what has no turn is known
    turned : (a r : ℕ) (f : Filled) → reference_at s.actions a r ≡ Some f → is_need f.flow ≡ true → has_turn m st (spot_at a r (shown_as (known a r) f)) ≡ false → known a r ≡ true
    turned a r f is need no_turn =
        let spot = spot_at a r (shown_as (known a r) f) in
        let e : (is_open spot || is_elsewhere (fixed_for m st spot) spot) ≡ false = sym (ap (λ b. b && (is_open spot || is_elsewhere (fixed_for m st spot) spot)) need) ∙ no_turn in
        open_unknown (known a r) f.link (need_linked f.flow f.link need (scenario.links a r f is).kind) (or_parts (is_open spot) (is_elsewhere (fixed_for m st spot) spot) e).0

    -- what has one isn't
    unknown_turn : (a r : ℕ) (f : Filled) → reference_at s.actions a r ≡ Some f → is_need f.flow ≡ true → has_turn m st (spot_at a r (shown_as (known a r) f)) ≡ true → known a r ≡ false
    unknown_turn a r f is need turn =
        let spot = spot_at a r (shown_as (known a r) f) in
        let some = need_linked f.flow f.link need (scenario.links a r f is).kind in
        let p = and_parts (is_need f.flow) (is_open spot || is_elsewhere (fixed_for m st spot) spot) turn in
        false_from_ne_true (known a r)
        (λ k.
        let shows : spot.filled.link ≡ f.link = ap (λ b. if b then f.link else link.Nothing) k in
        ⊎_elim (λ (o : is_open spot ≡ true). some (same_is f.link link.Nothing (ap (λ l. same_link l link.Nothing) (sym shows) ∙ o)))
        (λ (e : is_elsewhere (fixed_for m st spot) spot ≡ true).
        false≢true (sym (elsewhere_not (fixed_for m st spot) spot (λ b q fixed. shows ∙ supplied.bound a r b q f is fixed)) ∙ e))
        (or_cases (is_open spot) (is_elsewhere (fixed_for m st spot) spot) p.1))

    module _ (a r : ℕ) (f : Filled) (is : reference_at s.actions a r ≡ Some f) (unknown : known a r ≡ false) (l : a < n) (need : is_need f.flow ≡ true) where
      abbrev spot : Spot
      spot = spot_at a r (shown_as false f)

      some : f.link ≢ link.Nothing
      some = need_linked f.flow f.link need (scenario.links a r f is).kind

      -- no other writer has its previous writer yet
      no_previous : is_writer f.flow ≡ true → is_previous st.actions f.pool f.link ≡ false
      no_previous writer =
          false_from_ne_true (is_previous st.actions f.pool f.link)
          (λ e.
          let x = any_found (λ z. is_writer z.filled.flow && (nat_eq z.filled.pool f.pool && same_link z.filled.link f.link)) (spots st.actions) e in
          let z = x.0 in
          let p = and_parts (is_writer z.filled.flow) (nat_eq z.filled.pool f.pool && same_link z.filled.link f.link) x.2 in
          let q = and_parts (nat_eq z.filled.pool f.pool) (same_link z.filled.link f.link) p.1 in
          let h = at_shown known n s.actions z.act z.reference z.filled (spot_is st.actions z x.1) in
          let g = h.filled in
          let to = shown_link (known z.act z.reference) g f.link some (ap (λ (v : Filled). v.link) h.same ∙ same_is z.filled.link f.link q.1) in
          let flow : g.flow ≡ z.filled.flow = ap (λ (v : Filled). v.flow) h.same in
          let pool : g.pool ≡ z.filled.pool = ap (λ (v : Filled). v.pool) h.same in
          let one = supplied.previous z.act z.reference a r g f h.is is (writer_is g.flow (ap is_writer flow ∙ p.0)) (writer_is f.flow writer) (pool ∙ eqb-true z.filled.pool f.pool q.0) to.1 in
          false≢true (sym unknown ∙ subst (λ v. known a v ≡ true) one.1 (subst (λ v. known v z.reference ≡ true) one.0 to.0)))

      abbrev Sourced : Source → Type 0
      Sourced source = In source (sources m st spot)

      -- ---- the first object

      initial_in : f.link ≡ link.Initial → Sourced Initially
      initial_in to = by (fixed_for m st spot) refl
        where
          state : is_state f.flow ≡ true
          state = initial_state f.flow (subst (IsLinkOf f.flow) to (scenario.links a r f is).kind)

          free : (b : Bool) → is_writer f.flow ≡ b → not (b && is_previous st.actions f.pool link.Initial) ≡ true
          free true e = ap not (ap (is_previous st.actions f.pool) (sym to) ∙ no_previous e)
          free false e = refl

          there : In Initially (initial_sources st.actions spot.filled)
          there = subst (λ b. In Initially (if b then Initially ∷ [] else [])) (sym (and_from (is_state f.flow) (not (is_writer f.flow && is_previous st.actions f.pool link.Initial)) state (free (is_writer f.flow) refl))) (inl refl)

          by : (o : Option (ℕ × ℕ)) → fixed_for m st spot ≡ o → In Initially (sources_by m st spot o)
          by None e = to_left (initial_sources st.actions spot.filled) (old_sources st.actions spot ++ new_sources m st spot.filled) Initially there
          by (Some x) e = absurd (not_initial x.0 x.1 (sym to ∙ supplied.bound a r x.0 x.1 f is e))

      -- ---- a reference of an action that is there

      candidate : (b q : ℕ) (g : Filled) → f.link ≡ link.Act b q → reference_at s.actions b q ≡ Some g → is_candidate st.actions spot (spot_at b q (shown_as (known b q) g)) ≡ true
      candidate b q g to at =
          and_from (not (nat_eq b a)) (fits spot.filled other.filled && is_free st.actions spot.filled other) (ap not (false_from_ne_true (nat_eq b a) (λ e. source.other (eqb-true b a e))))
          (and_from (fits spot.filled other.filled) (is_free st.actions spot.filled other) fitting (free (is_stream f.flow) refl))
        where
          other : Spot
          other = spot_at b q (shown_as (known b q) g)

          source : IsSource s.actions a f b q
          source = supplied.sources a r b q f is to

          same : source.source ≡ g
          same = same_Some source.source g (sym source.is ∙ at)

          fitting : fits spot.filled other.filled ≡ true
          fitting = and_from (is_source_for f.flow g.flow) (nat_eq g.pool f.pool) (ap (λ (v : Filled). is_source_for f.flow v.flow) (sym same) ∙ source.fits) (eq-eqb g.pool f.pool (ap (λ (v : Filled). v.pool) (sym same) ∙ source.pool))

          writing : (c : Bool) → is_writer f.flow ≡ c → not (c && is_previous st.actions f.pool (link.Act b q)) ≡ true
          writing true e = ap not (ap (is_previous st.actions f.pool) (sym to) ∙ no_previous e)
          writing false e = refl

          streaming : is_stream f.flow ≡ true → is_open other ≡ true
          streaming stream =
              let streams = stream_is f.flow stream in
              let own = stream_source f.flow g.flow streams (ap (λ (v : Filled). is_source_for f.flow v.flow) (sym same) ∙ source.fits) in
              let unread : known b q ≡ false = false_from_ne_true (known b q) (λ k. false≢true (sym unknown ∙ knows.back b q a r g at own ((scenario.links a r f is).back b q g streams to at) k)) in
              ap (λ c. same_link (if c then g.link else link.Nothing) link.Nothing) unread

          free : (c : Bool) → is_stream f.flow ≡ c → (if c then is_open other else not (is_writer f.flow && is_previous st.actions f.pool (link.Act b q))) ≡ true
          free true e = streaming e
          free false e = writing (is_writer f.flow) refl

      old_in : (b q : ℕ) (g : Filled) → f.link ≡ link.Act b q → reference_at s.actions b q ≡ Some g → b < n → Sourced (From b q)
      old_in b q g to at k = by (fixed_for m st spot) refl
        where
          other : Spot
          other = spot_at b q (shown_as (known b q) g)

          has : In other (spots st.actions)
          has = to_spot st.actions b q other.filled (shown_at known n s.actions b q g k at)

          by : (o : Option (ℕ × ℕ)) → fixed_for m st spot ≡ o → In (From b q) (sources_by m st spot o)
          by None e =
              to_right (initial_sources st.actions spot.filled) (old_sources st.actions spot ++ new_sources m st spot.filled) (From b q)
              (to_left (old_sources st.actions spot) (new_sources m st spot.filled) (From b q)
              (to_map source_of (filter (is_candidate st.actions spot) (spots st.actions)) other (to_filter (is_candidate st.actions spot) (spots st.actions) other has (candidate b q g to at))))
          by (Some x) e =
              let same = sym to ∙ supplied.bound a r x.0 x.1 f is e in
              let test : Spot → Bool = λ z. nat_eq z.act x.0 && (nat_eq z.reference x.1 && is_candidate st.actions spot z) in
              to_map source_of (filter test (spots st.actions)) other
              (to_filter test (spots st.actions) other has
              (and_from (nat_eq b x.0) (nat_eq q x.1 && is_candidate st.actions spot other) (eq-eqb b x.0 (same_action b q x.0 x.1 same))
              (and_from (nat_eq q x.1) (is_candidate st.actions spot other) (eq-eqb q x.1 (same_reference b q x.0 x.1 same)) (candidate b q g to at))))

      -- ---- a reference of a new action

      new_in : (q : ℕ) (act : Act) (g : Filled) → f.link ≡ link.Act n q → slice_get s.actions n ≡ Some act → slice_get act.references q ≡ Some g → Sourced (New act.action act.instance q)
      new_in q act g to there has = by (fixed_for m st spot) refl
        where
          inside : n < length s.actions
          inside = slice_get_within s.actions n act there

          may : IsInferable m act
          may = supplied.inferred n act there (no_node n act knows.from there)

          room : may_infer st ≡ true
          room =
              let long = length_shown known n s.actions knows.most in
              let most = within.few_acts in
              let all = total in
              let from = knows.from in
              and_from (nat_lt (inferred st) s.level) (nat_lt (length st.actions) most_acts) (lt-ltb (inferred st) s.level (omega (arith, long, all, inside, from))) (lt-ltb (length st.actions) most_acts (omega (arith, long, inside, most)))

          source : IsSource s.actions a f n q
          source = supplied.sources a r n q f is to

          same : source.source ≡ g
          same = same_Some source.source g (sym source.is ∙ ap (option_and_then (λ (x : Act). slice_get x.references q)) there ∙ has)

          fresh : List Filled
          fresh = (open_act m act.action act.instance None).references

          at : slice_get fresh q ≡ Some (without_link g)
          at = ap (λ (x : Act). slice_get x.references q) (sym (bare_is_open m act (of n act there))) ∙ get_mapped without_link act.references q g has

          fitting : fits spot.filled (without_link g) ≡ true
          fitting = and_from (is_source_for f.flow g.flow) (nat_eq g.pool f.pool) (ap (λ (v : Filled). is_source_for f.flow v.flow) (sym same) ∙ source.fits) (eq-eqb g.pool f.pool (ap (λ (v : Filled). v.pool) (sym same) ∙ source.pool))

          of_instance : In (New act.action act.instance q) (sources_in m spot.filled act.action act.instance)
          of_instance =
              to_map (λ e. New act.action act.instance e.0) (filter (λ e. fits spot.filled e.1) (enumerate_from 0 fresh)) (q, without_link g)
              (to_filter (λ e. fits spot.filled e.1) (enumerate_from 0 fresh) (q, without_link g) (to_numbered fresh q (without_link g) at) fitting)

          of_type : In (New act.action act.instance q) (sources_of_type m spot.filled (act.action, may.type))
          of_type =
              subst (λ b. In (New act.action act.instance q) (if b then flat_map (sources_in m spot.filled act.action) (action_instances m (Some may.type) None) else [])) (sym (inferable_is may.type may.type.content may.atomic may.concrete))
              (to_flat_map (sources_in m spot.filled act.action) (action_instances m (Some may.type) None) act.instance (New act.action act.instance q) (in_contains (action_instances m (Some may.type) None) act.instance may.inside) of_instance)

          new : In (New act.action act.instance q) (new_sources m st spot.filled)
          new =
              subst (λ b. In (New act.action act.instance q) (if b then flat_map (sources_of_type m spot.filled) (enumerate_from 0 m.actions) else [])) (sym room)
              (to_flat_map (sources_of_type m spot.filled) (enumerate_from 0 m.actions) (act.action, may.type) (New act.action act.instance q) (to_numbered m.actions act.action may.type may.is) of_type)

          by : (o : Option (ℕ × ℕ)) → fixed_for m st spot ≡ o → In (New act.action act.instance q) (sources_by m st spot o)
          by None e =
              to_right (initial_sources st.actions spot.filled) (old_sources st.actions spot ++ new_sources m st spot.filled) (New act.action act.instance q)
              (to_right (old_sources st.actions spot) (new_sources m st spot.filled) (New act.action act.instance q) new)
          by (Some x) e =
              let to_x = sym to ∙ supplied.bound a r x.0 x.1 f is e in
              let low = fixed_below f.flow a r x.0 x.1 e in
              let from = knows.from in
              absurd (omega (arith, same_action n q x.0 x.1 to_x, low, from))

      -- ---- the option to choose

      record Step : Type 0 where
        source : Source
        k : ℕ
        at : slice_get (sources m st spot) k ≡ Some source
        more : Known
        many : ℕ
        to : supplied_by m st spot source ≡ so_far s more many
        knows_more : Knows more many
        less : left s more < left s known

      initial_step : f.link ≡ link.Initial → Step
      initial_step to =
          let k = in_place (sources m st spot) Initially (initial_in to) in
          let apart : IsStream f.flow → ⊥ = λ stream. state_apart f.flow (initial_state f.flow (subst (IsLinkOf f.flow) to (scenario.links a r f is).kind)) stream in
          record {
            source = Initially;
            k = k.0;
            at = k.1;
            more = also known a r;
            many = n;
            to = ap (λ acts. record st { actions = acts }) (put_shown known n s.actions a r link.Initial (λ g at. ap (λ (v : Filled). v.link) (same_Some g f (sym at ∙ is)) ∙ to));
            knows_more = knows_one known n a r f knows is l (subst (NamesBelow n) (sym to) tt) apart;
            less = also_less s known (also known a r) a r f is unknown (also_here known a r) (λ x y e. also_more known a r x y e);
          }

      -- the links of a need and of its source, in actions that are there
      record Linked (b q count : ℕ) : Type 0 where
        more : Known
        to : linked_to spot b q (shown known count s.actions) ≡ shown more count s.actions
        knows_more : Knows more count
        less : left s more < left s known

      linked : (b q count : ℕ) (g : Filled) → f.link ≡ link.Act b q → reference_at s.actions b q ≡ Some g → Knows known count → a < count → b < count → Linked b q count
      linked b q count g to at those near far = by (is_stream f.flow) refl
        where
          own : (h : Filled) → reference_at s.actions a r ≡ Some h → h.link ≡ link.Act b q
          own h has = ap (λ (v : Filled). v.link) (same_Some h f (sym has ∙ is)) ∙ to

          one : put_link a r (link.Act b q) (shown known count s.actions) ≡ shown (also known a r) count s.actions
          one = put_shown known count s.actions a r (link.Act b q) own

          by : (c : Bool) → is_stream f.flow ≡ c → Linked b q count
          by false e = record {
            more = also known a r;
            to = ap (λ c. if c then put_link b q (link.Act a r) (put_link a r (link.Act b q) (shown known count s.actions)) else put_link a r (link.Act b q) (shown known count s.actions)) e ∙ one;
            knows_more = knows_one known count a r f those is near (subst (NamesBelow count) (sym to) far) (λ stream. false≢true (sym e ∙ is_stream_of f.flow stream));
            less = also_less s known (also known a r) a r f is unknown (also_here known a r) (λ x y h. also_more known a r x y h);
          }
          by true e =
              let back : g.link ≡ link.Act a r = (scenario.links a r f is).back b q g (stream_is f.flow e) to at in
              let two = also (also known a r) b q in
              record {
                more = two;
                to = ap (λ c. if c then put_link b q (link.Act a r) (put_link a r (link.Act b q) (shown known count s.actions)) else put_link a r (link.Act b q) (shown known count s.actions)) e
                    ∙ ap (put_link b q (link.Act a r)) one
                    ∙ put_shown (also known a r) count s.actions b q (link.Act a r) (λ h has. ap (λ (v : Filled). v.link) (same_Some h g (sym has ∙ at)) ∙ back);
                knows_more = knows_two known count a r b q f g those is at to back near far;
                less = also_less s known two a r f is unknown (also_more (also known a r) b q a r (also_here known a r)) (λ x y h. also_more (also known a r) b q x y (also_more known a r x y h));
              }

      old_step : (b q : ℕ) → f.link ≡ link.Act b q → b < n → Step
      old_step b q to k =
          let x = (scenario.links a r f is).there b q to in
          let j = in_place (sources m st spot) (From b q) (old_in b q x.0 to x.1 k) in
          let on = linked b q n x.0 to x.1 knows l k in
          record {
            source = From b q;
            k = j.0;
            at = j.1;
            more = on.more;
            many = n;
            to = ap (λ acts. record st { actions = acts }) on.to;
            knows_more = on.knows_more;
            less = on.less;
          }

      new_step : (q : ℕ) → f.link ≡ link.Act n q → Step
      new_step q to =
          let x = (scenario.links a r f is).there n q to in
          option_and_then_some (λ (y : Act). slice_get y.references q) (slice_get s.actions n) x.0 x.1
          (λ act there has.
          let inside = slice_get_within s.actions n act there in
          let j = in_place (sources m st spot) (New act.action act.instance q) (new_in q act x.0 to there has) in
          let wider = knows_push known n knows inside in
          let on = linked n q (suc n) x.0 to x.1 wider (omega (arith, l)) (omega arith) in
          let unread : (y : ℕ) → known n y ≡ false = λ y. false_from_ne_true (known n y) (λ e. let low = knows.inside n y e in omega (arith, low)) in
          let pushed = shown_push m known n s.actions act there inside (of n act there) (no_node n act knows.from there) unread in
          record {
            source = New act.action act.instance q;
            k = j.0;
            at = j.1;
            more = on.more;
            many = suc n;
            to = ap (λ acts. record st { actions = acts })
                (ap (λ c. linked_to spot c q (st.actions ++ open_act m act.action act.instance None ∷ [])) (length_shown known n s.actions knows.most)
                ∙ ap (linked_to spot n q) pushed ∙ on.to);
            knows_more = on.knows_more;
            less = on.less;
          })

    -- ---- whose turn it is

    -- earlier needs are known
    earlier_known : (need : Spot) → next_need m st ≡ Some need → (y : Linking) → In y (linkings s.actions) → IsEarlier y.act y.reference need.act need.reference → y.act < n → NamesBelow n y.link
    earlier_known need turn y has early low =
        let x = in_linkings s.actions y has in
        let k = known y.act y.reference in
        let seen = turned y.act y.reference x.0 x.1 x.2
        (false_from_ne_true (has_turn m st (spot_at y.act y.reference (shown_as k x.0)))
        (λ passes. first_found (has_turn m st) st.actions need y.act y.reference (shown_as k x.0) turn (shown_at known n s.actions y.act y.reference x.0 low x.1) early passes)) in
        subst (NamesBelow n) (sym x.3) (knows.below y.act y.reference x.0 x.1 seen)

    next_named : (need : Spot) (f : Filled) → next_need m st ≡ Some need → reference_at s.actions need.act need.reference ≡ Some f → is_need f.flow ≡ true → NamesBelow (n + 1) f.link
    next_named need f turn is wants =
        let c = cut_linkings s.actions need.act need.reference f is wants in
        names_next c.front (linking_at need.act need.reference f) c.back leaves n (length s.actions) knows.from
        (λ y has low.
        earlier_known need turn y (subst (In y) (sym c.is) (to_left c.front (linking_at need.act need.reference f ∷ c.back) y has)) (c.before y has) low)
        (subst (λ xs. AreNamedInTurn xs leaves (length s.actions)) c.is supplied.numbered)

    by_link : (a r : ℕ) (f : Filled) (is : reference_at s.actions a r ≡ Some f) (unknown : known a r ≡ false) (low : a < n) (wants : is_need f.flow ≡ true) → NamesBelow (n + 1) f.link → (to : Link) → f.link ≡ to → Step a r f is unknown low wants
    by_link a r f is unknown low wants names link.Nothing to = absurd (some a r f is unknown low wants to)
    by_link a r f is unknown low wants names link.Initial to = initial_step a r f is unknown low wants to
    by_link a r f is unknown low wants names (link.Act b q) to =
        ⊎_elim (λ (k : b < n). old_step a r f is unknown low wants b q to k)
        (λ (k : n ≤ b).
        let near : b < n + 1 = subst (NamesBelow (n + 1)) to names in
        let same : b ≡ n = omega (arith, near, k) in
        new_step a r f is unknown low wants q (to ∙ ap (λ c. link.Act c q) same))
        (cases_lt b n)

    -- ---- the end

    all_known : next_need m st ≡ None → (a r : ℕ) (f : Filled) → reference_at s.actions a r ≡ Some f → a < n → is_need f.flow ≡ true → known a r ≡ true
    all_known done a r f is low wants =
        turned a r f is wants
        (none_found (has_turn m st) (spots st.actions) (spot_at a r (shown_as (known a r) f)) done (to_spot st.actions a r (shown_as (known a r) f) (shown_at known n s.actions a r f low is)))

    all_there : next_need m st ≡ None → n ≡ length s.actions
    all_there done =
        let most = knows.most in
        let all = names_all (linkings s.actions) leaves n (length s.actions) knows.from
        (λ y has low. let x = in_linkings s.actions y has in subst (NamesBelow n) (sym x.3) (knows.below y.act y.reference x.0 x.1 (all_known done y.act y.reference x.0 x.1 low x.2)))
        supplied.numbered in
        omega (arith, most, all)

    finished : next_need m st ≡ None → st ≡ links_alone s
    finished done =
        let all = all_there done in
        let acts = all_shown known s.actions
        (λ a r f is unread.
        option_and_then_some (λ (x : Act). slice_get x.references r) (slice_get s.actions a) f is
        (λ act there has.
        let low = slice_get_within s.actions a act there in
        other_unlinked f.flow f.link
        (false_from_ne_true (is_need f.flow) (λ wants. false≢true (sym unread ∙ all_known done a r f is (omega (arith, low, all)) wants)))
        (scenario.links a r f is).kind)) in
        ap (λ xs. record { level = s.level; nodes = s.nodes; actions = xs; firsts = [] }) (ap (λ k. shown known k s.actions) all ∙ sym acts)

    ended : next_need m st ≡ None → nat_eq (inferred st) st.level ≡ true
    ended done =
        let all = all_there done in
        let long = length_shown known n s.actions knows.most in
        let sum = total in
        eq-eqb (inferred st) s.level (omega (arith, all, long, sum))

  -- ---- the reading

  module _ (seed : ℕ) where
    abbrev Led : Known → ℕ → ℕ → Type 0
    Led known n place = IsReached (read_supply m seed) (so_far s known n) place (links_alone s)

    end_reads : (t : Scenario) (place : ℕ) → next_need m t ≡ None → (left : List ℕ) → read_supply m seed t place left ≡ end_supply t place left
    end_reads t place done [] = ap (λ o. read_turn m seed o (λ s place left. Stops) t place []) done
    end_reads t place done (d ∷ left) = ap (λ o. read_turn m seed o (λ more next rest. read_supply m seed more next left) t place (d ∷ left)) done

    at_end : (known : Known) (n place : ℕ) → Knows known n → next_need m (so_far s known n) ≡ None → Led known n place
    at_end known n place knows done =
        let t = so_far s known n in
        record {
          choices = [];
          end = place;
          reads = λ more.
              end_reads t place done more
              ∙ ap (λ b. if b then Reads t place more else Stops) (ended known n knows done)
              ∙ ap (λ u. Reads u place more) (finished known n knows done);
        }

    at_need : (known : Known) (n place : ℕ) (spot : Spot) (k : ℕ) (source : Source) (more : Known) (many : ℕ) → next_need m (so_far s known n) ≡ Some spot → slice_get (sources m (so_far s known n) spot) k ≡ Some source
        → supplied_by m (so_far s known n) spot source ≡ so_far s more many → Led more many (place + 1) → Led known n place
    at_need known n place spot k source more many turn at to rest =
        let t = so_far s known n in
        let options = sources m t spot in
        let count = length options in
        let d = named (start_of seed place count) count k (slice_get_within options k source at) in
        record {
          choices = d.0 ∷ rest.choices;
          end = rest.end;
          reads = λ others.
              let ds = rest.choices ++ others in
              let go = λ (u : Scenario) (next : ℕ) (left : List ℕ). read_supply m seed u next ds in
              ap (λ o. read_turn m seed o go t place (d.0 ∷ ds)) turn
              ∙ ap (λ b. if b then chosen m spot (slice_get options (option_at (start_of seed place count) count d.0)) go t (place + 1) ds else Stops) (lt-ltb d.0 count d.1)
              ∙ ap (λ x. chosen m spot (slice_get options x) go t (place + 1) ds) d.2
              ∙ ap (λ o. chosen m spot o go t (place + 1) ds) at
              ∙ ap (λ u. read_supply m seed u (place + 1) ds) to
              ∙ rest.reads others;
        }

    -- a need whose turn it is, as it is shown
    record Turn (known : Known) (n : ℕ) (need : Spot) : Type 0 where
      filled : Filled
      is : reference_at s.actions need.act need.reference ≡ Some filled
      low : need.act < n
      wants : is_need filled.flow ≡ true
      unknown : known need.act need.reference ≡ false
      same : need ≡ spot_at need.act need.reference (shown_as false filled)

    turn_of : (known : Known) (n : ℕ) → Knows known n → (need : Spot) → next_need m (so_far s known n) ≡ Some need → Turn known n need
    turn_of known n knows need turn =
        let t = so_far s known n in
        let found = in_find (has_turn m t) (spots t.actions) need turn in
        let h = at_shown known n s.actions need.act need.reference need.filled (spot_is t.actions need found.0) in
        let as_shown : need ≡ spot_at need.act need.reference (shown_as (known need.act need.reference) h.filled) = λ i. record { act = need.act; reference = need.reference; filled = sym h.same i } in
        let turns = ap (has_turn m t) (sym as_shown) ∙ found.1 in
        let wants = (and_parts (is_need h.filled.flow) _ turns).0 in
        let unread = unknown_turn known n knows need.act need.reference h.filled h.is wants turns in
        record {
          filled = h.filled;
          is = h.is;
          low = h.within;
          wants = wants;
          unknown = unread;
          same = as_shown ∙ ap (λ b. spot_at need.act need.reference (shown_as b h.filled)) unread;
        }

    abbrev Rest : Known → ℕ → Type 0
    Rest known place = (more : Known) (many : ℕ) → left s more < left s known → Knows more many → Led more many (place + 1)

    in_turn : (known : Known) (n place : ℕ) → Knows known n → Rest known place → (o : Option Spot) → next_need m (so_far s known n) ≡ o → Led known n place
    in_turn known n place knows rest None turn = at_end known n place knows turn
    in_turn known n place knows rest (Some need) turn =
        let x = turn_of known n knows need turn in
        let names = next_named known n knows need x.filled turn x.is x.wants in
        let step = by_link known n knows need.act need.reference x.filled x.is x.unknown x.low x.wants names x.filled.link refl in
        at_need known n place (spot_at need.act need.reference (shown_as false x.filled)) step.k step.source step.more step.many (turn ∙ ap Some x.same) step.at step.to (rest step.more step.many step.less step.knows_more)

    led_supply : (fuel : ℕ) (known : Known) (n place : ℕ) → Knows known n → left s known ≤ fuel → Led known n place
    led_supply zero known n place knows most =
        in_turn known n place knows (λ more many less knows_more. absurd (omega (arith, less, most))) (next_need m (so_far s known n)) refl
    led_supply (suc fuel) known n place knows most =
        in_turn known n place knows (λ more many less knows_more. led_supply fuel more many (place + 1) knows_more (omega (arith, less, most))) (next_need m (so_far s known n)) refl

    first_known : Knows none_known leaves
    first_known = record {
      from = omega arith;
      most = let sum = total in omega (arith, sum);
      inside = λ a r e. absurd (false≢true e);
      below = λ a r f is e. absurd (false≢true e);
      back = λ a r b q f is stream to e. absurd (false≢true e);
    }

    pub sources_led : (place : ℕ) → IsReached (read_supply m seed) (leaves_alone s) place (links_alone s)
    sources_led place =
        let start : leaves_alone s ≡ so_far s none_known leaves = ap (λ xs. record { level = s.level; nodes = s.nodes; actions = xs; firsts = [] }) (none_shown leaves s.actions) in
        subst (λ t. IsReached (read_supply m seed) t place (links_alone s)) (sym start) (led_supply (left s none_known) none_known leaves place first_known (omega arith))

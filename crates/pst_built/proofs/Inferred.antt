-- The sources of a scenario that is read whole, and its inferred actions.
use Rattle.std.proofs.Common.{◌≡◌, ⊎_elim, ℕ, List, [], ◌∷◌, ◌++◌, length, map, Bool, true, false, ◌||◌, not, nat_eq, if◌then◌else◌, Option, Some, None, refl, sym, ap, ap₂, ◌∙◌, subst}
use Rattle.std.specs.Prelude.{slice_get}
use Rattle.std.specs.Option.{option_map}
use Rattle.std.proofs.lemmas.List.{map-append}
use Rattle.std.proofs.lemmas.Option.{none-some, same_Some, slice_get-map}
use Rattle.std.proofs.lemmas.Bool.{false≢true, not-true, not-false, eqb-true, and_parts, and_cases, or_parts, both_ways}
use Rattle.pst_model.specs.ModelTree.{ModelTree, ActionTree, ContentTree, Atomic, Compound}
use Rattle.pst_scen.specs.declared.tree.Node.{Node}
use Rattle.pst_scen.specs.declared.act.Act.{Act}
use Rattle.pst_scen.specs.declared.act.Filled.{Filled}
use Rattle.pst_scen.specs.declared.act.Flow.{Flow}
use Rattle.pst_scen.specs.declared.act.Flow.TheVariants.{BufferIn, BufferOut, StreamIn, StreamOut, StateIn, StateOut}
use Rattle.pst_scen.specs.declared.act.Link.{Link}
use Rattle.pst_scen.specs.declared.act.Link.TheVariants as link
use Rattle.pst_scen.specs.declared.scenario.Scenario.{Scenario}
use Rattle.pst_scen.specs.Scenarios.{reference_at, leaves_of}
use Rattle.pst_legal.specs.Types.{type_of, activity_in, action_instances}
use Rattle.pst_legal.specs.Growing.{open_act}
use Rattle.pst_legal.specs.Binds.{Bound, bounds_of, fixed_source}
use Rattle.pst_legal.specs.Supplied.{is_need, is_source_for}
use Rattle.pst_legal.specs.SupplyReading.{Spot, spots, same_link, is_open, fixed_for, is_elsewhere, has_turn, next_need, Source, Initially, From, New, is_stream, is_inferable, put_link, linked_to, supplied_by}
use Rattle.pst_built.specs.Sources.{HasSources}
use Rattle.pst_built.proofs.Members.{In, none_found, to_contains}
use Rattle.pst_built.proofs.Bares.{Bare, bare, bares, bare_at, bare_from, bare_of, Kind, kind_in, kinds_in, kinds_put, nodes_in, node_in}
use Rattle.pst_built.proofs.Parents.{get_cases}
use Rattle.pst_built.proofs.Spots.{to_spot, IsNew, Suits}
use Rattle.pst_built.proofs.Trees.{Grown}
use Rattle.pst_built.proofs.Supply.{IsSupplied}

-- ---- inferred actions

-- an action without a node may be inferred
abbrev pub AreInferable : ModelTree → List Kind → Type 0
AreInferable m kinds = (a : ℕ) (kind : Kind) → slice_get kinds a ≡ Some kind → kind.node ≡ None
    → (type : ActionTree) × (type_of m kind.action ≡ Some type) × (is_inferable type type.content ≡ true) × In kind.instance (action_instances m (Some type) None)

kinds_if : (test : Bool) (one other acts : List Act) → kinds_in one ≡ kinds_in acts → kinds_in other ≡ kinds_in acts → kinds_in (if test then one else other) ≡ kinds_in acts
kinds_if true one other acts first second = first
kinds_if false one other acts first second = second

kinds_linked : (need : Spot) (b q : ℕ) (acts : List Act) → kinds_in (linked_to need b q acts) ≡ kinds_in acts
kinds_linked need b q acts =
    kinds_if (is_stream need.filled.flow) _ _ acts
    (kinds_put b q (link.Act need.act need.reference) (put_link need.act need.reference (link.Act b q) acts) ∙ kinds_put need.act need.reference (link.Act b q) acts)
    (kinds_put need.act need.reference (link.Act b q) acts)

inferable_push : (m : ModelTree) (s : Scenario) (need : Spot) (action instance q : ℕ) → AreInferable m (kinds_in s.actions) → IsNew m s need action instance q
    → AreInferable m (kinds_in (s.actions ++ open_act m action instance None ∷ []))
inferable_push m s need action instance q inferable new a kind is none =
    ⊎_elim
    (λ old. inferable a kind old none)
    (λ last. subst (λ (k : Kind). (type : ActionTree) × (type_of m k.action ≡ Some type) × (is_inferable type type.content ≡ true) × In k.instance (action_instances m (Some type) None)) last.1
    (new.type, new.is, new.inferable, new.inside))
    (get_cases (kinds_in s.actions) (kind_in (open_act m action instance None)) a kind
    (subst (λ ks. slice_get ks a ≡ Some kind) (map-append kind_in s.actions (open_act m action instance None ∷ [])) is))

-- each source of a need keeps it
pub inferable_supplied : (m : ModelTree) (s : Scenario) (need : Spot) (source : Source) → AreInferable m (kinds_in s.actions) → Suits m s need source
    → AreInferable m (kinds_in (supplied_by m s need source).actions)
inferable_supplied m s need Initially inferable suit = subst (AreInferable m) (sym (kinds_put need.act need.reference link.Initial s.actions)) inferable
inferable_supplied m s need (From b q) inferable suit = subst (AreInferable m) (sym (kinds_linked need b q s.actions)) inferable
inferable_supplied m s need (New action instance q) inferable suit =
    subst (AreInferable m) (sym (kinds_linked need (length s.actions) q (s.actions ++ open_act m action instance None ∷ [])))
    (inferable_push m s need action instance q inferable suit)

-- the actions of leaves have nodes
leaf_node : (ls : List (ℕ × ℕ)) (a : ℕ) → slice_get (map (λ e. Some e.1) ls) a ≡ Some None → ⊥
leaf_node ls a is = by_leaf (slice_get ls a) (sym (slice_get-map (λ (e : ℕ × ℕ). Some e.1) ls a) ∙ is)
  where
    by_leaf : (leaf : Option (ℕ × ℕ)) → option_map (λ (e : ℕ × ℕ). Some e.1) leaf ≡ Some None → ⊥
    by_leaf None e = none-some None e
    by_leaf (Some leaf) e = none-some leaf.1 (sym (same_Some (Some leaf.1) None e))

by_kind : (s : Scenario) (a : ℕ) (kind : Kind) (act : Option Act) → slice_get s.actions a ≡ act → option_map kind_in act ≡ Some kind → slice_get (nodes_in s.actions) a ≡ Some kind.node
by_kind s a kind None is e = absurd (none-some kind e)
by_kind s a kind (Some act) is e = slice_get-map node_in s.actions a ∙ ap (option_map node_in) is ∙ ap (λ (k : Kind). Some k.node) (same_Some (kind_in act) kind e)

pub inferable_first : (m : ModelTree) (level : ℕ) (s : Scenario) → Grown level s → AreInferable m (kinds_in s.actions)
inferable_first m level s grown a kind is none =
    let at = by_kind s a kind (slice_get s.actions a) refl (sym (slice_get-map kind_in s.actions a) ∙ is) in
    absurd (leaf_node (leaves_of s.nodes) a (subst (λ ns. slice_get ns a ≡ Some None) grown.acts (at ∙ ap Some none)))

atomic : (type : ActionTree) (content : ContentTree) → is_inferable type content ≡ true → (activity_in content ≡ None) × (type.is_abstract ≡ false)
atomic type (Atomic body) e = (refl, not-true type.is_abstract e)
atomic type (Compound activity) e = absurd (false≢true e)

-- ---- binds

-- a reference that a bind fixes is linked as it says
abbrev pub AreBound : ModelTree → List Node → List (List Bare) → Type 0
AreBound m nodes rows = (a r b q : ℕ) (x : Bare) → bare_at rows a r ≡ Some x → fixed_source (bounds_of m nodes) a r x.flow ≡ Some (b, q) → x.link ≡ link.Act b q

fixed_needs : (bounds : List Bound) (a r : ℕ) (flow : Flow) (source : ℕ × ℕ) → fixed_source bounds a r flow ≡ Some source → is_need flow ≡ true
fixed_needs bounds a r BufferIn source e = refl
fixed_needs bounds a r BufferOut source e = absurd (none-some source e)
fixed_needs bounds a r StreamIn source e = refl
fixed_needs bounds a r StreamOut source e = refl
fixed_needs bounds a r StateIn source e = refl
fixed_needs bounds a r StateOut source e = absurd (none-some source e)

link_is : (to : Link) (b q : ℕ) → same_link to (link.Act b q) ≡ true → to ≡ link.Act b q
link_is link.Nothing b q e = absurd (false≢true e)
link_is link.Initial b q e = absurd (false≢true e)
link_is (link.Act a r) b q e = let p = and_parts (nat_eq a b) (nat_eq r q) e in ap₂ link.Act (eqb-true a b p.0) (eqb-true r q p.1)

by_bind : (spot : Spot) (bound : Option (ℕ × ℕ)) (b q : ℕ) → bound ≡ Some (b, q) → (is_open spot || is_elsewhere bound spot) ≡ false → spot.filled.link ≡ link.Act b q
by_bind spot None b q is e = absurd (none-some (b, q) is)
by_bind spot (Some source) b q is e =
    let parts = or_parts (is_open spot) (is_elsewhere (Some source) spot) e in
    let same : same_link spot.filled.link (link.Act source.0 source.1) ≡ true =
    ⊎_elim
    (λ opened. absurd (both_ways (is_open spot) parts.0 (not-false (is_open spot) opened)))
    (λ linked. not-false (same_link spot.filled.link (link.Act source.0 source.1)) linked)
    (and_cases (not (is_open spot)) (not (same_link spot.filled.link (link.Act source.0 source.1))) parts.1) in
    subst (λ (p : ℕ × ℕ). spot.filled.link ≡ link.Act p.0 p.1) (same_Some source (b, q) is) (link_is spot.filled.link source.0 source.1 same)

by_filled : (m : ModelTree) (s : Scenario) → next_need m s ≡ None → (a r b q : ℕ) (f : Filled) → reference_at s.actions a r ≡ Some f → fixed_source (bounds_of m s.nodes) a r f.flow ≡ Some (b, q) → f.link ≡ link.Act b q
by_filled m s none a r b q f is fixed =
    let spot : Spot = record { act = a; reference = r; filled = f } in
    let test = none_found (has_turn m s) (spots s.actions) spot none (to_spot s.actions a r f is) in
    by_bind spot (fixed_for m s spot) b q fixed
    (⊎_elim (λ e. absurd (both_ways (is_need f.flow) e (fixed_needs (bounds_of m s.nodes) a r f.flow (b, q) fixed))) (λ e. e)
    (and_cases (is_need f.flow) (is_open spot || is_elsewhere (fixed_for m s spot) spot) test))

pub all_bound : (m : ModelTree) (s : Scenario) → next_need m s ≡ None → AreBound m s.nodes (bares s.actions)
all_bound m s none a r b q x at fixed =
    let f = bare_of s.actions a r x at in
    sym (ap (λ (v : Bare). v.link) f.2)
    ∙ by_filled m s none a r b q f.0 f.1 (ap (λ (v : Bare). fixed_source (bounds_of m s.nodes) a r v.flow) f.2 ∙ fixed)

-- ---- sources

pub has_sources : (m : ModelTree) (level : ℕ) (s : Scenario) → IsSupplied level s → AreBound m s.nodes (bares s.actions) → AreInferable m (kinds_in s.actions) → HasSources m s
has_sources m level s supplied bound inferable = record {
  sources = λ a r b q filled is e.
      let from = supplied.joined.links.there a r b q (bare filled) (bare_from s.actions a r filled is) e in
      let f = bare_of s.actions b q from.source from.is in
      record {
        other = from.other;
        source = f.0;
        is = f.1;
        fits = subst (λ (v : Bare). is_source_for filled.flow v.flow ≡ true) (sym f.2) from.fits;
        pool = ap (λ (v : Bare). v.pool) f.2 ∙ from.pool;
      };
  previous = λ a r b q one other is at flow next pool e.
      let x = bare_from s.actions a r one is in
      supplied.joined.links.once a r b q (bare one) (bare other) x (bare_from s.actions b q other at) flow next pool e (supplied.all a r (bare one) x (ap is_need flow));
  bound = λ a r b q filled is fixed. bound a r b q (bare filled) (bare_from s.actions a r filled is) fixed;
  inferred = λ a act is none.
      let k = inferable a (kind_in act) (slice_get-map kind_in s.actions a ∙ ap (option_map kind_in) is) none in
      let i = atomic k.0 k.0.content k.2 in
      record { type = k.0; is = k.1; atomic = i.0; concrete = i.1; inside = to_contains (action_instances m (Some k.0) None) act.instance k.3 };
}

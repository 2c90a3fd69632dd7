-- A list of choices that goes on behind the sources reads a scenario that is read through.
use Rattle.std.proofs.Common.{◌≡◌, ℕ, zero, suc, List, [], ◌∷◌, ◌++◌, map, length, take, Bool, true, false, Option, Some, None, refl, sym, ap, ◌∙◌, subst}
use Rattle.std.specs.Prelude.{slice_get}
use Rattle.std.specs.List.{AllZip}
use Rattle.std.specs.Option.{option_and_then, option_map}
use Rattle.std.proofs.lemmas.Option.{none-some, same_Some}
use Rattle.pst_model.specs.declared.object.ObjectKind.{ObjectKind}
use Rattle.pst_model.specs.declared.object.ObjectKind.TheVariants.{Buffer, Stream, State, Resource}
use Rattle.pst_model.specs.ModelTree.{ModelTree, ObjectTree}
use Rattle.pst_model.specs.Sound.{IsSound}
use Rattle.pst_scen.specs.declared.act.Act.{Act}
use Rattle.pst_scen.specs.declared.act.Filled.{Filled}
use Rattle.pst_scen.specs.declared.act.Flow.{Flow}
use Rattle.pst_scen.specs.declared.act.Link.{Link}
use Rattle.pst_scen.specs.declared.act.Link.TheVariants as link
use Rattle.pst_scen.specs.declared.scenario.Scenario.{Scenario}
use Rattle.pst_scen.specs.Scenarios.{reference_at, IsLinkOf, IsStream, IsLinked, AreLinked}
use Rattle.pst_legal.specs.Types.{pool_object, flow_of, is_output}
use Rattle.pst_legal.specs.Growing.{nothing_yet, most_levels}
use Rattle.pst_legal.specs.Pieces.{Action}
use Rattle.pst_legal.specs.Fits.{Fills, FillsRoot, IsSameLeaf}
use Rattle.pst_legal.specs.Reading.{Reading, Wants, Stops, Reads, then_read, read_tree}
use Rattle.pst_legal.specs.SupplyReading.{read_supply}
use Rattle.pst_legal.specs.ValueReading.{answer_of, read, read_values}
use Rattle.pst_built.specs.Laws.{IsConcreteRoot}
use Rattle.pst_built.proofs.Gives.{Gives, gives_then}
use Rattle.pst_built.proofs.Bares.{Bare, bare, bares, bare_at, bare_from, bare_of, Kind, kind_in, kinds_in}
use Rattle.pst_built.proofs.Values.{IsSameOrder}
use Rattle.pst_built.proofs.Trees.{IsGrowth, tree_grows}
use Rattle.pst_built.proofs.Supply.{joined_first, IsSupplied, supply_gives}
use Rattle.pst_built.proofs.Linked.{are_linked}
use Rattle.pst_built.specs.Goes.{Stands}
use Rattle.pst_built.proofs.Lists.{get_mapped}
use Rattle.pst_built.specs.ReadFitsLaws.{ActivitiesFillTheirRoot}
use Rattle.pst_built.proofs.Keeps.{Keeps, LeavesStay, keeps_then, supply_keeps}
use Rattle.pst_built.proofs.Went.{twice}
use Rattle.pst_built.proofs.Fresh.{AreFresh, fresh_tree, fresh_supply}
use Rattle.pst_built.proofs.Served.{open_is}
use Rattle.pst_built.proofs.Filled.{gives_here}
use Rattle.pst_built.specs.SoFar.{HasRead}
use Rattle.pst_slots.specs.Decided.{IsReadThrough}
use Rattle.pst_read_slots.specs.Laws.{ListsBehindTheSources, SlotsBehindTheSources}
use Rattle.pst_read_slots.proofs.Same.{values_same}
use Rattle.pst_slots.specs.Laws.{SlotsArePlaced}

-- what is read so far stands where the reading does
read_so_far : (R : Scenario → Scenario → Type 0) (t : Scenario) (r : Reading) (s : Scenario) → Stands R t r → HasRead (answer_of r) s → R t s
read_so_far R t (Wants u n) s stands has = subst (R t) has stands
read_so_far R t Stops s stands has = absurd has
read_so_far R t (Reads u place []) s stands has = subst (R t) has stands
read_so_far R t (Reads u place (digit ∷ left)) s stands has = absurd has

-- ---- leaves

mapped : {A B : Type 0} (f : A → B) (o : Option A) (y : B) → option_map f o ≡ Some y → (x : A) × (o ≡ Some x) × (f x ≡ y)
mapped f None y e = absurd (none-some y e)
mapped f (Some x) y e = (x, refl, same_Some (f x) y e)

get_map : {A B : Type 0} (f : A → B) (xs : List A) (k : ℕ) → slice_get (map f xs) k ≡ option_map f (slice_get xs k)
get_map f [] k = refl
get_map f (x ∷ xs) zero = refl
get_map f (x ∷ xs) (suc k) = get_map f xs k

same_kinds : (xs ys : List Act) → kinds_in ys ≡ kinds_in xs → LeavesStay xs ys
same_kinds xs ys e k x is =
    let at : option_map kind_in (slice_get ys k) ≡ Some (kind_in x) = sym (get_map kind_in ys k) ∙ ap (λ ks. slice_get ks k) e ∙ get_map kind_in xs k ∙ ap (option_map kind_in) is in
    let y = mapped kind_in (slice_get ys k) (kind_in x) at in
    (y.0, y.1, record { action = ap (λ (n : Kind). n.action) y.2; instance = ap (λ (n : Kind). n.instance) y.2; node = ap (λ (n : Kind). n.node) y.2 })

zip_stays : (ys xs zs : List Act) → AllZip IsSameLeaf (take (length ys) xs) ys → LeavesStay xs zs → AllZip IsSameLeaf (take (length ys) zs) ys
zip_stays [] xs zs zip stay = tt
zip_stays (y ∷ ys) [] zs zip stay = absurd zip
zip_stays (y ∷ ys) (x ∷ xs) [] zip stay = let z = stay zero x refl in absurd (none-some z.0 z.1)
zip_stays (y ∷ ys) (x ∷ xs) (z ∷ zs) zip stay =
    let first = stay zero x refl in
    let same : IsSameLeaf z x = subst (λ w. IsSameLeaf w x) (sym (same_Some z first.0 first.1)) first.2 in
    let old : IsSameLeaf x y = zip.0 in (
      record { action = same.action ∙ old.action; instance = same.instance ∙ old.instance; node = same.node ∙ old.node },
      zip_stays ys xs zs zip.1 (λ k w is. stay (suc k) w is),
    )

same_keeps : (s t : Scenario) → IsSameOrder s t → Keeps s t
same_keeps s t same = record { level = same.level; nodes = same.nodes; leaves = same_kinds s.actions t.actions same.kinds }

fills_still : (m : ModelTree) (root : ℕ) (s t : Scenario) → FillsRoot m root s → Keeps s t → FillsRoot m root t
fills_still m root s t fills kept = record {
  tree = fills.tree;
  fills = subst (λ l. Fills m most_levels (Action root None) None (nothing_yet l) fills.tree) (sym kept.level) fills.fills;
  nodes = kept.nodes ∙ fills.nodes;
  leaves = zip_stays fills.tree.actions s.actions t.actions fills.leaves kept.leaves;
}

-- ---- references

-- the reference of the first scenario that the second has there, perhaps with values
before : (s t : Scenario) → IsSameOrder s t → (a r : ℕ) (filled : Filled) → reference_at t.actions a r ≡ Some filled → (f : Filled) × (reference_at s.actions a r ≡ Some f) × (bare f ≡ bare filled)
before s t same a r filled is =
    bare_of s.actions a r (bare filled) (sym (ap (λ rows. bare_at rows a r) same.references) ∙ bare_from t.actions a r filled is)

behind : (s t : Scenario) → IsSameOrder s t → (a r : ℕ) (filled : Filled) → reference_at s.actions a r ≡ Some filled → (f : Filled) × (reference_at t.actions a r ≡ Some f) × (bare f ≡ bare filled)
behind s t same a r filled is =
    bare_of t.actions a r (bare filled) (ap (λ rows. bare_at rows a r) same.references ∙ bare_from s.actions a r filled is)

linked_still : (s t : Scenario) → IsSameOrder s t → AreLinked s.actions → AreLinked t.actions
linked_still s t same linked a r filled is =
    let f = before s t same a r filled is in
    let of = linked a r f.0 f.1 in
    let flow : f.0.flow ≡ filled.flow = ap (λ (b : Bare). b.flow) f.2 in
    let to : f.0.link ≡ filled.link = ap (λ (b : Bare). b.link) f.2 in
    record {
      kind = subst (λ x. IsLinkOf x filled.link) flow (subst (IsLinkOf f.0.flow) to of.kind);
      there = λ b q e. let g = of.there b q (to ∙ e) in let h = behind s t same b q g.0 g.1 in (h.0, h.1);
      back = λ b q other stream e on.
          let g = before s t same b q other on in
          sym (ap (λ (x : Bare). x.link) g.2) ∙ of.back b q g.0 (subst IsStream (sym flow) stream) (to ∙ e) g.1;
    }

way_of : (kind : ObjectKind) (output : Bool) (flow : Flow) → flow_of kind output ≡ Some flow → is_output flow ≡ output
way_of Buffer true flow e = ap is_output (sym (same_Some _ flow e))
way_of Buffer false flow e = ap is_output (sym (same_Some _ flow e))
way_of Stream true flow e = ap is_output (sym (same_Some _ flow e))
way_of Stream false flow e = ap is_output (sym (same_Some _ flow e))
way_of State true flow e = ap is_output (sym (same_Some _ flow e))
way_of State false flow e = ap is_output (sym (same_Some _ flow e))
way_of Resource output flow e = absurd (none-some flow e)

of_act : (o : Option Act) (r : ℕ) (filled : Filled) → option_and_then (λ x. slice_get x.references r) o ≡ Some filled → (x : Act) × (o ≡ Some x) × (slice_get x.references r ≡ Some filled)
of_act None r filled e = absurd (none-some filled e)
of_act (Some x) r filled e = (x, refl, e)

abbrev AreKinds : ModelTree → Scenario → Type 0
AreKinds m s = (a r : ℕ) (filled : Filled) (object : ObjectTree) → reference_at s.actions a r ≡ Some filled → pool_object m filled.pool ≡ Some object → flow_of object.kind (is_output filled.flow) ≡ Some filled.flow

kinds_of_fresh : (m : ModelTree) → IsSound m → (s : Scenario) → AreFresh m s → AreKinds m s
kinds_of_fresh m sound s fresh a r filled object is of_pool =
    let x = of_act (slice_get s.actions a) r filled is in
    let reference = open_is m sound x.0 (fresh a x.0 x.1) r filled x.2 in
    let same : reference.object ≡ object = same_Some reference.object object (sym reference.of_pool ∙ of_pool) in
    let flow : flow_of object.kind reference.reference.output ≡ Some filled.flow =
    ap (λ (o : ObjectTree). flow_of o.kind reference.reference.output) (sym same)
    ∙ sym (ap (option_and_then (λ (o : ObjectTree). flow_of o.kind reference.reference.output)) reference.there) ∙ reference.flow in
    ap (flow_of object.kind) (way_of object.kind reference.reference.output filled.flow flow) ∙ flow

kinds_still : (m : ModelTree) (s t : Scenario) → IsSameOrder s t → AreKinds m s → AreKinds m t
kinds_still m s t same kinds a r filled object is of_pool =
    let f = before s t same a r filled is in
    let pool : f.0.pool ≡ filled.pool = ap (λ (b : Bare). b.pool) f.2 in
    let flow : f.0.flow ≡ filled.flow = ap (λ (b : Bare). b.flow) f.2 in
    subst (λ x. flow_of object.kind (is_output x) ≡ Some x) flow (kinds a r f.0 object f.1 (ap (pool_object m) pool ∙ of_pool))

-- ---- the law

pub behind_the_sources : ActivitiesFillTheirRoot → ListsBehindTheSources
behind_the_sources fill m root seed level choices s sound concrete (u, place, left, e) has =
    let tree = read_tree m seed root (nothing_yet level) 0 choices in
    let v = twice tree (read_supply m seed) u place left e in
    let growth = gives_here (IsGrowth level (nothing_yet level) None) tree v.mid v.place v.left (tree_grows m seed root level 0 choices) v.first in
    let supplied = gives_here (IsSupplied level) (read_supply m seed v.mid v.place v.left) u place left
    (supply_gives m seed level v.mid v.place v.left (joined_first level v.mid growth.grown growth.within)) v.second in
    let first = gives_here (AreFresh m) tree v.mid v.place v.left (fresh_tree m sound seed root level 0 choices concrete) v.first in
    let fresh = gives_here (AreFresh m) (read_supply m seed v.mid v.place v.left) u place left (fresh_supply m seed v.mid v.place v.left first) v.second in
    let here : HasRead (answer_of (read_values m seed u place left)) s = subst (λ r. HasRead (answer_of (then_read r (read_values m seed))) s) e has in
    let same : IsSameOrder u s = read_so_far IsSameOrder u (read_values m seed u place left) s (values_same m seed u place left) here in
    record {
      tree = fills_still m root v.mid s (fill m root seed level 0 choices v.left v.mid v.place sound v.first).0
          (keeps_then v.mid u s (supply_keeps m seed v.mid u v.place v.left place left v.second) (same_keeps u s same));
      links = linked_still u s same (are_linked level u supplied);
      kinds = kinds_still m u s same (kinds_of_fresh m sound u fresh);
    }

pub slots_behind : ActivitiesFillTheirRoot → SlotsArePlaced → SlotsBehindTheSources
slots_behind fill placed m root seed level choices s sound concrete reads has =
    placed m root s sound (behind_the_sources fill m root seed level choices s sound concrete reads has)

-- The actions of whatever a list of choices has read.
use Rattle.std.proofs.Common.{◌≡◌, ℕ, List, [], ◌∷◌, ◌++◌, map, Bool, true, ◌&&◌, Option, None, Some, refl, sym, ap, ◌∙◌, subst}
use Rattle.std.specs.Prelude.{slice_get}
use Rattle.std.specs.List.{enumerate_from, filter}
use Rattle.std.proofs.lemmas.List.{length-map}
use Rattle.std.proofs.lemmas.Bool.{eqb-true, and_parts}
use Rattle.std.proofs.lemmas.Option.{none-some}
use Rattle.pst_base.specs.declared.table.NameId.{NameId}
use Rattle.pst_model.specs.declared.model.Part.{Part}
use Rattle.pst_model.specs.ModelTree.{ModelTree, ActionTree}
use Rattle.pst_model.specs.Sound.{IsSound}
use Rattle.pst_scen.specs.declared.act.Act.{Act}
use Rattle.pst_scen.specs.declared.act.Filled.{Filled}
use Rattle.pst_scen.specs.declared.scenario.Scenario.{Scenario}
use Rattle.pst_legal.specs.Types.{same_name, is_under, action_instances}
use Rattle.pst_legal.specs.Growing.{nothing_yet}
use Rattle.pst_legal.specs.Blanks.{Blank, claim_blanks, value_blanks}
use Rattle.pst_legal.specs.Reading.{Reading, Wants, Stops, Reads, then_read, read_tree}
use Rattle.pst_legal.specs.SupplyReading.{sources, read_supply}
use Rattle.pst_legal.specs.ValueReading.{with_option, with_firsts, read_values, answer_of, read_all}
use Rattle.pst_built.specs.StepsOf.{BlankSteps}
use Rattle.pst_built.proofs.Goes.{Stands, stands, goes_then}
use Rattle.pst_built.proofs.Readers.{goes_supply, goes_values}
use Rattle.pst_built.specs.Laws.{IsConcreteRoot}
use Rattle.pst_built.proofs.Members.{In, in_get, in_map, in_filter, in_numbered}
use Rattle.pst_built.proofs.Spots.{suits}
use Rattle.pst_built.proofs.Lists.{get_mapped}
use Rattle.pst_built.specs.SoFar.{HasRead}
use Rattle.pst_built.proofs.Fresh.{unlinked, IsFresh}
use Rattle.pst_built.proofs.Served.{open_is, as_many}
use Rattle.pst_read_domains.specs.ReadActsLaws.{IsServedBy, IsOfItsType, ActsAreOfTheirTypes}
use Rattle.pst_read_domains.proofs.Comes.{Comes, comes_tree}
use Rattle.pst_read_domains.proofs.Pooled.{unread, row, IsPooled, ArePooled, Keeps, look_keeps, source_keeps, option_keeps}

-- ---- behind the activity

keeps_same : (m : ModelTree) (s : Scenario) → Keeps m s s
keeps_same m s all = all

keeps_then : (m : ModelTree) (s t u : Scenario) → Keeps m s t → Keeps m t u → Keeps m s u
keeps_then m s t u one other all = other (one all)

blank_steps : (m : ModelTree) (blanks : List Blank) (s : Scenario) → BlankSteps (Keeps m) m blanks s
blank_steps m [] s = tt
blank_steps m (blank ∷ more) s = λ k l. (option_keeps m k blank s, blank_steps m more (with_option m k blank s))

behind : (m : ModelTree) (seed : ℕ) (s : Scenario) (place : ℕ) (left : List ℕ) → Stands (Keeps m) s (then_read (read_supply m seed s place left) (read_values m seed))
behind m seed s place left =
    stands (Keeps m) s (then_read (read_supply m seed s place left) (read_values m seed)) (λ more. then_read (read_supply m seed s place (left ++ more)) (read_values m seed))
    (goes_then (Keeps m) (keeps_then m) s (read_supply m seed s place left) (λ more. read_supply m seed s place (left ++ more)) (read_values m seed)
    (goes_supply (Keeps m) (keeps_same m) (keeps_then m) m seed (λ u need source k is there. source_keeps m u need source (suits m u need source (in_get (sources m u need) k source there))) left s place)
    (λ t next rest has. goes_values (Keeps m) (keeps_same m) (keeps_then m) m seed t next rest
    (record { firsts = λ all. all; claims = blank_steps m (claim_blanks m t.actions) (with_firsts m t); values = λ u h. blank_steps m (value_blanks m t.actions) u })))

comes_behind : (m : ModelTree) (s : Scenario) (r : Reading) → Stands (Keeps m) s r → ArePooled m s → Comes (ArePooled m) r
comes_behind m s (Wants t n) on all = on all
comes_behind m s Stops on all = tt
comes_behind m s (Reads t place left) on all = on all

comes_all : (m : ModelTree) (seed : ℕ) (tree : Reading) → Comes (ArePooled m) tree → Comes (ArePooled m) (then_read (then_read tree (read_supply m seed)) (read_values m seed))
comes_all m seed (Wants t n) all = all
comes_all m seed Stops all = tt
comes_all m seed (Reads t place left) all = comes_behind m t (then_read (read_supply m seed t place left) (read_values m seed)) (behind m seed t place left) all

has_come : (P : Scenario → Type 0) (r : Reading) (s : Scenario) → Comes P r → HasRead (answer_of r) s → P s
has_come P (Wants t n) s holds has = subst P has holds
has_come P Stops s holds has = absurd has
has_come P (Reads t place []) s holds has = subst P has holds
has_come P (Reads t place (digit ∷ left)) s holds has = absurd has

pooled : (m : ModelTree) (root seed level : ℕ) (choices : List ℕ) (s : Scenario) → IsSound m → IsConcreteRoot m root → HasRead (answer_of (read_all m seed root (nothing_yet level) 0 choices)) s → ArePooled m s
pooled m root seed level choices s sound concrete has =
    has_come (ArePooled m) (read_all m seed root (nothing_yet level) 0 choices) s
    (comes_all m seed (read_tree m seed root (nothing_yet level) 0 choices)
    (comes_tree m sound (ArePooled m) (λ t parent look is all. look_keeps m t parent look is all) (λ t n v all. all) seed root level 0 choices concrete (λ a x at. absurd (none-some x at)))) has

-- ---- one action

name_of : ℕ → NameId
name_of n = record { 0 = n }

same_names : (a b : NameId) → same_name a b ≡ true → a ≡ b
unfolding name_of
same_names a b e = ap name_of (eqb-true a.0 b.0 e)

pub instance_is : (m : ModelTree) (type : ActionTree) (top : Option ℕ) (instance : ℕ) → In instance (action_instances m (Some type) top) → (part : Part) × (slice_get m.instances instance ≡ Some part) × (part.component ≡ type.component)
instance_is m type top instance has =
    let test : ℕ × Part → Bool = λ e. same_name e.1.component type.component && is_under m top e.0 in
    let i = in_map (λ (e : ℕ × Part). e.0) (filter test (enumerate_from 0 m.instances)) instance has in
    let e = i.0 in
    let f = in_filter test (enumerate_from 0 m.instances) e i.1 in
    let at : slice_get m.instances instance ≡ Some e.1 = subst (λ k. slice_get m.instances k ≡ Some e.1) i.2 (in_numbered m.instances e f.0) in
    (e.1, at, same_names e.1.component type.component (and_parts (same_name e.1.component type.component) (is_under m top e.0) f.1).0)

module _ (m : ModelTree) (sound : IsSound m) (x : Act) (is : IsPooled m (row x)) where
  -- the action before it was linked
  abbrev before : Act
  before = record { action = x.action; instance = x.instance; node = None; fields = []; references = map unread x.references; claims = [] }

  unread_again : (fs : List Filled) → map unlinked (map unread fs) ≡ map unread fs
  unread_again [] = refl
  unread_again (f ∷ fs) = ap (λ gs. unread f ∷ gs) (unread_again fs)

  abbrev fresh : IsFresh m before
  fresh = record { concrete = is.concrete; references = unread_again x.references ∙ is.references; fields = refl; claims = refl }

  reference_of : (r : ℕ) (filled : Filled) → slice_get x.references r ≡ Some filled → IsServedBy m x is.concrete.type r filled
  reference_of r filled at =
      let o = open_is m sound before fresh r (unread filled) (get_mapped unread x.references r filled at) in
      record { reference = o.reference; is = o.is; pool = o.pool; flow = o.flow }

  of_its_type : IsOfItsType m x
  of_its_type =
      let part = instance_is m is.concrete.type is.concrete.top x.instance is.concrete.inside in
      record {
        type = is.concrete.type;
        is = is.concrete.is;
        atomic = is.concrete.atomic;
        concrete = is.concrete.concrete;
        part = part.0;
        is_part = part.1;
        component = part.2;
        many = sym (length-map x.references unread) ∙ as_many m sound before fresh;
        references = reference_of;
      }

pub acts_of_types : ActsAreOfTheirTypes
acts_of_types m root seed level choices s sound concrete has a x at =
    of_its_type m sound x (pooled m root seed level choices s sound concrete has a (row x) (get_mapped row s.actions a x at))

-- All that is derived from an action with steady activities has steady ones.
use Rattle.std.proofs.Common.{◌≡◌, ◌⊎◌, inl, inr, ℕ, ◌+◌, ◌<◌, ◌≤◌, Bool, true, false, List, [], ◌∷◌, length, Option, refl, sym, ap, subst, ◌∙◌, arith}
use Rattle.std.specs.Prelude.{Some, None, IsTrue, slice_get}
use Rattle.std.specs.HashMap.{HashMap, get}
use Rattle.pst_base.specs.declared.position.Place.{Place}
use Rattle.pst_base.specs.declared.table.NameId.{NameId}
use Rattle.pst_ast.specs.DeclarationTree.{UnitTree}
use Rattle.pst_ast.specs.declared.scope_declaration.Declaration.{Declaration}
use Rattle.pst_ast.specs.Declarations.{declarations}
use Rattle.pst_ast.specs.Lookups.{base_of}
use Rattle.pst_type_rules.specs.Handles.{IsSteadyIn}
use Rattle.pst_type_rules.specs.Members.{IsOrDerives, Itself, Derives}
use Rattle.pst_places.specs.Numbers.{number_in}
use Rattle.pst_traversals.specs.declared.tally.TallyKey.{TallyKey}
use Rattle.pst_traversals.specs.Tallied.{same_key}
use Rattle.pst_steady.specs.declared.ranges.Range.{Range}
use Rattle.pst_steady.specs.declared.reach.Seed.{Seed}
use Rattle.pst_steady.specs.declared.reach.Seed.TheVariants as seed
use Rattle.pst_steady.specs.Numbered.{AreBases, numbered}
use Rattle.pst_steady.specs.Reached.{Reaches, Here, On, value_at, AreReached}
use Rattle.pst_steady.specs.Lined.{AreLined, HasUnsteady, is_once}
use Rattle.pst_steady.specs.Ranged.{AreRanged, IsPlaced, IsBetween, IsRanged}
use Rattle.pst_steady.specs.Run.{AreOnce, IsOnceAt}
use Rattle.pst_steady.proofs.Lists.{some_is, no_some, within}
use Rattle.pst_steady.proofs.Lined.{steady_to, steady_from}

module _ {S : Type 0} (units : List UnitTree) (places : List Place) (bases values : List (Option ℕ)) (tallies : HashMap TallyKey Bool S) (lined : AreLined units bases values tallies) (ranges : List Range) (slots : List (Option ℕ))
    (ranged : AreRanged places (declarations units) lined.seeds bases ranges slots (length (declarations units))) (h : NameId) where
  abbrev ds : List Declaration
  ds = declarations units

  -- a declaration's numbers are among others, and its activity is steady
  record IsInside (around : Range) (i : ℕ) (d : Declaration) : Type 0 where
    pub range : Range
    pub there : slice_get ranges i ≡ Some range
    pub first : around.first ≤ range.first
    pub end : range.end ≤ around.end
    pub steady : IsSteadyIn units d h

  base_led : (i : ℕ) (b : Declaration) (o : Option ℕ) → numbered ds o ≡ Some b → slice_get bases i ≡ Some o → (j : ℕ) × (o ≡ Some j) × (slice_get ds j ≡ Some b)
  base_led i b None is at = absurd (no_some is)
  base_led i b (Some j) is at = (j, refl, is)

  taken : (i j : ℕ) (d b : Declaration) → slice_get ds i ≡ Some d → slice_get ds j ≡ Some b → slice_get lined.seeds i ≡ Some seed.Inherit → slice_get bases i ≡ Some (Some j) → IsSteadyIn units b h → IsSteadyIn units d h
  taken i j d b at there takes led is =
      let k = steady_from units bases values tallies lined j b h there is in
      steady_to units bases values tallies lined i k.0 d h at ((lined.reached i k.0).1 (On i j k.0 takes led ((lined.reached j k.0).0 k.1))) k.2

  slot_is : (action k : ℕ) → Some (Some action) ≡ Some (Some k) → action ≡ k
  slot_is action k e = some_is (some_is e)

  by_seed : (around range : Range) (i j : ℕ) (d b : Declaration) (s : Seed) → AreOnce tallies slots h around.first around.end → around.first ≤ range.first → range.end ≤ around.end
      → slice_get ds i ≡ Some d → slice_get ds j ≡ Some b → slice_get lined.seeds i ≡ Some s → slice_get bases i ≡ Some (Some j) → IsSteadyIn units b h → IsPlaced slots range s → IsSteadyIn units d h
  by_seed around range i j d b (seed.Own k) once first end at there own led is placed =
      let o = once range.first first (omega (arith, placed.0, end)) in
      let same = slot_is o.0 k (sym o.1 ∙ placed.1) in
      steady_to units bases values tallies lined i k d h at ((lined.reached i k).1 (Here i k own)) (subst (λ (n : ℕ). is_once (get same_key tallies (record { action = n; handle = h.0 })) ≡ true) same o.2)
  by_seed around range i j d b seed.Stop once first end at there own led is placed =
      let o = once range.first first (omega (arith, placed.0, end)) in
      absurd (apart o.0 (sym placed.1 ∙ o.1))
    where
      apart : (k : ℕ) → Some None ≡ Some (Some k) → ⊥
      apart k e = no_some (some_is e)
  by_seed around range i j d b seed.Inherit once first end at there own led is placed = taken i j d b at there own led is

  inside : (around : Range) (n : ℕ) (a : Declaration) → slice_get ds n ≡ Some a → slice_get ranges n ≡ Some around → IsSteadyIn units a h → AreOnce tallies slots h around.first around.end
      → (i : ℕ) (d from : Declaration) → slice_get ds i ≡ Some d → from ≡ a → IsOrDerives ds d from → IsInside around i d
  inside around n a there given is once i d from at same (Itself e) =
      let here = ranged i d (within ds i d at) at in
      let own = ranged n a (within ds n a there) there in
      let alone : i ≡ n = some_is (sym here.4.alone ∙ (ap (λ (x : Declaration). number_in places x.name.place) same ∙ own.4.alone)) in
      record {
        range = around;
        there = subst (λ (k : ℕ). slice_get ranges k ≡ Some around) (sym alone) given;
        first = omega arith;
        end = omega arith;
        steady = subst (λ (x : Declaration). IsSteadyIn units x h) (sym same) is;
      }
  inside around n a there given is once i d from at same (Derives e base f led on) =
      let here = ranged i d (within ds i d at) at in
      let j = base_led i base here.1 (lined.bases_are.each i d here.1 at here.3 ∙ led) here.3 in
      let o = inside around n a there given is once j.0 base from j.2 same on in
      let r = here.4 in
      let b = subst (λ (x : Option ℕ). IsBetween ranges r.range x) j.1 r.between in
      let same_range : b.0 ≡ o.range = some_is (sym b.1 ∙ o.there) in
      let first : around.first ≤ r.range.first = omega (arith, o.first, subst (λ (x : Range). x.first ≤ r.range.first) same_range b.2) in
      let end : r.range.end ≤ around.end = omega (arith, o.end, subst (λ (x : Range). r.range.end ≤ x.end) same_range b.3) in
      record {
        range = r.range;
        there = r.there;
        first = first;
        end = end;
        steady = by_seed around r.range i j.0 d base here.0 once first end at j.2 here.2 (here.3 ∙ ap Some j.1) o.steady r.placed;
      }

  pub none : (around : Range) (n : ℕ) (a : Declaration) → slice_get ds n ≡ Some a → slice_get ranges n ≡ Some around → AreOnce tallies slots h around.first around.end → IsSteadyIn units a h → HasUnsteady units a h → ⊥
  none around n a there given once is wrong = wrong.unsteady (inside around n a there given is once wrong.number wrong.derived a wrong.there refl wrong.derives).steady

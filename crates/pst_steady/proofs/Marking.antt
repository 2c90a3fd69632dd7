-- Those that are marked are those that are or derive from an action.
use Rattle.std.proofs.Common.{◌≡◌, ◌⊎◌, inl, inr, ℕ, ◌+◌, ◌<◌, Bool, true, false, List, [], ◌∷◌, ◌++◌, length, Option, refl, sym, ap, subst, ◌∙◌, arith}
use Rattle.std.specs.Prelude.{Some, None, IsTrue, slice_get}
use Rattle.pst_base.specs.declared.table.NameId.{NameId}
use Rattle.pst_ast.specs.DeclarationTree.{UnitTree}
use Rattle.pst_ast.specs.declared.scope_declaration.Declaration.{Declaration}
use Rattle.pst_ast.specs.Declarations.{declarations}
use Rattle.pst_ast.specs.Lookups.{base_of}
use Rattle.pst_ast.specs.Sorts.{is_action}
use Rattle.pst_type_rules.specs.Handles.{IsSteadyIn}
use Rattle.pst_type_rules.specs.Members.{IsOrDerives, Itself, Derives}
use Rattle.pst_steady.specs.declared.reach.Seed.{Seed}
use Rattle.pst_steady.specs.declared.reach.Seed.TheVariants as seed
use Rattle.pst_steady.specs.Numbered.{AreBases, numbered}
use Rattle.pst_steady.specs.Reached.{Reaches, Here, On, value_at, AreReached}
use Rattle.pst_steady.specs.Lined.{HasUnsteady, IsUnsteadyAmong, IsMark, AreMarks}
use Rattle.pst_steady.proofs.Lists.{some_is, no_some, there_is, within, push_cases, push_length}

pub no_marks : (ds : List Declaration) (action : Declaration) → AreMarks ds action 0 []
no_marks ds action = record { long = refl; each = λ i d s there at. absurd (no_some at) }

pub one_more_mark : (ds : List Declaration) (action : Declaration) (n : ℕ) (marks : List Seed) (d : Declaration) (s : Seed) → slice_get ds n ≡ Some d → IsMark action d s → AreMarks ds action n marks → AreMarks ds action (n + 1) (marks ++ s ∷ [])
one_more_mark ds action n marks d s there is so_far = record {
  long = longer;
  each = λ i e t at given. elim (push_cases marks s i t given) [
    | inl before ↦ so_far.each i e t at before
    | inr last ↦
        let same : d ≡ e = some_is (sym there ∙ subst (λ (k : ℕ). slice_get ds k ≡ Some e) (last.0 ∙ so_far.long) at) in
        subst (λ (u : Seed). IsMark action e u) last.1 (subst (λ (f : Declaration). IsMark action f s) same is)
  ];
}
  where
    longer : length (marks ++ s ∷ []) ≡ n + 1
    longer = omega (arith, push_length marks s, so_far.long)

module _ (units : List UnitTree) (bases : List (Option ℕ)) (are_bases : AreBases (declarations units) bases) (action : Declaration) (marks : List Seed)
    (are_marks : AreMarks (declarations units) action (length (declarations units)) marks) where
  abbrev ds : List Declaration
  ds = declarations units

  mark_there : (i k : ℕ) → Reaches marks bases i k → i < length ds
  mark_there i k (Here a b own) = subst (λ (n : ℕ). i < n) are_marks.long (within marks i (seed.Own k) own)
  mark_there i k (On a j b takes led on) = subst (λ (n : ℕ). i < n) are_marks.long (within marks i seed.Inherit takes)

  derives : (i k : ℕ) (d : Declaration) → slice_get ds i ≡ Some d → Reaches marks bases i k → IsOrDerives ds d action × IsTrue (is_action action.sort)
  derives i k d at (Here a b own) = let is = are_marks.each i d (seed.Own k) at own in (subst (λ (x : Declaration). IsOrDerives ds d x) is.0 (Itself d), is.1)
  derives i k d at (On a j b takes led on) =
      let e = there_is ds j (mark_there j k on) in
      let base : base_of ds d ≡ Some e.0 = sym (are_bases.each i d (Some j) at led) ∙ e.1 in
      let h = derives j k e.0 e.1 on in
      (Derives d e.0 action base h.0, h.1)

  base_led : (i : ℕ) (b : Declaration) (o : Option ℕ) → numbered ds o ≡ Some b → slice_get bases i ≡ Some o → (j : ℕ) × (slice_get bases i ≡ Some (Some j)) × (slice_get ds j ≡ Some b)
  base_led i b None is at = absurd (no_some is)
  base_led i b (Some j) is at = (j, at, is)

  by_mark : (i : ℕ) (d : Declaration) (t : Seed) → slice_get marks i ≡ Some t → IsMark action d t → IsTrue (is_action action.sort) → (slice_get marks i ≡ Some seed.Inherit → (d ≡ action → ⊥) → (k : ℕ) × Reaches marks bases i k) → (k : ℕ) × Reaches marks bases i k
  by_mark i d (seed.Own k) at is acts on = (k, Here i k at)
  by_mark i d seed.Stop at is acts on = absurd is
  by_mark i d seed.Inherit at is acts on = on at (λ e. is e acts)

  mark_of : (i : ℕ) (d : Declaration) → slice_get ds i ≡ Some d → (t : Seed) × (slice_get marks i ≡ Some t)
  mark_of i d at = there_is marks i (subst (λ (n : ℕ). i < n) (sym are_marks.long) (within ds i d at))

  reaches : (i : ℕ) (d from : Declaration) → IsOrDerives ds d from → from ≡ action → slice_get ds i ≡ Some d → IsTrue (is_action action.sort) → (k : ℕ) × Reaches marks bases i k
  reaches i d from (Itself e) same at acts =
      let t = mark_of i d at in
      by_mark i d t.0 t.1 (are_marks.each i d t.0 at t.1) acts (λ takes apart. absurd (apart same))
  reaches i d from (Derives e base f led on) same at acts =
      let t = mark_of i d at in
      by_mark i d t.0 t.1 (are_marks.each i d t.0 at t.1) acts (λ takes apart.
      let o = there_is bases i (subst (λ (n : ℕ). i < n) (sym are_bases.long) (within ds i d at)) in
      let j = base_led i base o.0 (are_bases.each i d o.0 at o.1 ∙ led) o.1 in
      let r = reaches j.0 base from on same j.2 acts in
      (r.0, On i j.0 r.0 takes j.1 r.1))

  module _ (marked : List (Option ℕ)) (are_reached : AreReached marks bases marked) (h : NameId) where
    to_has : IsUnsteadyAmong units marked (length ds) h → HasUnsteady units action h
    to_has u =
        let d = derives u.number u.mark u.derived u.there ((are_reached u.number u.mark).0 u.is_marked) in
        record { number = u.number; derived = u.derived; there = u.there; derives = d.0; acts = d.1; unsteady = u.unsteady }

    from_has : HasUnsteady units action h → IsUnsteadyAmong units marked (length ds) h
    from_has u =
        let r = reaches u.number u.derived action u.derives refl u.there u.acts in
        record { number = u.number; derived = u.derived; mark = r.0; before = within ds u.number u.derived u.there; there = u.there; is_marked = (are_reached u.number r.0).1 r.1; unsteady = u.unsteady }

    pub by_marks : (found : Bool) → (IsTrue found → IsUnsteadyAmong units marked (length ds) h) × (IsUnsteadyAmong units marked (length ds) h → IsTrue found) → (IsTrue found → HasUnsteady units action h) × (HasUnsteady units action h → IsTrue found)
    by_marks found is = ((λ e. to_has (is.0 e)), λ u. is.1 (from_has u))

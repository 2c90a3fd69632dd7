-- Edges that are added to a graph.
use Rattle.std.proofs.Common.{◌≡◌, ℕ, zero, suc, ◌+◌, ◌<◌, ◌⊎◌, inl, inr, refl, ap, ◌∙◌, sym, subst, List, [], ◌∷◌, ◌++◌, Some, None, length, set, length-set, arith}
use Rattle.std.specs.Prelude.{slice_get, Bool, true, false, IsTrue, if◌then◌else◌}
use Rattle.std.specs.Global.{Vec}
use Rattle.pst_base.specs.declared.position.Place.{Place}
use Rattle.pst_base.specs.Laws.{NoneIsBeforeItself}
use Rattle.pst_base.specs.Places.{IsBefore}
use Rattle.pst_ast.specs.declared.scope_declaration.Declaration.{Declaration}
use Rattle.pst_ast.specs.declared.scope_declaration.Scope.{Scope}
use Rattle.pst_ast.specs.declared.scope_declaration.Scope.TheVariants.{Files, Part}
use Rattle.pst_ast.specs.Lookups.{base_of, type_of}
use Rattle.pst_ast.specs.NameRules.{LeadsTo, ToBase, ToInstance}
use Rattle.pst_ast.specs.Sorts.{is_instance}
use Rattle.pst_loops.specs.Graph.{Graph, IsIn, HasEdge}
use Rattle.pst_loops.specs.Numbers.{IsNumber, AreInOrderTo, AreRows}
use Rattle.pst_loops.specs.Edges.{IsAdded, IsEdge, IsAt, IsEdgeFrom, IsBaseBy, IsComponentBy, IsGivenBy, HasEdges, AddsEdges, place_of, scope_of_instance}
use Rattle.pst_loops.proofs.Turns.{in_cases, in_front, in_last}
use Rattle.pst_loops.proofs.Joined.{some_is, there_within, below_or}
use Rattle.pst_loops.proofs.OneMore.{below, contains_there, read_there}

at_set : {X : Type 0} (xs : List X) (t : ℕ) (y : X) → t < length xs → slice_get (set xs t y) t ≡ Some y
at_set [] t y l = absurd (omega arith)
at_set (x ∷ xs) zero y l = refl
at_set (x ∷ xs) (suc t) y l = at_set xs t y (omega arith)

beside_set : {X : Type 0} (xs : List X) (t i : ℕ) (y : X) → (i ≡ t → ⊥) → slice_get (set xs t y) i ≡ slice_get xs i
beside_set [] t i y n = refl
beside_set (x ∷ xs) zero zero y n = absurd (n refl)
beside_set (x ∷ xs) zero (suc i) y n = refl
beside_set (x ∷ xs) (suc t) zero y n = refl
beside_set (x ∷ xs) (suc t) (suc i) y n = beside_set xs t i y (λ e. n (ap suc e))

same_or : (i k : ℕ) → (i ≡ k) ⊎ (i ≡ k → ⊥)
same_or i k = elim (below_or i k) [ inl l ↦ inr (λ e. omega (arith, e, l)) | inr (inl e) ↦ inl e | inr (inr l) ↦ inr (λ e. omega (arith, e, l)) ]

same_items : (g : Graph) (a k : ℕ) (u v : Vec ℕ) → a ≡ k → slice_get g a ≡ Some u → slice_get g k ≡ Some v → u.items ≡ v.items
same_items g a k u v e at there = ap (λ (x : Vec ℕ). x.items) (some_is u v (sym at ∙ subst (λ (x : ℕ). slice_get g x ≡ Some v) (sym e) there))

kept_edge : (g : Graph) (from to : ℕ) (v w : Vec ℕ) → from < length g → slice_get g from ≡ Some v → w.items ≡ v.items ++ to ∷ [] → (a b : ℕ) → HasEdge g a b → HasEdge (set g from w) a b
kept_edge g from to v w l there items a b (row, (u, at, is), i) = elim (same_or a from) [
  | inl e ↦ (w.items, (w, subst (λ (x : ℕ). slice_get (set g from w) x ≡ Some w) (sym e) (at_set g from w l), refl), subst (IsIn b) (sym items) (in_front b v.items to (subst (IsIn b) (sym is ∙ same_items g a from u v e at there) i)))
  | inr n ↦ (row, (u, beside_set g from a w n ∙ at, is), i)
]

only_edge : (g : Graph) (from to : ℕ) (v w : Vec ℕ) → from < length g → slice_get g from ≡ Some v → w.items ≡ v.items ++ to ∷ [] → (a b : ℕ) → HasEdge (set g from w) a b → HasEdge g a b ⊎ IsEdge from to a b
only_edge g from to v w l there items a b (row, (u, at, is), i) = elim (same_or a from) [
  | inl e ↦
      let i : IsIn b (v.items ++ to ∷ []) = subst (IsIn b) (sym is ∙ (same_items (set g from w) a from u w e at (at_set g from w l) ∙ items)) i in
      elim (in_cases b v.items to i) [
        | inl j ↦ inl (v.items, (v, subst (λ (x : ℕ). slice_get g x ≡ Some v) (sym e) there, refl), j)
        | inr j ↦ inr (e, sym j)
      ]
  | inr n ↦ inl (row, (u, sym (beside_set g from a w n) ∙ at, is), i)
]

-- one more in a row
pub pushed : (g : Graph) (from to : ℕ) (v w : Vec ℕ) → from < length g → slice_get g from ≡ Some v → w.items ≡ v.items ++ to ∷ [] → IsAdded (IsEdge from to) g (set g from w)
pushed g from to v w l there items = record {
  long = length-set g from w;
  kept = kept_edge g from to v w l there items;
  added = λ a b (p, q). (w.items, (w, subst (λ (x : ℕ). slice_get (set g from w) x ≡ Some w) (sym p) (at_set g from w l), refl), subst (λ (x : ℕ). IsIn x w.items) (sym q) (subst (IsIn to) (sym items) (in_last v.items to)));
  only = only_edge g from to v w l there items;
}

pub same_added : (P Q : ℕ → ℕ → Type 0) (old new : Graph) → ((a b : ℕ) → P a b → Q a b) → ((a b : ℕ) → Q a b → P a b) → IsAdded P old new → IsAdded Q old new
same_added P Q old new to from h = record {
  long = h.long;
  kept = h.kept;
  added = λ a b q. h.added a b (from a b q);
  only = λ a b e. elim (h.only a b e) [ inl o ↦ inl o | inr p ↦ inr (to a b p) ];
}

-- first these and then those
added_too : (P Q R : ℕ → ℕ → Type 0) (old mid new : Graph) → ((a b : ℕ) → P a b → R a b) → ((a b : ℕ) → Q a b → R a b) → ((a b : ℕ) → R a b → P a b ⊎ Q a b) → IsAdded P old mid → IsAdded Q mid new → IsAdded R old new
added_too P Q R old mid new first second each h k = record {
  long = k.long ∙ h.long;
  kept = λ a b e. k.kept a b (h.kept a b e);
  added = λ a b r. elim (each a b r) [ inl p ↦ k.kept a b (h.added a b p) | inr q ↦ k.added a b q ];
  only = λ a b e. elim (k.only a b e) [ inl m ↦ elim (h.only a b m) [ inl o ↦ inl o | inr p ↦ inr (first a b p) ] | inr q ↦ inr (second a b q) ];
}

abbrev pub IsEdgeTo : ℕ → List Declaration → Place → ℕ → ℕ → ℕ → Type 0
IsEdgeTo n ds place to a b = (a < n) × IsEdgeFrom ds place to a b

pub one_more_from : (ds : List Declaration) (n : ℕ) (place : Place) (to : ℕ) (d : Declaration) (old mid new : Graph) → slice_get ds n ≡ Some d → d.name.place ≡ place → IsAdded (IsEdgeTo n ds place to) old mid → IsAdded (IsEdge n to) mid new → IsAdded (IsEdgeTo (n + 1) ds place to) old new
one_more_from ds n place to d old mid new there same = added_too (IsEdgeTo n ds place to) (IsEdge n to) (IsEdgeTo (n + 1) ds place to) old mid new
    (λ a b (l, e). (omega (arith, l), e))
    (λ a b (p, q). (omega (arith, p), ((d, subst (λ (x : ℕ). slice_get ds x ≡ Some d) (sym p) there, same), q)))
    (λ a b (l, (at, q)). elim (below a n l) [ inl m ↦ inl (m, (at, q)) | inr e ↦ inr (e, q) ])

pub none_more_from : (ds : List Declaration) (n : ℕ) (place : Place) (to : ℕ) (d : Declaration) (old new : Graph) → slice_get ds n ≡ Some d → (d.name.place ≡ place → ⊥) → IsAdded (IsEdgeTo n ds place to) old new → IsAdded (IsEdgeTo (n + 1) ds place to) old new
none_more_from ds n place to d old new there other = same_added (IsEdgeTo n ds place to) (IsEdgeTo (n + 1) ds place to) old new
    (λ a b (l, e). (omega (arith, l), e))
    (λ a b (l, ((c, at, same), q)). elim (below a n l) [ inl m ↦ (m, ((c, at, same), q)) | inr e ↦ absurd (other (ap (λ (z : Declaration). z.name.place) (some_is d c (sym there ∙ subst (λ (x : ℕ). slice_get ds x ≡ Some c) e at)) ∙ same)) ])

pub all_from : (ds : List Declaration) (n : ℕ) (place : Place) (to : ℕ) (old new : Graph) → n ≡ length ds → IsAdded (IsEdgeTo n ds place to) old new → IsAdded (IsEdgeFrom ds place to) old new
all_from ds n place to old new long = same_added (IsEdgeTo n ds place to) (IsEdgeFrom ds place to) old new (λ a b (l, e). e) (λ a b ((d, at, same), q). (let l = there_within ds a d at in omega arith, ((d, at, same), q)))

never_there : NoneIsBeforeItself → (ds : List Declaration) (i k : ℕ) (d e : Declaration) → AreInOrderTo (length ds) ds → i < k → slice_get ds i ≡ Some d → slice_get ds k ≡ Some e → d.name.place ≡ e.name.place → ⊥
never_there never ds i k d e order l first second same = never e.name.place (subst (λ (p : Place). IsBefore p e.name.place) same (order i k d e l (there_within ds k e second) first second))

-- in order one place has one declaration
one_at : NoneIsBeforeItself → (ds : List Declaration) (place : Place) (i k : ℕ) → AreInOrderTo (length ds) ds → IsAt ds place i → IsAt ds place k → i ≡ k
one_at never ds place i k order (d, first, same) (e, second, too) = elim (below_or i k) [
  | inl l ↦ absurd (never_there never ds i k d e order l first second (same ∙ sym too))
  | inr (inl p) ↦ p
  | inr (inr l) ↦ absurd (never_there never ds k i e d order l second first (too ∙ sym same))
]

pub from_one : NoneIsBeforeItself → (ds : List Declaration) (place : Place) (to k : ℕ) (old new : Graph) → AreInOrderTo (length ds) ds → IsAt ds place k → IsAdded (IsEdge k to) old new → IsAdded (IsEdgeFrom ds place to) old new
from_one never ds place to k old new order at = same_added (IsEdge k to) (IsEdgeFrom ds place to) old new
    (λ a b (p, q). (subst (IsAt ds place) (sym p) at, q))
    (λ a b (there, q). (one_at never ds place a k order there at, q))

-- ---- the edges that declarations give

pub adds_base : (ds : List Declaration) (k : ℕ) (d e : Declaration) (b : ℕ) (old new : Graph) → slice_get ds k ≡ Some d → base_of ds d ≡ Some e → IsNumber ds e b → IsAdded (IsEdge k b) old new → AddsEdges ds (IsBaseBy ds k) old new
adds_base ds k d e b old new there base number h = record {
  long = h.long;
  kept = h.kept;
  sound = λ x y edge. elim (h.only x y edge) [ inl o ↦ inl o | inr (p, q) ↦ inr (e, subst (IsNumber ds e) (sym q) number, (d, p, there, base)) ];
  whole = λ x f (c, p, at, other).
      let same : e ≡ f = some_is e f (sym base ∙ (ap (base_of ds) (some_is d c (sym there ∙ at)) ∙ other)) in
      (b, subst (λ (z : Declaration). IsNumber ds z b) same number, h.added x b (p, refl));
}

scope_is : (t : Bool) (s : Scope) (place : Place) → (if t then place_of s else None) ≡ Some place → IsTrue t × (s ≡ Part place)
scope_is false s place e = cc
scope_is true Files place e = cc
scope_is true (Part p) place e = (refl, ap Part (some_is p place e))

part_is : (p q : Place) → Part p ≡ Part q → p ≡ q
part_is p q e = cc

pub adds_component : (ds : List Declaration) (k : ℕ) (d e : Declaration) (place : Place) (b : ℕ) (old new : Graph) → slice_get ds k ≡ Some d → scope_of_instance d ≡ Some place → type_of ds d ≡ Some e → IsNumber ds e b → IsAdded (IsEdgeFrom ds place b) old new → AddsEdges ds (IsComponentBy ds k) old new
adds_component ds k d e place b old new there scope type number h =
    let s = scope_is (is_instance d.sort) d.scope place scope in
    record {
      long = h.long;
      kept = h.kept;
      sound = λ x y edge. elim (h.only x y edge) [
        | inl o ↦ inl o
        | inr ((owner, at, is), q) ↦ inr (e, subst (IsNumber ds e) (sym q) number, (d, owner, at, there, s.1 ∙ ap Part (sym is), s.0, type))
      ];
      whole = λ x f (c, owner, at, there_too, within, instance, other).
          let one : d ≡ c = some_is d c (sym there ∙ there_too) in
          let same : e ≡ f = some_is e f (sym type ∙ (ap (type_of ds) one ∙ other)) in
          let place_is : owner.name.place ≡ place = part_is owner.name.place place (sym within ∙ (ap (λ (z : Declaration). z.scope) (sym one) ∙ s.1)) in
          (b, subst (λ (z : Declaration). IsNumber ds z b) same number, h.added x b ((owner, at, place_is), refl));
    }

pub none_given : (ds : List Declaration) (g : Graph) → length g ≡ length ds → ((a b : ℕ) → HasEdge g a b → ⊥) → HasEdges ds (IsGivenBy 0 ds) g
none_given ds g long none = record {
  long = long;
  sound = λ a b e. absurd (none a b e);
  whole = λ a e (k, l, h). absurd (omega (arith, l));
}

pub more_given : (ds : List Declaration) (n : ℕ) (first second third : Graph) → HasEdges ds (IsGivenBy n ds) first → AddsEdges ds (IsBaseBy ds n) first second → AddsEdges ds (IsComponentBy ds n) second third → HasEdges ds (IsGivenBy (n + 1) ds) third
more_given ds n first second third h b c = record {
  long = c.long ∙ (b.long ∙ h.long);
  sound = λ x y edge. elim (c.sound x y edge) [
    | inl edge ↦ elim (b.sound x y edge) [
      | inl edge ↦ (let (e, number, (k, l, by)) = h.sound x y edge in (e, number, (k, omega (arith, l), by)))
      | inr (e, number, by) ↦ (e, number, (n, omega arith, inl by))
    ]
    | inr (e, number, by) ↦ (e, number, (n, omega arith, inr by))
  ];
  whole = λ x e (k, l, by). elim (below k n l) [
    | inl m ↦ (let (y, number, edge) = h.whole x e (k, m, by) in (y, number, c.kept x y (b.kept x y edge)))
    | inr p ↦ elim by [
      | inl base ↦ (let (y, number, edge) = b.whole x e (subst (λ (z : ℕ). IsBaseBy ds z x e) p base) in (y, number, c.kept x y edge))
      | inr component ↦ c.whole x e (subst (λ (z : ℕ). IsComponentBy ds z x e) p component)
    ]
  ];
}

sound_row : (ds : List Declaration) (a : ℕ) (d e : Declaration) → slice_get ds a ≡ Some d → IsGivenBy (length ds) ds a e → LeadsTo ds d e
sound_row ds a d e there (k, l, inl (c, p, at, base)) = ToBase e (subst (λ (z : Declaration). base_of ds z ≡ Some e) (some_is c d (sym at ∙ subst (λ (x : ℕ). slice_get ds x ≡ Some d) p there)) base)
sound_row ds a d e there (k, l, inr (i, owner, at, stands, within, instance, type)) =
    ToInstance i e (contains_there ds k i stands) (within ∙ ap (λ (z : Declaration). Part z.name.place) (some_is owner d (sym at ∙ there))) instance type

whole_row : (ds : List Declaration) (a : ℕ) (d e : Declaration) → slice_get ds a ≡ Some d → LeadsTo ds d e → IsGivenBy (length ds) ds a e
whole_row ds a d _ there (ToBase e base) = (a, there_within ds a d there, inl (d, refl, there, base))
whole_row ds a d _ there (ToInstance i e c within instance type) =
    (c.0, c.1, inr (i, d, there, read_there ds c.0 i c.1 c.2, within, instance, type))

pub are_rows : (ds : List Declaration) (n : ℕ) (g : Graph) → n ≡ length ds → HasEdges ds (IsGivenBy n ds) g → AreRows ds g
are_rows ds n g long given =
    let h : HasEdges ds (IsGivenBy (length ds) ds) g = subst (λ (m : ℕ). HasEdges ds (IsGivenBy m ds) g) long given in
    record {
      long = h.long;
      sound = λ i j d there edge. (let (e, number, by) = h.sound i j edge in (e, number, sound_row ds i d e there by));
      whole = λ i d e there leads. h.whole i e (whole_row ds i d e there leads);
    }

last_in : {X : Type 0} (xs : List X) (x y : X) (a : ℕ) → slice_get (xs ++ x ∷ []) a ≡ Some y → (slice_get xs a ≡ Some y) ⊎ (x ≡ y)
last_in [] x y zero e = inr (some_is x y e)
last_in [] x y (suc a) e = cc
last_in (z ∷ xs) x y zero e = inl e
last_in (z ∷ xs) x y (suc a) e = last_in xs x y a e

-- one more row without an edge
pub none_more : (g h : Graph) (v : Vec ℕ) → h ≡ g ++ v ∷ [] → v.items ≡ [] → ((a b : ℕ) → HasEdge g a b → ⊥) → (a b : ℕ) → HasEdge h a b → ⊥
none_more g h v e empty none a b (row, (u, at, is), i) = elim (last_in g v u a (subst (λ (x : Graph). slice_get x a ≡ Some u) e at)) [
  | inl there ↦ none a b (row, (u, there, is), i)
  | inr same ↦ subst (IsIn b) (sym is ∙ (ap (λ (x : Vec ℕ). x.items) (sym same) ∙ empty)) i
]

-- The first of the first n, one more at a time.
use Rattle.std.proofs.Common.{◌≡◌, ℕ, zero, suc, ◌+◌, ◌<◌, ◌⊎◌, inl, inr, refl, ap, ◌∙◌, sym, subst, List, [], ◌∷◌, Option, Some, None, length, get_or, arith}
use Rattle.std.specs.Prelude.{slice_get, Bool, false, IsTrue}
use Rattle.std.specs.List.{Contains}
use Rattle.pst_base.specs.declared.position.Place.{Place}
use Rattle.pst_base.specs.Places.{IsBefore}
use Rattle.pst_base.specs.Laws.{OneIsBefore, BeforeGoesOn}
use Rattle.pst_ast.specs.declared.scope_declaration.Declaration.{Declaration}
use Rattle.pst_ast.specs.declared.scope_declaration.Scope.TheVariants.{Files}
use Rattle.pst_ast.specs.declared.scope_declaration.Sort.TheVariants.{Component}
use Rattle.pst_ast.specs.declared.referent.Finding.{Finding}
use Rattle.pst_ast.specs.NameRules.{Reaches}
use Rattle.pst_loops.specs.First.{IsNotAfter, IsFirst, IsFirstOf, IsOnLoop, IsOnLoopWithin, IsFirstWithin, IsFirstOnLoop, IsEarlier, LeadsBack}

-- the same of those that are the same
same_first : (P Q : Declaration → Type 0) (found : Option Finding) → ((d : Declaration) → P d → Q d) → ((d : Declaration) → Q d → P d) → IsFirstOf P found → IsFirstOf Q found
same_first P Q None to from h = λ d q. h d (from d q)
same_first P Q (Some f) to from h = record {
  rule = h.rule;
  is = (let (d, p, e) = h.is in (d, to d p, e));
  first = λ d q. h.first d (from d q);
}

-- one more that is not before what was found
pub still_first : (P Q : Declaration → Type 0) (found : Finding) (place : Place) → ((d : Declaration) → P d → Q d) → ((d : Declaration) → Q d → P d ⊎ (d.name.place ≡ place)) → IsNotAfter found.place place → IsFirst P found → IsFirst Q found
still_first P Q f place to from after h = record {
  rule = h.rule;
  is = (let (d, p, e) = h.is in (d, to d p, e));
  first = λ d q. elim (from d q) [ inl p ↦ h.first d p | inr e ↦ subst (λ (z : Place). IsNotAfter f.place z) (sym e) after ];
}

-- one more that is before what was found
pub now_first : BeforeGoesOn → (P Q : Declaration → Type 0) (found : Option Finding) (n : Declaration) → Q n → ((d : Declaration) → Q d → P d ⊎ (d.name.place ≡ n.name.place)) → IsEarlier n.name.place found → IsFirstOf P found → IsFirst Q (record { place = n.name.place; rule = 5 })
now_first on P Q None n q from earlier h = record {
  rule = refl;
  is = (n, q, refl);
  first = λ d r. elim (from d r) [ inl p ↦ absurd (h d p) | inr e ↦ inr (sym e) ];
}
now_first on P Q (Some f) n q from earlier h = record {
  rule = refl;
  is = (n, q, refl);
  first = λ d r. elim (from d r) [
    | inl p ↦ inl (elim (h.first d p) [ inl b ↦ on n.name.place f.place d.name.place earlier b | inr e ↦ subst (λ (z : Place). IsBefore n.name.place z) e earlier ])
    | inr e ↦ inr (sym e)
  ];
}

one_more : (n : ℕ) (ds : List Declaration) (d : Declaration) → IsOnLoopWithin n ds d → IsOnLoopWithin (n + 1) ds d
one_more n ds d (k, l, there, back) = (k, omega arith, there, back)

pub below : (k n : ℕ) → k < n + 1 → (k < n) ⊎ (k ≡ n)
below zero zero l = inr refl
below zero (suc n) l = inl (omega arith)
below (suc k) zero l = absurd (omega arith)
below (suc k) (suc n) l = elim (below k n (omega arith)) [ inl s ↦ inl (omega arith) | inr e ↦ inr (ap suc e) ]

last_or : (n : ℕ) (ds : List Declaration) (d : Declaration) → IsOnLoopWithin (n + 1) ds d → IsOnLoopWithin n ds d ⊎ ((slice_get ds n ≡ Some d) × Reaches ds d d)
last_or n ds d (k, l, there, back) = elim (below k n l) [ inl s ↦ inl (k, s, there, back) | inr e ↦ inr (subst (λ (z : ℕ). slice_get ds z ≡ Some d) e there, back) ]

some_is : {X : Type 0} (x y : X) → Some x ≡ Some y → x ≡ y
some_is x y e = cc

-- it is not on a loop
pub passed : (n : ℕ) (ds : List Declaration) (n' : Declaration) (found : Option Finding) → slice_get ds n ≡ Some n' → (Reaches ds n' n' → ⊥) → IsFirstWithin n ds found → IsFirstWithin (n + 1) ds found
passed n ds x found there never h = same_first (IsOnLoopWithin n ds) (IsOnLoopWithin (n + 1) ds) found (one_more n ds)
    (λ d q. elim (last_or n ds d q) [ inl p ↦ p | inr (e, back) ↦ absurd (never (subst (λ (z : Declaration). Reaches ds z z) (some_is d x (sym e ∙ there)) back)) ]) h

same_place_too : (n : ℕ) (ds : List Declaration) (x d : Declaration) → slice_get ds n ≡ Some x → IsOnLoopWithin (n + 1) ds d → IsOnLoopWithin n ds d ⊎ (d.name.place ≡ x.name.place)
same_place_too n ds x d there q = elim (last_or n ds d q) [ inl p ↦ inl p | inr (e, back) ↦ inr (ap (λ (z : Declaration). z.name.place) (some_is d x (sym e ∙ there))) ]

not_after : OneIsBefore → (p q : Place) → (IsBefore q p → ⊥) → IsNotAfter p q
not_after one p q never = elim (one p q) [ inl b ↦ inl b | inr (inl e) ↦ inr e | inr (inr b) ↦ absurd (never b) ]

-- it is not before what was found
pub later : OneIsBefore → (n : ℕ) (ds : List Declaration) (x : Declaration) (found : Option Finding) → slice_get ds n ≡ Some x → (IsEarlier x.name.place found → ⊥) → IsFirstWithin n ds found → IsFirstWithin (n + 1) ds found
later one n ds x None there never h = absurd (never tt)
later one n ds x (Some f) there never h = still_first (IsOnLoopWithin n ds) (IsOnLoopWithin (n + 1) ds) f x.name.place (one_more n ds) (λ d. same_place_too n ds x d there) (not_after one f.place x.name.place never) h

-- it is on a loop and before what was found
pub taken : BeforeGoesOn → (n : ℕ) (ds : List Declaration) (x : Declaration) (found : Option Finding) → slice_get ds n ≡ Some x → Reaches ds x x → IsEarlier x.name.place found → IsFirstWithin n ds found → IsFirstWithin (n + 1) ds (Some (record { place = x.name.place; rule = 5 }))
taken on n ds x found there back earlier h = now_first on (IsOnLoopWithin n ds) (IsOnLoopWithin (n + 1) ds) found x (n, omega arith, there, back) (λ d. same_place_too n ds x d there) earlier h

pub read_there : (ds : List Declaration) (k : ℕ) (d : Declaration) → k < length ds → get_or ds k d ≡ d → slice_get ds k ≡ Some d
read_there [] k d l e = absurd (omega arith)
read_there (x ∷ ds) zero d l e = ap Some e
read_there (x ∷ ds) (suc k) d l e = read_there ds k d (omega arith) e

pub contains_there : (ds : List Declaration) (k : ℕ) (d : Declaration) → slice_get ds k ≡ Some d → Contains ds d
contains_there [] k d e = cc
contains_there (x ∷ ds) zero d e = (0, omega arith, some_is x d e)
contains_there (x ∷ ds) (suc k) d e = let c = contains_there ds k d e in (suc c.0, omega (arith, c.1), c.2)

-- all are among the first n
pub whole : (ds : List Declaration) (found : Option Finding) → IsFirstWithin (length ds) ds found → IsFirstOnLoop ds found
whole ds found h = same_first (IsOnLoopWithin (length ds) ds) (IsOnLoop ds) found
    (λ d (k, l, there, back). (contains_there ds k d there, back))
    (λ d (c, back). (c.0, c.1, read_there ds c.0 d c.1 c.2, back)) h

pub none_yet : (ds : List Declaration) → IsFirstWithin 0 ds None
none_yet ds d (k, l, there, back) = omega (arith, l)

pub not_true : (b : Bool) → b ≡ false → IsTrue b → ⊥
not_true b e t = cc

-- where one stands there, the others that stand there are the same
pub each_back : (ds : List Declaration) (k : ℕ) (d : Declaration) → slice_get ds k ≡ Some d → Reaches ds d d → LeadsBack ds k
each_back ds k d there back x e = subst (λ (z : Declaration). Reaches ds z z) (some_is d x (sym there ∙ e)) back

-- what a read gives where nothing is to be read
abbrev pub blank : Declaration
blank = record { name = record { id = record { 0 = 0 }; place = record { file = 0; line = 0; column = 0 } }; scope = Files; inside = None; sort = Component }

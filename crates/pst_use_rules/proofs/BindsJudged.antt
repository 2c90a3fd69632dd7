-- What is found of binds is the least of what they break.
use Rattle.std.proofs.Common.{◌≡◌, ◌≢◌, ◌⊎◌, inl, inr, ⊎_elim, ℕ, nat_eq, Bool, true, false, not, ◌&&◌, List, Option, refl, sym, ap, subst, ◌∙◌, true≢false}
use Rattle.std.proofs.lemmas.Bool.Decides.{eqb_tells}
use Rattle.std.specs.Prelude.{Some, None, Contains}
use Rattle.pst_base.specs.declared.position.Place.{Place}
use Rattle.pst_base.specs.declared.table.NameId.{NameId}
use Rattle.pst_base.specs.Laws.{BeforeGoesOn}
use Rattle.pst_ast.specs.declared.leaf.Name.{Name}
use Rattle.pst_ast.specs.declared.activity.EndNode.{EndNode}
use Rattle.pst_ast.specs.DeclarationTree.{UnitTree}
use Rattle.pst_ast.specs.declared.scope_declaration.Declaration.{Declaration}
use Rattle.pst_ast.specs.declared.environment.Environment.{Environment}
use Rattle.pst_ast.specs.declared.referent.Checked.{Checked}
use Rattle.pst_ast.specs.declared.referent.Checked.TheVariants.{Is, Breaks}
use Rattle.pst_ast.specs.declared.referent.Finding.{Finding}
use Rattle.pst_ast.specs.declared.referent.Target.{Target}
use Rattle.pst_ast.specs.contracts.scope_declaration.DeclarationPartialEq.TheImpl as declaration
use Rattle.pst_ast.specs.contracts.scope_declaration.DeclarationEq.TheImpl.Laws.{laws-law}
use Rattle.pst_ast.specs.Declarations.{declarations}
use Rattle.pst_ast.specs.Lookups.{type_of}
use Rattle.pst_ast.specs.NameRules.{unless, named_in, target_of}
use Rattle.pst_ast.specs.Sorts.{same_name, is_pool}
use Rattle.pst_ast.specs.Uses.{Ties, Targets}
use Rattle.pst_loops.proofs.Same.{same_declaration}
use Rattle.pst_type_rules.specs.Binds.{reference_at, is_output, is_input, AreEnds}
use Rattle.pst_type_rules.specs.TypeRules.{UseBreaks, UnfitEnds, OneHandle, OtherObject, first_name}
use Rattle.pst_name_rules.specs.Leasts.{IsLeastOf}
use Rattle.pst_use_rules.specs.Found.{is_same, are_ends, end_found, ties_found, agree, target_agrees, targets_found}
use Rattle.pst_use_rules.specs.Laws.{BindsAreJudged, IsBroken}
use Rattle.pst_use_rules.proofs.Told.{at, of_one, of_each, unless_is, is_unless, none_not, and_off, off_and, not_off, off_not, on_and, and_on}

same_on : (a b : NameId) → a ≡ b → same_name a b ≡ true
same_on a b e = ⊎_elim (λ t. t.0) (λ f. absurd (f.1 (ap (λ (n : NameId). n.0) e))) (eqb_tells a.0 b.0)

on_same : (a b : NameId) → same_name a b ≡ true → a ≡ b
on_same a b e = ap (λ (n : ℕ). record { 0 = n }) (⊎_elim (λ t. t.1) (λ f. absurd (true≢false (sym e ∙ f.0))) (eqb_tells a.0 b.0))

-- ---- declarations that are the same

same_both : (a b : Option Declaration) → is_same a b ≡ true → (t : Declaration) × (a ≡ Some t) × (b ≡ Some t)
same_both None b e = absurd (true≢false (sym e))
same_both (Some x) None e = absurd (true≢false (sym e))
same_both (Some x) (Some y) e = (x, refl, ap Some (sym (same_declaration x y e)))

both_same : (a b : Option Declaration) (t : Declaration) → a ≡ Some t → b ≡ Some t → is_same a b ≡ true
both_same a b t p q = ap (λ (o : Option Declaration). is_same o b) p ∙ ap (is_same (Some t)) q ∙ laws-law.refl t

-- ---- ends

module _ (ds : List Declaration) where
  ends_on : (x y : Declaration) → AreEnds ds x y → are_ends ds (Some x) (Some y) ≡ true
  ends_on x y e = and_on (is_output x.sort) (is_input y.sort && is_same (type_of ds x) (type_of ds y)) e.gives (and_on (is_input y.sort) (is_same (type_of ds x) (type_of ds y)) e.takes (both_same (type_of ds x) (type_of ds y) e.type e.given e.taken))

  on_ends : (x y : Declaration) → are_ends ds (Some x) (Some y) ≡ true → AreEnds ds x y
  on_ends x y e =
      let p = on_and (is_output x.sort) (is_input y.sort && is_same (type_of ds x) (type_of ds y)) e in
      let q = on_and (is_input y.sort) (is_same (type_of ds x) (type_of ds y)) p.1 in
      let t = same_both (type_of ds x) (type_of ds y) q.1 in
      record { gives = p.0; takes = q.0; type = t.0; given = t.1; taken = t.2 }

  unfit : (a b : Option Declaration) → are_ends ds a b ≡ false → (x : Declaration) × (y : Declaration) × (a ≡ Some x) × (b ≡ Some y) × (AreEnds ds x y → ⊥)
  unfit None b e = absurd (true≢false e)
  unfit (Some x) None e = absurd (true≢false e)
  unfit (Some x) (Some y) e = (x, y, refl, refl, λ are. true≢false (sym (ends_on x y are) ∙ e))

  off_ends : (x y : Declaration) (test : Bool) → are_ends ds (Some x) (Some y) ≡ test → (AreEnds ds x y → ⊥) → test ≡ false
  off_ends x y true e never = absurd (never (on_ends x y e))
  off_ends x y false e never = refl

module _ (on : BeforeGoesOn) (units : List UnitTree) (names : List (List ℕ)) (here : Environment) (first : EndNode) (others : List EndNode) where
  abbrev ds : List Declaration
  ds = declarations units

  abbrev referred : EndNode → Option Declaration
  referred end = reference_at ds names here end

  abbrev fits : EndNode → Bool
  fits other = are_ends ds (referred first) (referred other)

  abbrev one : EndNode → Bool
  one other = same_name first.handle.id other.handle.id

  abbrev Broken : Finding → Type 0
  Broken f = IsBroken units names (Ties here first others) f

  end_broken : (other : EndNode) (f : Finding) → Contains others other → end_found ds names here first other ≡ Some f → Broken f
  end_broken other f among is =
      let (off, at_it) = unless_is (fits other && not (one other)) other.handle.place 20 f is in
      subst Broken (sym at_it) (⊎_elim
      (λ l. let (x, y, a, b, never) = unfit ds (referred first) (referred other) l in UnfitEnds here first other others x y among a b never)
      (λ r. OneHandle here first other others among (on_same first.handle.id other.handle.id (not_off (one other) r)))
      (and_off (fits other) (not (one other)) off))

  told_end : (place : Place) (rule : ℕ) → UseBreaks units names (Ties here first others) place rule → (other : EndNode) × Contains others other × (end_found ds names here first other ≡ Some (at place rule))
  told_end place rule (UnfitEnds env f other os x y among a b never) = (
    other,
    among,
    is_unless (fits other && not (one other)) other.handle.place 20 (off_and (fits other) (not (one other))
        (inl (ap (λ (o : Option Declaration). are_ends ds o (referred other)) a ∙ ap (are_ends ds (Some x)) b ∙ off_ends ds x y (are_ends ds (Some x) (Some y)) refl never))),
  )
  told_end place rule (OneHandle env f other os among same) =
      (other, among, is_unless (fits other && not (one other)) other.handle.place 20 (off_and (fits other) (not (one other)) (inr (off_not (one other) (same_on first.handle.id other.handle.id same)))))

  pub ties : IsLeastOf Broken (ties_found ds names here first others)
  ties = of_each on (end_found ds names here first) others Broken end_broken (λ f has. told_end f.place f.rule has)

-- ---- targets

disagree : (a b : Option Declaration) → agree a b ≡ false → (x : Declaration) × (y : Declaration) × (a ≡ Some x) × (b ≡ Some y) × (x ≢ y)
disagree None b e = absurd (true≢false e)
disagree (Some x) None e = absurd (true≢false e)
disagree (Some x) (Some y) e = (x, y, refl, refl, λ same. true≢false (sym (ap (declaration.eq-value.it x) (sym same) ∙ laws-law.refl x) ∙ e))

differing : (x y : Declaration) (test : Bool) → declaration.eq-value.it x y ≡ test → x ≢ y → test ≡ false
differing x y true e never = absurd (never (same_declaration x y e))
differing x y false e never = refl

target_off : (all : List Declaration) (pool : Option Declaration) (target : Checked Target) → target_agrees all pool target ≡ false
    → (p : Declaration) × (t : Target) × (pool ≡ Some p) × (target ≡ Is t) × (agree (type_of all p) (type_of all t.need) ≡ false)
target_off all None target e = absurd (true≢false e)
target_off all (Some p) (Breaks place rule) e = absurd (true≢false e)
target_off all (Some p) (Is t) e = (p, t, refl, refl, e)

module _ (units : List UnitTree) (names : List (List ℕ)) (component : Place) (pool : Name) (instances : List Name) (action reference : Name) where
  abbrev declared : List Declaration
  declared = declarations units

  abbrev good : Bool
  good = target_agrees declared (named_in declared component is_pool pool) (target_of declared component instances action reference)

  abbrev BrokenTarget : Finding → Type 0
  BrokenTarget f = IsBroken units names (Targets component pool instances action reference) f

  target_broken : good ≡ false → BrokenTarget (at (first_name instances action).place 20)
  target_broken off =
      let (p, t, named, is, never) = target_off declared (named_in declared component is_pool pool) (target_of declared component instances action reference) off in
      let (x, y, a, b, differ) = disagree (type_of declared p) (type_of declared t.need) never in
      OtherObject component pool instances action reference p x y t named is a b differ

  told_target : (place : Place) (rule : ℕ) → UseBreaks units names (Targets component pool instances action reference) place rule → (good ≡ false) × (at place rule ≡ at (first_name instances action).place 20)
  told_target place rule (OtherObject c po i ac re p x y t named is a b differ) = (
    ap (λ (o : Option Declaration). target_agrees declared o (target_of declared component instances action reference)) named ∙ ap (target_agrees declared (Some p)) is
        ∙ ap (λ (o : Option Declaration). agree o (type_of declared t.need)) a ∙ ap (agree (Some x)) b ∙ differing x y (declaration.eq-value.it x y) refl differ,
    refl,
  )

  pub targets : IsLeastOf BrokenTarget (targets_found declared component pool instances action reference)
  targets = of_one BrokenTarget good (first_name instances action).place 20 target_broken (λ f has. told_target f.place f.rule has)

pub binds_are_judged : BeforeGoesOn → BindsAreJudged
binds_are_judged on units names = (ties on units names, targets units names)

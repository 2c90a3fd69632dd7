-- The least of what declarations break, one after another.
use Rattle.std.proofs.lemmas.List.{take_more}
use Rattle.std.proofs.Common.{◌≡◌, ◌+◌, ◌<◌, take, get_or, length, ◌⊎◌, inl, inr, ⊎_elim, Bool, true, false, List, [], ◌∷◌, ◌++◌, Option, refl, sym, ap, subst, ◌∙◌}
use Rattle.std.specs.Prelude.{ℕ, Some, None, Contains, map}
use Rattle.pst_declaration_rules.specs.declared.counted.Kind.TheVariants.{Claim, Field, Reference}
use Rattle.pst_declaration_rules.specs.Counted.{total}
use Rattle.std.proofs.lemmas.List.Elements.{Contains-append_left, Contains-push, Contains-push_cases}
use Rattle.pst_base.specs.Laws.{BeforeGoesOn}
use Rattle.pst_ast.specs.declared.scope_declaration.Declaration.{Declaration}
use Rattle.pst_ast.specs.declared.referent.Finding.{Finding}
use Rattle.pst_ast.specs.Lookups.{base_of}
use Rattle.pst_type_rules.specs.Members.{AreMembers, WithoutBase, WithBase, own_members}
use Rattle.pst_name_rules.specs.Earlier.{earlier}
use Rattle.pst_name_rules.specs.Leasts.{IsIn, IsLeastOf, least_at}
use Rattle.pst_name_rules.proofs.Leasts.{least_in, least_of_both, told}
use Rattle.pst_declaration_rules.specs.declared.sources.TypeSources.{TypeSources}
use Rattle.pst_declaration_rules.specs.declared.tally.Tally.{Tally}
use Rattle.pst_declaration_rules.specs.Judged.{BreaksItself, IsJudged, IsOwnFinding, findings_at, least_finding}
use Rattle.pst_declaration_rules.specs.Tallied.{AreInherited, adding, IsStart, NoBase, OfBase}
use Rattle.pst_enum_rules.proofs.LeastOfEach.{none_in}
use Rattle.pst_declaration_rules.proofs.Tallying.{none_is_some, some_is}

-- ---- a type has one list of members

pub members_one : (ds : List Declaration) (d e : Declaration) (ms ns : List Declaration) → AreMembers ds d ms → AreMembers ds e ns → d ≡ e → ms ≡ ns
members_one ds _ _ _ _ (WithoutBase d a) (WithoutBase e b) same = ap (own_members ds) same
members_one ds _ _ _ _ (WithoutBase d a) (WithBase e base ns b has) same = absurd (none_is_some base (sym a ∙ (ap (base_of ds) same ∙ b)))
members_one ds _ _ _ _ (WithBase d base ms a has) (WithoutBase e b) same = absurd (none_is_some base (sym b ∙ (ap (base_of ds) (sym same) ∙ a)))
members_one ds _ _ _ _ (WithBase d base ms a has) (WithBase e other ns b has_other) same =
    ap (λ (xs : List Declaration). xs ++ own_members ds d) (members_one ds base other ms ns has has_other (some_is base other (sym a ∙ (ap (base_of ds) same ∙ b))))
    ∙ ap (λ (x : Declaration). ns ++ own_members ds x) same

module _ (k : TypeSources) (d : Declaration) where
  pub inherited_one : (ms ns : List Declaration) → AreInherited k d ms → AreInherited k d ns → ms ≡ ns
  inherited_one _ _ (NoBase a) (NoBase b) = refl
  inherited_one _ _ (NoBase a) (OfBase base ns b has) = absurd (none_is_some base (sym a ∙ b))
  inherited_one _ _ (OfBase base ms a has) (NoBase b) = absurd (none_is_some base (sym b ∙ a))
  inherited_one _ _ (OfBase base ms a has) (OfBase other ns b has_other) = members_one k.index.now base other ms ns has has_other (some_is base other (sym a ∙ b))

  one_answer : (a b : Bool) → (a ≡ true → b ≡ true) → (b ≡ true → a ≡ true) → a ≡ b
  one_answer true b to from = sym (to refl)
  one_answer false true to from = from refl
  one_answer false false to from = refl

  same_tally : (t u : Tally) → t.references ≡ u.references → t.claims ≡ u.claims → t.fields ≡ u.fields → t.compound ≡ u.compound → t.twofold ≡ u.twofold → t ≡ u
  same_tally t u r c f b w =
      ap (λ (x : Option ℕ). record { references = x; claims = t.claims; fields = t.fields; compound = t.compound; twofold = t.twofold }) r
      ∙ (ap (λ (x : Option ℕ). record { references = u.references; claims = x; fields = t.fields; compound = t.compound; twofold = t.twofold }) c
      ∙ (ap (λ (x : Option ℕ). record { references = u.references; claims = u.claims; fields = x; compound = t.compound; twofold = t.twofold }) f
      ∙ (ap (λ (x : Bool). record { references = u.references; claims = u.claims; fields = u.fields; compound = x; twofold = t.twofold }) b
      ∙ ap (λ (x : Bool). record { references = u.references; claims = u.claims; fields = u.fields; compound = u.compound; twofold = x }) w)))

  start_one : (t u : Tally) → IsStart k d t → IsStart k d u → t ≡ u
  start_one t u a b =
      let same = inherited_one a.members b.members a.are b.are in
      same_tally t u
      (a.totals.references ∙ (ap (λ (ms : List Declaration). total Reference (Some 0) (map (adding k) ms)) same ∙ sym b.totals.references))
      (a.totals.claims ∙ (ap (λ (ms : List Declaration). total Claim (Some 0) (map (adding k) ms)) same ∙ sym b.totals.claims))
      (a.totals.fields ∙ (ap (λ (ms : List Declaration). total Field (Some 0) (map (adding k) ms)) same ∙ sym b.totals.fields))
      (one_answer t.compound u.compound (λ so. b.compound.1 (a.compound.0 so)) (λ so. a.compound.1 (b.compound.0 so)))
      (one_answer t.twofold u.twofold (λ so. b.twofold.1 (a.twofold.0 so)) (λ so. a.twofold.1 (b.twofold.0 so)))

  own_least : BeforeGoesOn → (found : Option Finding) → IsOwnFinding k d found → IsLeastOf (BreaksItself k d) found
  unfolding least_finding
  own_least on found (t, start, is) =
      subst (IsLeastOf (BreaksItself k d)) (sym is)
      (told on (λ f. ⊥ ⊎ IsIn (λ o. o) (findings_at k d t) f) (BreaksItself k d) (least_at (λ o. o) (findings_at k d t) None)
      (λ f has. ⊎_elim (λ out. absurd out) (λ there. (t, start, there)) has)
      (λ f (has : BreaksItself k d f). inr (subst (λ (v : Tally). IsIn (λ o. o) (findings_at k d v) f) (start_one has.0 t has.1 start) has.2))
      (least_in on (λ o. o) (findings_at k d t) (λ f. ⊥) None (λ f out. out)))

module _ (k : TypeSources) where
  abbrev Breach : List Declaration → Finding → Type 0
  Breach ds f = (d : Declaration) × Contains ds d × BreaksItself k d f

  pub judged_none : IsJudged k [] None
  judged_none = record { is_least = λ f (has : Breach [] f). none_in has.0 has.1; starts = λ d among. absurd (none_in d among) }

  pub judged_more : BeforeGoesOn → (front : List Declaration) (d : Declaration) (least found : Option Finding) → IsJudged k front least → IsOwnFinding k d found → IsJudged k (front ++ d ∷ []) (earlier least found)
  judged_more on front d least found judged own = record {
    is_least =
        told on (λ f. Breach front f ⊎ BreaksItself k d f) (Breach (front ++ d ∷ [])) (earlier least found)
        (λ f has. ⊎_elim (λ (there : Breach front f). (there.0, Contains-append_left front (d ∷ []) there.0 there.1, there.2)) (λ here. (d, Contains-push front d, here)) has)
        (λ f (has : Breach (front ++ d ∷ []) f). ⊎_elim (λ there. inl (has.0, there, has.2)) (λ same. inr (subst (λ (e : Declaration). BreaksItself k e f) (sym same) has.2)) (Contains-push_cases front d has.0 has.1))
        (least_of_both on (Breach front) (BreaksItself k d) least found judged.is_least (own_least k d on found own));
    starts = λ e among. ⊎_elim
        (λ there. judged.starts e there)
        (λ same. subst (λ (x : Declaration). (start : Tally) × IsStart k x start) same (own.0, own.1))
        (Contains-push_cases front d e among);
  }

  pub judged_next : BeforeGoesOn → (ds : List Declaration) (n : ℕ) (other : Declaration) (least found all : Option Finding) → n < length ds → IsJudged k (take n ds) least → IsOwnFinding k (get_or ds n other) found
      → all ≡ earlier least found → IsJudged k (take (n + 1) ds) all
  judged_next on ds n other least found all within judged own is =
      let one_more : take (n + 1) ds ≡ take n ds ++ get_or ds n other ∷ [] = take_more ds n other within in
      subst (λ (xs : List Declaration). IsJudged k xs all) (sym one_more)
      (subst (IsJudged k (take n ds ++ get_or ds n other ∷ [])) (sym is) (judged_more on (take n ds) (get_or ds n other) least found judged own))

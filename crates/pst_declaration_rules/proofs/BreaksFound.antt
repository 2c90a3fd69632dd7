-- What a declaration breaks is found, of it or of one of its bases.
use Rattle.std.proofs.Common.{◌≡◌, ◌⊎◌, inl, inr, ⊎_elim, ℕ, ◌+◌, ◌<◌, ◌≤◌, Bool, true, false, ◌&&◌, ◌||◌, List, [], ◌∷◌, ◌++◌, map, length, Option, refl, sym, ap, subst, ◌∙◌, true≢false}
use Rattle.std.specs.Prelude.{Some, None, Contains, if◌then◌else◌}
use Rattle.std.specs.Bool.{beq}
use Rattle.std.specs.List.{filter}
use Rattle.std.specs.Option.{option_map_or}
use Rattle.pst_base.specs.declared.position.Place.{Place}
use Rattle.pst_ast.specs.declared.shared.TypeName.{TypeName}
use Rattle.pst_ast.specs.declared.scope_declaration.Declaration.{Declaration}
use Rattle.pst_ast.specs.declared.scope_declaration.Sort.{Sort}
use Rattle.pst_ast.specs.declared.scope_declaration.Sort.TheVariants as sort
use Rattle.pst_ast.specs.declared.referent.Finding.{Finding}
use Rattle.pst_ast.specs.Declarations.{declarations}
use Rattle.pst_ast.specs.Lookups.{type_in, type_of}
use Rattle.pst_ast.specs.NameRules.{finding}
use Rattle.pst_ast.specs.Sorts.{is_claim, is_field, is_item, is_need, is_reference, is_resource, same_place}
use Rattle.pst_type_rules.specs.Limits.{AddTogether, AddsFields, Claims, IsLimited, Items, Locals, Parameters, References, is_local, is_local_of, is_parameter}
use Rattle.pst_type_rules.specs.Members.{AreMembers, WithoutBase, WithBase, own_members, those_that}
use Rattle.pst_type_rules.specs.TypeRules.{ClaimOfNoResource, CompoundWithNeed, DeclarationBreaks, ManyFields, ReferenceOfResource, TooMany, Twofold}
use Rattle.pst_model.specs.Limits.{most_fields}
use Rattle.pst_evaluate.specs.Laws.{ConstantsAreFound}
use Rattle.pst_name_rules.specs.Leasts.{IsIn}
use Rattle.pst_declaration_rules.specs.declared.counted.Kind.{Kind}
use Rattle.pst_declaration_rules.specs.declared.counted.Kind.TheVariants as kind
use Rattle.pst_declaration_rules.specs.declared.sources.TypeSources.{TypeSources}
use Rattle.pst_declaration_rules.specs.declared.tally.Tally.{Tally}
use Rattle.pst_declaration_rules.specs.Counted.{over, total}
use Rattle.pst_declaration_rules.specs.Findings.{activity_finding, findings, is_positive, resource_by, resource_finding}
use Rattle.pst_declaration_rules.specs.Judged.{BreaksItself, findings_at, locals_of, own_of, shape_in}
use Rattle.pst_declaration_rules.specs.Tallies.{with_own}
use Rattle.pst_declaration_rules.specs.Tallied.{AreKnown, IsStart, NoBase, OfBase, adding, units_of}
use Rattle.pst_declaration_rules.proofs.BasesFound.{base_there}
use Rattle.pst_declaration_rules.proofs.FieldsCounted.{adds_from, apart}
use Rattle.pst_declaration_rules.proofs.Judging.{inherited_one, members_one}
use Rattle.pst_declaration_rules.proofs.Needs.{one_there}
use Rattle.pst_declaration_rules.proofs.Overrun.{finds, over_cases, too_many}
use Rattle.pst_declaration_rules.proofs.Splits.{filter_again, was_split}
use Rattle.pst_declaration_rules.proofs.Tallying.{map_both, some_is, tallied}

or_left : (a b : Bool) → a ≡ true → (a || b) ≡ true
or_left true b e = refl
or_left false b e = absurd (true≢false (sym e))

or_right : (a b : Bool) → b ≡ true → (a || b) ≡ true
or_right true b e = refl
or_right false b e = e

both_are : (a b : Bool) → a ≡ true → b ≡ true → (a && b) ≡ true
both_are true b p q = q
both_are false b p q = absurd (true≢false (sym p))

local_so : (d x : Declaration) → is_local_of d x ≡ true → is_local x.sort ≡ true
local_so d x e = by (is_local x.sort) e
  where
    by : (b : Bool) → (b && option_map_or (same_place d.name.place) x.inside false) ≡ true → b ≡ true
    by true e = refl
    by false e = e

-- ---- where findings stand

module _ (k : TypeSources) (d : Declaration) (t : Tally) (f : Finding) where
  abbrev IsThere : Type 0
  IsThere = IsIn (λ o. o) (findings_at k d t) f

  at_items : over kind.Item (Some 0) (own_of k d) ≡ Some f → IsThere
  unfolding findings
  at_items e = inl e

  at_parameters : over kind.Parameter (Some 0) (own_of k d) ≡ Some f → IsThere
  unfolding findings
  at_parameters e = inr (inl e)

  at_locals : over kind.Local (Some 0) (locals_of k d) ≡ Some f → IsThere
  unfolding findings
  at_locals e = inr (inr (inl e))

  at_references : over kind.Reference t.references (own_of k d) ≡ Some f → IsThere
  unfolding findings
  at_references e = inr (inr (inr (inl e)))

  at_claims : over kind.Claim t.claims (own_of k d) ≡ Some f → IsThere
  unfolding findings
  at_claims e = inr (inr (inr (inr (inl e))))

  at_fields : over kind.Field t.fields (own_of k d) ≡ Some f → IsThere
  unfolding findings
  at_fields e = inr (inr (inr (inr (inr (inl e)))))

  at_resource : resource_finding k.index.now d ≡ Some f → IsThere
  unfolding findings
  at_resource e = inr (inr (inr (inr (inr (inr (inl e))))))

  at_activity : activity_finding d.name.place (with_own t (own_of k d) (shape_in k d)) ≡ Some f → IsThere
  unfolding findings
  at_activity e = inr (inr (inr (inr (inr (inr (inr (inl e)))))))

module _ (k : TypeSources) (known : AreKnown k) (law : ConstantsAreFound) (starts : (d : Declaration) → Contains k.index.now d → (t : Tally) × IsStart k d t) where
  abbrev Itself : Finding → Type 0
  Itself f = (d : Declaration) × Contains k.index.now d × BreaksItself k d f

  -- ---- members that are counted with those of bases

  module _ (kd : Kind) (first : Tally → Option ℕ) (there : (d : Declaration) (t : Tally) (f : Finding) → over kd (first t) (own_of k d) ≡ Some f → IsIn (λ o. o) (findings_at k d t) f)
      (totals : (d : Declaration) (t : Tally) (s : IsStart k d t) → first t ≡ total kd (Some 0) (map (adding k) s.members)) where
    at_one : (d : Declaration) → Contains k.index.now d → (ms : List Declaration) (f : Finding) → ((t : Tally) (s : IsStart k d t) → s.members ≡ ms)
        → over kd (total kd (Some 0) (map (adding k) ms)) (own_of k d) ≡ Some f → Itself f
    at_one d among ms f same e =
        let (t, s) = starts d among in
        (d, among, (t, s, there d t f (ap (λ (o : Option ℕ). over kd o (own_of k d)) (totals d t s ∙ ap (λ (ns : List Declaration). total kd (Some 0) (map (adding k) ns)) (same t s)) ∙ e)))

    found_at : (d : Declaration) (members : List Declaration) → AreMembers k.index.now d members → Contains k.index.now d → (f : Finding) → over kd (Some 0) (map (adding k) members) ≡ Some f → Itself f
    found_at _ _ (WithoutBase d none) among f e = at_one d among [] f (λ t s. inherited_one k d s.members [] s.are (NoBase none)) e
    found_at _ _ (WithBase d base ms is are) among f e = ⊎_elim
        (λ h. found_at base ms are (base_there k.index.now d base is) f h)
        (λ h. at_one d among ms f (λ t s. inherited_one k d s.members ms s.are (OfBase base ms is are)) h)
        (over_cases kd (Some 0) (map (adding k) ms) (own_of k d) f (ap (over kd (Some 0)) (sym (map_both (adding k) ms (own_members k.index.now d))) ∙ e))

  module _ (d : Declaration) (among : Contains k.index.now d) where
    abbrev start : Tally
    start = (starts d among).0

    itself : (f : Finding) → IsIn (λ o. o) (findings_at k d start) f → Itself f
    itself f there = (d, among, (start, (starts d among).1, there))

    these : (members : List Declaration) → AreMembers (declarations (units_of k)) d members → AreMembers k.index.now d members
    these members are = subst (λ (ds : List Declaration). AreMembers ds d members) (sym known.declared) are

    too_many_found : (counted : List Declaration) (most : ℕ) → IsLimited (declarations (units_of k)) d counted most → (front more : List Declaration) (m : Declaration) → counted ≡ front ++ m ∷ more → length front ≡ most
        → Itself (record { place = m.name.place; rule = 12 })
    too_many_found _ _ Items front more m split count =
        let here = subst (λ (ds : List Declaration). those_that is_item (own_members ds d) ≡ front ++ m ∷ more) (sym known.declared) split in
        itself _ (at_items k d start _ (too_many kind.Item k (λ x. refl) (own_members k.index.now d) front more m here count))
    too_many_found _ _ Parameters front more m split count =
        let here = subst (λ (ds : List Declaration). those_that is_parameter (own_members ds d) ≡ front ++ m ∷ more) (sym known.declared) split in
        itself _ (at_parameters k d start _ (too_many kind.Parameter k (λ x. refl) (own_members k.index.now d) front more m here count))
    too_many_found _ _ Locals front more m split count =
        let here = subst (λ (ds : List Declaration). filter (is_local_of d) ds ≡ front ++ m ∷ more) (sym known.declared) split in
        itself _ (at_locals k d start _ (too_many kind.Local k (λ x. refl) (filter (is_local_of d) k.index.now) front more m
        (filter_again (λ x. is_local x.sort) (is_local_of d) (local_so d) k.index.now ∙ here) count))
    too_many_found _ _ (References members are) front more m split count =
        found_at kind.Reference (λ t. t.references) (λ e t f h. at_references k e t f h) (λ e t s. s.totals.references) d members (these members are) among _
        (too_many kind.Reference k (λ x. refl) members front more m split count)
    too_many_found _ _ (Claims members are) front more m split count =
        found_at kind.Claim (λ t. t.claims) (λ e t f h. at_claims k e t f h) (λ e t s. s.totals.claims) d members (these members are) among _
        (too_many kind.Claim k (λ x. refl) members front more m split count)

    many_fields_found : (members front more : List Declaration) (m : Declaration) (n j : ℕ) → AreMembers (declarations (units_of k)) d members → those_that is_field members ≡ front ++ m ∷ more
        → AddTogether (units_of k) k.names.now front n → AddsFields (units_of k) k.names.now m j → n ≤ most_fields → most_fields < n + j → Itself (record { place = m.name.place; rule = 12 })
    many_fields_found members front more m n j are split together adds few many =
        let r = was_split (λ x. is_field x.sort) members front more m split in
        found_at kind.Field (λ t. t.fields) (λ e t f h. at_fields k e t f h) (λ e t s. s.totals.fields) d members (these members are) among _
        (ap (λ (xs : List Declaration). over kind.Field (Some 0) (map (adding k) xs)) r.split
        ∙ finds kind.Field k (Some 0) r.before r.behind m (record {
          sum = n;
          added = j;
          sum_is = apart k known law r.before n (subst (λ (ds : List Declaration). AddTogether (units_of k) k.names.now ds n) (sym r.kept) together) few;
          added_is = adds_from k known law m j r.passes adds;
          few = few;
          many = many;
        }))

    -- ---- types of references and claims

    reference_of : (s : Sort) (name : TypeName) (type : Declaration) → is_reference s ≡ true → type_in s ≡ Some name → is_resource type.sort ≡ true → resource_by s (Some type) ≡ finding name.first.place 15
    reference_of (sort.Reference of output) name type is in_sort resource =
        ap (λ (b : Bool). if beq b false then None else finding of.first.place 15) resource ∙ ap (λ (n : TypeName). finding n.first.place 15) (some_is of name in_sort)
    reference_of _ name type is in_sort resource = absurd (true≢false (sym is))

    claim_of : (s : Sort) (name : TypeName) (type : Declaration) → is_claim s ≡ true → type_in s ≡ Some name → is_resource type.sort ≡ false → resource_by s (Some type) ≡ finding name.first.place 15
    claim_of (sort.Claim of) name type is in_sort resource =
        ap (λ (b : Bool). if beq b true then None else finding of.first.place 15) resource ∙ ap (λ (n : TypeName). finding n.first.place 15) (some_is of name in_sort)
    claim_of _ name type is in_sort resource = absurd (true≢false (sym is))

    type_here : (type : Declaration) → type_of (declarations (units_of k)) d ≡ Some type → resource_finding k.index.now d ≡ resource_by d.sort (Some type)
    type_here type is = ap (λ (ds : List Declaration). resource_by d.sort (type_of ds d)) known.declared ∙ ap (resource_by d.sort) is

    -- ---- activities

    abbrev all : Tally
    all = with_own start (own_of k d) (shape_in k d)

    sixteen : (all.twofold || (all.compound && (is_positive all.references || is_positive all.claims))) ≡ true → Itself (record { place = d.name.place; rule = 16 })
    sixteen so = itself _ (at_activity k d start _ (ap (λ (b : Bool). if b then finding d.name.place 16 else None) so))

    need_cases : (s : Sort) → is_need s ≡ true → (is_reference s ≡ true) ⊎ (is_claim s ≡ true)
    need_cases (sort.Reference of output) e = inl refl
    need_cases (sort.Claim of) e = inr refl
    need_cases _ e = absurd (true≢false (sym e))

    pub breaks_found : {p : Place} {rule : ℕ} → DeclarationBreaks (units_of k) k.names.now d p rule → Itself (record { place = p; rule = rule })
    breaks_found (TooMany counted front more m most limited split count) = too_many_found counted most limited front more m split count
    breaks_found (ManyFields members front more m n j are split together adds few many) = many_fields_found members front more m n j are split together adds few many
    breaks_found (ReferenceOfResource type name is in_sort of_type resource) = itself _ (at_resource k d start _ (type_here type of_type ∙ reference_of d.sort name type is in_sort resource))
    breaks_found (ClaimOfNoResource type name is in_sort of_type resource) = itself _ (at_resource k d start _ (type_here type of_type ∙ claim_of d.sort name type is in_sort resource))
    breaks_found (Twofold twofold) = sixteen (or_left all.twofold _ ((tallied k known d start (starts d among).1).twofold.1 twofold))
    breaks_found (CompoundWithNeed statements members m has are there need) =
        let it = tallied k known d start (starts d among).1 in
        let same : members ≡ it.members = members_one k.index.now d d members it.members (these members are) it.are refl in
        let in_it : Contains it.members m = subst (λ (ms : List Declaration). Contains ms m) same there in
        sixteen (or_right all.twofold _ (both_are all.compound _ (it.compound.1 (statements, has))
        (⊎_elim
        (λ r. or_left (is_positive all.references) _ (ap is_positive it.totals.references ∙ one_there kind.Reference k (λ x. refl) it.members m in_it r))
        (λ c. or_right (is_positive all.references) (is_positive all.claims) (ap is_positive it.totals.claims ∙ one_there kind.Claim k (λ x. refl) it.members m in_it c))
        (need_cases m.sort need))))

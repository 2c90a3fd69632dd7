-- What is found of a declaration, it breaks.
use Rattle.std.proofs.Common.{◌≡◌, ◌⊎◌, inl, inr, ⊎_elim, ℕ, Bool, true, false, ◌&&◌, ◌||◌, cond, List, ◌∷◌, ◌++◌, append_assoc, map, length, Option, refl, sym, ap, subst, ◌∙◌, arith, true≢false}
use Rattle.std.specs.Prelude.{Some, None, if◌then◌else◌}
use Rattle.std.specs.Bool.{beq}
use Rattle.std.specs.List.{filter}
use Rattle.std.specs.Option.{option_map_or}
use Rattle.std.proofs.lemmas.List.Elements.{filter-append}
use Rattle.pst_ast.specs.declared.shared.TypeName.{TypeName}
use Rattle.pst_ast.specs.declared.scope_declaration.Declaration.{Declaration}
use Rattle.pst_ast.specs.declared.scope_declaration.Sort.{Sort}
use Rattle.pst_ast.specs.declared.scope_declaration.Sort.TheVariants as sort
use Rattle.pst_ast.specs.declared.referent.Finding.{Finding}
use Rattle.pst_ast.specs.Declarations.{declarations}
use Rattle.pst_ast.specs.Lookups.{type_in, type_of}
use Rattle.pst_ast.specs.NameRules.{finding}
use Rattle.pst_ast.specs.Sorts.{is_claim, is_field, is_item, is_need, is_reference, is_resource, same_place}
use Rattle.pst_type_rules.specs.Limits.{Claims, IsLimited, Items, Locals, Parameters, References, is_local, is_local_of, is_parameter, most_items}
use Rattle.pst_type_rules.specs.Members.{AreMembers, own_members, those_that}
use Rattle.pst_type_rules.specs.TypeRules.{ClaimOfNoResource, CompoundWithNeed, DeclarationBreaks, ManyFields, ReferenceOfResource, TooMany, Twofold}
use Rattle.pst_evaluate.specs.Laws.{ConstantsAreFound}
use Rattle.pst_name_rules.specs.Leasts.{IsIn}
use Rattle.pst_declaration_rules.specs.declared.counted.Kind.{Kind}
use Rattle.pst_declaration_rules.specs.declared.counted.Kind.TheVariants as kind
use Rattle.pst_declaration_rules.specs.declared.sources.TypeSources.{TypeSources}
use Rattle.pst_declaration_rules.specs.declared.tally.Tally.{Tally}
use Rattle.pst_declaration_rules.specs.Counted.{most_of, over, total, weight}
use Rattle.pst_declaration_rules.specs.Findings.{findings, is_positive, resource_by, resource_finding, unless_resource}
use Rattle.pst_declaration_rules.specs.Judged.{findings_at, locals_of, own_of, shape_in}
use Rattle.pst_declaration_rules.specs.Tallies.{with_own}
use Rattle.pst_declaration_rules.specs.Tallied.{AreKnown, IsStart, adding, units_of}
use Rattle.pst_declaration_rules.proofs.FieldsCounted.{adds_to, together, weight_none}
use Rattle.pst_declaration_rules.proofs.Needs.{has_one}
use Rattle.pst_declaration_rules.proofs.Overrun.{Exceeds, IsSplit, and_both, found, many, many_of_split}
use Rattle.pst_declaration_rules.proofs.Splits.{filter_again}
use Rattle.pst_declaration_rules.proofs.Tallying.{members_by, none_is_some, some_is, tallied, total_of_both}

or_cases : (a b : Bool) → (a || b) ≡ true → (a ≡ true) ⊎ (b ≡ true)
or_cases true b e = inl refl
or_cases false b e = inr e

local_so : (d x : Declaration) → is_local_of d x ≡ true → is_local x.sort ≡ true
local_so d x e = (and_both (is_local x.sort) (option_map_or (same_place d.name.place) x.inside false) e).0

module _ (k : TypeSources) (known : AreKnown k) (law : ConstantsAreFound) (d : Declaration) (t : Tally) (start : IsStart k d t) where
  abbrev Breaks : Finding → Type 0
  Breaks f = DeclarationBreaks (units_of k) k.names.now d f.place f.rule

  abbrev own : List Declaration
  own = own_members k.index.now d

  abbrev members : List Declaration
  members = start.members ++ own

  are : AreMembers (declarations (units_of k)) d members
  are = subst (λ (ds : List Declaration). AreMembers ds d members) known.declared (members_by k known d t start start.members start.are)

  many_breaks : (kd : Kind) (counted : List Declaration) → IsLimited (declarations (units_of k)) d counted (most_of kd) → (front more : List Declaration) (m : Declaration) (f : Finding) → counted ≡ front ++ m ∷ more
      → length front ≡ most_of kd → f ≡ record { place = m.name.place; rule = 12 } → Breaks f
  many_breaks kd counted limited front more m f split count is = subst Breaks (sym is) (TooMany counted front more m (most_of kd) limited split count)

  items_break : (f : Finding) → over kind.Item (Some 0) (own_of k d) ≡ Some f → Breaks f
  items_break f e =
      let r = many kind.Item k (λ x. refl) own f e in
      many_breaks kind.Item (those_that is_item own) (subst (λ (ds : List Declaration). IsLimited (declarations (units_of k)) d (those_that is_item (own_members ds d)) most_items) (sym known.declared) Items)
      r.front r.more r.m f r.split r.count r.is

  parameters_break : (f : Finding) → over kind.Parameter (Some 0) (own_of k d) ≡ Some f → Breaks f
  parameters_break f e =
      let r = many kind.Parameter k (λ x. refl) own f e in
      many_breaks kind.Parameter (those_that is_parameter own)
      (subst (λ (ds : List Declaration). IsLimited (declarations (units_of k)) d (those_that is_parameter (own_members ds d)) (most_of kind.Parameter)) (sym known.declared) Parameters)
      r.front r.more r.m f r.split r.count r.is

  locals_break : (f : Finding) → over kind.Local (Some 0) (locals_of k d) ≡ Some f → Breaks f
  locals_break f e =
      let r = many kind.Local k (λ x. refl) (filter (is_local_of d) k.index.now) f e in
      many_breaks kind.Local (filter (is_local_of d) k.index.now)
      (subst (λ (ds : List Declaration). IsLimited (declarations (units_of k)) d (filter (is_local_of d) ds) (most_of kind.Local)) (sym known.declared) Locals)
      r.front r.more r.m f (sym (filter_again (λ x. is_local x.sort) (is_local_of d) (local_so d) k.index.now) ∙ r.split) r.count r.is

  -- with those of the base
  whole : (kd : Kind) (first : Option ℕ) → first ≡ total kd (Some 0) (map (adding k) start.members) → (f : Finding) → over kd first (own_of k d) ≡ Some f → IsSplit kd k (Some 0) members f
  whole kd first is f e =
      let s = found kd k first own f e in
      record {
        front = start.members ++ s.front;
        m = s.m;
        more = s.more;
        split = ap (λ (xs : List Declaration). start.members ++ xs) s.split ∙ sym (append_assoc start.members s.front (s.m ∷ s.more));
        at = subst (λ (o : Option ℕ). Exceeds (most_of kd) o (weight kd (adding k s.m))) (total_of_both kd (adding k) first start.members s.front is) s.at;
        is = s.is;
      }

  references_break : (f : Finding) → over kind.Reference t.references (own_of k d) ≡ Some f → Breaks f
  references_break f e =
      let r = many_of_split kind.Reference k (λ x. refl) members f (whole kind.Reference t.references start.totals.references f e) in
      many_breaks kind.Reference (those_that is_reference members) (References members are) r.front r.more r.m f r.split r.count r.is

  claims_break : (f : Finding) → over kind.Claim t.claims (own_of k d) ≡ Some f → Breaks f
  claims_break f e =
      let r = many_of_split kind.Claim k (λ x. refl) members f (whole kind.Claim t.claims start.totals.claims f e) in
      many_breaks kind.Claim (those_that is_claim members) (Claims members are) r.front r.more r.m f r.split r.count r.is

  fields_by : (f : Finding) (s : IsSplit kind.Field k (Some 0) members f) (b : Bool) → is_field s.m.sort ≡ b → Breaks f
  fields_by f s true is =
      subst Breaks (sym s.is)
      (ManyFields members (those_that is_field s.front) (those_that is_field s.more) s.m s.at.sum s.at.added are
      (ap (those_that is_field) s.split ∙ (filter-append (λ x. is_field x.sort) s.front (s.m ∷ s.more) ∙ ap (λ (b : Bool). those_that is_field s.front ++ cond b (s.m ∷ those_that is_field s.more) (those_that is_field s.more)) is))
      (together k known law s.front s.at.sum s.at.few s.at.sum_is) (adds_to k known law s.m s.at.added is s.at.added_is) s.at.few s.at.many)
  fields_by f s false is =
      let none : s.at.added ≡ 0 = some_is s.at.added 0 (sym s.at.added_is ∙ weight_none k known law s.m is) in
      absurd (omega (arith, none, s.at.few, s.at.many))

  fields_break : (f : Finding) → over kind.Field t.fields (own_of k d) ≡ Some f → Breaks f
  fields_break f e = let s = whole kind.Field t.fields start.totals.fields f e in fields_by f s (is_field s.m.sort) refl

  -- ---- types of references and claims

  unless_by : (wanted b : Bool) (name : TypeName) (type : Declaration) (f : Finding) → is_resource type.sort ≡ b → unless_resource wanted name (Some type) ≡ Some f
      → (beq b wanted ≡ false → DeclarationBreaks (units_of k) k.names.now d name.first.place 15) → Breaks f
  unless_by wanted b name type f is e breaks = by (beq b wanted) refl (ap (λ (x : Bool). if beq x wanted then None else finding name.first.place 15) (sym is) ∙ e)
    where
      by : (c : Bool) → beq b wanted ≡ c → (if c then None else finding name.first.place 15) ≡ Some f → Breaks f
      by true c e = absurd (none_is_some f e)
      by false c e = subst Breaks (some_is _ f e) (breaks c)

  reference_by : (of : TypeName) (output : Bool) (type : Declaration) (f : Finding) (b : Bool) → is_resource type.sort ≡ b → d.sort ≡ sort.Reference of output → type_of (declarations (units_of k)) d ≡ Some type
      → unless_resource false of (Some type) ≡ Some f → Breaks f
  reference_by of output type f true is s o e =
      unless_by false true of type f is e (λ c. ReferenceOfResource type of (ap is_reference s) (ap type_in s) o is)
  reference_by of output type f false is s o e = unless_by false false of type f is e (λ c. absurd (true≢false c))

  claim_by : (of : TypeName) (type : Declaration) (f : Finding) (b : Bool) → is_resource type.sort ≡ b → d.sort ≡ sort.Claim of → type_of (declarations (units_of k)) d ≡ Some type
      → unless_resource true of (Some type) ≡ Some f → Breaks f
  claim_by of type f true is s o e = unless_by true true of type f is e (λ c. absurd (true≢false c))
  claim_by of type f false is s o e = unless_by true false of type f is e (λ c. ClaimOfNoResource type of (ap is_claim s) (ap type_in s) o is)

  resource_of : (s : Sort) (o : Option Declaration) (f : Finding) → d.sort ≡ s → type_of (declarations (units_of k)) d ≡ o → resource_by s o ≡ Some f → Breaks f
  resource_of (sort.Reference of output) None f s o e = absurd (none_is_some f e)
  resource_of (sort.Reference of output) (Some type) f s o e = reference_by of output type f (is_resource type.sort) refl s o e
  resource_of (sort.Claim of) None f s o e = absurd (none_is_some f e)
  resource_of (sort.Claim of) (Some type) f s o e = claim_by of type f (is_resource type.sort) refl s o e
  resource_of _ o f s is e = absurd (none_is_some f e)

  resource_breaks : (f : Finding) → resource_finding k.index.now d ≡ Some f → Breaks f
  resource_breaks f e = resource_of d.sort (type_of (declarations (units_of k)) d) f refl refl (ap (λ (ds : List Declaration). resource_by d.sort (type_of ds d)) (sym known.declared) ∙ e)

  -- ---- activities

  abbrev Sixteen : Type 0
  Sixteen = DeclarationBreaks (units_of k) k.names.now d d.name.place 16

  abbrev all : Tally
  all = with_own t (own_of k d) (shape_in k d)

  reference_needs : (s : Sort) → is_reference s ≡ true → is_need s ≡ true
  reference_needs (sort.Reference of output) e = refl
  reference_needs (sort.Claim of) e = refl
  reference_needs _ e = absurd (true≢false (sym e))

  claim_needs : (s : Sort) → is_claim s ≡ true → is_need s ≡ true
  claim_needs (sort.Reference of output) e = refl
  claim_needs (sort.Claim of) e = refl
  claim_needs _ e = absurd (true≢false (sym e))

  compound_breaks : all.compound ≡ true → (is_positive all.references ≡ true) ⊎ (is_positive all.claims ≡ true) → Sixteen
  compound_breaks compound need =
      let it = tallied k known d t start in
      let (statements, has) = it.compound.0 compound in
      let they = subst (λ (ds : List Declaration). AreMembers ds d it.members) known.declared it.are in
      ⊎_elim
      (λ r. let m = has_one kind.Reference k (λ x. refl) it.members (ap is_positive (sym it.totals.references) ∙ r) in CompoundWithNeed statements it.members m.m has they m.among (reference_needs m.m.sort m.is))
      (λ c. let m = has_one kind.Claim k (λ x. refl) it.members (ap is_positive (sym it.totals.claims) ∙ c) in CompoundWithNeed statements it.members m.m has they m.among (claim_needs m.m.sort m.is))
      need

  activity_by : (f : Finding) (b : Bool) → (all.twofold || (all.compound && (is_positive all.references || is_positive all.claims))) ≡ b → (if b then finding d.name.place 16 else None) ≡ Some f → Breaks f
  activity_by f false is e = absurd (none_is_some f e)
  activity_by f true is e = subst Breaks (some_is _ f e) (⊎_elim
      (λ two. Twofold ((tallied k known d t start).twofold.0 two))
      (λ both. let each = and_both all.compound (is_positive all.references || is_positive all.claims) both in compound_breaks each.0 (or_cases (is_positive all.references) (is_positive all.claims) each.1))
      (or_cases all.twofold (all.compound && (is_positive all.references || is_positive all.claims)) is))

  -- ---- all of them

  pub own_breaks : (f : Finding) → IsIn (λ o. o) (findings_at k d t) f → Breaks f
  unfolding findings
  own_breaks f there =
      ⊎_elim (items_break f)
      (λ a. ⊎_elim (parameters_break f)
      (λ b. ⊎_elim (locals_break f)
      (λ c. ⊎_elim (references_break f)
      (λ e. ⊎_elim (claims_break f)
      (λ g. ⊎_elim (fields_break f)
      (λ h. ⊎_elim (resource_breaks f)
      (λ i. ⊎_elim (activity_by f _ refl) (λ none. absurd none) i) h) g) e) c) b) a)
      there

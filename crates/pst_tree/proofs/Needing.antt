-- References and claims are found in the rows of members.
use Rattle.std.proofs.Common.{◌≡◌, ◌<◌, arith, refl, sym, ap, ◌∙◌, append_assoc, true≢false}
use Rattle.std.specs.Prelude.{ℕ, zero, suc, ◌+◌, ◌-◌, length, drop, get_or, reverse, None, Bool, true, false, ◌&&◌, List, [], ◌∷◌, ◌++◌, if◌then◌else◌}
use Rattle.std.specs.List.{filter, flat_map}
use Rattle.std.specs.Option.{option_map_or}
use Rattle.std.specs.HashMap.{get}
use Rattle.std.proofs.lemmas.List.{drop_more, reverse-append}
use Rattle.pst_base.specs.declared.position.Place.{Place}
use Rattle.pst_ast.specs.declared.scope_declaration.Declaration.{Declaration}
use Rattle.pst_ast.specs.declared.scope_declaration.Sort.{Sort}
use Rattle.pst_ast.specs.declared.scope_declaration.Sort.TheVariants as sort
use Rattle.pst_ast.specs.declared.scope_declaration.Scope.TheVariants.{Files, Part}
use Rattle.pst_ast.specs.Lookups.{base_of}
use Rattle.pst_ast.specs.Sorts.{is_need, is_reference, is_claim, same_scope}
use Rattle.pst_tree.specs.declared.rows.Member.TheVariants as member
use Rattle.pst_tree.specs.declared.rows.Rows.{Rows}
use Rattle.pst_tree.specs.Members.{place_key, row_in, same_key}
use Rattle.pst_tree.specs.Kept.{AreRows}
use Rattle.pst_type_rules.specs.Members.{those_that}
use Rattle.pst_tree.specs.Bases.{bases_within}
use Rattle.pst_tree.specs.Needed.{needs_within}

-- a declaration where one has to stand
abbrev pub blank : Declaration
blank = record { name = record { id = record { 0 = 0 }; place = record { file = 0; line = 0; column = 0 } }; scope = Files; inside = None; sort = sort.Component }

-- one type after another
pub all_more : (g : Declaration → List Declaration) (bases : List Declaration) (i : ℕ) (old new total : List Declaration) → i < length bases → new ≡ old ++ g (get_or bases i blank)
    → old ++ flat_map g (drop i bases) ≡ total → new ++ flat_map g (drop (i + 1) bases) ≡ total
all_more g bases i old new total within e before =
    ap (λ (xs : List Declaration). xs ++ flat_map g (drop (i + 1) bases)) e
    ∙ append_assoc old (g (get_or bases i blank)) (flat_map g (drop (i + 1) bases))
    ∙ sym (ap (λ (xs : List Declaration). old ++ flat_map g xs) (drop_more bases i blank within))
    ∙ before

-- one base after another
pub chain_more : (ds : List Declaration) (k : ℕ) (chain : List Declaration) (here : Declaration) → 0 < k
    → bases_within k ds here ++ reverse chain ≡ option_map_or (bases_within (k - 1) ds) (base_of ds here) [] ++ reverse (chain ++ here ∷ [])
chain_more ds zero chain here some = absurd (omega (arith, some))
chain_more ds (suc k) chain here some =
    let same : k ≡ suc k - 1 = omega arith in
    append_assoc (option_map_or (bases_within k ds) (base_of ds here) []) (here ∷ []) (reverse chain)
    ∙ (λ i. option_map_or (bases_within (same i) ds) (base_of ds here) [] ++ sym (reverse-append chain (here ∷ [])) i)

-- ---- what passes two tests

module _ (narrow wide : Sort → Bool) (within : (s : Sort) → narrow s ≡ true → wide s ≡ true) (place : Place) where
  abbrev in_scope : Declaration → Bool
  in_scope d = same_scope d.scope (Part place)

  keep : (n w s : Bool) (d : Declaration) (xs ys : List Declaration) → (n ≡ true → w ≡ true) → narrow d.sort ≡ n → filter (λ x. narrow x.sort) xs ≡ filter (λ x. narrow x.sort) ys
      → filter (λ x. narrow x.sort) (if w && s then d ∷ xs else xs) ≡ filter (λ x. narrow x.sort) (if s then d ∷ ys else ys)
  keep n true true d xs ys wider is e = ap (λ (zs : List Declaration). if narrow d.sort then d ∷ zs else zs) e
  keep n true false d xs ys wider is e = e
  keep true false true d xs ys wider is e = absurd (true≢false (sym (wider refl)))
  keep false false true d xs ys wider is e = e ∙ sym (ap (λ (b : Bool). if b then d ∷ filter (λ x. narrow x.sort) ys else filter (λ x. narrow x.sort) ys) is)
  keep n false false d xs ys wider is e = e

  narrowed : (ds : List Declaration) → filter (λ x. narrow x.sort) (filter (λ d. wide d.sort && in_scope d) ds) ≡ filter (λ x. narrow x.sort) (filter in_scope ds)
  narrowed [] = refl
  narrowed (d ∷ ds) =
      keep (narrow d.sort) (wide d.sort) (in_scope d) d (filter (λ d. wide d.sort && in_scope d) ds) (filter in_scope ds) (within d.sort) refl (narrowed ds)

reference_needed : (s : Sort) → is_reference s ≡ true → is_need s ≡ true
reference_needed sort.Component e = absurd (true≢false (sym e))
reference_needed (sort.Action base) e = absurd (true≢false (sym e))
reference_needed (sort.Object word) e = absurd (true≢false (sym e))
reference_needed sort.Enumeration e = absurd (true≢false (sym e))
reference_needed sort.Function e = absurd (true≢false (sym e))
reference_needed (sort.Instance of) e = absurd (true≢false (sym e))
reference_needed (sort.Pool of) e = absurd (true≢false (sym e))
reference_needed (sort.Item level) e = absurd (true≢false (sym e))
reference_needed (sort.Field array) e = absurd (true≢false (sym e))
reference_needed (sort.Reference of output) e = refl
reference_needed (sort.Claim of) e = absurd (true≢false (sym e))
reference_needed (sort.Handle of) e = absurd (true≢false (sym e))
reference_needed sort.Constraint e = absurd (true≢false (sym e))
reference_needed sort.Parameter e = absurd (true≢false (sym e))
reference_needed sort.Local e = absurd (true≢false (sym e))
reference_needed sort.Index e = absurd (true≢false (sym e))

claim_needed : (s : Sort) → is_claim s ≡ true → is_need s ≡ true
claim_needed sort.Component e = absurd (true≢false (sym e))
claim_needed (sort.Action base) e = absurd (true≢false (sym e))
claim_needed (sort.Object word) e = absurd (true≢false (sym e))
claim_needed sort.Enumeration e = absurd (true≢false (sym e))
claim_needed sort.Function e = absurd (true≢false (sym e))
claim_needed (sort.Instance of) e = absurd (true≢false (sym e))
claim_needed (sort.Pool of) e = absurd (true≢false (sym e))
claim_needed (sort.Item level) e = absurd (true≢false (sym e))
claim_needed (sort.Field array) e = absurd (true≢false (sym e))
claim_needed (sort.Reference of output) e = absurd (true≢false (sym e))
claim_needed (sort.Claim of) e = refl
claim_needed (sort.Handle of) e = absurd (true≢false (sym e))
claim_needed sort.Constraint e = absurd (true≢false (sym e))
claim_needed sort.Parameter e = absurd (true≢false (sym e))
claim_needed sort.Local e = absurd (true≢false (sym e))
claim_needed sort.Index e = absurd (true≢false (sym e))

module _ (ds : List Declaration) (rows : Rows) (are : AreRows member.Need ds rows) (type : Declaration) where
  pub references_in : those_that is_reference (row_in (get same_key rows.rows (place_key type.name.place))) ≡ needs_within is_reference ds type
  references_in = ap (those_that is_reference) (are (place_key type.name.place)) ∙ narrowed is_reference is_need reference_needed type.name.place ds

  pub claims_in : those_that is_claim (row_in (get same_key rows.rows (place_key type.name.place))) ≡ needs_within is_claim ds type
  claims_in = ap (those_that is_claim) (are (place_key type.name.place)) ∙ narrowed is_claim is_need claim_needed type.name.place ds

-- The least breach of all, and the scopes where there is none.
use Rattle.std.proofs.Common.{◌≡◌, ◌⊎◌, inr, ⊎_elim, ℕ, List, Option, sym, ap, subst, ◌∙◌}
use Rattle.std.specs.Prelude.{Some, None, Contains}
use Rattle.std.specs.List.{flat_map, list_any}
use Rattle.pst_base.specs.Laws.{BeforeGoesOn}
use Rattle.pst_ast.specs.DeclarationTree.{UnitTree}
use Rattle.pst_ast.specs.declared.scope_declaration.Declaration.{Declaration}
use Rattle.pst_ast.specs.declared.entry.NameMeaning.{NameMeaning}
use Rattle.pst_ast.specs.declared.entry.TypeEntry.{TypeEntry}
use Rattle.pst_ast.specs.declared.referent.Finding.{Finding}
use Rattle.pst_ast.specs.declared.referent.Meant.{Meant}
use Rattle.pst_ast.specs.Breaches.{IsLeast, IsNone}
use Rattle.pst_ast.specs.Declarations.{declarations}
use Rattle.pst_ast.specs.NameRules.{NameBreach, is_root_component, use_finding}
use Rattle.pst_ast.specs.Scopes.{AreScopes, IsMeaning, entries, use_meant}
use Rattle.pst_ast.specs.Uses.{uses}
use Rattle.pst_loops.specs.First.{IsFirstOnLoop}
use Rattle.pst_numbers.specs.Meanings.{Means, AreMeanings}
use Rattle.pst_name_rules.specs.Earlier.{earlier}
use Rattle.pst_name_rules.specs.Own.{own_finding}
use Rattle.pst_name_rules.specs.Leasts.{NoLater, IsLeastOf, IsIn, least_at}
use Rattle.pst_names.specs.Resolved.{IsBreach, IsRootless, root_finding}
use Rattle.pst_names.proofs.Elements.{in_flat_map, flat_map_cases}
use Rattle.pst_name_rules.proofs.Leasts.{goes_on, least_of_both, told, least_in}
use Rattle.pst_names.proofs.Rootless.{least_rootless}
use Rattle.pst_names.proofs.Breaking.{IsLoop, IsFound, least_loop, found_breaks, breaks_covered}

module _ (on : BeforeGoesOn) where
  -- where each is found, or one that is no later
  covered : (P Q : Finding → Type 0) (found : Option Finding) → ((f : Finding) → Q f → P f) → ((g : Finding) → P g → (h : Finding) × Q h × NoLater h g) → IsLeastOf Q found → IsLeastOf P found
  covered P Q None to from least = λ g has. least (from g has).0 (from g has).1
  covered P Q (Some a) to from least = (to a least.0, λ g has. let c = from g has in goes_on on a c.0 g (least.1 c.0 c.1) c.2)

  module _ {X : Type 0} (finding : X → Option Finding) where
    least_of : (xs : List X) → IsLeastOf (IsIn finding xs) (least_at finding xs None)
    least_of xs = told on (λ f. ⊥ ⊎ IsIn finding xs f) (IsIn finding xs) (least_at finding xs None) (λ f has. ⊎_elim (λ no. absurd no) (λ there. there) has) (λ f there. inr there) (least_in on finding xs (λ f. ⊥) None (λ f no. no))

  module _ (units : List UnitTree) (names : List (List ℕ)) where
    abbrev ds : List Declaration
    ds = declarations units

    least_of_all : (loops : Option Finding) → IsFirstOnLoop ds loops
        → IsLeastOf (IsBreach units names) (earlier (earlier (earlier (least_at (use_finding ds names) (uses units) None) (least_at (own_finding ds names) ds None)) loops) (root_finding (list_any (is_root_component names) ds) units))
    least_of_all loops first =
        let used = least_at (use_finding ds names) (uses units) None in
        let own = least_at (own_finding ds names) ds None in
        let root = root_finding (list_any (is_root_component names) ds) units in
        covered (IsBreach units names) (IsFound units names) (earlier (earlier (earlier used own) loops) root) (found_breaks units names) (breaks_covered units names)
        (least_of_both on (λ f. (IsIn (use_finding ds names) (uses units) f ⊎ IsIn (own_finding ds names) ds f) ⊎ IsLoop ds f) (IsRootless units names) (earlier (earlier used own) loops) root
        (least_of_both on (λ f. IsIn (use_finding ds names) (uses units) f ⊎ IsIn (own_finding ds names) ds f) (IsLoop ds) (earlier used own) loops
        (least_of_both on (IsIn (use_finding ds names) (uses units)) (IsIn (own_finding ds names) ds) used own (least_of (use_finding ds names) (uses units)) (least_of (own_finding ds names) ds))
        (least_loop ds loops first))
        (least_rootless units names))

    parts : (used own loops root all : Option Finding) → used ≡ least_at (use_finding ds names) (uses units) None → own ≡ least_at (own_finding ds names) ds None → IsFirstOnLoop ds loops
        → root ≡ root_finding (list_any (is_root_component names) ds) units → all ≡ earlier (earlier (earlier used own) loops) root → IsLeastOf (IsBreach units names) all
    parts used own loops root all is_used is_own first is_root is =
        subst (IsLeastOf (IsBreach units names)) (sym
        (is
        ∙ ap (λ (u : Option Finding). earlier (earlier (earlier u own) loops) root) is_used
        ∙ ap (λ (o : Option Finding). earlier (earlier (earlier (least_at (use_finding ds names) (uses units) None) o) loops) root) is_own
        ∙ ap (λ (r : Option Finding). earlier (earlier (earlier (least_at (use_finding ds names) (uses units) None) (least_at (own_finding ds names) ds None)) loops) r) is_root))
        (least_of_all loops first)

    abbrev FromParts : List Declaration → Type 0
    FromParts all_declared = (used own loops root all : Option Finding) → used ≡ least_at (use_finding all_declared names) (uses units) None → own ≡ least_at (own_finding all_declared names) all_declared None → IsFirstOnLoop all_declared loops
        → root ≡ root_finding (list_any (is_root_component names) all_declared) units → all ≡ earlier (earlier (earlier used own) loops) root → IsLeastOf (IsBreach units names) all

    -- the earliest of the four, whichever list the declarations are told by
    pub least_of_parts : (all_declared : List Declaration) → all_declared ≡ ds → FromParts all_declared
    least_of_parts all_declared e = subst FromParts (sym e) parts

module _ (units : List UnitTree) (names : List (List ℕ)) where
  pub is_least : (f : Finding) → IsLeastOf (IsBreach units names) (Some f) → IsLeast (NameBreach units names) f.place f.rule
  is_least f least = record { is = least.0; least = λ p r breaks. least.1 (record { place = p; rule = r }) breaks }

  pub is_none : IsLeastOf (IsBreach units names) None → IsNone (NameBreach units names)
  is_none none = λ p r breaks. none (record { place = p; rule = r }) breaks

  abbrev named : List Meant
  named = flat_map (use_meant (declarations units) names) (uses units)

  to_meaning : (m : NameMeaning) → ((n : Meant) × Contains named n × Means (declarations units) n m) → IsMeaning units names m
  to_meaning m (n, among, (place, numbers)) =
      let (u, used, there) = flat_map_cases (use_meant (declarations units) names) (uses units) n among in
      record { used = u; among = used; name = n; meant = there; at = place; numbers = numbers }

  from_meaning : (m : NameMeaning) → IsMeaning units names m → (n : Meant) × Contains named n × Means (declarations units) n m
  from_meaning m is = (is.name, in_flat_map (use_meant (declarations units) names) (uses units) is.used is.name is.among is.meant, (is.at, is.numbers))

  scopes_of : (types : List TypeEntry) (meant : List Meant) (meanings : List NameMeaning) → types ≡ entries (declarations units) → meant ≡ named → AreMeanings (declarations units) meant meanings → AreScopes units names types meanings
  scopes_of types meant meanings are is each =
      let all = subst (λ (ns : List Meant). AreMeanings (declarations units) ns meanings) is each in
      record { are_types = are; order = all.order; each = λ m. ((λ there. to_meaning m ((all.each m).0 there)), (λ is. (all.each m).1 (from_meaning m is))) }

  abbrev FromNames : List Declaration → Type 0
  FromNames all_declared = (types : List TypeEntry) (meant : List Meant) (meanings : List NameMeaning) → types ≡ entries all_declared → meant ≡ flat_map (use_meant all_declared names) (uses units) → AreMeanings all_declared meant meanings → AreScopes units names types meanings

  -- the scopes, whichever list the declarations are told by
  pub are_scopes : (all_declared : List Declaration) → all_declared ≡ declarations units → FromNames all_declared
  are_scopes all_declared e = subst FromNames (sym e) scopes_of

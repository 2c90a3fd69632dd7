-- The declarations of a scope are put from the last to the first.
use Rattle.std.proofs.Common.{◌≡◌, ℕ, zero, suc, ◌+◌, ◌<◌, Bool, true, false, ◌&&◌, List, [], ◌∷◌, ◌++◌, length, take, nat_eq, refl, sym, ap, ◌∙◌, subst, cond, Option, arith}
use Rattle.std.specs.Prelude.{Some, None, slice_get}
use Rattle.std.specs.Cmp.{nat_eq_equiv}
use Rattle.std.specs.Option.{option_map, option_or, option_and_then}
use Rattle.std.proofs.Math.Seq.{take-length}
use Rattle.std.proofs.lemmas.List.{take_more}
use Rattle.std.proofs.lemmas.Option.{slice_get_within, get_or_from_slice_get}
use Rattle.pst_base.specs.declared.table.NameId.{NameId}
use Rattle.pst_ast.specs.declared.scope_declaration.Declaration.{Declaration}
use Rattle.pst_ast.specs.declared.scope_declaration.Scope.{Scope}
use Rattle.pst_ast.specs.Sorts.{same_name, same_scope}
use Rattle.pst_ast.specs.Lookups.{look_up}
use Rattle.pst_members.specs.declared.versions.Versions.{Versions}
use Rattle.pst_members.specs.Found.{found, count, Keeps, IsWith}
use Rattle.pst_members.specs.declared.key.ScopeKey.{ScopeKey}
use Rattle.pst_members.specs.Links.{up_to, IsLast, IsLinked}
use Rattle.pst_members.specs.Kept.{finds, IsOver}
use Rattle.pst_members.specs.Keys.{scope_key}
use Rattle.pst_members.proofs.Scopes.{same_itself}
use Rattle.pst_members.proofs.Linking.{looks_up_more}

same_some : {X : Type 0} {x y : X} → Some x ≡ Some y → x ≡ y
same_some {X} {x} {y} e = cc

or_assoc : {X : Type 0} (a b c : Option X) → option_or (option_or a b) c ≡ option_or a (option_or b c)
or_assoc (Some x) b c = refl
or_assoc None b c = refl

-- so far the declarations behind a position of a scope are put
pub record IsPut (ds : List Declaration) (scope : Scope) (old : Versions) (base : ℕ) (new : Versions) (version : ℕ) (at : Option ℕ) : Type 0 where
  pub kept : Keeps old new
  pub there : version < count new
  pub stands : (i : ℕ) → at ≡ Some i → option_map (λ d. d.scope) (slice_get ds i) ≡ Some scope
  pub put : (name : NameId) → option_or (look_up (take (up_to at) ds) scope name) (finds ds new version name) ≡ option_or (look_up ds scope name) (finds ds old base name)

module _ (ds : List Declaration) (last : ScopeKey → Option ℕ) (before : List (Option ℕ)) (linked : IsLinked ds last before) (scope : Scope) (old : Versions) (base : ℕ) where
  pub none_put : base < count old → IsPut ds scope old base old base (last (scope_key scope))
  none_put there =
      let is = linked.lasts scope in record {
        kept = record { more = omega arith; same = λ version key le. refl };
        there = there;
        stands = is.stands;
        put = λ name. ap (λ (d : Option Declaration). option_or d (finds ds old base name)) (sym (ap (λ (xs : List Declaration). look_up xs scope name) (sym (take-length ds)) ∙ is.last name));
      }

  module _ (new : Versions) (version : ℕ) where
    pub all_put : IsPut ds scope old base new version None → IsOver ds scope old base new version
    unfolding look_up
    all_put put = record { there = put.there; over = λ name. put.put name }

    module _ (more : Versions) (added position : ℕ) (at : Option ℕ) (d : Declaration) (put : IsPut ds scope old base new version at) (is : at ≡ Some position) (member : slice_get ds position ≡ Some d) (kept : Keeps new more) (with : IsWith new version d.name.id.0 position more added) where
      its_scope : d.scope ≡ scope
      its_scope = same_some (ap (λ (x : Option Declaration). option_map (λ y. y.scope) x) (sym member) ∙ put.stands position is)

      one_more : take (position + 1) ds ≡ take position ds ++ d ∷ []
      one_more = take_more ds position d (slice_get_within ds position d member) ∙ ap (λ (x : Declaration). take position ds ++ x ∷ []) (get_or_from_slice_get ds position d d member)

      -- what the declarations up to that one find
      looked_up : (name : NameId) → look_up (take (up_to at) ds) scope name ≡ option_or (look_up (take position ds) scope name) (cond (nat_eq d.name.id.0 name.0) (Some d) None)
      looked_up name =
          ap (λ (x : Option ℕ). look_up (take (up_to x) ds) scope name) is
          ∙ ap (λ (xs : List Declaration). look_up xs scope name) one_more
          ∙ looks_up_more (take position ds) d scope name
          ∙ ap (λ (s : Scope). option_or (look_up (take position ds) scope name) (cond (same_scope s scope && same_name d.name.id name) (Some d) None)) its_scope
          ∙ ap (λ (b : Bool). option_or (look_up (take position ds) scope name) (cond (b && same_name d.name.id name) (Some d) None)) (same_itself scope)

      by_case : (name : NameId) (b : Bool) → option_and_then (slice_get ds) (cond b (Some position) (found new version name.0)) ≡ option_or (cond b (Some d) None) (finds ds new version name)
      by_case name true = member
      by_case name false = refl

      found_now : (name : NameId) → finds ds more added name ≡ option_or (cond (nat_eq d.name.id.0 name.0) (Some d) None) (finds ds new version name)
      found_now name =
          ap (λ (x : Option ℕ). option_and_then (slice_get ds) x) (with.finds name.0)
          ∙ ap (λ (b : Bool). option_and_then (slice_get ds) (cond b (Some position) (found new version name.0))) (nat_eq_equiv.symm name.0 d.name.id.0)
          ∙ by_case name (nat_eq d.name.id.0 name.0)

      pub put_on : (next : Option ℕ) → slice_get before position ≡ Some next → IsPut ds scope old base more added next
      put_on next here =
          let earlier = subst (λ (s : Scope). IsLast ds s position next) its_scope (linked.earlier position d next member here) in record {
            kept = record {
              more = omega (arith, put.kept.more, kept.more);
              same = λ v key le. kept.same v key (omega (arith, le, put.kept.more)) ∙ put.kept.same v key le;
            };
            there = with.there;
            stands = earlier.stands;
            put = λ name.
                ap (λ (x : Option Declaration). option_or x (finds ds more added name)) (sym (earlier.last name))
                ∙ ap (λ (x : Option Declaration). option_or (look_up (take position ds) scope name) x) (found_now name)
                ∙ sym (or_assoc (look_up (take position ds) scope name) (cond (nat_eq d.name.id.0 name.0) (Some d) None) (finds ds new version name))
                ∙ ap (λ (x : Option Declaration). option_or x (finds ds new version name)) (sym (looked_up name))
                ∙ put.put name;
          }

at_some : (x : Option Declaration) (scope : Scope) → option_map (λ d. d.scope) x ≡ Some scope → (d : Declaration) × (x ≡ Some d)
at_some (Some d) scope e = (d, refl)
at_some None scope e = absurd cc

-- a position of a scope is within the list
pub stands_within : (ds : List Declaration) (scope : Scope) (old : Versions) (base : ℕ) (new : Versions) (version : ℕ) (at : Option ℕ) → IsPut ds scope old base new version at → (i : ℕ) → at ≡ Some i → i < length ds
stands_within ds scope old base new version at put i is =
    let there = at_some (slice_get ds i) scope (put.stands i is) in
    slice_get_within ds i there.0 there.1

flat : (xs : List (Option ℕ)) (i : ℕ) (n : Option ℕ) → i < length xs → n ≡ option_and_then (λ x. x) (slice_get xs i) → slice_get xs i ≡ Some n
flat [] i n le e = absurd (omega arith)
flat (x ∷ xs) zero n le e = ap (λ (y : Option ℕ). Some y) (sym e)
flat (x ∷ xs) (suc i) n le e = flat xs i n (omega (arith, le)) e

-- the one before is kept for each
pub before_there : (ds : List Declaration) (last : ScopeKey → Option ℕ) (before : List (Option ℕ)) → IsLinked ds last before → (i : ℕ) (d : Declaration) → slice_get ds i ≡ Some d → (n : Option ℕ) → n ≡ option_and_then (λ x. x) (slice_get before i) → slice_get before i ≡ Some n
before_there ds last before linked i d is n e = flat before i n (omega (arith, linked.each, slice_get_within ds i d is)) e

-- Declarations are linked as they come.
use Rattle.std.proofs.Common.{◌≡◌, ℕ, zero, suc, ◌+◌, ◌<◌, ◌≤◌, Bool, true, false, ◌&&◌, List, [], ◌∷◌, ◌++◌, length, take, refl, sym, ap, ◌∙◌, subst, cond, Option, arith, ◌⊎◌, inl, inr}
use Rattle.std.specs.Prelude.{Some, None, slice_get}
use Rattle.std.specs.Option.{option_map, option_or}
use Rattle.std.proofs.Math.Seq.{take-length}
use Rattle.std.proofs.lemmas.Bool.{cases_lt}
use Rattle.std.proofs.lemmas.List.{take-append-le, length-append}
use Rattle.std.proofs.lemmas.List.Folds.{find-append}
use Rattle.std.proofs.lemmas.Option.{slice_get_within}
use Rattle.pst_base.specs.declared.table.NameId.{NameId}
use Rattle.pst_ast.specs.declared.scope_declaration.Declaration.{Declaration}
use Rattle.pst_ast.specs.declared.scope_declaration.Scope.{Scope}
use Rattle.pst_ast.specs.Sorts.{same_name, same_scope}
use Rattle.pst_ast.specs.Lookups.{look_up}
use Rattle.pst_members.specs.declared.key.ScopeKey.{ScopeKey}
use Rattle.pst_members.specs.Keys.{scope_key, same_key}
use Rattle.pst_members.specs.Links.{up_to, IsLast, IsLinked, IsAdded}
use Rattle.pst_members.proofs.Scopes.{same_scopes, same_keys}

pub get_before : {X : Type 0} (xs ys : List X) (i : ℕ) → i < length xs → slice_get (xs ++ ys) i ≡ slice_get xs i
get_before [] ys i le = absurd (omega arith)
get_before (x ∷ xs) ys zero le = refl
get_before (x ∷ xs) ys (suc i) le = get_before xs ys i (omega (arith, le))

pub get_last : {X : Type 0} (xs : List X) (y : X) → slice_get (xs ++ y ∷ []) (length xs) ≡ Some y
get_last [] y = refl
get_last (x ∷ xs) y = get_last xs y

same_some : {X : Type 0} {x y : X} → Some x ≡ Some y → x ≡ y
same_some {X} {x} {y} e = cc

or_none : {X : Type 0} (o : Option X) → option_or o None ≡ o
or_none (Some x) = refl
or_none None = refl

-- a declaration more
pub looks_up_more : (ds : List Declaration) (d : Declaration) (scope : Scope) (name : NameId)
    → look_up (ds ++ d ∷ []) scope name ≡ option_or (look_up ds scope name) (cond (same_scope d.scope scope && same_name d.name.id name) (Some d) None)
unfolding look_up
looks_up_more ds d scope name = find-append (λ x. same_scope x.scope scope && same_name x.name.id name) ds (d ∷ [])

elsewhere : (ds : List Declaration) (d : Declaration) (scope : Scope) (name : NameId) → same_scope d.scope scope ≡ false → look_up (ds ++ d ∷ []) scope name ≡ look_up ds scope name
elsewhere ds d scope name apart =
    looks_up_more ds d scope name
    ∙ ap (λ (b : Bool). option_or (look_up ds scope name) (cond (b && same_name d.name.id name) (Some d) None)) apart
    ∙ or_none (look_up ds scope name)

module _ (ps : List Declaration) (more : List Declaration) where
  ends_within : (scope : Scope) (n : ℕ) (at : Option ℕ) → IsLast ps scope n at → n ≤ length ps → (i : ℕ) → at ≡ Some i → i < length ps
  ends_within scope n at last le i e = let within : up_to (Some i) ≤ n = subst (λ (x : Option ℕ). up_to x ≤ n) e last.within in omega (arith, within, le)

  -- the last one stays where more are added
  pub still_last : (scope : Scope) (n : ℕ) (at : Option ℕ) → n ≤ length ps → IsLast ps scope n at → IsLast (ps ++ more) scope n at
  still_last scope n at le last = record {
    within = last.within;
    stands = λ i e. ap (λ (d : Option Declaration). option_map (λ d. d.scope) d) (get_before ps more i (ends_within scope n at last le i e)) ∙ last.stands i e;
    last = λ name.
        ap (λ (ds : List Declaration). look_up ds scope name) (take-append-le n ps more le)
        ∙ last.last name
        ∙ sym (ap (λ (ds : List Declaration). look_up ds scope name) (take-append-le (up_to at) ps more (omega (arith, last.within, le))));
  }

module _ (ps : List Declaration) (d : Declaration) where
  longer : length (ps ++ d ∷ []) ≡ length ps + 1
  longer = length-append ps (d ∷ [])

  last_itself : (at : Option ℕ) → at ≡ Some (length ps) → IsLast (ps ++ d ∷ []) d.scope (length (ps ++ d ∷ [])) at
  last_itself at e = record {
    within = subst (λ (x : Option ℕ). up_to x ≤ length (ps ++ d ∷ [])) (sym e) (omega (arith, longer));
    stands = λ i is. ap (λ (n : ℕ). option_map (λ x. x.scope) (slice_get (ps ++ d ∷ []) n)) (same_some (sym is ∙ e)) ∙ ap (λ (x : Option Declaration). option_map (λ y. y.scope) x) (get_last ps d);
    last = λ name. ap (λ (n : ℕ). look_up (take n (ps ++ d ∷ [])) d.scope name) (longer ∙ sym (ap up_to e));
  }

  last_before : (scope : Scope) (at : Option ℕ) → same_scope d.scope scope ≡ false → IsLast ps scope (length ps) at → IsLast (ps ++ d ∷ []) scope (length (ps ++ d ∷ [])) at
  last_before scope at apart last =
      let still = still_last ps (d ∷ []) scope (length ps) at (omega arith) last in record {
        within = omega (arith, last.within, longer);
        stands = still.stands;
        last = λ name.
            ap (λ (ds : List Declaration). look_up ds scope name) (take-length (ps ++ d ∷ []))
            ∙ elsewhere ps d scope name apart
            ∙ sym (ap (λ (ds : List Declaration). look_up ds scope name) (take-length ps))
            ∙ sym (ap (λ (ds : List Declaration). look_up ds scope name) (take-append-le (length ps) ps (d ∷ []) (omega arith)))
            ∙ still.last name;
      }

  module _ (last lasts : ScopeKey → Option ℕ) (before more : List (Option ℕ)) (linked : IsLinked ps last before) (added : IsAdded d.scope last before lasts more) where
    last_in : (scope : Scope) (b : Bool) → same_key (scope_key scope) (scope_key d.scope) ≡ b → IsLast (ps ++ d ∷ []) scope (length (ps ++ d ∷ [])) (cond b (Some (length before)) (last (scope_key scope)))
    last_in scope true e =
        subst (λ (s : Scope). IsLast (ps ++ d ∷ []) s (length (ps ++ d ∷ [])) (Some (length before)))
        (same_scopes d.scope scope (sym (same_keys scope d.scope) ∙ e))
        (last_itself (Some (length before)) (ap (λ (n : ℕ). Some n) linked.each))
    last_in scope false e = last_before scope (last (scope_key scope)) (sym (same_keys scope d.scope) ∙ e) (linked.lasts scope)

    at_end : (i : ℕ) → length ps ≤ i → (e : Declaration) → slice_get (ps ++ d ∷ []) i ≡ Some e → i ≡ length ps
    at_end i past e is = omega (arith, past, longer, slice_get_within (ps ++ d ∷ []) i e is)

    earlier_in : (i : ℕ) (e : Declaration) (at : Option ℕ) → slice_get (ps ++ d ∷ []) i ≡ Some e → slice_get (before ++ last (scope_key d.scope) ∷ []) i ≡ Some at → (i < length ps) ⊎ (length ps ≤ i) → IsLast (ps ++ d ∷ []) e.scope i at
    earlier_in i e at is there (inl le) =
        still_last ps (d ∷ []) e.scope i at (omega (arith, le))
        (linked.earlier i e at (sym (get_before ps (d ∷ []) i le) ∙ is) (sym (get_before before (last (scope_key d.scope) ∷ []) i (omega (arith, le, linked.each))) ∙ there))
    earlier_in i e at is there (inr past) =
        let end = at_end i past e is in
        let same : d ≡ e = same_some (sym (get_last ps d) ∙ ap (λ (n : ℕ). slice_get (ps ++ d ∷ []) n) (sym end) ∙ is) in
        let found : last (scope_key d.scope) ≡ at = same_some (sym (get_last before (last (scope_key d.scope))) ∙ ap (λ (n : ℕ). slice_get (before ++ last (scope_key d.scope) ∷ []) n) (linked.each ∙ sym end) ∙ there) in
        let here = still_last ps (d ∷ []) d.scope (length ps) (last (scope_key d.scope)) (omega arith) (linked.lasts d.scope) in
        let at_e = subst (λ (x : Declaration). IsLast (ps ++ d ∷ []) x.scope (length ps) (last (scope_key d.scope))) same here in
        let at_i = subst (λ (n : ℕ). IsLast (ps ++ d ∷ []) e.scope n (last (scope_key d.scope))) (sym end) at_e in
        subst (λ (x : Option ℕ). IsLast (ps ++ d ∷ []) e.scope i x) found at_i

    -- a declaration more is linked
    pub linked_on : IsLinked (ps ++ d ∷ []) lasts more
    linked_on = record {
      each = ap (λ (xs : List (Option ℕ)). length xs) added.pushed ∙ omega (arith, length-append before (last (scope_key d.scope) ∷ []), longer, linked.each);
      lasts = λ scope. subst (λ (x : Option ℕ). IsLast (ps ++ d ∷ []) scope (length (ps ++ d ∷ [])) x) (sym (added.set (scope_key scope))) (last_in scope (same_key (scope_key scope) (scope_key d.scope)) refl);
      earlier = λ i e at is there. earlier_in i e at is (ap (λ (xs : List (Option ℕ)). slice_get xs i) (sym added.pushed) ∙ there) (cases_lt i (length ps));
    }

pub none_linked : (last : ScopeKey → Option ℕ) → ((key : ScopeKey) → last key ≡ None) → IsLinked [] last []
none_linked last none = record {
  each = refl;
  lasts = λ scope. subst (λ (x : Option ℕ). IsLast [] scope 0 x) (sym (none (scope_key scope))) (record { within = omega arith; stands = λ i e. cc; last = λ name. refl });
  earlier = λ i d at is there. cc;
}

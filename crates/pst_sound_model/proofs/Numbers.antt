-- The handles of an action and of its bases, by name and by number.
use Rattle.std.proofs.Common.{◌≡◌, refl, sym, ap, subst, ◌∙◌}
use Rattle.std.specs.Prelude.{ℕ, Bool, true, false, nat_eq, List, slice_get, Option, Some, None}
use Rattle.std.specs.Option.{option_map_or}
use Rattle.std.proofs.lemmas.Bool.{false≢true, eqb-true, eq-eqb}
use Rattle.std.proofs.lemmas.Option.{none-some, same_Some}
use Rattle.pst_base.specs.declared.table.NameId.{NameId}
use Rattle.pst_ast.specs.declared.leaf.Name.{Name}
use Rattle.pst_ast.specs.DeclarationTree.{UnitTree}
use Rattle.pst_ast.specs.Breaches.{IsNone}
use Rattle.pst_ast.specs.declared.scope_declaration.Declaration.{Declaration}
use Rattle.pst_ast.specs.declared.scope_declaration.Sort.{Sort}
use Rattle.pst_ast.specs.declared.scope_declaration.Sort.TheVariants as sort
use Rattle.pst_ast.specs.declared.environment.Environment.{Environment}
use Rattle.pst_ast.specs.declared.referent.Owner.{Owner}
use Rattle.pst_ast.specs.declared.referent.Owner.TheVariants.{OfAction}
use Rattle.pst_ast.specs.declared.referent.Referent.{Referent}
use Rattle.pst_ast.specs.declared.referent.Referent.TheVariants.{Declared, Initial, Previous, Number}
use Rattle.pst_ast.specs.Declarations.{declarations}
use Rattle.pst_ast.specs.Lookups.{member_of, owned, referent, value_named, stands_for}
use Rattle.pst_ast.specs.Paths.{is_handle_referent}
use Rattle.pst_ast.specs.NameRules.{NameBreach, Reaches, is_handle_name}
use Rattle.pst_ast.specs.Sorts.{is_handle, same_name}
use Rattle.pst_tree.specs.Bases.{with_bases, members, members_that, handles_of, handle_number, number_in}
use Rattle.pst_sound_model.specs.SoundExpressionsConditions.{HaveOwnPlaces}
use Rattle.pst_sound_model.proofs.Members.{In, to_left}
use Rattle.pst_sound_model.proofs.Owned.{HasOwnPlace, of_sort, numbered, those_declared, member_declared, member_is}
use Rattle.pst_sound_model.proofs.ActionRows.{number_longer}
use Rattle.pst_sound_model.proofs.Chains.{members_first}
use Rattle.pst_sound_model.proofs.Meanings.{AreIndices, IsMeaning, OfInner, OfOwner, OfItem, value_meaning, without_traversal}
use Rattle.pst_sound_model.proofs.Named.{same_names, one_place, member_named}

handle_no_index : (d : Declaration) → d.sort ≡ sort.Index → is_handle d.sort ≡ true → ⊥
handle_no_index d e h = false≢true (sym (ap is_handle e) ∙ h)

handle_no_item : (d : Declaration) (level : _) → d.sort ≡ sort.Item level → is_handle d.sort ≡ true → ⊥
handle_no_item d level e h = false≢true (sym (ap is_handle e) ∙ h)

handle_is : (o : Option Referent) → option_map_or is_handle_referent o false ≡ true → (h : Declaration) × (o ≡ Some (Declared h)) × (is_handle h.sort ≡ true)
handle_is None e = absurd (false≢true e)
handle_is (Some (Declared h)) e = (h, refl, e)
handle_is (Some (Initial object)) e = absurd (false≢true e)
handle_is (Some (Previous object)) e = absurd (false≢true e)
handle_is (Some (Number object)) e = absurd (false≢true e)

pub same_declared : (d h : Declaration) → Declared d ≡ Declared h → d ≡ h
same_declared d h e = cc

pub member_referent : (o : Option Declaration) (h : Declaration) → referent o ≡ Some (Declared h) → o ≡ Some h
member_referent None h e = absurd (none-some (Declared h) e)
member_referent (Some d) h e = ap (λ (x : Declaration). Some x) (same_declared d h (same_Some (Declared d) (Declared h) e))

module _ (units : List UnitTree) (names : List (List ℕ)) (own : HaveOwnPlaces (declarations units)) (right : IsNone (NameBreach units names)) where
  abbrev ds : List Declaration
  ds = declarations units

  pub own_place_of : (test : Sort → Bool) (type d : Declaration) → In d (members_that test ds type) → HasOwnPlace (members_that test ds type) d
  own_place_of test type d there = λ e h same. one_place units names own right d e (member_declared test ds type d there).0 (member_declared test ds type e h).0 same

  -- the member of a sort that has a number
  pub number_one : (test : Sort → Bool) (type d e : Declaration) → In d (members_that test ds type) → In e (members_that test ds type) → number_in (members_that test ds type) d ≡ number_in (members_that test ds type) e → d ≡ e
  number_one test type d e there too same =
      same_Some d e (sym (numbered (members_that test ds type) d there (own_place_of test type d there)) ∙ (ap (slice_get (members_that test ds type)) same ∙ numbered (members_that test ds type) e too (own_place_of test type e too)))

  -- ---- in the text of an action: a name that stands for a handle

  -- outside of inline constraints a name that stands for a handle is that of a member
  pub named_member : (o : Declaration) (at : Environment) (name : NameId) (h : Declaration) → at.owner ≡ OfAction o → AreIndices ds at → value_named ds names at name ≡ Some (Declared h) → is_handle h.sort ≡ true → member_of ds o name ≡ Some h
  named_member o at name h owner indices e is = by (Declared h) refl (value_meaning ds names at name (Declared h) e)
    where
      by : (r : Referent) → r ≡ Declared h → IsMeaning ds names at name r → member_of ds o name ≡ Some h
      by _ same (OfInner n d there had) = let one = same_declared d h same in absurd (handle_no_index d (indices n there d had) (subst (λ (x : Declaration). is_handle x.sort ≡ true) (sym one) is))
      by _ same (OfOwner r had) = member_referent (member_of ds o name) h (sym (ap (λ (x : Owner). owned ds names x name) owner) ∙ (had ∙ ap (λ (x : Referent). Some x) same))
      by _ same (OfItem d level had) = let one = same_declared d h same in absurd (handle_no_item d level had (subst (λ (x : Declaration). is_handle x.sort ≡ true) (sym one) is))

  -- what the name of a handle of a traversal or bind stands for
  pub record IsHandleOf (o : Declaration) (at : Environment) (name : NameId) : Type 0 where
    pub handle : Declaration
    pub is : is_handle handle.sort ≡ true
    pub value : value_named ds names at name ≡ Some (Declared handle)
    pub member : member_of ds o name ≡ Some handle
    pub among : In handle (handles_of ds o)
    pub named : handle.name.id ≡ name

  pub handle_named_is : (o : Declaration) (at : Environment) (name : Name) → at.owner ≡ OfAction o → AreIndices ds at → at.traversal ≡ None → is_handle_name ds names at name ≡ true → IsHandleOf o at name.id
  handle_named_is o at name owner indices plain e =
      let h = handle_is (stands_for ds names at name.id) e in
      let value : value_named ds names at name.id ≡ Some (Declared h.0) = sym (without_traversal ds names at name.id plain) ∙ h.1 in
      let member = named_member o at name.id h.0 owner indices value h.2 in
      record {
        handle = h.0;
        is = h.2;
        value = value;
        member = member;
        among = of_sort ds o name.id h.0 is_handle member h.2;
        named = same_names h.0.name.id name.id (member_is ds o name.id h.0 member).named;
      }

  -- ---- with bases

  module _ (never : (d : Declaration) → In d ds → Reaches ds d d → ⊥) (d base : Declaration) (there : In d ds) (has : In base (with_bases ds d)) where
    pub among_derived : (test : Sort → Bool) (x : Declaration) → In x (members_that test ds base) → In x (members_that test ds d)
    among_derived test x here = let f = members_first ds never test d base there has in subst (In x) (sym f.1) (to_left (members_that test ds base) f.0 x here)

    pub number_derived : (test : Sort → Bool) (x : Declaration) → In x (members_that test ds base) → number_in (members_that test ds base) x ≡ number_in (members_that test ds d) x
    number_derived test x here =
        let f = members_first ds never test d base there has in
        sym (ap (λ (xs : List Declaration). number_in xs x) f.1 ∙ number_longer (members_that test ds base) f.0 x here)

    -- a name of the base is the name of a handle just where the numbers are one
    pub number_by_name : (h k : Declaration) → In h (handles_of ds d) → In k (handles_of ds base) → nat_eq (handle_number ds d h) (handle_number ds base k) ≡ same_name k.name.id h.name.id
    number_by_name h k here also = by (same_name k.name.id h.name.id) refl (nat_eq (handle_number ds d h) (handle_number ds base k)) refl
      where
        too : In k (handles_of ds d)
        too = among_derived is_handle k also

        one : h ≡ k → handle_number ds d h ≡ handle_number ds base k
        one e = ap (handle_number ds d) e ∙ sym (number_derived is_handle k also)

        by_names : same_name k.name.id h.name.id ≡ true → h ≡ k
        by_names e =
            let a = member_named units names own right d h there (those_declared is_handle (members ds d) h here).0 in
            let b = member_named units names own right d k there (those_declared is_handle (members ds d) k too).0 in
            same_Some h k (sym a ∙ (sym (ap (member_of ds d) (same_names k.name.id h.name.id e)) ∙ b))

        by_numbers : nat_eq (handle_number ds d h) (handle_number ds base k) ≡ true → h ≡ k
        by_numbers e = number_one is_handle d h k here too (eqb-true (handle_number ds d h) (handle_number ds base k) e ∙ number_derived is_handle k also)

        by : (a : Bool) → same_name k.name.id h.name.id ≡ a → (b : Bool) → nat_eq (handle_number ds d h) (handle_number ds base k) ≡ b → b ≡ a
        by true a true b = refl
        by false a false b = refl
        by true a false b = absurd (false≢true (sym b ∙ eq-eqb (handle_number ds d h) (handle_number ds base k) (one (by_names a))))
        by false a true b = absurd (false≢true (sym a ∙ (ap (λ (x : Declaration). same_name k.name.id x.name.id) (by_numbers b) ∙ eq-eqb k.name.id.0 k.name.id.0 refl)))

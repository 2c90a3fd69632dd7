-- The activity of a declaration, by what the sources say of it.
use Rattle.std.proofs.Common.{◌≡◌, Bool, true, false, List, [], ◌∷◌, Option, refl, sym, ap, subst, ◌∙◌, true≢false}
use Rattle.std.specs.Prelude.{Some, None, IsTrue, slice_get}
use Rattle.pst_base.specs.declared.table.NameId.{NameId}
use Rattle.pst_ast.specs.ActivityTree.{StatementTree}
use Rattle.pst_ast.specs.DeclarationTree.{UnitTree}
use Rattle.pst_ast.specs.declared.scope_declaration.Declaration.{Declaration}
use Rattle.pst_ast.specs.Declarations.{declarations}
use Rattle.pst_ast.specs.Lookups.{base_of}
use Rattle.pst_type_rules.specs.Handles.{IsSteady, IsSteadyIn}
use Rattle.pst_type_rules.specs.Members.{activities_of, bodies_of, IsCompound, Own, Inherited}
use Rattle.pst_type_rules.specs.Sites.{DeclaredAction, action_at}
use Rattle.pst_traversals.specs.Own.{first_in, has_any, own_activity, has_body}
use Rattle.pst_tree.proofs.InheritedDeclared.{base_there}
use Rattle.pst_steady.specs.Numbered.{IsNumber}
use Rattle.pst_steady.proofs.Numbering.{base_acts}
use Rattle.pst_steady.proofs.Lists.{some_is, no_some}
use Rattle.pst_steady.proofs.Lined.{first_none, first_some, any_none}

module _ (units : List UnitTree) (d : Declaration) (h : NameId) where
  never : (IsSteadyIn units d h → ⊥) → (IsTrue false → IsSteadyIn units d h) × (IsSteadyIn units d h → IsTrue false)
  never wrong = ((λ e. absurd (true≢false (sym e))), λ s. absurd (wrong s))

  has_action : (s : List StatementTree) → IsCompound units d s → (a : DeclaredAction) × (action_at units d.name.place ≡ Some a)
  has_action s (Own e a t more found acts) = (a, found)
  has_action s (Inherited e b a t found none bodiless led comp) = (a, found)

  pub no_action : action_at units d.name.place ≡ None → (IsTrue false → IsSteadyIn units d h) × (IsSteadyIn units d h → IsTrue false)
  no_action none = never (λ st. let a = has_action st.statements st.compound in no_some (sym none ∙ a.1))

  module _ (a : DeclaredAction) (found : action_at units d.name.place ≡ Some a) where
    own_is : (s t : List StatementTree) → own_activity a ≡ Some s → IsCompound units d t → s ≡ t
    own_is s t own (Own e b u more f acts) = some_is (sym own ∙ (ap own_activity (some_is (sym found ∙ f)) ∙ ap first_in acts))
    own_is s t own (Inherited e b c u f none bodiless led comp) = absurd (no_some (sym (ap own_activity (some_is (sym found ∙ f)) ∙ ap first_in none) ∙ own))

    pub by_own : (s : List StatementTree) (so : Bool) → own_activity a ≡ Some s → (IsTrue so → IsSteady h s) × (IsSteady h s → IsTrue so) → (IsTrue so → IsSteadyIn units d h) × (IsSteadyIn units d h → IsTrue so)
    by_own s so own is =
        let more = first_some (activities_of a) s own in
        ((λ e. record { statements = s; compound = Own d a s more.0 found more.1; steady = is.0 e }), λ st. is.1 (subst (IsSteady h) (sym (own_is s st.statements own st.compound)) st.steady))

    led_by : (t : List StatementTree) → own_activity a ≡ None → IsCompound units d t → (has_body a ≡ false) × ((b : Declaration) × (base_of (declarations units) d ≡ Some b) × IsCompound units b t)
    led_by t own (Own e b u more f acts) = absurd (no_some (sym own ∙ (ap own_activity (some_is (sym found ∙ f)) ∙ ap first_in acts)))
    led_by t own (Inherited e b c u f none bodiless led comp) = (ap has_body (some_is (sym found ∙ f)) ∙ ap has_any bodiless, (b, led, comp))

    pub by_body : own_activity a ≡ None → has_body a ≡ true → (IsTrue false → IsSteadyIn units d h) × (IsSteadyIn units d h → IsTrue false)
    by_body own body = never (λ st. true≢false (sym body ∙ (led_by st.statements own st.compound).0))

    pub by_no_base : own_activity a ≡ None → base_of (declarations units) d ≡ None → (IsTrue false → IsSteadyIn units d h) × (IsSteadyIn units d h → IsTrue false)
    by_no_base own none = never (λ st. let l = led_by st.statements own st.compound in no_some (sym none ∙ l.1.1))

    pub by_base : own_activity a ≡ None → has_body a ≡ false → (b : Declaration) → base_of (declarations units) d ≡ Some b → (so : Bool) → (IsTrue so → IsSteadyIn units b h) × (IsSteadyIn units b h → IsTrue so)
        → (IsTrue so → IsSteadyIn units d h) × (IsSteadyIn units d h → IsTrue so)
    by_base own bodiless b led so is = (
      (λ e. let st = is.0 e in record { statements = st.statements; compound = Inherited d b a st.statements found (first_none (activities_of a) own) (any_none (bodies_of a) bodiless) led st.compound; steady = st.steady }),
      λ st. let l = led_by st.statements own st.compound in
          is.1 (record { statements = st.statements; compound = subst (λ (x : Declaration). IsCompound units x st.statements) (some_is (sym l.1.1 ∙ led)) l.1.2; steady = st.steady }),
    )

pub not_missing : (ds : List Declaration) (units : List UnitTree) (d b : Declaration) → ds ≡ declarations units → base_of (declarations units) d ≡ Some b → IsNumber ds b None → ⊥
not_missing ds units d b are led none =
    let at = base_there (declarations units) d b led in
    none at.0 (subst (λ (es : List Declaration). slice_get es at.0 ≡ Some b) (sym are) at.1) (base_acts (declarations units) d b led)

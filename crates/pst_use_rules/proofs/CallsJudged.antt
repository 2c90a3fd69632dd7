-- What is found of traversals, calls and assignments is the least of what they break.
use Rattle.std.proofs.Common.{◌≡◌, ◌≢◌, ◌⊎◌, inl, inr, ⊎_elim, ℕ, nat_eq, length, Bool, true, false, not, ◌&&◌, List, Option, refl, sym, ap, subst, ◌∙◌, arith, true≢false}
use Rattle.std.proofs.lemmas.Bool.Decides.{eqb_tells}
use Rattle.std.specs.Prelude.{Some, None}
use Rattle.std.specs.Option.{option_and_then}
use Rattle.pst_base.specs.declared.position.Place.{Place}
use Rattle.pst_ast.specs.declared.leaf.Name.{Name}
use Rattle.pst_ast.specs.DeclarationTree.{UnitTree, AnswerTree, AnswerVoid, AnswerPlain}
use Rattle.pst_ast.specs.declared.scope_declaration.Declaration.{Declaration}
use Rattle.pst_ast.specs.declared.environment.Environment.{Environment}
use Rattle.pst_ast.specs.declared.referent.Finding.{Finding}
use Rattle.pst_ast.specs.declared.referent.Referent.{Referent}
use Rattle.pst_ast.specs.declared.referent.Traversal.{Traversal}
use Rattle.pst_ast.specs.Declarations.{declarations}
use Rattle.pst_ast.specs.Lookups.{type_here, stands_for, traversed}
use Rattle.pst_ast.specs.NameRules.{unless}
use Rattle.pst_ast.specs.Uses.{Assigns, Performs, Passes}
use Rattle.pst_type_rules.specs.Limits.{is_local}
use Rattle.pst_type_rules.specs.Sites.{DeclaredAction, DeclaredFunction, action_at, function_at}
use Rattle.pst_type_rules.specs.TypeRules.{UseBreaks, AbstractTraversed, WrongArguments, NoAnswer, NoLocal, is_declared}
use Rattle.pst_name_rules.specs.Leasts.{IsLeastOf}
use Rattle.pst_use_rules.specs.Found.{may_be_assigned, assigns_found, performed_found, performs_found, is_void, passes_right, passes_found}
use Rattle.pst_use_rules.specs.Laws.{AssignmentsAreJudged, CallsAreJudged, IsBroken}
use Rattle.pst_use_rules.proofs.Told.{at, of_one, none_not, and_off, off_and, not_off, off_not, on_and, and_on}

-- what two steps give, by what the first gives
then_is : {X Y : Type 0} (f : X → Option Y) (o : Option X) (y : Y) → option_and_then f o ≡ Some y → (x : X) × (o ≡ Some x) × (f x ≡ Some y)
then_is f None y e = absurd (none_not None y refl e)
then_is f (Some x) y e = (x, refl, e)

is_then : {X Y : Type 0} (f : X → Option Y) (o : Option X) (x : X) (y : Y) → o ≡ Some x → f x ≡ Some y → option_and_then f o ≡ Some y
is_then f o x y p q = ap (option_and_then f) p ∙ q

-- ---- assignments

not_assigned : (o : Option Referent) → may_be_assigned o ≡ false → (r : Referent) × (o ≡ Some r) × (is_declared is_local r ≡ false)
not_assigned None e = absurd (true≢false e)
not_assigned (Some r) e = (r, refl, e)

assign_told : (units : List UnitTree) (names : List (List ℕ)) (here : Environment) (name : Name) (place : Place) (rule : ℕ) → UseBreaks units names (Assigns here name) place rule
    → (may_be_assigned (stands_for (declarations units) names here name.id) ≡ false) × (at place rule ≡ at name.place 21)
assign_told units names here name place rule (NoLocal env n r is never) = (ap may_be_assigned is ∙ never, refl)

pub assignments_are_judged : AssignmentsAreJudged
assignments_are_judged units names here name =
    of_one (IsBroken units names (Assigns here name)) (may_be_assigned (stands_for (declarations units) names here name.id)) name.place 21
    (λ off. let r = not_assigned (stands_for (declarations units) names here name.id) off in NoLocal here name r.0 r.1 r.2)
    (λ f has. assign_told units names here name f.place f.rule has)

-- ---- traversals

module _ (units : List UnitTree) (names : List (List ℕ)) (here : Environment) (place : Place) (traversal : Traversal) where
  abbrev found_action : Declaration → Option DeclaredAction
  found_action d = action_at units d.name.place

  abbrev action : Option DeclaredAction
  action = option_and_then found_action (traversed (declarations units) names here traversal)

  abbrev Abstract : Finding → Type 0
  Abstract f = (a : DeclaredAction) × (action ≡ Some a) × (a.is_abstract ≡ true) × (f ≡ at place 17)

  by_action : (o : Option DeclaredAction) → action ≡ o → IsLeastOf Abstract (performed_found place o)
  by_action None e = λ f has. none_not action has.0 e has.1
  by_action (Some a) e =
      of_one Abstract (not a.is_abstract) place 17 (λ off. (a, e, not_off a.is_abstract off, refl))
      (λ f has. (ap not (ap (λ (b : DeclaredAction). b.is_abstract) (same a has.0 (sym e ∙ has.1)) ∙ has.2), has.3))
    where
      same : (x y : DeclaredAction) → Some x ≡ Some y → x ≡ y
      same x y e = cc

  abstract_broken : (f : Finding) → Abstract f → IsBroken units names (Performs here place traversal) f
  abstract_broken f (a, is, yet, at_it) =
      let t = then_is found_action (traversed (declarations units) names here traversal) a is in
      subst (IsBroken units names (Performs here place traversal)) (sym at_it) (AbstractTraversed here place traversal t.0 a t.1 t.2 yet)

  broken_abstract : (p : Place) (rule : ℕ) → UseBreaks units names (Performs here place traversal) p rule → Abstract (at p rule)
  broken_abstract p rule (AbstractTraversed env q t d a is found yet) = (a, is_then found_action (traversed (declarations units) names here traversal) d a is found, yet, refl)

  pub performs : IsLeastOf (IsBroken units names (Performs here place traversal)) (performs_found units (declarations units) names here place traversal)
  performs = retold Abstract (IsBroken units names (Performs here place traversal)) (performs_found units (declarations units) names here place traversal) abstract_broken (λ f has. broken_abstract f.place f.rule has) (by_action action refl)
    where
      retold : (P Q : Finding → Type 0) (found : Option Finding) → ((f : Finding) → P f → Q f) → ((f : Finding) → Q f → P f) → IsLeastOf P found → IsLeastOf Q found
      retold P Q None to from least = λ f has. least f (from f has)
      retold P Q (Some a) to from least = (to a least.0, λ g has. least.1 g (from g has))

-- ---- calls

void_is : (a : AnswerTree) → is_void a ≡ true → (place : Place) × (a ≡ AnswerVoid place)
void_is (AnswerVoid place) e = (place, refl)
void_is (AnswerPlain plain) e = absurd (true≢false (sym e))

differ : (a b : ℕ) → nat_eq a b ≡ false → a ≢ b
differ a b e = λ same. true≢false (sym (⊎_elim (λ t. t.0) (λ f. absurd (f.1 same)) (eqb_tells a b)) ∙ e)

not_equal : (a b : ℕ) → a ≢ b → nat_eq a b ≡ false
not_equal a b never = ⊎_elim (λ t. absurd (never t.1)) (λ f. f.0) (eqb_tells a b)

module _ (units : List UnitTree) (names : List (List ℕ)) (component : Option Place) (name : Name) (arguments : ℕ) where
  abbrev found_function : Declaration → Option DeclaredFunction
  found_function d = function_at units d.name.place

  abbrev function : Option DeclaredFunction
  function = option_and_then found_function (type_here (declarations units) component name.id)

  wrong : (o : Option DeclaredFunction) (needed : Bool) → passes_right arguments needed o ≡ false → (f : DeclaredFunction) × (o ≡ Some f) × ((nat_eq arguments (length f.parameters) ≡ false) ⊎ ((needed ≡ true) × (is_void f.answer ≡ true)))
  wrong None needed e = absurd (true≢false e)
  wrong (Some f) needed e = (f, refl, ⊎_elim (λ l. inl l) (λ r. inr (on_and needed (is_void f.answer) (not_off (needed && is_void f.answer) r))) (and_off (nat_eq arguments (length f.parameters)) (not (needed && is_void f.answer)) e))

  broken : (needed : Bool) → passes_right arguments needed function ≡ false → IsBroken units names (Passes component name arguments needed) (at name.place 21)
  broken needed off =
      let w = wrong function needed off in
      let t = then_is found_function (type_here (declarations units) component name.id) w.0 w.1 in
      ⊎_elim (λ l. WrongArguments component name arguments needed t.0 w.0 t.1 t.2 (differ arguments (length w.0.parameters) l))
      (λ r. let v = void_is w.0.answer r.1 in
      subst (λ (b : Bool). IsBroken units names (Passes component name arguments b) (at name.place 21)) (sym r.0) (NoAnswer component name arguments t.0 w.0 v.0 t.1 t.2 v.1))
      w.2

  off_by : (needed : Bool) (d : Declaration) (f : DeclaredFunction) → type_here (declarations units) component name.id ≡ Some d → function_at units d.name.place ≡ Some f
      → (nat_eq arguments (length f.parameters) ≡ false) ⊎ ((needed && is_void f.answer) ≡ true) → passes_right arguments needed function ≡ false
  off_by needed d f is found e =
      ap (passes_right arguments needed) (is_then found_function (type_here (declarations units) component name.id) d f is found)
      ∙ off_and (nat_eq arguments (length f.parameters)) (not (needed && is_void f.answer)) (⊎_elim (λ l. inl l) (λ r. inr (off_not (needed && is_void f.answer) r)) e)

  call_told : (needed : Bool) (place : Place) (rule : ℕ) → UseBreaks units names (Passes component name arguments needed) place rule → (passes_right arguments needed function ≡ false) × (at place rule ≡ at name.place 21)
  call_told needed place rule (WrongArguments c n a b d f is found never) = (off_by needed d f is found (inl (not_equal arguments (length f.parameters) never)), refl)
  call_told needed place rule (NoAnswer c n a d f void is found answer) = (off_by true d f is found (inr (ap is_void answer)), refl)

  pub passes : (needed : Bool) → IsLeastOf (IsBroken units names (Passes component name arguments needed)) (passes_found units (declarations units) component name arguments needed)
  passes needed =
      of_one (IsBroken units names (Passes component name arguments needed)) (passes_right arguments needed function) name.place 21 (broken needed) (λ f has. call_told needed f.place f.rule has)

pub calls_are_judged : CallsAreJudged
calls_are_judged units names = (performs units names, passes units names)

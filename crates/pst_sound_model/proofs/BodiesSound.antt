-- The bodies of the model are sound.
use Rattle.std.proofs.Common.{◌≡◌, ◌<◌, ◌≤◌, inl, inr, refl, sym, ap, subst, arith, ◌∙◌}
use Rattle.std.specs.Prelude.{ℕ, ◌+◌, Bool, true, false, List, [], ◌∷◌, map, length, slice_get, cond, All, IsSome, Option, Some, None}
use Rattle.std.specs.List.{filter, flat_map}
use Rattle.std.specs.Option.{option_map, option_map_or, IsSomeAnd}
use Rattle.std.proofs.lemmas.Bool.{false≢true}
use Rattle.std.proofs.lemmas.List.{length-map}
use Rattle.std.proofs.lemmas.List.Elements.{All-nil, All-cons}
use Rattle.std.proofs.lemmas.Option.{none-some, same_Some, slice_get_within}
use Rattle.pst_base.specs.declared.position.Place.{Place}
use Rattle.pst_ast.specs.declared.leaf.Name.{Name}
use Rattle.pst_ast.specs.declared.shared.LabelNode.{LabelNode}
use Rattle.pst_ast.specs.ExpressionTree.{ExprTree}
use Rattle.pst_ast.specs.BodyTree.{ArgumentsTree, CallTree, MakeCall, BodyStatementTree, BodyStatementEmpty, BodyStatementLocal, BodyStatementAssign, BodyStatementCall, BodyStatementBlock, BodyStatementIf, BodyStatementIfElse, BodyStatementRepeat, BodyTree, MakeBody}
use Rattle.pst_ast.specs.DeclarationTree.{UnitTree, AnswerTree, AnswerVoid, AnswerPlain}
use Rattle.pst_expr.specs.declared.ranges.Span.{Span}
use Rattle.pst_model.specs.Limits.{most_locals}
use Rattle.pst_model.specs.BodyTree.{BodyStepTree}
use Rattle.pst_model.specs.ModelTree.{ActionTree, ModelTree}
use Rattle.pst_model.specs.SoundBody.{locals_of, EachBodyStep, IsBodyExpression, IsCall, IsSoundBodyStep, IsSoundBody}
use Rattle.pst_ast.specs.declared.instance.Instance.{Instance}
use Rattle.pst_ast.specs.Breaches.{IsNone}
use Rattle.pst_ast.specs.declared.scope_declaration.Declaration.{Declaration}
use Rattle.pst_ast.specs.declared.scope_declaration.Scope.{Scope}
use Rattle.pst_ast.specs.declared.scope_declaration.Sort.{Sort}
use Rattle.pst_ast.specs.declared.scope_declaration.Sort.TheVariants as sort
use Rattle.pst_ast.specs.declared.referent.Owner.{Owner}
use Rattle.pst_ast.specs.declared.referent.Owner.TheVariants.{OfAction}
use Rattle.pst_ast.specs.declared.referent.Referent.{Referent}
use Rattle.pst_ast.specs.declared.referent.Referent.TheVariants.{Declared, Initial, Previous, Number}
use Rattle.pst_ast.specs.Declarations.{local, index, index_of, in_body_statement, declarations}
use Rattle.pst_ast.specs.Lookups.{declared_at, type_here, member_of, owned, referent, stands_for}
use Rattle.pst_ast.specs.NameRules.{NameBreach, Reaches, assigned_finding}
use Rattle.pst_ast.specs.Sorts.{is_action, same_place}
use Rattle.pst_ast.specs.Uses.{InBody, Calls, Passes, Assigns, arguments_of, whole_uses, call_uses, body_list_uses, environment, uses as all_uses}
use Rattle.pst_type_rules.specs.Limits.{is_local, is_local_of, Locals}
use Rattle.pst_type_rules.specs.TypeRules.{TypeBreach, OfUse, NoLocal, is_declared}
use Rattle.pst_type_rules.specs.Sites.{DeclaredAction, action_at, functions}
use Rattle.pst_type_rules.specs.Members.{bodies_of}
use Rattle.pst_type_rules.specs.declared.typed.ConstantValue.{ConstantValue}
use Rattle.pst_tree.specs.Bases.{with_bases, number_in, function_number}
use Rattle.pst_terms.specs.Sources.{Sources}
use Rattle.pst_terms.specs.Readings.{Setting, Turn, AtLevel, is_inner_sort, expression_of}
use Rattle.pst_elab_rules.specs.Bodies.{behind, local_in, local_of, function_called, arguments_in, body_steps}
use Rattle.pst_elab_rules.specs.Steps.{or_zero, turn_setting}
use Rattle.pst_elab_rules.specs.Types.{setting_of, parameter_span, answer_span, model_function, model_action}
use Rattle.pst_elab_rules.specs.Model.{sources, model_by}
use Rattle.pst_sound_model.proofs.ActionRows.{some_and, got_map}
use Rattle.pst_sound_model.proofs.ActionReadings.{not_inner}
use Rattle.pst_sound_model.proofs.Facts.{AreFacts}
use Rattle.pst_sound_model.proofs.Meanings.{IsMeaning, OfInner, OfOwner, OfItem, meaning_of}
use Rattle.pst_sound_model.proofs.Members.{In, in_find, in_filter, to_filter, to_contains}
use Rattle.pst_sound_model.proofs.Owned.{numbered, same_itself, and_true}
use Rattle.pst_sound_model.proofs.SetTerms.{AreUses, AreDeclared}
use Rattle.pst_sound_model.proofs.TermsOf.{each_left, each_right}
use Rattle.pst_sound_model.proofs.FewNeeds.{few}
use Rattle.pst_sound_model.proofs.ServedWhole.{got_back}
use Rattle.pst_sound_model.proofs.Typed.{nothing_found}
use Rattle.pst_sound_model.proofs.Counted.{counted, AreOnce, stands_at, once_numbered, fewer}
use Rattle.pst_sound_model.proofs.Expressions.{expression_sound}
use Rattle.pst_sound_model.proofs.Functions.{IsCalled, called}
use Rattle.pst_sound_model.proofs.Inside.{all_inside}
use Rattle.pst_sound_model.proofs.Locals.{locals_among, list_locals}
use Rattle.pst_sound_model.proofs.NoHandles.{no_handle}
use Rattle.pst_sound_model.proofs.Paths.{IsInner, IsInBody}
use Rattle.pst_sound_model.proofs.Statements.{list_sound}

same_declared : (x y : Declaration) → Declared x ≡ Declared y → x ≡ y
same_declared x y e = cc

local_inner : (so : Sort) → is_local so ≡ true → is_inner_sort so ≡ true
local_inner sort.Component e = absurd (false≢true e)
local_inner (sort.Action base) e = absurd (false≢true e)
local_inner (sort.Object word) e = absurd (false≢true e)
local_inner sort.Enumeration e = absurd (false≢true e)
local_inner sort.Function e = absurd (false≢true e)
local_inner (sort.Instance of) e = absurd (false≢true e)
local_inner (sort.Pool of) e = absurd (false≢true e)
local_inner (sort.Item level) e = absurd (false≢true e)
local_inner (sort.Field array) e = absurd (false≢true e)
local_inner (sort.Reference of output) e = absurd (false≢true e)
local_inner (sort.Claim of) e = absurd (false≢true e)
local_inner (sort.Handle of) e = absurd (false≢true e)
local_inner sort.Constraint e = absurd (false≢true e)
local_inner sort.Parameter e = absurd (false≢true e)
local_inner sort.Local e = refl
local_inner sort.Index e = absurd (false≢true e)

index_no_local : (so : Sort) → so ≡ sort.Index → is_local so ≡ true → ⊥
index_no_local so e h = false≢true (sym (ap is_local e) ∙ h)

item_no_local : (so : Sort) (level : Scope) → so ≡ sort.Item level → is_local so ≡ true → ⊥
item_no_local so level e h = false≢true (sym (ap is_local e) ∙ h)

counted_implied : (t u : Declaration → Bool) (xs : List Declaration) → ((x : Declaration) → In x xs → t x ≡ true → u x ≡ true) → counted t xs ≤ counted u xs
counted_implied t u [] on = omega arith
counted_implied t u (x ∷ xs) on = by (t x) refl (u x) refl (counted_implied t u xs (λ y there. on y (inr there)))
  where
    by : (b : Bool) → t x ≡ b → (c : Bool) → u x ≡ c → counted t xs ≤ counted u xs → length (cond b (x ∷ filter t xs) (filter t xs)) ≤ length (cond c (x ∷ filter u xs) (filter u xs))
    by true is true also more = omega (arith, more)
    by true is false also more = absurd (false≢true (sym also ∙ on x (inl refl) is))
    by false is true also more = omega (arith, more)
    by false is false also more = more

module _ (units : List UnitTree) (names : List (List ℕ)) (right : IsNone (NameBreach units names)) (kept : IsNone (TypeBreach units names)) (constants : List ConstantValue) (facts : AreFacts (sources units names constants))
    (domains : List (List Span)) (instances : List Instance) (never : (d : Declaration) → In d (declarations units) → Reaches (declarations units) d d → ⊥)
    (d : Declaration) (mine : In d (declarations units)) (base : Declaration) (among : In base (with_bases (declarations units) d)) (there : In base (declarations units)) (is : is_action base.sort ≡ true)
    (exec_place word left : Place) (statements : List BodyStatementTree) (close : Place)
    (used : AreUses units (body_list_uses (environment base.inside (OfAction base)) statements))
    (declares : AreDeclared (declarations units) (flat_map (in_body_statement base.name.place left) statements))
    (counts : (test : Declaration → Bool) → counted test (flat_map (in_body_statement base.name.place left) statements) ≤ counted test (declarations units))
    (once : AreOnce (declarations units))
    (a : DeclaredAction) (at : action_at units base.name.place ≡ Some a) (more : List BodyTree) (has : bodies_of a ≡ MakeBody exec_place word left statements close ∷ more) where
  abbrev s : Sources
  s = sources units names constants

  abbrev ds : List Declaration
  ds = declarations units

  abbrev all : List Declaration
  all = flat_map (in_body_statement base.name.place left) statements

  abbrev locals : List Declaration
  locals = locals_among all

  abbrev model : ModelTree
  model = model_by s domains instances

  abbrev action : ActionTree
  action = model_action s domains d

  abbrev Right : ℕ → Setting → Type 0
  Right = IsInBody s base locals

  in_locals : (x : Declaration) → In x locals → In x ds
  in_locals x h = declares x (in_filter (λ y. is_local y.sort) all x h).0

  number_within : (x : Declaration) → In x locals → number_in locals x < length locals
  number_within x h = slice_get_within locals (number_in locals x) x (numbered locals x h (λ e other same. facts.places x e (in_locals x h) (in_locals e other) same))

  -- ---- scopes

  deeper : (level : ℕ) (setting : Setting) → Right level setting → (index : Option LabelNode) → AreDeclared all (index_of base.name.place index) → Right (level + 1) (turn_setting setting level index)
  unfolding declared_at
  deeper level setting r None inside = record {
    owner = r.owner;
    plain = r.plain;
    inner = r.inner;
    turns = λ x h. let t = r.turns x h in let less = t.2 in (t.0, t.1, omega (arith, less));
    locals_are = r.locals_are;
  }
  deeper level setting r (Some label) inside = record {
    owner = r.owner;
    plain = r.plain;
    inner = within;
    turns = turning;
    locals_are = r.locals_are;
  }
    where
      itself : In (index base.name.place label.name) ds
      itself = declares (index base.name.place label.name) (inside (index base.name.place label.name) (inl refl))

      within : (n : Name) → In n (label.name ∷ setting.at.inner) → (x : Declaration) → declared_at ds n.place ≡ Some x → IsInner s base locals x
      within n (inr h) x e = r.inner n h x e
      within n (inl same) x e =
          let found = in_find (λ y. same_place y.name.place n.place) ds x e in
          let here : same_place x.name.place label.name.place ≡ true = ap (λ (y : Name). same_place x.name.place y.place) same ∙ found.1 in
          inl (ap (λ (y : Declaration). y.sort) (facts.places (index base.name.place label.name) x itself found.0 here))

      turning : (x : Place × Turn) → In x ((label.name.place, AtLevel level) ∷ setting.turns) → (l : ℕ) × (x.1 ≡ AtLevel l) × (l < level + 1)
      turning x (inl e) = (level, sym (ap (λ (y : Place × Turn). y.1) e), omega arith)
      turning x (inr h) = let t = r.turns x h in let less = t.2 in (t.0, t.1, omega (arith, less))

  further : (level : ℕ) (setting : Setting) → Right level setting → (scope : Place) (statement : BodyStatementTree) → AreDeclared all (in_body_statement base.name.place scope statement) → Right level (behind setting statement)
  unfolding declared_at
  further level setting r scope (BodyStatementEmpty place) inside = r
  further level setting r scope (BodyStatementLocal plain name value semicolon) inside = record {
    owner = r.owner;
    plain = r.plain;
    inner = within;
    turns = r.turns;
    locals_are = r.locals_are;
  }
    where
      itself : In (local base.name.place scope name) all
      itself = inside (local base.name.place scope name) (inl refl)

      within : (n : Name) → In n (name ∷ setting.at.inner) → (x : Declaration) → declared_at ds n.place ≡ Some x → IsInner s base locals x
      within n (inr h) x e = r.inner n h x e
      within n (inl same) x e =
          let found = in_find (λ y. same_place y.name.place n.place) ds x e in
          let here : same_place x.name.place name.place ≡ true = ap (λ (y : Name). same_place x.name.place y.place) same ∙ found.1 in
          let it : x ≡ local base.name.place scope name = facts.places (local base.name.place scope name) x (declares (local base.name.place scope name) itself) found.0 here in
          inr (ap (λ (y : Declaration). y.sort) it, subst (λ (y : Declaration). In y locals) (sym it) (to_filter (λ y. is_local y.sort) all (local base.name.place scope name) itself refl))
  further level setting r scope (BodyStatementAssign name equal source semicolon) inside = r
  further level setting r scope (BodyStatementCall call semicolon) inside = r
  further level setting r scope (BodyStatementBlock opening inner closing) inside = r
  further level setting r scope (BodyStatementIf place opening condition closing then_part) inside = r
  further level setting r scope (BodyStatementIfElse place opening condition closing then_part else_place otherwise) inside = r
  further level setting r scope (BodyStatementRepeat place opening index count closing statement) inside = r

  -- ---- expressions, calls and assignments

  expression : (level : ℕ) (setting : Setting) → Right level setting → (expr : ExprTree) → AreUses units (whole_uses setting.at InBody expr) → IsBodyExpression model action (length locals) level (expression_of s setting expr)
  expression level setting r expr uses =
      expression_sound s facts domains never d mine base among there is locals number_within
      (λ levels setting r p ps u h e handle. no_handle units names kept base there a at (MakeBody exec_place word left statements close) more has setting.at r.owner r.plain p ps u h e handle) level setting r expr uses

  arguments_sound : (level : ℕ) (setting : Setting) → Right level setting → (arguments : List ExprTree) → AreUses units (flat_map (whole_uses setting.at InBody) arguments) → All (IsBodyExpression model action (length locals) level) (map (expression_of s setting) arguments)
  arguments_sound level setting r [] uses = All-nil (IsBodyExpression model action (length locals) level)
  arguments_sound level setting r (x ∷ xs) uses =
      All-cons (IsBodyExpression model action (length locals) level) (expression_of s setting x) (map (expression_of s setting) xs)
      (expression level setting r x (each_left (λ u. In u (all_uses units)) (whole_uses setting.at InBody x) (flat_map (whole_uses setting.at InBody) xs) uses))
      (arguments_sound level setting r xs (each_right (λ u. In u (all_uses units)) (whole_uses setting.at InBody x) (flat_map (whole_uses setting.at InBody) xs) uses))

  its_number : (setting : Setting) (name : Name) (n : ℕ) (needed : Bool) (c : IsCalled units setting.at.component name n needed)
      → slice_get model.functions (or_zero (option_map (function_number ds) (type_here ds setting.at.component name.id))) ≡ Some (model_function s c.function)
  its_number setting name n needed c =
      ap (λ (o : Option Declaration). slice_get model.functions (or_zero (option_map (function_number ds) o))) c.here
      ∙ got_map (model_function s) (functions units) (function_number ds c.declaration) c.function c.number

  its_call : (level : ℕ) (setting : Setting) → Right level setting → (name : Name) (opening : Place) (arguments : Option ArgumentsTree) (closing : Place) (needed : Bool) → AreUses units (call_uses setting.at needed (MakeCall name opening arguments closing))
      → (c : IsCalled units setting.at.component name (length (arguments_of arguments)) needed) → IsCall model action (length locals) level (map (expression_of s setting) (arguments_of arguments)) (model_function s c.function)
  its_call level setting r name opening arguments closing needed uses c =
      let one = length-map (arguments_of arguments) (expression_of s setting) in
      let two = length-map c.function.parameters (parameter_span s) in
      let three = c.arguments_are in
      (omega (arith, one, two, three), arguments_sound level setting r (arguments_of arguments) (λ u h. uses u (inr (inr h))))

  answer_given : (answer : AnswerTree) → ((void : Place) → answer ≡ AnswerVoid void → ⊥) → IsSome (answer_span s answer)
  answer_given (AnswerVoid void) none = absurd (none void refl)
  answer_given (AnswerPlain plain) none = refl

  call_of : (setting : Setting) (name : Name) (opening : Place) (arguments : Option ArgumentsTree) (closing : Place) (needed : Bool) → AreUses units (call_uses setting.at needed (MakeCall name opening arguments closing))
      → IsCalled units setting.at.component name (length (arguments_of arguments)) needed
  call_of setting name opening arguments closing needed uses =
      called units names right kept setting.at.component name (length (arguments_of arguments)) needed (uses (Calls setting.at.component name) (inl refl))
      (uses (Passes setting.at.component name (length (arguments_of arguments)) needed) (inr (inl refl)))

  answered : (level : ℕ) (setting : Setting) → Right level setting → (call : CallTree) → AreUses units (call_uses setting.at true call)
      → IsSomeAnd (slice_get model.functions (function_called s setting call)) (λ f. IsCall model action (length locals) level (arguments_in s setting call) f × IsSome f.answer)
  answered level setting r (MakeCall name opening arguments closing) uses =
      let c = call_of setting name opening arguments closing true uses in
      some_and (slice_get model.functions (function_called s setting (MakeCall name opening arguments closing))) (model_function s c.function)
      (λ f. IsCall model action (length locals) level (arguments_in s setting (MakeCall name opening arguments closing)) f × IsSome f.answer) (its_number setting name (length (arguments_of arguments)) true c)
      (its_call level setting r name opening arguments closing true uses c, answer_given c.function.answer (λ void e. c.answers refl void e))

  passed : (level : ℕ) (setting : Setting) → Right level setting → (call : CallTree) → AreUses units (call_uses setting.at false call)
      → IsSomeAnd (slice_get model.functions (function_called s setting call)) (IsCall model action (length locals) level (arguments_in s setting call))
  passed level setting r (MakeCall name opening arguments closing) uses =
      let c = call_of setting name opening arguments closing false uses in
      some_and (slice_get model.functions (function_called s setting (MakeCall name opening arguments closing))) (model_function s c.function)
      (IsCall model action (length locals) level (arguments_in s setting (MakeCall name opening arguments closing))) (its_number setting name (length (arguments_of arguments)) false c) (its_call level setting r name opening arguments closing false uses c)

  -- what is assigned to is a local
  assigned_to : (setting : Setting) (name : Name) → In (Assigns setting.at name) (all_uses units) → (x : Declaration) × (stands_for ds names setting.at name.id ≡ Some (Declared x)) × (is_local x.sort ≡ true)
  assigned_to setting name there =
      by (stands_for ds names setting.at name.id) refl (sym (nothing_found units names right (Assigns setting.at name) there))
    where
      breach : (r : Referent) → stands_for ds names setting.at name.id ≡ Some r → is_declared is_local r ≡ false → ⊥
      breach r e other = kept name.place 21 (OfUse (Assigns setting.at name) name.place 21 (to_contains (all_uses units) (Assigns setting.at name) there) (NoLocal setting.at name r e other))

      so : (x : Declaration) → stands_for ds names setting.at name.id ≡ Some (Declared x) → (b : Bool) → is_local x.sort ≡ b → is_local x.sort ≡ true
      so x e true h = h
      so x e false h = absurd (breach (Declared x) e h)

      by : (o : Option Referent) → stands_for ds names setting.at name.id ≡ o → None ≡ assigned_finding ds name o → (x : Declaration) × (stands_for ds names setting.at name.id ≡ Some (Declared x)) × (is_local x.sort ≡ true)
      by None e h = absurd (none-some _ h)
      by (Some (Declared x)) e h = (x, e, so x e (is_local x.sort) refl)
      by (Some (Initial object)) e h = absurd (breach (Initial object) e refl)
      by (Some (Previous object)) e h = absurd (breach (Previous object) e refl)
      by (Some (Number object)) e h = absurd (breach (Number object) e refl)

  -- a local that a name stands for is one of the body's
  local_of_body : (level : ℕ) (setting : Setting) → Right level setting → (name : Name) (x : Declaration) → (r : Referent) → r ≡ Declared x → IsMeaning ds names setting.at name.id r → is_local x.sort ≡ true → In x locals
  local_of_body level setting r name x _ e (OfInner n y h had) is_one =
      let same : y ≡ x = same_declared y x e in subst (λ (z : Declaration). In z locals) same (by y (r.inner n h y had) (ap (λ (z : Declaration). is_local z.sort) same ∙ is_one))
    where
      by : (y : Declaration) → IsInner s base locals y → is_local y.sort ≡ true → In y locals
      by y (inl turn) h = absurd (index_no_local y.sort turn h)
      by y (inr both) h = both.1
  local_of_body level setting r name x _ e (OfOwner t found) is_one =
      absurd (not_inner s facts base there is name.id x (member_by (member_of ds base name.id) refl (sym (ap (λ (o : Owner). owned ds names o name.id) r.owner) ∙ (found ∙ ap (λ (z : Referent). Some z) e))) (local_inner x.sort is_one))
    where
      member_by : (o : Option Declaration) → member_of ds base name.id ≡ o → referent o ≡ Some (Declared x) → member_of ds base name.id ≡ Some x
      member_by None had h = absurd (none-some (Declared x) h)
      member_by (Some y) had h = had ∙ ap (λ (z : Declaration). Some z) (same_declared y x (same_Some (Declared y) (Declared x) h))
  local_of_body level setting r name x _ e (OfItem y l item) is_one =
      absurd (item_no_local y.sort l item (ap (λ (z : Declaration). is_local z.sort) (same_declared y x e) ∙ is_one))

  assigned : (level : ℕ) (setting : Setting) → Right level setting → (name : Name) → In (Assigns setting.at name) (all_uses units) → local_of s setting name < length locals
  assigned level setting r name there =
      let t = assigned_to setting name there in
      let one = local_of_body level setting r name t.0 (Declared t.0) refl (meaning_of ds names setting.at name.id (Declared t.0) r.plain t.1) t.2 in
      let number : local_of s setting name ≡ number_in locals t.0 = ap (local_in setting) t.1 ∙ ap (λ (l : List Declaration). number_in l t.0) r.locals_are in
      let less = number_within t.0 one in omega (arith, number, less)

  -- ---- the body

  abbrev body : List BodyStepTree
  body = body_steps s (setting_of base (OfAction base)) base (MakeBody exec_place word left statements close)

  numbers_are : locals_of body ≡ map (number_in locals) locals
  numbers_are = list_locals s facts base.name.place locals (record (setting_of base (OfAction base)) { locals = locals }) (record { plain = refl; locals_are = refl }) left statements declares

  first : Right 0 (record (setting_of base (OfAction base)) { locals = locals })
  first = record { owner = refl; plain = refl; inner = λ n h. absurd h; turns = λ x h. absurd h; locals_are = refl }

  many : length (locals_of body) ≡ length locals
  many = ap length numbers_are ∙ length-map locals (number_in locals)

  few_locals : length locals ≤ most_locals
  few_locals =
      let one = counted_implied (λ x. is_local x.sort) (is_local_of base) all
      (λ x h local_it. and_true (is_local x.sort) (option_map_or (same_place base.name.place) x.inside false) local_it
      (ap (λ (p : Option Place). option_map_or (same_place base.name.place) p false) (all_inside base.name.place left statements x h) ∙ same_itself base)) in
      let two = counts (is_local_of base) in
      let three = few units names kept base there (filter (is_local_of base) ds) most_locals Locals in omega (arith, one, two, three)

  are_once : AreOnce locals
  are_once place = let one = fewer (stands_at place) (λ x. is_local x.sort) all in let two = counts (stands_at place) in let three = once place in omega (arith, one, two, three)

  pub body_sound : IsSoundBody model action body
  body_sound = record {
    few = let one = many in let two = few_locals in omega (arith, one, two);
    numbered = λ k local e.
        let g = got_back (number_in locals) locals k local (sym (ap (λ (ns : List ℕ). slice_get ns k) numbers_are) ∙ e) in
        sym g.2 ∙ once_numbered locals are_once k g.0 g.1;
    steps = subst (λ (n : ℕ). All (EachBodyStep (IsSoundBodyStep model action n) 0) body) (sym many)
        (list_sound s model action (length locals) base.name.place all Right deeper further expression answered passed assigned (record (setting_of base (OfAction base)) { locals = locals }) first left statements used (λ x h. h));
  }

-- Handles that are named in constraints, inline constraints and binds are traversed once in the model.
use Rattle.std.proofs.Common.{◌≡◌, ◌⊎◌, ◌≤◌, inl, inr, refl, sym, ap, subst, arith, ◌∙◌}
use Rattle.std.specs.Prelude.{ℕ, zero, suc, Bool, true, false, List, [], ◌∷◌, length, Option, Some, None}
use Rattle.std.specs.List.{filter_map, flat_map}
use Rattle.std.specs.Option.{option_map_or}
use Rattle.pst_base.specs.declared.position.Place.{Place}
use Rattle.pst_base.specs.declared.table.NameId.{NameId}
use Rattle.pst_ast.specs.ActivityTree.{StatementTree, ActivityTree, MakeActivity}
use Rattle.pst_ast.specs.DeclarationTree.{ActionPartActivity}
use Rattle.pst_model.specs.ActivityTree.{StepTree}
use Rattle.pst_model.specs.SoundSlots.{activity_of}
use Rattle.pst_model.specs.Traversals as model
use Rattle.pst_ast.specs.Breaches.{IsNone}
use Rattle.pst_ast.specs.declared.scope_declaration.Declaration.{Declaration}
use Rattle.pst_ast.specs.declared.environment.Environment.{Environment}
use Rattle.pst_ast.specs.declared.referent.Owner.TheVariants.{OfAction}
use Rattle.pst_ast.specs.declared.referent.Referent.TheVariants.{Declared}
use Rattle.pst_ast.specs.declared.referent.PathPart.{PathPart}
use Rattle.pst_ast.specs.Declarations.{action_declared, in_statement, declarations}
use Rattle.pst_ast.specs.Lookups.{base_of, stands_for}
use Rattle.pst_ast.specs.NameRules.{NameBreach, Reaches}
use Rattle.pst_ast.specs.Sorts.{is_action, is_handle, same_place}
use Rattle.pst_ast.specs.Uses.{Use, Judges, Reads, Constrains, statement_uses, action_part_uses, expr_uses, uses, environment}
use Rattle.pst_type_rules.specs.Handles.{traversals, IsSteady, IsSteadyIn, Mention, mention, first_of_path, first_names, is_member_constraint, mentions, IsJudgedBy}
use Rattle.pst_type_rules.specs.Members.{IsOrDerives, Itself, Derives}
use Rattle.pst_type_rules.specs.Sites.{actions, action_at}
use Rattle.pst_type_rules.specs.TypeRules.{TypeBreach, Unsteady}
use Rattle.pst_tree.specs.Bases.{bases_within, with_bases, handles_of, handle_number}
use Rattle.pst_tree.specs.Contents.{Content, Activity, content_of}
use Rattle.pst_terms.specs.Sources.{Sources, declared_in}
use Rattle.pst_elab_rules.specs.Steps.{statement_step}
use Rattle.pst_elab_rules.specs.Types.{setting_of, content}
use Rattle.pst_sound_model.specs.SoundExpressionsConditions.{HaveOwnPlaces}
use Rattle.pst_sound_model.proofs.Members.{In, in_find, in_append, to_map, to_contains}
use Rattle.pst_sound_model.proofs.Facts.{AreFacts}
use Rattle.pst_sound_model.proofs.SetTerms.{IsUsed, AreUses, AreDeclared}
use Rattle.pst_sound_model.proofs.Walks.{action_stands}
use Rattle.pst_sound_model.proofs.ActionReadings.{bases_are_actions}
use Rattle.pst_sound_model.proofs.ServedWhole.{to_filter_map}
use Rattle.pst_sound_model.proofs.Numbers.{number_derived}
use Rattle.pst_sound_model.proofs.Tally.{tally, once, Alike}
use Rattle.pst_sound_model.proofs.SoundSteadyTexts.{content_stands, own_content_is, compound_content}
use Rattle.pst_sound_model.proofs.Traversing.{IsText, statements_same}

-- ---- bases

pub derives_within : (ds : List Declaration) (k : ℕ) (d base : Declaration) → In base (bases_within k ds d) → IsOrDerives ds d base
derives_within ds zero d base has = absurd has
derives_within ds (suc k) d base has = by (base_of ds d) refl (in_append (option_map_or (bases_within k ds) (base_of ds d) []) (d ∷ []) base has) (λ b h. derives_within ds k b base h)
  where
    by : (o : Option Declaration) → base_of ds d ≡ o → In base (option_map_or (bases_within k ds) o []) ⊎ In base (d ∷ []) → ((b : Declaration) → In base (bases_within k ds b) → IsOrDerives ds b base) → IsOrDerives ds d base
    by o is (inr (inl same)) on = subst (IsOrDerives ds d) same (Itself d)
    by o is (inr (inr none)) on = absurd none
    by None is (inl h) on = absurd h
    by (Some b) is (inl h) on = Derives d b base is (on b h)

pub derives_from : (ds : List Declaration) (d base : Declaration) → In base (with_bases ds d) → IsOrDerives ds d base
unfolding with_bases
derives_from ds d base has = derives_within ds (length ds) d base has

pub base_action : (ds : List Declaration) (d base : Declaration) → In d ds → is_action d.sort ≡ true → In base (with_bases ds d) → In base ds × (is_action base.sort ≡ true)
unfolding with_bases
base_action ds d base there is has = bases_are_actions ds (length ds) d base there is has

-- ---- lists of one entry

pub decide_once : (xs : List Bool) → (xs ≡ false ∷ []) ⊎ ((xs ≡ false ∷ []) → ⊥)
decide_once [] = inr (λ e. let never : ⊥ = cc in absurd never)
decide_once (true ∷ more) = inr (λ e. let never : ⊥ = cc in absurd never)
decide_once (false ∷ []) = inl refl
decide_once (false ∷ (x ∷ more)) = inr (λ e. let never : ⊥ = cc in absurd never)

module _ (s : Sources) (facts : AreFacts s) (own : HaveOwnPlaces (declarations s.units)) (right : IsNone (NameBreach s.units s.names)) (kept : IsNone (TypeBreach s.units s.names)) (never : (d : Declaration) → In d (declared_in s) → Reaches (declared_in s) d d → ⊥) where
  abbrev ds : List Declaration
  ds = declared_in s

  -- ---- where the activity of an action stands

  -- in the text of the action or of one of its bases
  pub record IsActivityOf (x owner : Declaration) (activity : ActivityTree) (statements : List StatementTree) : Type 0 where
    pub base : In owner (with_bases ds x)
    pub there : In owner ds
    pub is : is_action owner.sort ≡ true
    pub type : Place
    pub used : AreUses s.units (flat_map (statement_uses (environment owner.inside (OfAction owner))) statements)
    pub declared : AreDeclared ds (flat_map (in_statement type) statements)
    pub itself : content_of s.units owner ≡ Some (Activity owner activity)

  pub activity_is : (x owner : Declaration) (word left close : Place) (statements : List StatementTree) → In x ds → is_action x.sort ≡ true → content_of s.units x ≡ Some (Activity owner (MakeActivity word left statements close)) → IsActivityOf x owner (MakeActivity word left statements close) statements
  unfolding action_at
  activity_is x owner word left close statements there is e =
      let c = content_stands s.units x owner (MakeActivity word left statements close) e in
      let b = base_action ds x owner there is c.0 in
      let found = in_find (λ a. same_place a.name.place owner.name.place) (actions s.units) c.1.action c.1.found in
      let at = action_stands s.units c.1.action found.0 in
      let same = facts.places owner (action_declared at.component at.base c.1.action.name) b.0 at.itself found.1 in
      record {
        base = c.0;
        there = b.0;
        is = b.1;
        type = c.1.action.name.place;
        used = λ u has. at.used (ActionPartActivity (MakeActivity word left statements close)) c.1.among u (subst (λ (d : Declaration). In u (action_part_uses (environment d.inside (OfAction d)) (ActionPartActivity (MakeActivity word left statements close)))) (sym same) has);
        declared = λ d has. at.declared (ActionPartActivity (MakeActivity word left statements close)) c.1.among d has;
        itself = own_content_is s.units never owner (MakeActivity word left statements close) b.0 c.1.own;
      }

  pub first_text : (owner : Declaration) → IsText ds owner (environment owner.inside (OfAction owner))
  first_text owner = record { owner = refl; indices = λ n h d e. absurd h; plain = refl }

  -- ---- handles that are traversed once

  -- the model's activity of the action traverses the handle exactly once
  abbrev pub SteadyIn : Declaration → Declaration → Type 0
  SteadyIn x h = model.IsSteady (handle_number ds x h) (activity_of (content s x (content_of s.units x)))

  once_by : (m t : List Bool) → Alike false m t → t ≡ false ∷ [] → m ≡ false ∷ []
  once_by m t a e = by a.same
    where
      one : tally t ≡ 1
      one = ap tally e

      by : (tally m ≡ tally t) ⊎ (2 ≤ tally t) → m ≡ false ∷ []
      by (inl same) = once m (same ∙ one)
      by (inr more) = absurd (omega (arith, one, more))

  pub steady_by_rules : (x h : Declaration) → In x ds → is_action x.sort ≡ true → In h (handles_of ds x) → IsSteadyIn s.units x h.name.id → SteadyIn x h
  steady_by_rules x h there is here st =
      let c = compound_content s.units never x st.statements there st.compound in
      let a = activity_is x c.0 c.1 c.2 c.3 st.statements there is c.4 in
      let same = statements_same s facts own right never x c.0 there a.base h here a.type (setting_of c.0 (OfAction c.0)) (first_text c.0) st.statements a.used a.declared in
      subst (λ (o : Option Content). model.IsSteady (handle_number ds x h) (activity_of (content s x o))) (sym c.4)
      (once_by (flat_map (model.traversals (handle_number ds x h) false) (filter_map (statement_step s (setting_of c.0 (OfAction c.0)) 0) st.statements)) (flat_map (traversals h.name.id false) st.statements) same st.steady)

  -- an action that has its base's activity
  pub steady_derived : (x o h : Declaration) → In x ds → In o (with_bases ds x) → (activity : ActivityTree) → content_of s.units x ≡ Some (Activity o activity) → content_of s.units o ≡ Some (Activity o activity) → In h (handles_of ds o) → SteadyIn o h → SteadyIn x h
  steady_derived x o h there has activity x_content o_content here st =
      moved (handle_number ds o h) (handle_number ds x h) (activity_of (content s o (content_of s.units o))) (activity_of (content s x (content_of s.units x))) (number_derived s.units s.names own right never x o there has is_handle h here)
      (ap (λ (c : Option Content). activity_of (content s o c)) o_content ∙ (same activity ∙ sym (ap (λ (c : Option Content). activity_of (content s x c)) x_content))) st
    where
      moved : (n m : ℕ) (a b : List StepTree) → n ≡ m → a ≡ b → model.IsSteady n a → model.IsSteady m b
      moved n m a b e f st = subst (λ (k : ℕ). model.IsSteady k b) e (subst (λ (l : List StepTree). model.IsSteady n l) f st)

      same : (activity : ActivityTree) → activity_of (content s o (Some (Activity o activity))) ≡ activity_of (content s x (Some (Activity o activity)))
      same (MakeActivity word left statements close) = refl

  -- ---- by what names them

  pub judged_steady : (u : Use) (m : Mention) (h x : Declaration) → In u (uses s.units) → In m (mentions u) → stands_for ds s.names m.at m.name.id ≡ Some (Declared h) → is_handle h.sort ≡ true → In x ds → is_action x.sort ≡ true
      → IsJudgedBy s.units s.names m x → In h (handles_of ds x) → h.name.id ≡ m.name.id → SteadyIn x h
  judged_steady u m h x used among e handle there is judged here named = by (decide_once (flat_map (model.traversals (handle_number ds x h) false) (activity_of (content s x (content_of s.units x)))))
    where
      by : SteadyIn x h ⊎ (SteadyIn x h → ⊥) → SteadyIn x h
      by (inl steady) = steady
      by (inr refused) =
          absurd (kept m.name.place 18 (Unsteady u m h x (to_contains (uses s.units) u used) (to_contains (mentions u) m among) e handle judged
          (λ st. refused (steady_by_rules x h there is here (subst (λ (n : NameId). IsSteadyIn s.units x n) (sym named) st)))))

  -- the first name of a path of a constraint is a mention
  pub path_mention : (at : Environment) (p : PathPart) (ps : List PathPart) → (u : IsUsed s.units Constrains at (Reads at p ps)) → In (mention at (is_member_constraint at) p.name) (mentions (Judges at Constrains u.expr))
  path_mention at p ps u = to_map (mention at (is_member_constraint at)) (first_names at u.expr) p.name (to_filter_map first_of_path (expr_uses at u.expr) (Reads at p ps) p.name u.within refl)

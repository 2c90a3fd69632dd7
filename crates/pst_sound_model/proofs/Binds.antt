-- The ties of an activity come from pairs of ends of its binds, in the order of their text.
use Rattle.std.proofs.Common.{◌≡◌, inl, inr, refl, sym, ap, subst, ◌∙◌}
use Rattle.std.specs.Prelude.{true, List, [], ◌∷◌, ◌++◌, map, Some, None}
use Rattle.std.specs.List.{flat_map}
use Rattle.std.proofs.lemmas.Grind.{flat_map-append}
use Rattle.pst_base.specs.declared.position.Place.{Place}
use Rattle.pst_ast.specs.declared.leaf.Name.{Name}
use Rattle.pst_ast.specs.declared.activity.EndNode.{EndNode}
use Rattle.pst_ast.specs.ActivityTree.{BindTree, MakeBind, StatementTree, StatementEmpty, StatementLabeled, StatementPlain, CoreTree, CoreDo, CoreHandle, CoreSequence, CoreTogether, CoreSelect, CoreRepeat, CoreIf, CoreIfElse, CoreMatch, CoreBind, BranchTree, MakeBranch, ArmTree, MakeArm, StatementRow, NoStatementRow, MoreStatementRow, BranchRow, NoBranchRow, MoreBranchRow, ArmRow, NoArmRow, MoreArmRow}
use Rattle.pst_ast.specs.DeclarationTree.{UnitTree, MakeUnit, ItemTree, ItemComponent, ItemObject, ItemEnum, ItemFunction, ItemEmpty, MakeComponent, ComponentPartTree, ComponentPartAction, ComponentPartObject, ComponentPartEnum, ComponentPartFunction, ComponentPartPool, ComponentPartPoolBind, ComponentPartMembers, ComponentPartEmpty, MakeAction, ActionPartTree}
use Rattle.pst_model.specs.declared.activity.Tie.{Tie}
use Rattle.pst_ast.specs.declared.scope_declaration.Declaration.{Declaration}
use Rattle.pst_ast.specs.declared.environment.Environment.{Environment}
use Rattle.pst_ast.specs.declared.referent.Owner.TheVariants.{OfAction}
use Rattle.pst_ast.specs.Declarations.{action_declared, base_name, index, in_component_part, in_item_of_unit, in_statement, in_core, in_branch, in_arm, in_statement_row, in_branch_row, in_arm_row}
use Rattle.pst_ast.specs.Uses.{Use, Ties, Ends, Branches, Condition, NamesBase, end_use, other_ends, bind_uses, with_index, option_uses, whole_uses, guard_uses, branch_places, join_uses, labels_in, branches_in, core_place, arm_label_uses, performed, statement_uses, core_uses, branch_uses, arm_uses, statement_row_uses, branch_row_uses, arm_row_uses, action_part_uses, component_part_uses, unit_item_uses, unit_uses, uses, environment}
use Rattle.pst_ast.specs.Sorts.{same_place}
use Rattle.pst_type_rules.specs.Binds.{Pair, pairs_of}
use Rattle.pst_type_rules.specs.Sites.{DeclaredAction, actions_in_part, actions_in_item, actions, items_of}
use Rattle.pst_terms.specs.Sources.{Sources, declared_in}
use Rattle.pst_terms.specs.Readings.{Setting}
use Rattle.pst_elab_rules.specs.Ties.{tie_of, ties_of, statement_binds, core_binds, row_binds, branch_binds, branch_row_binds, arm_binds, arm_row_binds}
use Rattle.pst_sound_model.proofs.Members.{In, in_flat_map, to_flat_map, to_map}
use Rattle.pst_sound_model.proofs.Facts.{AreFacts}
use Rattle.pst_sound_model.proofs.SetTerms.{AreUses, AreDeclared}
use Rattle.pst_sound_model.proofs.TermsOf.{each_left, each_right}
use Rattle.pst_sound_model.proofs.Walks.{item_declared}
use Rattle.pst_sound_model.proofs.Traversing.{declared_left, declared_right, IsText, text_more}
use Rattle.pst_sound_model.proofs.Follows.{Follows, Done, Take, follows_skip, follows_both, follows_inner}

module _ (s : Sources) (facts : AreFacts s) (o : Declaration) (setting : Setting) (type : Place) where
  abbrev ds : List Declaration
  ds = declared_in s

  abbrev Used : Use → Type 0
  Used u = In u (uses s.units)

  -- a tie is that of the pair, whose bind stands in the text of the action
  pub record IsTieOf (t : Tie) (p : Pair) : Type 0 where
    pub others : List EndNode
    pub bind : In (Ties p.at p.first others) (uses s.units)
    pub among : In p.other others
    pub first_used : In (Ends p.at p.first.handle p.first.name) (uses s.units)
    pub other_used : In (Ends p.at p.other.handle p.other.name) (uses s.units)
    pub text : IsText ds o p.at
    pub is : t ≡ tie_of s setting p.first p.other

  abbrev pub Come : List Tie → List Pair → Type 0
  Come ts ps = Follows IsTieOf ts ps

  abbrev From : List BindTree → List Use → Type 0
  From binds us = Come (flat_map (ties_of s setting) binds) (flat_map pairs_of us)

  -- ---- lists

  from_none : (us : List Use) → From [] us
  from_none us = Done (flat_map pairs_of us)

  from_behind : (binds : List BindTree) (before us : List Use) → From binds us → From binds (before ++ us)
  from_behind binds before us f =
      subst (Come (flat_map (ties_of s setting) binds)) (sym (flat_map-append pairs_of before us)) (follows_skip IsTieOf (flat_map (ties_of s setting) binds) (flat_map pairs_of before) (flat_map pairs_of us) f)

  from_both : (binds more : List BindTree) (us vs : List Use) → From binds us → From more vs → From (binds ++ more) (us ++ vs)
  from_both binds more us vs f g =
      subst (λ (ts : List Tie). Come ts (flat_map pairs_of (us ++ vs))) (sym (flat_map-append (ties_of s setting) binds more))
      (subst (Come (flat_map (ties_of s setting) binds ++ flat_map (ties_of s setting) more)) (sym (flat_map-append pairs_of us vs))
      (follows_both IsTieOf (flat_map (ties_of s setting) binds) (flat_map (ties_of s setting) more) (flat_map pairs_of us) (flat_map pairs_of vs) f g))

  -- ---- a bind

  module _ (at : Environment) (text : IsText ds o at) (first : EndNode) (others : List EndNode) (bind : In (Ties at first others) (uses s.units)) (first_used : In (Ends at first.handle first.name) (uses s.units)) where
    pairs_come : (list : List EndNode) → ((e : EndNode) → In e list → In e others) → ((e : EndNode) → In e list → In (Ends at e.handle e.name) (uses s.units))
        → Come (map (tie_of s setting first) list) (map (λ other. record { at = at; first = first; other = other }) list)
    pairs_come [] among used = Done []
    pairs_come (e ∷ list) among used =
        Take (tie_of s setting first e) (map (tie_of s setting first) list) (record { at = at; first = first; other = e }) (map (λ other. record { at = at; first = first; other = other }) list)
        (record { others = others; bind = bind; among = among e (inl refl); first_used = first_used; other_used = used e (inl refl); text = text; is = refl })
        (pairs_come list (λ d h. among d (inr h)) (λ d h. used d (inr h)))

  bind_comes : (at : Environment) → IsText ds o at → (bind : BindTree) → AreUses s.units (bind_uses at bind) → From (bind ∷ []) (bind_uses at bind)
  bind_comes at text (MakeBind word first others semicolon) all =
      follows_both IsTieOf (map (tie_of s setting first) (other_ends others)) [] (map (λ other. record { at = at; first = first; other = other }) (other_ends others)) (flat_map pairs_of (map (end_use at) (first ∷ other_ends others)))
      (pairs_come at text first (other_ends others) (all (Ties at first (other_ends others)) (inl refl)) (all (end_use at first) (inr (inl refl))) (other_ends others) (λ e h. h)
      (λ e h. all (end_use at e) (inr (inr (to_map (end_use at) (other_ends others) e h)))))
      (Done (flat_map pairs_of (map (end_use at) (first ∷ other_ends others))))

  -- ---- statements

  mutual
    statement_come : (at : Environment) → IsText ds o at → (t : StatementTree) → AreUses s.units (statement_uses at t) → AreDeclared ds (in_statement type t) → From (statement_binds t) (statement_uses at t)
    statement_come at text (StatementEmpty place) all inside = from_none []
    statement_come at text (StatementLabeled label core) all inside =
        from_behind (core_binds core) (performed at label.name.place core) (core_uses at core) (core_come at text core (each_right Used (performed at label.name.place core) (core_uses at core) all) inside)
    statement_come at text (StatementPlain core) all inside =
        from_behind (core_binds core) (performed at (core_place core) core) (core_uses at core) (core_come at text core (each_right Used (performed at (core_place core) core) (core_uses at core) all) inside)

    core_come : (at : Environment) → IsText ds o at → (t : CoreTree) → AreUses s.units (core_uses at t) → AreDeclared ds (in_core type t) → From (core_binds t) (core_uses at t)
    core_come at text (CoreDo do_place name with_part) all inside = from_none (core_uses at (CoreDo do_place name with_part))
    core_come at text (CoreHandle name with_part) all inside = from_none (core_uses at (CoreHandle name with_part))
    core_come at text (CoreSequence word left statements close) all inside = row_come at text statements all inside
    core_come at text (CoreTogether word place join left statements close) all inside =
        from_behind (row_binds statements) (option_uses (λ j. Branches (branch_places statements) ∷ join_uses at (labels_in statements) (branches_in statements) j) join) (statement_row_uses at statements)
        (row_come at text statements (each_right Used (option_uses (λ j. Branches (branch_places statements) ∷ join_uses at (labels_in statements) (branches_in statements) j) join) (statement_row_uses at statements) all) inside)
    core_come at text (CoreSelect word left first rest close) all inside =
        from_both (branch_binds first) (branch_row_binds rest) (branch_uses at first) (branch_row_uses at rest)
        (branch_come at text first (each_left Used (branch_uses at first) (branch_row_uses at rest) all) (declared_left ds (in_branch type first) (in_branch_row type rest) inside))
        (branch_row_come at text rest (each_right Used (branch_uses at first) (branch_row_uses at rest) all) (declared_right ds (in_branch type first) (in_branch_row type rest) inside))
    core_come at text (CoreRepeat word left None count close statement) all inside =
        from_behind (statement_binds statement) (whole_uses at Condition count) (statement_uses at statement)
        (statement_come at text statement (each_right Used (whole_uses at Condition count) (statement_uses at statement) all) inside)
    core_come at text (CoreRepeat word left (Some label) count close statement) all inside =
        from_behind (statement_binds statement) (whole_uses at Condition count) (statement_uses (with_index at (Some label)) statement)
        (statement_come (with_index at (Some label)) (text_more s facts type o at label.name (inside (index type label.name) (inl refl)) text) statement
        (each_right Used (whole_uses at Condition count) (statement_uses (with_index at (Some label)) statement) all) (λ d h. inside d (inr h)))
    core_come at text (CoreIf word left condition close then_part) all inside =
        from_behind (statement_binds then_part) (whole_uses at Condition condition) (statement_uses at then_part)
        (statement_come at text then_part (each_right Used (whole_uses at Condition condition) (statement_uses at then_part) all) inside)
    core_come at text (CoreIfElse word left condition close then_part else_place otherwise) all inside =
        let behind : AreUses s.units (statement_uses at then_part ++ statement_uses at otherwise) = each_right Used (whole_uses at Condition condition) (statement_uses at then_part ++ statement_uses at otherwise) all in
        from_behind (statement_binds then_part ++ statement_binds otherwise) (whole_uses at Condition condition) (statement_uses at then_part ++ statement_uses at otherwise)
        (from_both (statement_binds then_part) (statement_binds otherwise) (statement_uses at then_part) (statement_uses at otherwise)
        (statement_come at text then_part (each_left Used (statement_uses at then_part) (statement_uses at otherwise) behind) (declared_left ds (in_statement type then_part) (in_statement type otherwise) inside))
        (statement_come at text otherwise (each_right Used (statement_uses at then_part) (statement_uses at otherwise) behind) (declared_right ds (in_statement type then_part) (in_statement type otherwise) inside)))
    core_come at text (CoreMatch word left expr close opening first rest end) all inside =
        let inner : AreUses s.units (whole_uses at Condition expr ++ (arm_uses at first ++ arm_row_uses at rest)) = λ u h. all u (inr h) in
        let behind : AreUses s.units (arm_uses at first ++ arm_row_uses at rest) = each_right Used (whole_uses at Condition expr) (arm_uses at first ++ arm_row_uses at rest) inner in
        from_behind (arm_binds first ++ arm_row_binds rest) (whole_uses at Condition expr) (arm_uses at first ++ arm_row_uses at rest)
        (from_both (arm_binds first) (arm_row_binds rest) (arm_uses at first) (arm_row_uses at rest)
        (arm_come at text first (each_left Used (arm_uses at first) (arm_row_uses at rest) behind) (declared_left ds (in_arm type first) (in_arm_row type rest) inside))
        (arm_row_come at text rest (each_right Used (arm_uses at first) (arm_row_uses at rest) behind) (declared_right ds (in_arm type first) (in_arm_row type rest) inside)))
    core_come at text (CoreBind bind) all inside = bind_comes at text bind all

    row_come : (at : Environment) → IsText ds o at → (t : StatementRow) → AreUses s.units (statement_row_uses at t) → AreDeclared ds (in_statement_row type t) → From (row_binds t) (statement_row_uses at t)
    row_come at text NoStatementRow all inside = from_none []
    row_come at text (MoreStatementRow head tail) all inside =
        from_both (statement_binds head) (row_binds tail) (statement_uses at head) (statement_row_uses at tail)
        (statement_come at text head (each_left Used (statement_uses at head) (statement_row_uses at tail) all) (declared_left ds (in_statement type head) (in_statement_row type tail) inside))
        (row_come at text tail (each_right Used (statement_uses at head) (statement_row_uses at tail) all) (declared_right ds (in_statement type head) (in_statement_row type tail) inside))

    branch_come : (at : Environment) → IsText ds o at → (t : BranchTree) → AreUses s.units (branch_uses at t) → AreDeclared ds (in_branch type t) → From (branch_binds t) (branch_uses at t)
    branch_come at text (MakeBranch guard statement) all inside =
        from_behind (statement_binds statement) (option_uses (guard_uses at) guard) (statement_uses at statement) (statement_come at text statement (each_right Used (option_uses (guard_uses at) guard) (statement_uses at statement) all) inside)

    branch_row_come : (at : Environment) → IsText ds o at → (t : BranchRow) → AreUses s.units (branch_row_uses at t) → AreDeclared ds (in_branch_row type t) → From (branch_row_binds t) (branch_row_uses at t)
    branch_row_come at text NoBranchRow all inside = from_none []
    branch_row_come at text (MoreBranchRow head tail) all inside =
        from_both (branch_binds head) (branch_row_binds tail) (branch_uses at head) (branch_row_uses at tail)
        (branch_come at text head (each_left Used (branch_uses at head) (branch_row_uses at tail) all) (declared_left ds (in_branch type head) (in_branch_row type tail) inside))
        (branch_row_come at text tail (each_right Used (branch_uses at head) (branch_row_uses at tail) all) (declared_right ds (in_branch type head) (in_branch_row type tail) inside))

    arm_come : (at : Environment) → IsText ds o at → (t : ArmTree) → AreUses s.units (arm_uses at t) → AreDeclared ds (in_arm type t) → From (arm_binds t) (arm_uses at t)
    arm_come at text (MakeArm label colon statement) all inside =
        from_behind (statement_binds statement) (arm_label_uses at label) (statement_uses at statement) (statement_come at text statement (each_right Used (arm_label_uses at label) (statement_uses at statement) all) inside)

    arm_row_come : (at : Environment) → IsText ds o at → (t : ArmRow) → AreUses s.units (arm_row_uses at t) → AreDeclared ds (in_arm_row type t) → From (arm_row_binds t) (arm_row_uses at t)
    arm_row_come at text NoArmRow all inside = from_none []
    arm_row_come at text (MoreArmRow head tail) all inside =
        from_both (arm_binds head) (arm_row_binds tail) (arm_uses at head) (arm_row_uses at tail)
        (arm_come at text head (each_left Used (arm_uses at head) (arm_row_uses at tail) all) (declared_left ds (in_arm type head) (in_arm_row type tail) inside))
        (arm_row_come at text tail (each_right Used (arm_uses at head) (arm_row_uses at tail) all) (declared_right ds (in_arm type head) (in_arm_row type tail) inside))

  pub list_come : (at : Environment) → IsText ds o at → (ts : List StatementTree) → AreUses s.units (flat_map (statement_uses at) ts) → AreDeclared ds (flat_map (in_statement type) ts) → From (flat_map statement_binds ts) (flat_map (statement_uses at) ts)
  list_come at text [] all inside = from_none []
  list_come at text (t ∷ more) all inside =
      from_both (statement_binds t) (flat_map statement_binds more) (statement_uses at t) (flat_map (statement_uses at) more)
      (statement_come at text t (each_left Used (statement_uses at t) (flat_map (statement_uses at) more) all) (declared_left ds (in_statement type t) (flat_map (in_statement type) more) inside))
      (list_come at text more (each_right Used (statement_uses at t) (flat_map (statement_uses at) more) all) (declared_right ds (in_statement type t) (flat_map (in_statement type) more) inside))

  -- ---- in the sources

  module _ (ts : List Tie) where
    abbrev Within : List Use → Type 0
    Within us = Come ts (flat_map pairs_of us)

    within_right : (us vs : List Use) → Within vs → Within (us ++ vs)
    within_right us vs f = subst (Come ts) (sym (flat_map-append pairs_of us vs)) (follows_skip IsTieOf ts (flat_map pairs_of us) (flat_map pairs_of vs) f)

    module _ (o_there : In o ds) (a : DeclaredAction) (here : same_place a.name.place o.name.place ≡ true) (p : ActionPartTree) (among : In p a.parts) (f : Within (action_part_uses (environment o.inside (OfAction o)) p)) where
      in_part : (component : Place) (part : ComponentPartTree) → ((d : Declaration) → In d (in_component_part component part) → In d ds) → In a (actions_in_part part) → Within (component_part_uses component part)
      in_part component (ComponentPartAction (MakeAction abstract_place word name base left parts close)) declared (inl e) =
          let named : name ≡ a.name = ap (λ (x : DeclaredAction). x.name) e in
          let same : action_declared component base name ≡ o =
          facts.places o (action_declared component base name) o_there (declared (action_declared component base name) (inl refl)) (ap (λ (n : Name). same_place n.place o.name.place) named ∙ here) in
          within_right (option_uses (λ b. NamesBase (action_declared component base name) (base_name b) ∷ []) base) (flat_map (action_part_uses (environment (Some component) (OfAction (action_declared component base name)))) parts)
          (follows_inner IsTieOf pairs_of (action_part_uses (environment (Some component) (OfAction (action_declared component base name)))) parts p ts (subst (In p) (sym (ap (λ (x : DeclaredAction). x.parts) e)) among)
          (subst (λ (d : Declaration). Within (action_part_uses (environment d.inside (OfAction d)) p)) (sym same) f))
      in_part component (ComponentPartAction (MakeAction abstract_place word name base left parts close)) declared (inr h) = absurd h
      in_part component (ComponentPartObject object) declared h = absurd h
      in_part component (ComponentPartEnum enum) declared h = absurd h
      in_part component (ComponentPartFunction function) declared h = absurd h
      in_part component (ComponentPartPool pool) declared h = absurd h
      in_part component (ComponentPartPoolBind bind) declared h = absurd h
      in_part component (ComponentPartMembers members) declared h = absurd h
      in_part component (ComponentPartEmpty place) declared h = absurd h

      in_item : (item : ItemTree) → ((d : Declaration) → In d (in_item_of_unit item) → In d ds) → In a (actions_in_item item) → Within (unit_item_uses item)
      in_item (ItemComponent (MakeComponent word name left parts close)) declared h =
          let r = in_flat_map actions_in_part parts a h in
          follows_inner IsTieOf pairs_of (component_part_uses name.place) parts r.0 ts r.1 (in_part name.place r.0 (λ d k. declared d (inr (to_flat_map (in_component_part name.place) parts r.0 d r.1 k))) r.2)
      in_item (ItemObject object) declared h = absurd h
      in_item (ItemEnum enum) declared h = absurd h
      in_item (ItemFunction function) declared h = absurd h
      in_item (ItemEmpty place) declared h = absurd h

      pub in_sources : In a (actions s.units) → Within (uses s.units)
      in_sources h =
          let i = in_flat_map actions_in_item (flat_map items_of s.units) a h in
          let u = in_flat_map items_of s.units i.0 i.1 in
          follows_inner IsTieOf pairs_of unit_uses s.units u.0 ts u.1 (by u.0 i.0 u.2 i.1 i.2)
        where
          by : (unit : UnitTree) (item : ItemTree) → In item (items_of unit) → In item (flat_map items_of s.units) → In a (actions_in_item item) → Within (unit_uses unit)
          by (MakeUnit items finish) item at all h = follows_inner IsTieOf pairs_of unit_item_uses items item ts at (in_item item (λ d k. item_declared s.units item all d k) h)

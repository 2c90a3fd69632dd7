-- The terms of constraints whose paths stand for numbers and blocks.
use Rattle.std.proofs.Common.{inl, inr, refl}
use Rattle.std.specs.Prelude.{ℕ, zero, suc, ◌+◌, List, [], ◌∷◌, ◌++◌, map}
use Rattle.std.specs.List.{flat_map}
use Rattle.pst_base.specs.declared.position.Place.{Place}
use Rattle.pst_ast.specs.declared.leaf.Name.{Name}
use Rattle.pst_ast.specs.declared.scope_declaration.Declaration.{Declaration}
use Rattle.pst_ast.specs.Declarations.{index, in_set, in_item, in_item_row, in_constraint}
use Rattle.pst_ast.specs.ExpressionTree.{ExprTree, PathTree}
use Rattle.pst_ast.specs.SharedTree.{NextExprTree}
use Rattle.pst_ast.specs.ConstraintTree.{ConstraintTree, ConstraintOne, ConstraintBlock, ConstraintItemTree, ConstraintItemEmpty, ConstraintItemExpr, ConstraintItemImplies, ConstraintItemIf, ConstraintItemIfElse, ConstraintItemUnique, ConstraintItemForeach, ConstraintItemRow, NoConstraintItemRow, MoreConstraintItemRow, ConstraintDeclarationTree, MakeConstraintDeclaration, ConstraintContentNamed, ConstraintContentSet}
use Rattle.pst_ast.specs.DeclarationTree.{UnitTree}
use Rattle.pst_expr.specs.declared.tree.UnaryOp.TheVariants.{Not}
use Rattle.pst_expr.specs.declared.tree.BinaryOp.{BinaryOp}
use Rattle.pst_expr.specs.declared.tree.BinaryOp.TheVariants.{NotEqual, Implies}
use Rattle.pst_model.specs.ConstraintTree.{SlotTree}
use Rattle.pst_ast.specs.declared.environment.Environment.{Environment}
use Rattle.pst_ast.specs.Uses.{Use, Judges, Role, Constrains, expr_uses, path_uses, uses, whole_uses, next_expr, next_expr_uses, set_uses, item_uses, item_row_uses, constraint_uses}
use Rattle.pst_terms.specs.Fields.{counted}
use Rattle.pst_terms.specs.Sources.{Sources}
use Rattle.pst_terms.specs.Terms.{Term, Prefix, Infix}
use Rattle.pst_terms.specs.Readings.{Setting, AtNumber, reading_of, expr_term}
use Rattle.pst_elab_rules.specs.Constraints.{with_turn, pairs, implied, turns_of, set_terms, item_terms, item_row_terms, declaration_terms}
use Rattle.pst_sound_model.specs.Blocks.{HasBlocks}
use Rattle.pst_sound_model.specs.Used.{IsGood, AllBlocks}
use Rattle.pst_sound_model.proofs.Members.{In, to_left, to_right}
use Rattle.pst_sound_model.proofs.TermsOf.{Each, each_left, each_right, term_blocks}

-- a use in an expression of the sources as a whole
pub record IsUsed (units : List UnitTree) (role : Role) (at : Environment) (u : Use) : Type 0 where
  pub used : In u (uses units)
  pub expr : ExprTree
  pub judged : In (Judges at role expr) (uses units)
  pub within : In u (expr_uses at expr)

abbrev pub AreUses : List UnitTree → List Use → Type 0
AreUses units us = Each (λ u. In u (uses units)) us

pub all_used : (units : List UnitTree) (role : Role) (at : Environment) (expr : ExprTree) → AreUses units (whole_uses at role expr) → Each (IsUsed units role at) (expr_uses at expr)
all_used units role at expr all u there = record { used = all u (inr there); expr = expr; judged = all (Judges at role expr) (inl refl); within = there }

module _ (IsRow : SlotTree → ℕ → ℕ → Type 0) where
  pub both_blocks : (xs ys : List (Term SlotTree)) → AllBlocks IsRow xs → AllBlocks IsRow ys → AllBlocks IsRow (xs ++ ys)
  both_blocks [] ys a b = b
  both_blocks (x ∷ xs) ys a b = (a.0, both_blocks xs ys a.1 b)

  infix_blocks : (o : BinaryOp) (p : Term SlotTree) (xs : List (Term SlotTree)) → HasBlocks IsRow p → AllBlocks IsRow xs → AllBlocks IsRow (map (Infix o p) xs)
  infix_blocks o p [] h all = tt
  infix_blocks o p (x ∷ xs) h all = ((h, all.0), infix_blocks o p xs h all.1)

  pairs_blocks : (xs : List (Term SlotTree)) → AllBlocks IsRow xs → AllBlocks IsRow (pairs xs)
  pairs_blocks [] all = tt
  pairs_blocks (p ∷ more) all = both_blocks (map (Infix NotEqual p) more) (pairs more) (infix_blocks NotEqual p more all.0 all.1) (pairs_blocks more all.1)

  each_blocks : (f : ℕ → List (Term SlotTree)) → ((i : ℕ) → AllBlocks IsRow (f i)) → (from n : ℕ) → AllBlocks IsRow (flat_map f (counted from n))
  each_blocks f all from zero = tt
  each_blocks f all from (suc n) = both_blocks (f from) (flat_map f (counted (from + 1) n)) (all from) (each_blocks f all (from + 1) n)

module _ (IsRow : SlotTree → ℕ → ℕ → Type 0) (s : Sources) (units : List UnitTree) (role : Role) (IsRight : Setting → Type 0)
    (good : (setting : Setting) → IsRight setting → (path : PathTree) → Each (IsUsed units role setting.at) (path_uses setting.at path) → IsGood IsRow (reading_of s setting path)) where
  pub whole_blocks : (setting : Setting) → IsRight setting → (expr : ExprTree) → AreUses units (whole_uses setting.at role expr) → HasBlocks IsRow (expr_term s setting expr)
  whole_blocks setting right expr all = term_blocks IsRow (IsUsed units role setting.at) setting.at (reading_of s setting) (good setting right) expr (all_used units role setting.at expr all)

  pub several_blocks : (setting : Setting) → IsRight setting → (rest : List NextExprTree) → AreUses units (flat_map (λ n. whole_uses setting.at role (next_expr n)) rest)
      → AllBlocks IsRow (map (λ n. expr_term s setting (next_expr n)) rest)
  several_blocks setting right [] all = tt
  several_blocks setting right (n ∷ more) all = (
    whole_blocks setting right (next_expr n) (each_left (λ u. In u (uses units)) (whole_uses setting.at role (next_expr n)) (flat_map (λ n. whole_uses setting.at role (next_expr n)) more) all),
    several_blocks setting right more (each_right (λ u. In u (uses units)) (whole_uses setting.at role (next_expr n)) (flat_map (λ n. whole_uses setting.at role (next_expr n)) more) all),
  )

-- what is declared, is declared in the sources
abbrev pub AreDeclared : List Declaration → List Declaration → Type 0
AreDeclared ds xs = (d : Declaration) → In d xs → In d ds

declared_left : (ds xs ys : List Declaration) → AreDeclared ds (xs ++ ys) → AreDeclared ds xs
declared_left ds xs ys all d there = all d (to_left xs ys d there)

declared_right : (ds xs ys : List Declaration) → AreDeclared ds (xs ++ ys) → AreDeclared ds ys
declared_right ds xs ys all d there = all d (to_right xs ys d there)

module _ (IsRow : SlotTree → ℕ → ℕ → Type 0) (s : Sources) (units : List UnitTree) (ds : List Declaration) (type : Place) (IsRight : Setting → Type 0)
    (stays : (setting : Setting) (name : Name) (i : ℕ) → In (index type name) ds → IsRight setting → IsRight (with_turn setting name (AtNumber i)))
    (good : (setting : Setting) → IsRight setting → (path : PathTree) → Each (IsUsed units Constrains setting.at) (path_uses setting.at path) → IsGood IsRow (reading_of s setting path)) where
  abbrev Used : Use → Type 0
  Used u = In u (uses units)

  one : (setting : Setting) → IsRight setting → (expr : ExprTree) → AreUses units (whole_uses setting.at Constrains expr) → HasBlocks IsRow (expr_term s setting expr)
  one setting right expr all = whole_blocks IsRow s units Constrains IsRight good setting right expr all

  mutual
    pub set_blocks : (setting : Setting) → IsRight setting → (c : ConstraintTree) → AreUses units (set_uses setting.at c) → AreDeclared ds (in_set type c) → AllBlocks IsRow (set_terms s setting c)
    set_blocks setting right (ConstraintOne item) all inside = item_blocks setting right item all inside
    set_blocks setting right (ConstraintBlock left items close) all inside = item_row_blocks setting right items all inside

    pub item_blocks : (setting : Setting) → IsRight setting → (c : ConstraintItemTree) → AreUses units (item_uses setting.at c) → AreDeclared ds (in_item type c) → AllBlocks IsRow (item_terms s setting c)
    item_blocks setting right (ConstraintItemEmpty place) all inside = tt
    item_blocks setting right (ConstraintItemExpr expr semicolon) all inside = (one setting right expr all, tt)
    item_blocks setting right (ConstraintItemImplies condition arrow set) all inside =
        infix_blocks IsRow Implies (expr_term s setting condition) (set_terms s setting set) (one setting right condition (each_left Used (whole_uses setting.at Constrains condition) (set_uses setting.at set) all))
        (set_blocks setting right set (each_right Used (whole_uses setting.at Constrains condition) (set_uses setting.at set) all) inside)
    item_blocks setting right (ConstraintItemIf word left condition close then_part) all inside =
        infix_blocks IsRow Implies (expr_term s setting condition) (set_terms s setting then_part) (one setting right condition (each_left Used (whole_uses setting.at Constrains condition) (set_uses setting.at then_part) all))
        (set_blocks setting right then_part (each_right Used (whole_uses setting.at Constrains condition) (set_uses setting.at then_part) all) inside)
    item_blocks setting right (ConstraintItemIfElse word left condition close then_part else_place otherwise) all inside =
        let first = one setting right condition (each_left Used (whole_uses setting.at Constrains condition) (set_uses setting.at then_part ++ set_uses setting.at otherwise) all) in
        let behind : AreUses units (set_uses setting.at then_part ++ set_uses setting.at otherwise) = each_right Used (whole_uses setting.at Constrains condition) (set_uses setting.at then_part ++ set_uses setting.at otherwise) all in
        both_blocks IsRow (implied (expr_term s setting condition) (set_terms s setting then_part)) (implied (Prefix Not (expr_term s setting condition)) (set_terms s setting otherwise))
        (infix_blocks IsRow Implies (expr_term s setting condition) (set_terms s setting then_part) first
        (set_blocks setting right then_part (each_left Used (set_uses setting.at then_part) (set_uses setting.at otherwise) behind) (declared_left ds (in_set type then_part) (in_set type otherwise) inside)))
        (infix_blocks IsRow Implies (Prefix Not (expr_term s setting condition)) (set_terms s setting otherwise) first
        (set_blocks setting right otherwise (each_right Used (set_uses setting.at then_part) (set_uses setting.at otherwise) behind) (declared_right ds (in_set type then_part) (in_set type otherwise) inside)))
    item_blocks setting right (ConstraintItemUnique word left first rest close semicolon) all inside =
        let inner : AreUses units (whole_uses setting.at Constrains first ++ flat_map (next_expr_uses setting.at) rest) = λ u there. all u (inr there) in
        pairs_blocks IsRow (expr_term s setting first ∷ map (λ n. expr_term s setting (next_expr n)) rest) (
          one setting right first (each_left Used (whole_uses setting.at Constrains first) (flat_map (next_expr_uses setting.at) rest) inner),
          several_blocks IsRow s units Constrains IsRight good setting right rest (each_right Used (whole_uses setting.at Constrains first) (flat_map (next_expr_uses setting.at) rest) inner),
        )
    item_blocks setting right (ConstraintItemForeach word left first rest opening name close end set) all inside =
        each_blocks IsRow (λ i. set_terms s (with_turn setting name (AtNumber i)) set)
        (λ i. set_blocks (with_turn setting name (AtNumber i)) (stays setting name i (inside (index type name) (inl refl)) right) set (λ u there. all u (inr there)) (λ d there. inside d (inr there))) 0 (turns_of s setting first rest)

    pub item_row_blocks : (setting : Setting) → IsRight setting → (c : ConstraintItemRow) → AreUses units (item_row_uses setting.at c) → AreDeclared ds (in_item_row type c) → AllBlocks IsRow (item_row_terms s setting c)
    item_row_blocks setting right NoConstraintItemRow all inside = tt
    item_row_blocks setting right (MoreConstraintItemRow head tail) all inside =
        both_blocks IsRow (item_terms s setting head) (item_row_terms s setting tail)
        (item_blocks setting right head (each_left Used (item_uses setting.at head) (item_row_uses setting.at tail) all) (declared_left ds (in_item type head) (in_item_row type tail) inside))
        (item_row_blocks setting right tail (each_right Used (item_uses setting.at head) (item_row_uses setting.at tail) all) (declared_right ds (in_item type head) (in_item_row type tail) inside))

  items_blocks : (setting : Setting) → IsRight setting → (items : List ConstraintItemTree) → AreUses units (flat_map (item_uses setting.at) items) → AreDeclared ds (flat_map (in_item type) items) → AllBlocks IsRow (flat_map (item_terms s setting) items)
  items_blocks setting right [] all inside = tt
  items_blocks setting right (x ∷ more) all inside =
      both_blocks IsRow (item_terms s setting x) (flat_map (item_terms s setting) more)
      (item_blocks setting right x (each_left Used (item_uses setting.at x) (flat_map (item_uses setting.at) more) all) (declared_left ds (in_item type x) (flat_map (in_item type) more) inside))
      (items_blocks setting right more (each_right Used (item_uses setting.at x) (flat_map (item_uses setting.at) more) all) (declared_right ds (in_item type x) (flat_map (in_item type) more) inside))

  pub declaration_blocks : (setting : Setting) → IsRight setting → (c : ConstraintDeclarationTree) → AreUses units (constraint_uses setting.at c) → AreDeclared ds (in_constraint type c) → AllBlocks IsRow (declaration_terms s setting c)
  declaration_blocks setting right (MakeConstraintDeclaration word (ConstraintContentNamed name left items close)) all inside = items_blocks setting right items all (λ d there. inside d (inr there))
  declaration_blocks setting right (MakeConstraintDeclaration word (ConstraintContentSet set)) all inside = set_blocks setting right set all inside

  pub declarations_blocks : (setting : Setting) → IsRight setting → (cs : List ConstraintDeclarationTree) → ((c : ConstraintDeclarationTree) → In c cs → AreUses units (constraint_uses setting.at c)) → ((c : ConstraintDeclarationTree) → In c cs → AreDeclared ds (in_constraint type c))
      → AllBlocks IsRow (flat_map (declaration_terms s setting) cs)
  declarations_blocks setting right [] all inside = tt
  declarations_blocks setting right (c ∷ more) all inside =
      both_blocks IsRow (declaration_terms s setting c) (flat_map (declaration_terms s setting) more) (declaration_blocks setting right c (all c (inl refl)) (inside c (inl refl)))
      (declarations_blocks setting right more (λ x there. all x (inr there)) (λ x there. inside x (inr there)))

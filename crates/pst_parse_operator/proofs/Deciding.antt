-- Each token stops an expression, or some expression goes on with it.
use Rattle.std.proofs.Common.{◌≡◌, ℕ, zero, suc, ◌+◌, ◌-◌, ◌≤◌, ◌<◌, Bool, true, false, List, [], ◌∷◌, ◌++◌, Some, Option, None, ◌⊎◌, inl, inr, refl, sym, ap, subst, ◌∙◌, arith, append_assoc}
use Rattle.std.proofs.lemmas.Bool.{cases_order}
use Rattle.pst_token.specs.declared.kind.Kind.{Kind}
use Rattle.pst_token.specs.declared.kind.Kind.TheVariants as kind
use Rattle.pst_token.specs.declared.token.Token.{Token}
use Rattle.pst_ast.specs.declared.leaf.Name.{Name}
use Rattle.pst_ast.specs.declared.leaf.Operator.{Operator}
use Rattle.pst_ast.specs.Marks.{mark, name_token, operator_kind, prefix_operator_kind}
use Rattle.pst_ast.specs.Closing.{origin, name_here}
use Rattle.pst_ast.specs.ExpressionTree.{ExprTree, ExprUnary, ExprBinary, ExprIn, UnaryTree, UnaryPrefix, UnaryPrimary, PrimaryNumber, PrimaryTrue, PrimaryFalse, PrimaryPath, PrimaryGroup, PathTree, PathDotted, PathItem, PathLongItem, MakePart, MakeNextPart, MakeIndex, MakeRanges, RangeSingle, NextPartRow, NoNextPartRow, MoreNextPartRow, MaybeIndex, NoIndex, SomeIndex, NoNextRangeRow}
use Rattle.pst_ast.specs.ExpressionSpelling.{spell_expr, spell_unary, spell_path, spell_next_part_row, spell_maybe_index}
use Rattle.pst_ast.specs.ExpressionProper.{level, level_of, IsProperExpr, IsProperUnary, IsProperPath, IsProperMaybeIndex, AreProperNextPart}
use Rattle.pst_reading.specs.Kinds.{is_mark}
use Rattle.pst_reading.proofs.Tokens.{mark_is}
use Rattle.pst_parse_operator.specs.Operators.{operator_of, is_in}
use Rattle.pst_parse_operator.specs.Reading.{with_part}
use Rattle.pst_parse_operator.proofs.Tokens.{operator_is, in_is}
use Rattle.pst_parse_operator.proofs.Rows.{spell_with_part, proper_with_part}
use Rattle.pst_parse_operator.proofs.Stops.{StopsIndex, StopsRow, StopsColons, StopsPath, StopsUnary, IsNoOperator, AreNoOperators, Stops}
use Rattle.pst_parse_operator.proofs.Again.{level_under}

-- a short tree
a_unary : UnaryTree
a_unary = UnaryPrimary (PrimaryTrue origin)

module _ (t : Token) where
  -- some proper tree is spelled by these tokens, t, and more
  record GoesOn {A : Type 0} (spell : A → List Token) (IsProper : A → Type 0) (text : List Token) : Type 0 where
    tree : A
    more : List Token
    proper : IsProper tree
    is : spell tree ≡ text ++ t ∷ more

  -- ---- paths

  record RowGoesOn (text : List Token) : Type 0 where
    index : MaybeIndex
    row : NextPartRow
    more : List Token
    index_proper : IsProperMaybeIndex index
    row_proper : AreProperNextPart row
    is : spell_maybe_index index ++ spell_next_part_row row ≡ text ++ t ∷ more

  is_the : (k : Kind) → is_mark k t ≡ true → mark k t.place ≡ t
  is_the k e = sym (mark_is k t e)

  index_on : (b : Bool) → is_mark kind.LeftBracket t ≡ b → StopsIndex NoIndex (Some t) ⊎ RowGoesOn []
  unfolding a_unary
  index_on false e = inl e
  index_on true e = inr (record { index = SomeIndex (MakeIndex t.place (ExprUnary a_unary) origin); row = NoNextPartRow; more = mark kind.True origin ∷ mark kind.RightBracket origin ∷ []; index_proper = tt; row_proper = tt; is = ap (λ (u : Token). u ∷ mark kind.True origin ∷ mark kind.RightBracket origin ∷ []) (is_the kind.LeftBracket e) })

  row_on : (i : MaybeIndex) (row : NextPartRow) → IsProperMaybeIndex i → AreProperNextPart row → StopsRow i row (Some t) ⊎ RowGoesOn (spell_maybe_index i ++ spell_next_part_row row)
  row_on NoIndex NoNextPartRow p q = index_on (is_mark kind.LeftBracket t) refl
  row_on (SomeIndex x) NoNextPartRow p q = inl tt
  row_on i (MoreNextPartRow (MakeNextPart dot (MakePart name j)) tail) p q = go (row_on j tail q.0 q.1)
    where
      go : StopsRow j tail (Some t) ⊎ RowGoesOn (spell_maybe_index j ++ spell_next_part_row tail) → StopsRow j tail (Some t) ⊎ RowGoesOn (spell_maybe_index i ++ spell_next_part_row (MoreNextPartRow (MakeNextPart dot (MakePart name j)) tail))
      go (inl s) = inl s
      go (inr g) = inr (record {
        index = i;
        row = MoreNextPartRow (MakeNextPart dot (MakePart name g.index)) g.row;
        more = g.more;
        index_proper = p;
        row_proper = (g.index_proper, g.row_proper);
        is = ap (λ (u : List Token). spell_maybe_index i ++ mark kind.Dot dot ∷ name_token name ∷ u) g.is ∙ sym (append_assoc (spell_maybe_index i) (mark kind.Dot dot ∷ name_token name ∷ (spell_maybe_index j ++ spell_next_part_row tail)) (t ∷ g.more));
      })

  PathOn : PathTree → Type 0
  PathOn p = StopsPath p (Some t) ⊎ GoesOn spell_path IsProperPath (spell_path p)

  colons_on : (name : Name) (i : MaybeIndex) (row : NextPartRow) → (b : Bool) → is_mark kind.ColonColon t ≡ b → StopsColons i row (Some t) ⊎ GoesOn spell_path IsProperPath (spell_path (PathDotted (MakePart name i) row))
  colons_on name NoIndex NoNextPartRow false e = inl e
  colons_on name NoIndex NoNextPartRow true e = inr (record { tree = PathItem name t.place name_here; more = name_token name_here ∷ []; proper = tt; is = ap (λ (u : Token). name_token name ∷ u ∷ name_token name_here ∷ []) (is_the kind.ColonColon e) })
  colons_on name NoIndex (MoreNextPartRow head tail) b e = inl tt
  colons_on name (SomeIndex x) row b e = inl tt

  dotted_on : (name : Name) (i : MaybeIndex) (row : NextPartRow) → IsProperMaybeIndex i → AreProperNextPart row → PathOn (PathDotted (MakePart name i) row)
  unfolding PathOn
  dotted_on name i row p q = go (is_mark kind.Dot t) refl (row_on i row p q) (colons_on name i row (is_mark kind.ColonColon t) refl)
    where
      go : (b : Bool) → is_mark kind.Dot t ≡ b → StopsRow i row (Some t) ⊎ RowGoesOn (spell_maybe_index i ++ spell_next_part_row row) → StopsColons i row (Some t) ⊎ GoesOn spell_path IsProperPath (spell_path (PathDotted (MakePart name i) row)) → PathOn (PathDotted (MakePart name i) row)
      go true e r c = inr (record {
        tree = PathDotted (MakePart name i) (with_part row (MakeNextPart t.place (MakePart name_here NoIndex)));
        more = name_token name_here ∷ [];
        proper = (p, proper_with_part row (MakeNextPart t.place (MakePart name_here NoIndex)) q tt);
        is = ap (λ (u : List Token). (name_token name ∷ spell_maybe_index i) ++ u) (spell_with_part row (MakeNextPart t.place (MakePart name_here NoIndex)))
            ∙ sym (append_assoc (name_token name ∷ spell_maybe_index i) (spell_next_part_row row) (mark kind.Dot t.place ∷ name_token name_here ∷ []))
            ∙ ap (λ (u : Token). ((name_token name ∷ spell_maybe_index i) ++ spell_next_part_row row) ++ u ∷ name_token name_here ∷ []) (is_the kind.Dot e);
      })
      go false e (inr g) c = inr (record { tree = PathDotted (MakePart name g.index) g.row; more = g.more; proper = (g.index_proper, g.row_proper); is = ap (λ (u : List Token). name_token name ∷ u) g.is })
      go false e (inl s) (inr g) = inr g
      go false e (inl s) (inl u) = inl (s, e, u)

  path_on : (p : PathTree) → IsProperPath p → PathOn p
  unfolding PathOn
  path_on (PathDotted (MakePart name i) row) proper = dotted_on name i row proper.0 proper.1
  path_on (PathItem a c b) proper = go (is_mark kind.ColonColon t) refl
    where
      go : (x : Bool) → is_mark kind.ColonColon t ≡ x → PathOn (PathItem a c b)
      go false e = inl e
      go true e = inr (record { tree = PathLongItem a c b t.place name_here; more = name_token name_here ∷ []; proper = tt; is = ap (λ (u : Token). name_token a ∷ mark kind.ColonColon c ∷ name_token b ∷ u ∷ name_token name_here ∷ []) (is_the kind.ColonColon e) })
  path_on (PathLongItem a c b d e) proper = inl tt

  unary_on : (u : UnaryTree) → IsProperUnary u → StopsUnary u (Some t) ⊎ GoesOn spell_unary IsProperUnary (spell_unary u)
  unfolding PathOn
  unary_on (UnaryPrefix o p u) proper = go (unary_on u proper)
    where
      go : StopsUnary u (Some t) ⊎ GoesOn spell_unary IsProperUnary (spell_unary u) → StopsUnary u (Some t) ⊎ GoesOn spell_unary IsProperUnary (spell_unary (UnaryPrefix o p u))
      go (inl s) = inl s
      go (inr g) = inr (record { tree = UnaryPrefix o p g.tree; more = g.more; proper = g.proper; is = ap (λ (x : List Token). mark (prefix_operator_kind o) p ∷ x) g.is })
  unary_on (UnaryPrimary (PrimaryPath p)) proper = go (path_on p proper)
    where
      go : PathOn p → StopsPath p (Some t) ⊎ GoesOn spell_unary IsProperUnary (spell_path p)
      go (inl s) = inl s
      go (inr g) = inr (record { tree = UnaryPrimary (PrimaryPath g.tree); more = g.more; proper = g.proper; is = g.is })
  unary_on (UnaryPrimary (PrimaryNumber n)) proper = inl tt
  unary_on (UnaryPrimary (PrimaryTrue p)) proper = inl tt
  unary_on (UnaryPrimary (PrimaryFalse p)) proper = inl tt
  unary_on (UnaryPrimary (PrimaryGroup l e r)) proper = inl tt

  -- ---- operators

  -- t is an operator of this level
  Binds : ℕ → Type 0
  Binds l = ((o : Operator) × (operator_of l (Some t) ≡ Some o)) ⊎ (is_in l (Some t) ≡ true)

  record Bound (low high : ℕ) : Type 0 where
    at : ℕ
    from : low ≤ at
    to : at ≤ high
    binds : Binds at

  one_level : (l : ℕ) → IsNoOperator l (Some t) ⊎ Binds l
  unfolding Binds
  one_level l = go (operator_of l (Some t)) (is_in l (Some t)) refl refl
    where
      go : (o : Option Operator) (b : Bool) → operator_of l (Some t) ≡ o → is_in l (Some t) ≡ b → IsNoOperator l (Some t) ⊎ Binds l
      go (Some o) b e f = inr (inl (o, e))
      go None true e f = inr (inr f)
      go None false e f = inl (e, f)

  levels : (n low high : ℕ) → n + low ≡ suc high → AreNoOperators low high (Some t) ⊎ Bound low high
  levels zero low high e = inl (λ l from to. absurd (omega (arith, e, from, to)))
  levels (suc n) low high e = go (one_level low) (levels n (suc low) high (omega (arith, e)))
    where
      pick : IsNoOperator low (Some t) → AreNoOperators (suc low) high (Some t) → (l : ℕ) → (low ≡ l) ⊎ (suc low ≤ l) → l ≤ high → IsNoOperator l (Some t)
      pick s r l (inl same) to = subst (λ (x : ℕ). IsNoOperator x (Some t)) same s
      pick s r l (inr more) to = r l more to

      here_or_later : (l : ℕ) → low ≤ l → (low ≡ l) ⊎ (suc low ≤ l)
      here_or_later l from = go_order (cases_order low l)
        where
          go_order : (low ≡ l) ⊎ ((low < l) ⊎ (l < low)) → (low ≡ l) ⊎ (suc low ≤ l)
          go_order (inl same) = inl same
          go_order (inr (inl lt)) = inr (omega (arith, lt))
          go_order (inr (inr gt)) = absurd (omega (arith, gt, from))

      go : IsNoOperator low (Some t) ⊎ Binds low → AreNoOperators (suc low) high (Some t) ⊎ Bound (suc low) high → AreNoOperators low high (Some t) ⊎ Bound low high
      go (inr b) r = inr (record { at = low; from = omega arith; to = omega (arith, e); binds = b })
      go (inl s) (inr b) = inr (record { at = b.at; from = omega (arith, b.from); to = b.to; binds = b.binds })
      go (inl s) (inl r) = inl (λ l from to. pick s r l (here_or_later l from) to)

  -- ---- expressions

  record ExprGoesOn (k : ℕ) (text : List Token) : Type 0 where
    tree : ExprTree
    more : List Token
    proper : IsProperExpr tree
    bound : k ≤ level tree
    is : spell_expr tree ≡ text ++ t ∷ more

  operator_on : (k high : ℕ) (e : ExprTree) → IsProperExpr e → high ≤ level e → Bound k high → ExprGoesOn k (spell_expr e)
  unfolding Binds a_unary
  operator_on k high e proper le b = go b.binds
    where
      go : ((o : Operator) × (operator_of b.at (Some t) ≡ Some o)) ⊎ (is_in b.at (Some t) ≡ true) → ExprGoesOn k (spell_expr e)
      go (inl f) =
          let w = operator_is b.at t f.0 f.1 in
          record {
            tree = ExprBinary e f.0 t.place (ExprUnary a_unary);
            more = mark kind.True origin ∷ [];
            proper = (proper, tt, omega (arith, w.level_is, b.to, le), level_under f.0);
            bound = omega (arith, w.level_is, b.from);
            is = ap (λ (u : Token). spell_expr e ++ u ∷ mark kind.True origin ∷ []) (sym w.is);
          }
      go (inr f) =
          let w = in_is b.at (Some t) f in
          record {
            tree = ExprIn e t.place origin (MakeRanges (RangeSingle (ExprUnary a_unary)) NoNextRangeRow) origin;
            more = mark kind.LeftBracket origin ∷ mark kind.True origin ∷ mark kind.RightBracket origin ∷ [];
            proper = (proper, (tt, tt), omega (arith, w.0, b.to, le));
            bound = omega (arith, w.0, b.from);
            is = ap (λ (u : Token). spell_expr e ++ u ∷ mark kind.LeftBracket origin ∷ mark kind.True origin ∷ mark kind.RightBracket origin ∷ []) (sym (mark_is kind.In t w.1));
          }

  ExprOn : ℕ → ExprTree → Type 0
  ExprOn k e = Stops k e (Some t) ⊎ ExprGoesOn k (spell_expr e)

  expr_on : (e : ExprTree) (k : ℕ) → IsProperExpr e → k ≤ level e → ExprOn k e
  unfolding ExprOn
  expr_on (ExprUnary u) k proper le = go (unary_on u proper) (levels (10 - k) k 9 (omega (arith, le)))
    where
      go : StopsUnary u (Some t) ⊎ GoesOn spell_unary IsProperUnary (spell_unary u) → AreNoOperators k 9 (Some t) ⊎ Bound k 9 → ExprOn k (ExprUnary u)
      go (inr g) r = inr (record { tree = ExprUnary g.tree; more = g.more; proper = g.proper; bound = le; is = g.is })
      go (inl s) (inr b) = inr (operator_on k 9 (ExprUnary u) proper (omega arith) b)
      go (inl s) (inl n) = inl (s, n)
  expr_on (ExprBinary l o p r) k proper le = go (expr_on r (suc (level_of o)) proper.1 proper.3) (levels (suc (level_of o) - k) k (level_of o) (omega (arith, le)))
    where
      go : ExprOn (suc (level_of o)) r → AreNoOperators k (level_of o) (Some t) ⊎ Bound k (level_of o) → ExprOn k (ExprBinary l o p r)
      go (inr g) n = inr (record { tree = ExprBinary l o p g.tree; more = g.more; proper = (proper.0, g.proper, proper.2, g.bound); bound = le; is = ap (λ (u : List Token). spell_expr l ++ mark (operator_kind o) p ∷ u) g.is ∙ sym (append_assoc (spell_expr l) (mark (operator_kind o) p ∷ spell_expr r) (t ∷ g.more)) })
      go (inl s) (inr b) = inr (operator_on k (level_of o) (ExprBinary l o p r) proper (omega arith) b)
      go (inl s) (inl n) = inl (s, n)
  expr_on (ExprIn l p c rs q) k proper le = go (levels (7 - k) k 6 (omega (arith, le)))
    where
      go : AreNoOperators k 6 (Some t) ⊎ Bound k 6 → ExprOn k (ExprIn l p c rs q)
      go (inr b) = inr (operator_on k 6 (ExprIn l p c rs q) proper (omega arith) b)
      go (inl n) = inl n

pub decide : (e : ExprTree) (t : Token) → IsProperExpr e → Stops 0 e (Some t) ⊎ ((tree : ExprTree) × (more : List Token) × IsProperExpr tree × (spell_expr tree ≡ (spell_expr e ++ t ∷ []) ++ more))
unfolding ExprOn
decide e t proper = go (expr_on t e 0 proper (omega arith))
  where
    go : Stops 0 e (Some t) ⊎ ExprGoesOn t 0 (spell_expr e) → Stops 0 e (Some t) ⊎ ((tree : ExprTree) × (more : List Token) × IsProperExpr tree × (spell_expr tree ≡ (spell_expr e ++ t ∷ []) ++ more))
    go (inl s) = inl s
    go (inr g) = inr (g.tree, g.more, g.proper, g.is ∙ sym (append_assoc (spell_expr e) (t ∷ []) g.more))

-- What the rules between operators explain.
use Rattle.std.proofs.Common.{◌≡◌, ℕ, zero, suc, ◌+◌, Bool, true, false, if◌then◌else◌, List, [], ◌∷◌, Some, Option, None, refl, ap, arith, append-nil}
use Rattle.pst_token.specs.declared.kind.Kind.TheVariants as kind
use Rattle.pst_token.specs.declared.token.Token.{Token}
use Rattle.pst_ast.specs.declared.leaf.Name.{Name}
use Rattle.pst_ast.specs.declared.leaf.PrefixOperator.{PrefixOperator}
use Rattle.pst_ast.specs.Marks.{mark}
use Rattle.pst_ast.specs.Closing.{origin}
use Rattle.pst_ast.specs.Limits.{Count, counted}
use Rattle.pst_ast.specs.ExpressionTree.{ExprTree, ExprUnary, UnaryTree, UnaryPrefix, UnaryPrimary, PrimaryTree, PrimaryNumber, PrimaryTrue, PrimaryFalse, PrimaryPath, PrimaryGroup, PathDotted, PathItem, PathLongItem, MakePart, MakeNextPart, MakeIndex, MakeRanges, MakeNextRange, RangeSingle, RangeBetween, NextPartRow, NoNextPartRow, NoIndex, SomeIndex, NextRangeRow, NoNextRangeRow}
use Rattle.pst_ast.specs.ExpressionSpelling.{spell_unary, spell_primary, spell_path, spell_next_part, spell_index, spell_next_range, spell_range, spell_next_part_row, spell_maybe_index, spell_next_range_row}
use Rattle.pst_ast.specs.ExpressionProper.{IsProperPrimary, IsProperPath, IsProperNextPart, IsProperIndex, IsProperNextRange, IsProperRange, AreProperNextPart, IsProperMaybeIndex, AreProperNextRange}
use Rattle.pst_ast.specs.ExpressionOperators.{operators_expr, operators_part, operators_next_part_row, operators_range, operators_next_range_row}
use Rattle.pst_ast.specs.ExpressionLimits.{counts_primary, counts_path, counts_next_part, counts_index, counts_next_range, counts_range, counts_next_part_row, counts_maybe_index, counts_next_range_row}
use Rattle.pst_reading.specs.Kinds.{is_mark, is_number, next_is}
use Rattle.pst_reading.specs.Parser.{Done, followed_by, next, mark_by, name_by, repeat_by}
use Rattle.pst_reading.proofs.Explaining.{Meaning, Means, Begins, Explains, ExplainedAt, Behind, LeadsBy, Leads, explains_then, explains_done, explains_take, explains_row, refused_here}
use Rattle.pst_reading.proofs.Marks.{IsMark, mark_explains, IsName, name_explains, explains_choice}
use Rattle.pst_reading.proofs.Tokens.{number_is}
use Rattle.pst_parse_operator.specs.Operators.{prefix_of}
use Rattle.pst_parse_operator.specs.Reading.{Parsers, index_by, maybe_index_by, next_part_by, with_part, parts_of, dotted_by, item_by, path_by, group_by, number_by, primary_by, prefix_by, unary_by, range_by, with_range, next_range_by, more_ranges_of, ranges_by, expr_at}
use Rattle.pst_parse_operator.proofs.Tokens.{prefix_is, no_prefix}
use Rattle.pst_parse_operator.proofs.Levels.{IsLevel, IsUnary, AreRanges, level_explains}
use Rattle.pst_parse_operator.proofs.Rows.{spell_with_part, proper_with_part, counts_with_part, spell_with_range, proper_with_range, counts_with_range}

module _ (X : Parsers ExprTree) (turns : ℕ) (E : (depth before : ℕ) → Explains (IsLevel 0 depth before) (X depth before)) where
  index_explains : (d b : ℕ) → Explains (Means spell_index IsProperIndex (counts_index d b)) (index_by X d b)
  index_explains d b =
      let M = Means spell_index IsProperIndex (counts_index d b) in
      let c = counted (suc d) b in
      explains_then (IsMark kind.LeftBracket c) M (mark_by kind.LeftBracket c) _ (mark_explains kind.LeftBracket c)
      (λ l f1 c1 h1. explains_then (IsLevel 0 (suc d) b) (Behind M f1 c1) (X (suc d) b) _ (E (suc d) b)
      (λ e f2 c2 h2. explains_then (IsMark kind.RightBracket (counted (suc d) (b + operators_expr e))) (Behind (Behind M f1 c1) f2 c2) (mark_by kind.RightBracket (counted (suc d) (b + operators_expr e))) _ (mark_explains kind.RightBracket (counted (suc d) (b + operators_expr e)))
      (λ r f3 c3 h3. explains_done (Behind (Behind (Behind M f1 c1) f2 c2) f3 c3) (MakeIndex l e r)
      (record { is = rw (append-nil, h1.is, h2.is, h3.is) refl; proper = h2.proper; counted = rw (append-nil, h1.counted, h2.counted, h3.counted) refl }))))

  group_explains : (d b : ℕ) → Explains (Means spell_primary IsProperPrimary (counts_primary d b)) (group_by X d b)
  group_explains d b =
      let M = Means spell_primary IsProperPrimary (counts_primary d b) in
      let c = counted (suc d) b in
      explains_then (IsMark kind.LeftParenthesis c) M (mark_by kind.LeftParenthesis c) _ (mark_explains kind.LeftParenthesis c)
      (λ l f1 c1 h1. explains_then (IsLevel 0 (suc d) b) (Behind M f1 c1) (X (suc d) b) _ (E (suc d) b)
      (λ e f2 c2 h2. explains_then (IsMark kind.RightParenthesis (counted (suc d) (b + operators_expr e))) (Behind (Behind M f1 c1) f2 c2) (mark_by kind.RightParenthesis (counted (suc d) (b + operators_expr e))) _ (mark_explains kind.RightParenthesis (counted (suc d) (b + operators_expr e)))
      (λ r f3 c3 h3. explains_done (Behind (Behind (Behind M f1 c1) f2 c2) f3 c3) (PrimaryGroup l e r)
      (record { is = rw (append-nil, h1.is, h2.is, h3.is) refl; proper = h2.proper; counted = rw (append-nil, h1.counted, h2.counted, h3.counted) refl }))))

  pub maybe_index_explains : (d b : ℕ) → Explains (Means spell_maybe_index IsProperMaybeIndex (counts_maybe_index d b)) (maybe_index_by X d b)
  maybe_index_explains d b ts =
      let M = Means spell_maybe_index IsProperMaybeIndex (counts_maybe_index d b) in
      explains_choice M (next_is (is_mark kind.LeftBracket) (next ts)) (followed_by (index_by X d b) (λ index. Done (SomeIndex index))) (Done NoIndex) ts
      (λ e. explains_then (Means spell_index IsProperIndex (counts_index d b)) M (index_by X d b) _ (index_explains d b)
      (λ i front cs h. explains_done (Behind M front cs) (SomeIndex i) (record { is = rw (append-nil, h.is) refl; proper = h.proper; counted = rw (append-nil, h.counted) refl })) ts)
      (λ e. explains_done M NoIndex (record { is = refl; proper = tt; counted = refl }) ts)

  next_part_explains : (d b : ℕ) → Explains (Means spell_next_part IsProperNextPart (counts_next_part d b)) (next_part_by X d b)
  next_part_explains d b =
      let M = Means spell_next_part IsProperNextPart (counts_next_part d b) in
      let c = counted d b in
      explains_then (IsMark kind.Dot c) M (mark_by kind.Dot c) _ (mark_explains kind.Dot c)
      (λ dot f1 c1 h1. explains_then (IsName c) (Behind M f1 c1) (name_by c) _ (name_explains c)
      (λ name f2 c2 h2. explains_then (Means spell_maybe_index IsProperMaybeIndex (counts_maybe_index d b)) (Behind (Behind M f1 c1) f2 c2) (maybe_index_by X d b) _ (maybe_index_explains d b)
      (λ i f3 c3 h3. explains_done (Behind (Behind (Behind M f1 c1) f2 c2) f3 c3) (MakeNextPart dot (MakePart name i))
      (record { is = rw (append-nil, h1.is, h2.is, h3.is) refl; proper = h3.proper; counted = rw (append-nil, h1.counted, h2.counted, h3.counted) refl }))))

  abbrev AreParts : ℕ → ℕ → Meaning NextPartRow
  AreParts d b = Means spell_next_part_row AreProperNextPart (counts_next_part_row d b)

  parts_lead : (d b : ℕ) → Leads (AreParts d b) (parts_of X d b)
  parts_lead d b row front cs h ts = go (next_is (is_mark kind.Dot) (next ts))
    where
      go : (x : Bool) → LeadsBy (AreParts d b) front cs ts (if x then Some (followed_by (next_part_by X d (b + operators_next_part_row row)) (λ p. Done (with_part row p))) else None)
      go false = tt
      go true =
          explains_then (Means spell_next_part IsProperNextPart (counts_next_part d (b + operators_next_part_row row))) (Behind (AreParts d b) front cs) (next_part_by X d (b + operators_next_part_row row)) _ (next_part_explains d (b + operators_next_part_row row))
          (λ p f1 c1 h1. explains_done (Behind (Behind (AreParts d b) front cs) f1 c1) (with_part row p)
          (record { is = rw (append-nil, h.is, h1.is, spell_with_part row p) refl; proper = proper_with_part row p h.proper h1.proper; counted = rw (append-nil, h.counted, h1.counted, counts_with_part d b row p) refl })) ts

  -- behind the first name
  dotted_explains : (d b : ℕ) (name : Name) (f1 : List Token) (c1 : List Count) → IsName (counted d b) name f1 c1 → Explains (Behind (Means spell_path IsProperPath (counts_path d b)) f1 c1) (dotted_by X turns d b name)
  dotted_explains d b name f1 c1 h1 =
      let M = Means spell_path IsProperPath (counts_path d b) in
      explains_then (Means spell_maybe_index IsProperMaybeIndex (counts_maybe_index d b)) (Behind M f1 c1) (maybe_index_by X d b) _ (maybe_index_explains d b)
      (λ i f2 c2 h2. explains_then (Behind (AreParts d (b + operators_part (MakePart name i))) [] []) (Behind (Behind M f1 c1) f2 c2) (repeat_by (parts_of X d (b + operators_part (MakePart name i))) turns NoNextPartRow) _
      (explains_row (AreParts d (b + operators_part (MakePart name i))) (parts_of X d (b + operators_part (MakePart name i))) (parts_lead d (b + operators_part (MakePart name i))) turns NoNextPartRow [] [] (record { is = refl; proper = tt; counted = refl }))
      (λ rest f3 c3 h3. explains_done (Behind (Behind (Behind M f1 c1) f2 c2) f3 c3) (PathDotted (MakePart name i) rest)
      (record { is = rw (append-nil, h1.is, h2.is, h3.is) refl; proper = (h2.proper, h3.proper); counted = rw (append-nil, h1.counted, h2.counted, h3.counted) refl })))

  item_explains : (d b : ℕ) (first : Name) (f1 : List Token) (c1 : List Count) → IsName (counted d b) first f1 c1 → Explains (Behind (Means spell_path IsProperPath (counts_path d b)) f1 c1) (item_by d b first)
  item_explains d b first f1 c1 h1 =
      let M = Means spell_path IsProperPath (counts_path d b) in
      let c = counted d b in
      explains_then (IsMark kind.ColonColon c) (Behind M f1 c1) (mark_by kind.ColonColon c) _ (mark_explains kind.ColonColon c)
      (λ colons f2 c2 h2. explains_then (IsName c) (Behind (Behind M f1 c1) f2 c2) (name_by c) _ (name_explains c)
      (λ second f3 c3 h3 ts. explains_choice (Behind (Behind (Behind M f1 c1) f2 c2) f3 c3) (next_is (is_mark kind.ColonColon) (next ts)) _ (Done (PathItem first colons second)) ts
      (λ e. explains_then (IsMark kind.ColonColon c) (Behind (Behind (Behind M f1 c1) f2 c2) f3 c3) (mark_by kind.ColonColon c) _ (mark_explains kind.ColonColon c)
      (λ more f4 c4 h4. explains_then (IsName c) (Behind (Behind (Behind (Behind M f1 c1) f2 c2) f3 c3) f4 c4) (name_by c) _ (name_explains c)
      (λ third f5 c5 h5. explains_done (Behind (Behind (Behind (Behind (Behind M f1 c1) f2 c2) f3 c3) f4 c4) f5 c5) (PathLongItem first colons second more third)
      (record { is = rw (append-nil, h1.is, h2.is, h3.is, h4.is, h5.is) refl; proper = tt; counted = rw (append-nil, h1.counted, h2.counted, h3.counted, h4.counted, h5.counted) refl }))) ts)
      (λ e. explains_done (Behind (Behind (Behind M f1 c1) f2 c2) f3 c3) (PathItem first colons second) (record { is = rw (append-nil, h1.is, h2.is, h3.is) refl; proper = tt; counted = rw (append-nil, h1.counted, h2.counted, h3.counted) refl }) ts)))

  path_explains : (d b : ℕ) → Explains (Means spell_path IsProperPath (counts_path d b)) (path_by X turns d b)
  path_explains d b =
      let M = Means spell_path IsProperPath (counts_path d b) in
      let c = counted d b in
      explains_then (IsName c) M (name_by c) _ (name_explains c)
      (λ name f1 c1 h1 ts. explains_choice (Behind M f1 c1) (next_is (is_mark kind.ColonColon) (next ts)) (item_by d b name) (dotted_by X turns d b name) ts
      (λ e. item_explains d b name f1 c1 h1 ts) (λ e. dotted_explains d b name f1 c1 h1 ts))

  abbrev IsPrimary : ℕ → ℕ → Meaning PrimaryTree
  IsPrimary d b = Means spell_primary IsProperPrimary (counts_primary d b)

  number_explains : (d b : ℕ) (ts : List Token) → next_is is_number (next ts) ≡ true → ExplainedAt (IsPrimary d b) (number_by d b) ts
  number_explains d b [] e = absurd cc
  number_explains d b (t ∷ ts) e =
      explains_take (IsPrimary d b) (counted d b) (λ token. Done (PrimaryNumber (record { value = token.number; place = token.place }))) t ts
      (explains_done (Behind (IsPrimary d b) (t ∷ []) (counted d b ∷ [])) (PrimaryNumber (record { value = t.number; place = t.place }))
      (record { is = ap (λ (u : Token). u ∷ []) (number_is t e); proper = tt; counted = refl }) ts)

  primary_explains : (d b : ℕ) → Explains (IsPrimary d b) (primary_by X turns d b)
  primary_explains d b ts =
      let M = IsPrimary d b in
      let c = counted d b in
      explains_choice M (next_is is_number (next ts)) (number_by d b) _ ts (number_explains d b ts)
      (λ e. explains_choice M (next_is (is_mark kind.LeftParenthesis) (next ts)) (group_by X d b) _ ts (λ f. group_explains d b ts)
      (λ f. explains_choice M (next_is (is_mark kind.True) (next ts)) _ _ ts
      (λ g. explains_then (IsMark kind.True c) M (mark_by kind.True c) _ (mark_explains kind.True c) (λ place f1 c1 h1. explains_done (Behind M f1 c1) (PrimaryTrue place) (record { is = rw (append-nil, h1.is) refl; proper = tt; counted = rw (append-nil, h1.counted) refl })) ts)
      (λ g. explains_choice M (next_is (is_mark kind.False) (next ts)) _ _ ts
      (λ h. explains_then (IsMark kind.False c) M (mark_by kind.False c) _ (mark_explains kind.False c) (λ place f1 c1 h1. explains_done (Behind M f1 c1) (PrimaryFalse place) (record { is = rw (append-nil, h1.is) refl; proper = tt; counted = rw (append-nil, h1.counted) refl })) ts)
      (λ h. explains_then (Means spell_path IsProperPath (counts_path d b)) M (path_by X turns d b) _ (path_explains d b) (λ path f1 c1 h1. explains_done (Behind M f1 c1) (PrimaryPath path) (record { is = rw (append-nil, h1.is) refl; proper = h1.proper; counted = rw (append-nil, h1.counted) refl })) ts))))

  some_unary : (d b : ℕ) → Begins (IsUnary d b) []
  some_unary d b = record { value = UnaryPrimary (PrimaryTrue origin); text = mark kind.True origin ∷ []; counts = counted d b ∷ []; more = mark kind.True origin ∷ []; spelled = record { is = refl; proper = tt; counted = refl }; is = refl }

  prefix_explains : (unary : Parsers UnaryTree) → ((d b : ℕ) → Explains (IsUnary d b) (unary d b)) → (d b : ℕ) (ts : List Token) (o : Option PrefixOperator) → prefix_of (next ts) ≡ o → ExplainedAt (IsUnary d b) (prefix_by (primary_by X turns) unary d b o) ts
  prefix_explains unary U d b ts None e =
      explains_then (IsPrimary d b) (IsUnary d b) (primary_by X turns d b) _ (primary_explains d b) (λ p f1 c1 h1. explains_done (Behind (IsUnary d b) f1 c1) (UnaryPrimary p) (record { is = rw (append-nil, h1.is) refl; proper = h1.proper; counted = rw (append-nil, h1.counted) refl })) ts
  prefix_explains unary U d b [] (Some o) e = absurd (some_is_none no_prefix e)
    where
      some_is_none : prefix_of None ≡ None → prefix_of None ≡ Some o → ⊥
      some_is_none x y = cc
  prefix_explains unary U d b (t ∷ ts) (Some o) e =
      let c = counted (suc d) (suc b) in
      explains_take (IsUnary d b) c (λ token. followed_by (unary (suc d) (suc b)) (λ operand. Done (UnaryPrefix o token.place operand))) t ts
      (explains_then (IsUnary (suc d) (suc b)) (Behind (IsUnary d b) (t ∷ []) (c ∷ [])) (unary (suc d) (suc b)) _ (U (suc d) (suc b))
      (λ u f1 c1 h1. explains_done (Behind (Behind (IsUnary d b) (t ∷ []) (c ∷ [])) f1 c1) (UnaryPrefix o t.place u)
      (record { is = rw (append-nil, h1.is) (ap (λ (x : Token). x ∷ spell_unary u) (prefix_is t o e).is); proper = h1.proper; counted = rw (append-nil, h1.counted) refl })) ts)

  pub unary_explains : (prefixes d b : ℕ) → Explains (IsUnary d b) (unary_by (primary_by X turns) prefixes d b)
  unary_explains zero d b ts = refused_here (IsUnary d b) ts (some_unary d b)
  unary_explains (suc prefixes) d b ts = prefix_explains (unary_by (primary_by X turns) prefixes) (unary_explains prefixes) d b ts (prefix_of (next ts)) refl

  -- ---- ranges

  range_explains : (d b : ℕ) → Explains (Means spell_range IsProperRange (counts_range d b)) (range_by X d b)
  range_explains d b =
      let M = Means spell_range IsProperRange (counts_range d b) in
      explains_then (IsLevel 0 d b) M (X d b) _ (E d b)
      (λ low f1 c1 h1 ts. explains_choice (Behind M f1 c1) (next_is (is_mark kind.DotDot) (next ts)) _ (Done (RangeSingle low)) ts
      (λ e. explains_then (IsMark kind.DotDot (counted d (b + operators_expr low))) (Behind M f1 c1) (mark_by kind.DotDot (counted d (b + operators_expr low))) _ (mark_explains kind.DotDot (counted d (b + operators_expr low)))
      (λ dots f2 c2 h2. explains_then (IsLevel 0 d (b + operators_expr low)) (Behind (Behind M f1 c1) f2 c2) (X d (b + operators_expr low)) _ (E d (b + operators_expr low))
      (λ high f3 c3 h3. explains_done (Behind (Behind (Behind M f1 c1) f2 c2) f3 c3) (RangeBetween low dots high)
      (record { is = rw (append-nil, h1.is, h2.is, h3.is) refl; proper = (h1.proper, h3.proper); counted = rw (append-nil, h1.counted, h2.counted, h3.counted) refl }))) ts)
      (λ e. explains_done (Behind M f1 c1) (RangeSingle low) (record { is = rw (append-nil, h1.is) refl; proper = h1.proper; counted = rw (append-nil, h1.counted) refl }) ts))

  next_range_explains : (d b : ℕ) → Explains (Means spell_next_range IsProperNextRange (counts_next_range d b)) (next_range_by X d b)
  next_range_explains d b =
      let M = Means spell_next_range IsProperNextRange (counts_next_range d b) in
      let c = counted d b in
      explains_then (IsMark kind.Comma c) M (mark_by kind.Comma c) _ (mark_explains kind.Comma c)
      (λ comma f1 c1 h1. explains_then (Means spell_range IsProperRange (counts_range d b)) (Behind M f1 c1) (range_by X d b) _ (range_explains d b)
      (λ range f2 c2 h2. explains_done (Behind (Behind M f1 c1) f2 c2) (MakeNextRange comma range)
      (record { is = rw (append-nil, h1.is, h2.is) refl; proper = h2.proper; counted = rw (append-nil, h1.counted, h2.counted) refl })))

  abbrev AreMore : ℕ → ℕ → Meaning NextRangeRow
  AreMore d b = Means spell_next_range_row AreProperNextRange (counts_next_range_row d b)

  ranges_lead : (d b : ℕ) → Leads (AreMore d b) (more_ranges_of X d b)
  ranges_lead d b row front cs h ts = go (next_is (is_mark kind.Comma) (next ts))
    where
      go : (x : Bool) → LeadsBy (AreMore d b) front cs ts (if x then Some (followed_by (next_range_by X d (b + operators_next_range_row row)) (λ r. Done (with_range row r))) else None)
      go false = tt
      go true =
          explains_then (Means spell_next_range IsProperNextRange (counts_next_range d (b + operators_next_range_row row))) (Behind (AreMore d b) front cs) (next_range_by X d (b + operators_next_range_row row)) _ (next_range_explains d (b + operators_next_range_row row))
          (λ r f1 c1 h1. explains_done (Behind (Behind (AreMore d b) front cs) f1 c1) (with_range row r)
          (record { is = rw (append-nil, h.is, h1.is, spell_with_range row r) refl; proper = proper_with_range row r h.proper h1.proper; counted = rw (append-nil, h.counted, h1.counted, counts_with_range d b row r) refl })) ts

  pub ranges_explains : (d b : ℕ) → Explains (AreRanges d b) (ranges_by X turns d b)
  ranges_explains d b =
      let M = AreRanges d b in
      explains_then (Means spell_range IsProperRange (counts_range d b)) M (range_by X d b) _ (range_explains d b)
      (λ first f1 c1 h1. explains_then (Behind (AreMore d (b + operators_range first)) [] []) (Behind M f1 c1) (repeat_by (more_ranges_of X d (b + operators_range first)) turns NoNextRangeRow) _
      (explains_row (AreMore d (b + operators_range first)) (more_ranges_of X d (b + operators_range first)) (ranges_lead d (b + operators_range first)) turns NoNextRangeRow [] [] (record { is = refl; proper = tt; counted = refl }))
      (λ rest f2 c2 h2. explains_done (Behind (Behind M f1 c1) f2 c2) (MakeRanges first rest)
      (record { is = rw (append-nil, h1.is, h2.is) refl; proper = (h1.proper, h2.proper); counted = rw (append-nil, h1.counted, h2.counted) refl })))

-- ---- expressions

some_expr : (d b : ℕ) → Begins (IsLevel 0 d b) []
some_expr d b = record { value = ExprUnary (UnaryPrimary (PrimaryTrue origin)); text = mark kind.True origin ∷ []; counts = counted d b ∷ []; more = mark kind.True origin ∷ []; spelled = record { is = refl; proper = tt; bound = omega arith; counted = refl }; is = refl }

pub expr_explains : (size d b : ℕ) → Explains (IsLevel 0 d b) (expr_at size d b)
unfolding expr_at
expr_explains zero d b ts = refused_here (IsLevel 0 d b) ts (some_expr d b)
expr_explains (suc size) d b ts =
    level_explains (unary_by (primary_by (expr_at size) size) (suc size)) (ranges_by (expr_at size) size) size d
    (unary_explains (expr_at size) size (expr_explains size) (suc size) d) (ranges_explains (expr_at size) size (expr_explains size) d)
    10 0 refl b ts

-- What counts in brackets explain.
use Rattle.std.proofs.Common.{◌≡◌, ℕ, Bool, true, if◌then◌else◌, List, [], ◌∷◌, ◌++◌, Option, Some, None, refl, ap, ◌∙◌, append_assoc}
use Rattle.pst_base.specs.declared.position.Place.{Place}
use Rattle.pst_token.specs.declared.kind.Kind.TheVariants as kind
use Rattle.pst_token.specs.declared.token.Token.{Token}
use Rattle.pst_ast.specs.declared.leaf.Name.{Name}
use Rattle.pst_ast.specs.declared.shared.LabelNode.{LabelNode}
use Rattle.pst_ast.specs.Marks.{mark, name_token, spell_option}
use Rattle.pst_ast.specs.Limits.{Count, counted, counts_option}
use Rattle.pst_ast.specs.ExpressionTree.{ExprTree}
use Rattle.pst_ast.specs.ExpressionSpelling.{spell_expr}
use Rattle.pst_ast.specs.ExpressionProper.{IsProperExpr}
use Rattle.pst_ast.specs.ExpressionLimits.{counts_expr}
use Rattle.pst_ast.specs.SharedSpelling.{spell_label}
use Rattle.pst_ast.specs.SharedLimits.{counts_label}
use Rattle.pst_reading.specs.Kinds.{is_name}
use Rattle.pst_reading.specs.Parser.{Parser, Done, Wrong, Take, followed_by, name_by}
use Rattle.pst_reading.proofs.Explaining.{Meaning, Means, Explains, Behind, explains_done}
use Rattle.pst_reading.proofs.Chains.{explains_mark, explains_name, explains_part}
use Rattle.pst_reading.proofs.Peeking.{takes, takes_followed, peek_explained}
use Rattle.pst_parse_expr.specs.Constraints.{Within}
use Rattle.pst_parse_expr.proofs.SharedLaws.{IsAny}
use Rattle.pst_parse_part.specs.Times.{label_colon, label_by, TimesTree, times_close, times_count, times_label, times_inner, times_by}

abbrev pub spell_times : TimesTree → List Token
spell_times t = mark kind.LeftParenthesis t.0 ∷ (spell_option spell_label t.1 ++ (spell_expr t.2 ++ mark kind.RightParenthesis t.3 ∷ []))

abbrev pub IsProperTimes : TimesTree → Type 0
IsProperTimes t = IsProperExpr t.2

abbrev pub counts_times : ℕ → TimesTree → List Count
counts_times d t = counted d 0 ∷ (counts_option (counts_label d) t.1 ++ (counts_expr d 0 t.2 ++ counted d 0 ∷ []))

-- a name is taken first
pub name_takes : {A : Type 0} (c : Count) (f : Name → Parser A) (t : Token) → is_name t ≡ true → takes (followed_by (name_by c) f) t ≡ Some c
name_takes c f t e = takes_followed (name_by c) f t c (alone t e)
  where
    alone : (u : Token) → is_name u ≡ true → takes (name_by c) u ≡ Some c
    alone u g = ap (λ (b : Bool). takes {A = Name} (if b then Take c (λ token. Done (record { id = token.name; place = token.place })) else Wrong) u) g

pub label_takes : {A : Type 0} (d : ℕ) (f : LabelNode → Parser A) (t : Token) → is_name t ≡ true → takes (followed_by (label_by d) f) t ≡ Some (counted d 0)
label_takes d f t e = takes_followed (label_by d) f t (counted d 0) (name_takes (counted d 0) (label_colon d) t e)

-- a count and what stands behind it
pub times_spelled : (t : TimesTree) (more : List Token) → spell_times t ++ more ≡ mark kind.LeftParenthesis t.0 ∷ (spell_option spell_label t.1 ++ (spell_expr t.2 ++ mark kind.RightParenthesis t.3 ∷ more))
times_spelled t more =
    let label = spell_option spell_label t.1 in
    let close = mark kind.RightParenthesis t.3 ∷ [] in
    ap (λ (u : List Token). mark kind.LeftParenthesis t.0 ∷ u) (append_assoc label (spell_expr t.2 ++ close) more ∙ ap (λ (u : List Token). label ++ u) (append_assoc (spell_expr t.2) close more))

pub times_counted : (d : ℕ) (t : TimesTree) (more : List Count) → counts_times d t ++ more ≡ counted d 0 ∷ (counts_option (counts_label d) t.1 ++ (counts_expr d 0 t.2 ++ counted d 0 ∷ more))
times_counted d t more =
    let labels = counts_option (counts_label d) t.1 in
    let close = counted d 0 ∷ [] in
    ap (λ (u : List Count). counted d 0 ∷ u) (append_assoc labels (counts_expr d 0 t.2 ++ close) more ∙ ap (λ (u : List Count). labels ++ u) (append_assoc (counts_expr d 0 t.2) close more))

module _ (X : Within ExprTree) (EX : (d : ℕ) → Explains (Means spell_expr IsProperExpr (counts_expr d 0)) (X d)) (TX : (d : ℕ) (t : Token) → is_name t ≡ true → takes (X d) t ≡ Some (counted d 0)) where
  pub label_explains : (d : ℕ) → Explains (Means spell_label IsAny (counts_label d)) (label_by d)
  label_explains d =
      let c = counted d 0 in
      let M = Means spell_label IsAny (counts_label d) in
      explains_name M c (label_colon d) (λ name.
      let M1 = Behind M (name_token name ∷ []) (c ∷ []) in
      explains_mark M1 kind.Colon c _ (λ colon.
      explains_done (Behind M1 (mark kind.Colon colon ∷ []) (c ∷ [])) (record { name = name; colon = colon }) (record { is = refl; proper = tt; counted = refl })))

  abbrev BehindLeft : ℕ → Place → Meaning TimesTree
  BehindLeft d l = Behind (Means spell_times IsProperTimes (counts_times d)) (mark kind.LeftParenthesis l ∷ []) (counted d 0 ∷ [])

  count_explains : (d : ℕ) (l : Place) (i : Option LabelNode) → Explains (Behind (BehindLeft d l) (spell_option spell_label i) (counts_option (counts_label d) i)) (times_count X d l i)
  count_explains d l i =
      let c = counted d 0 in
      let M1 = Behind (BehindLeft d l) (spell_option spell_label i) (counts_option (counts_label d) i) in
      explains_part M1 spell_expr IsProperExpr (counts_expr d 0) (X d) (times_close d l i) (EX d) (λ e p.
      let M2 = Behind M1 (spell_expr e) (counts_expr d 0 e) in
      explains_mark M2 kind.RightParenthesis c _ (λ r.
      explains_done (Behind M2 (mark kind.RightParenthesis r ∷ []) (c ∷ [])) (l, i, e, r) (record { is = refl; proper = p; counted = refl })))

  pub times_explains : (d : ℕ) → Explains (Means spell_times IsProperTimes (counts_times d)) (times_by X d)
  times_explains d =
      let c = counted d 0 in
      explains_mark (Means spell_times IsProperTimes (counts_times d)) kind.LeftParenthesis c (times_inner X d) (λ l ts.
      peek_explained kind.Colon c (times_label X d l) (times_count X d l None) (λ t e. label_takes d (λ label. times_count X d l (Some label)) t e) (λ t e. takes_followed (X d) (times_close d l None) t c (TX d t e)) (BehindLeft d l) ts
      (explains_part (BehindLeft d l) spell_label IsAny (counts_label d) (label_by d) (λ label. times_count X d l (Some label)) (label_explains d) (λ i p. count_explains d l (Some i)) ts)
      (count_explains d l None ts))

-- What constraints that are declared, and objects, explain.
use Rattle.pst_ast.specs.ConstraintLimits.{counts_constraint, counts_constraint_item}
use Rattle.pst_ast.specs.ConstraintProper.{IsProperConstraint, IsProperConstraintItem, IsProperConstraintContent, IsProperConstraintDeclaration}
use Rattle.pst_ast.specs.ConstraintSpelling.{spell_constraint, spell_constraint_item, spell_constraint_content, spell_constraint_declaration}
use Rattle.pst_ast.specs.ConstraintTree.{ConstraintContentTree, ConstraintContentNamed, ConstraintContentSet, MakeConstraintDeclaration}
use Rattle.pst_ast.specs.DeclarationLimits.{counts_field}
use Rattle.pst_ast.specs.DeclarationProper.{IsProperField, IsProperObjectPart, IsProperObject}
use Rattle.pst_ast.specs.DeclarationSpelling.{spell_field, spell_object_part, spell_object}
use Rattle.pst_ast.specs.DeclarationTree.{ObjectPartField, ObjectPartConstraint, ObjectPartEmpty, MakeObject}
use Rattle.pst_ast.specs.Limits.{Count, counted}
use Rattle.pst_ast.specs.Marks.{name_token, object_word_kind}
use Rattle.pst_ast.specs.declared.declaration.ObjectWord.TheVariants as the_object_word
use Rattle.pst_ast.specs.declared.declaration.ObjectWord.{ObjectWord}
use Rattle.pst_ast.specs.declared.leaf.Name.{Name}
use Rattle.pst_base.specs.declared.position.Place.{Place}
use Rattle.pst_parse_decl.proofs.Behind.{reads_behind, taken_behind, content_takes, first_count}
use Rattle.pst_parse_part.proofs.ChoicesExplain.{explains_if_mark, explains_made, explains_empty}
use Rattle.pst_parse_member.proofs.MembersExplain.{word_explains, field_explains, spell_word, counts_word}
use Rattle.pst_parse_decl.proofs.Taken.{taken_content, taken_constraint_declaration, taken_object_part, taken_object}
use Rattle.pst_parse_member.specs.Members.{field_by}
use Rattle.pst_parse_decl.specs.Objects.{constraint_declaration_by, behind_name_by, behind, set_content_by, constraint_items_by, content_by, named_constraint_by, object_by, object_part_by, object_word_by}
use Rattle.pst_parse_expr.proofs.Answering.{explains}
use Rattle.pst_parse_expr.proofs.ConstraintExplains.{item_explains, constraint_explains}
use Rattle.pst_parse_expr.proofs.SharedLaws.{IsAny}
use Rattle.pst_parse_expr.specs.Constraints.{outermost_at, is_at, is_other, item_by, constraint_at}
use Rattle.pst_reading.proofs.Chains.{explains_mark, explains_name, explains_part}
use Rattle.pst_reading.proofs.Explaining.{Meaning, Means, Explains, ExplainedAt, Behind, explains_done, explains_take, Explained}
use Rattle.pst_reading.proofs.Lists.{list_explains}
use Rattle.pst_reading.proofs.Tokens.{name_is}
use Rattle.pst_reading.specs.Kinds.{is_name}
use Rattle.pst_reading.specs.Lists.{list_by}
use Rattle.pst_reading.specs.Parser.{Take, next, Outcome, read, counts_taken}
use Rattle.pst_token.specs.declared.kind.Kind.TheVariants as kind
use Rattle.pst_token.specs.declared.token.Token.{Token}
use Rattle.std.proofs.Common.{refl, sym, subst, append-nil, ℕ, suc, ◌≡◌, Bool, true, false, if◌then◌else◌, List, [], ◌∷◌, Some}
use Rattle.std.specs.List.{flat_map, AllByRecursion}

constraint_items_explain : (size depth : ℕ) → Explains (Means (flat_map spell_constraint_item) (AllByRecursion IsProperConstraintItem) (flat_map (counts_constraint_item depth))) (constraint_items_by size depth)
constraint_items_explain size depth = list_explains spell_constraint_item IsProperConstraintItem (counts_constraint_item depth) (is_other kind.RightBrace) (item_by (outermost_at (suc size)) (constraint_at size) size (suc depth)) (item_explains (outermost_at (suc size)) (constraint_at size) size (λ x. explains x (suc size)) (constraint_explains size) depth) size

abbrev IsContent : ℕ → Meaning ConstraintContentTree
IsContent depth = Means spell_constraint_content IsProperConstraintContent (taken_content depth)

named_explains : (size depth : ℕ) (name : Name) → Explains (Behind (IsContent depth) (name_token name ∷ []) (counted (suc depth) 0 ∷ [])) (named_constraint_by size depth name)
named_explains size depth name =
    explains_mark _ kind.LeftBrace (counted depth 0) _ (λ left_brace.
    explains_part _ (flat_map spell_constraint_item) (AllByRecursion IsProperConstraintItem) (flat_map (counts_constraint_item depth)) (constraint_items_by size depth) _ (constraint_items_explain size depth) (λ items h.
    explains_mark _ kind.RightBrace (counted depth 0) _ (λ right_brace.
    explains_done _ (ConstraintContentNamed name left_brace items right_brace) (record { is = refl; proper = h; counted = refl }))))

set_content_explains : (size depth : ℕ) → Explains (IsContent depth) (set_content_by size depth)
set_content_explains size depth = explains_made (IsContent depth) spell_constraint IsProperConstraint (counts_constraint depth) (constraint_at (suc size) depth) ConstraintContentSet (constraint_explains (suc size) depth) (λ s p. record { is = refl; proper = p; counted = refl })

-- behind a name
module _ (size depth : ℕ) (t : Token) (is : is_name t ≡ true) where
  name : Name
  name = record { id = t.name; place = t.place }

  takes : first_count (set_content_by size depth) t ≡ Some (counted (suc depth) 0)
  takes = subst (λ (u : Token). first_count (set_content_by size depth) u ≡ Some (counted (suc depth) 0)) (sym (name_is t is)) (content_takes (record { id = t.name; place = t.place }) size depth)

  behind_name : (ts : List Token) (b : Bool) → ExplainedAt (IsContent depth) (Take (counted (suc depth) 0) (λ token. if b then named_constraint_by size depth (record { id = token.name; place = token.place }) else behind token (set_content_by size depth))) (t ∷ ts)
  behind_name ts true =
      explains_take (IsContent depth) (counted (suc depth) 0) (λ token. named_constraint_by size depth (record { id = token.name; place = token.place })) t ts
      (subst (λ (u : Token). ExplainedAt (Behind (IsContent depth) (u ∷ []) (counted (suc depth) 0 ∷ [])) (named_constraint_by size depth (record { id = t.name; place = t.place })) ts) (sym (name_is t is)) (named_explains size depth (record { id = t.name; place = t.place }) ts))
  behind_name ts false =
      subst (λ (o : Outcome ConstraintContentTree). Explained (IsContent depth) (t ∷ ts) (counted (suc depth) 0 ∷ counts_taken (behind t (set_content_by size depth)) ts) o) (reads_behind (λ c. false) (set_content_by size depth) t (counted (suc depth) 0) ts takes refl)
      (subst (λ (cs : List Count). Explained (IsContent depth) (t ∷ ts) cs (read (set_content_by size depth) (t ∷ ts))) (taken_behind (set_content_by size depth) t (counted (suc depth) 0) ts takes) (set_content_explains size depth (t ∷ ts)))

pub content_explains : (size depth : ℕ) → Explains (IsContent depth) (content_by size depth)
content_explains size depth [] = set_content_explains size depth []
content_explains size depth (t ∷ ts) = go (is_name t) refl
  where
    go : (b : Bool) → is_name t ≡ b → ExplainedAt (IsContent depth) (if b then Take (counted (suc depth) 0) (behind_name_by size depth) else set_content_by size depth) (t ∷ ts)
    go false e = set_content_explains size depth (t ∷ ts)
    go true e = behind_name size depth t e ts (is_at kind.LeftBrace (next ts))

pub constraint_declaration_explains : (size depth : ℕ) → Explains (Means spell_constraint_declaration IsProperConstraintDeclaration (taken_constraint_declaration depth)) (constraint_declaration_by size depth)
constraint_declaration_explains size depth =
    explains_mark _ kind.Constraint (counted depth 0) _ (λ constraint.
    explains_part _ spell_constraint_content IsProperConstraintContent (taken_content depth) (content_by size depth) _ (content_explains size depth) (λ content h1.
    explains_done _ (MakeConstraintDeclaration constraint content) (record { is = rw append-nil refl; proper = h1; counted = rw append-nil refl })))

abbrev pub spell_object_word : ObjectWord × Place → List Token
spell_object_word word = spell_word object_word_kind word

abbrev pub counts_object_word : ℕ → ObjectWord × Place → List Count
counts_object_word depth word = counts_word depth word

pub object_word_explains : (depth : ℕ) → Explains (Means spell_object_word IsAny (counts_object_word depth)) (object_word_by depth)
object_word_explains depth =
    explains_if_mark (Means spell_object_word IsAny (counts_object_word depth)) kind.Buffer _ _ (word_explains object_word_kind the_object_word.Buffer depth) (
    explains_if_mark (Means spell_object_word IsAny (counts_object_word depth)) kind.Stream _ _ (word_explains object_word_kind the_object_word.Stream depth) (
    explains_if_mark (Means spell_object_word IsAny (counts_object_word depth)) kind.State _ _ (word_explains object_word_kind the_object_word.State depth) (
    word_explains object_word_kind the_object_word.Resource depth)))

pub object_part_explains : (size depth : ℕ) → Explains (Means spell_object_part IsProperObjectPart (taken_object_part depth)) (object_part_by size depth)
object_part_explains size depth =
    let M = Means spell_object_part IsProperObjectPart (taken_object_part depth) in
    explains_if_mark M kind.Rand _ _ (explains_made M spell_field IsProperField (counts_field depth) (field_by size depth) ObjectPartField (field_explains size depth) (λ x p. record { is = refl; proper = p; counted = refl })) (
    explains_if_mark M kind.Constraint _ _ (explains_made M spell_constraint_declaration IsProperConstraintDeclaration (taken_constraint_declaration depth) (constraint_declaration_by size depth) ObjectPartConstraint (constraint_declaration_explains size depth) (λ x p. record { is = refl; proper = p; counted = refl })) (
    explains_empty M kind.Semicolon (counted depth 0) ObjectPartEmpty (λ p. record { is = refl; proper = tt; counted = refl })))

pub object_explains : (size depth : ℕ) → Explains (Means spell_object IsProperObject (taken_object depth)) (object_by size depth)
object_explains size depth =
    explains_part _ spell_object_word IsAny (counts_object_word depth) (object_word_by depth) _ (object_word_explains depth) (λ word h0.
    explains_name _ (counted depth 0) _ (λ name.
    explains_mark _ kind.LeftBrace (counted depth 0) _ (λ left_brace.
    explains_part _ (flat_map spell_object_part) (AllByRecursion IsProperObjectPart) (flat_map (taken_object_part depth)) (list_by (is_other kind.RightBrace) (object_part_by size depth) size) _ (list_explains spell_object_part IsProperObjectPart (taken_object_part depth) (is_other kind.RightBrace) (object_part_by size depth) (object_part_explains size depth) size) (λ parts h3.
    explains_mark _ kind.RightBrace (counted depth 0) _ (λ right_brace.
    explains_done _ (MakeObject word.0 word.1 name left_brace parts right_brace) (record { is = refl; proper = h3; counted = refl }))))))

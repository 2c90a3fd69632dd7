-- Constraints that are declared, and objects, read what they spell again.
use Rattle.pst_ast.specs.ConstraintLimits.{counts_constraint, counts_constraint_item}
use Rattle.pst_ast.specs.ConstraintProper.{IsProperConstraintItem, IsProperConstraintContent, IsProperConstraintDeclaration}
use Rattle.pst_ast.specs.ConstraintSpelling.{spell_constraint, spell_constraint_item, spell_constraint_content, spell_constraint_declaration}
use Rattle.pst_ast.specs.ConstraintTree.{ConstraintTree, ConstraintItemTree, ConstraintContentTree, ConstraintDeclarationTree, ConstraintOne, ConstraintBlock, ConstraintContentNamed, ConstraintContentSet, MakeConstraintDeclaration}
use Rattle.pst_ast.specs.DeclarationLimits.{counts_field}
use Rattle.pst_ast.specs.DeclarationProper.{IsProperObjectPart, IsProperObject}
use Rattle.pst_ast.specs.DeclarationSpelling.{spell_field, spell_object_part, spell_object}
use Rattle.pst_ast.specs.DeclarationTree.{FieldTree, ObjectPartTree, ObjectTree, MakeField, ObjectPartField, ObjectPartConstraint, ObjectPartEmpty, MakeObject}
use Rattle.pst_ast.specs.ExpressionTree.{ExprTree, ExprUnary, UnaryPrimary, PrimaryPath, PathDotted, MakePart, NoNextPartRow, NoIndex}
use Rattle.pst_ast.specs.Limits.{Count, counted}
use Rattle.pst_ast.specs.Marks.{mark, name_token, object_word_kind}
use Rattle.pst_ast.specs.declared.declaration.ObjectWord.TheVariants as the_object_word
use Rattle.pst_ast.specs.declared.declaration.ObjectWord.{ObjectWord}
use Rattle.pst_ast.specs.declared.leaf.Name.{Name}
use Rattle.pst_base.specs.declared.position.Place.{Place}
use Rattle.pst_parse_decl.proofs.Behind.{reads_behind, taken_behind, content_takes, first_count}
use Rattle.pst_parse_part.proofs.Following.{other_mark, ends_there, expr_rereads, reread_next, reread_made, reread_empty}
use Rattle.pst_parse_member.proofs.MembersAgain.{word_rereads, field_rereads}
use Rattle.pst_parse_decl.proofs.ObjectsExplain.{spell_object_word, counts_object_word}
use Rattle.pst_parse_decl.proofs.Taken.{taken_content, taken_constraint_declaration, taken_object_part, taken_object}
use Rattle.pst_parse_member.specs.Members.{field_by}
use Rattle.pst_parse_decl.specs.Objects.{constraint_declaration_by, behind_name_by, behind, set_content_by, constraint_items_by, content_by, named_constraint_by, object_by, object_part_by, object_word_by}
use Rattle.pst_parse_expr.proofs.ConstraintAgain.{item_again, constraint_again, some_item}
use Rattle.pst_parse_expr.proofs.Starts.{item_starts}
use Rattle.pst_parse_operator.proofs.Stops.{IsNo, Separates, closes}
use Rattle.pst_parse_expr.specs.Constraints.{Within, outermost_at, is_at, is_other, item_by, constraint_at, behind_expr, set_by}
use Rattle.pst_reading.proofs.Becoming.{Becomes, becomes_followed, run_followed}
use Rattle.pst_reading.proofs.Lists.{StartsPart}
use Rattle.pst_reading.proofs.Marks.{look_becomes, choice_becomes, take_becomes}
use Rattle.pst_reading.proofs.Rereading.{Rereads, Anything, reread_done, narrower, reread_mark, reread_name, reread_part, reread_last, reread_choice, EndsOption, reread_list}
use Rattle.pst_reading.proofs.Tokens.{mark_is, mark_is_so, name_is, name_is_so}
use Rattle.pst_reading.specs.Kinds.{is_mark, is_name, next_is}
use Rattle.pst_reading.specs.Lists.{list_by}
use Rattle.pst_reading.specs.Parser.{Done, Take, next, run, Outcome, Took, Refused, read, and_then}
use Rattle.pst_token.specs.declared.kind.Kind.TheVariants as kind
use Rattle.pst_token.specs.declared.token.Token.{Token}
use Rattle.std.proofs.Common.{refl, sym, ap, subst, ◌∙◌, arith, length-append, ℕ, suc, ◌≤◌, ◌≡◌, Bool, true, false, if◌then◌else◌, List, [], ◌∷◌, ◌++◌, Option, Some, None, length}
use Rattle.std.specs.List.{flat_map, AllByRecursion}

-- ---- what stands behind the word constraint

left_brace_closes : (place : Place) → Separates 0 (Some (mark kind.LeftBrace place))
unfolding is_mark
left_brace_closes place = closes kind.LeftBrace place refl refl refl refl refl

some_set : (s : ConstraintTree) → 1 ≤ length (spell_constraint s)
some_set (ConstraintOne item) = some_item item
some_set (ConstraintBlock left_brace items right_brace) = omega arith

-- a name, as an expression
abbrev name_alone : Name → ExprTree
name_alone name = ExprUnary (UnaryPrimary (PrimaryPath (PathDotted (MakePart name NoIndex) NoNextPartRow)))

-- no set of constraints begins with a name and a brace
module _ (name : Name) (p : Place) (vs : List Token) (size : ℕ) (enough : 1 ≤ size) where
  abbrev brace_on : List Token
  brace_on = mark kind.LeftBrace p ∷ vs

  name_read : (d : ℕ) → read (outermost_at (suc size) d) (name_token name ∷ brace_on) ≡ Took (name_alone name) brace_on
  name_read d = ((expr_rereads size d (name_alone name) (tt, tt) (omega (arith, enough))).again brace_on (left_brace_closes p)).outcome

  item_refused : (S : Within ConstraintTree) (d : ℕ) → read (item_by (outermost_at (suc size)) S size d) (name_token name ∷ brace_on) ≡ Refused brace_on
  unfolding is_mark
  item_refused S d = run_followed (λ c. false) (outermost_at (suc size) d) (behind_expr S d) (name_token name ∷ brace_on) ∙ ap (λ (o : Outcome ExprTree). and_then o (λ a rest. run (λ c. false) (behind_expr S d a) rest)) (name_read d)

  set_refused : (S : Within ConstraintTree) (d : ℕ) → read (set_by (outermost_at (suc size)) S size d) (name_token name ∷ brace_on) ≡ Refused brace_on
  unfolding is_mark
  set_refused S d = run_followed (λ c. false) (item_by (outermost_at (suc size)) S size (suc d)) (λ item. Done (ConstraintOne item)) (name_token name ∷ brace_on) ∙ ap (λ (o : Outcome ConstraintItemTree). and_then o (λ a rest. run (λ c. false) (Done (ConstraintOne a)) rest)) (item_refused S (suc d))

  content_refused : (d : ℕ) → read (set_content_by size d) (name_token name ∷ brace_on) ≡ Refused brace_on
  unfolding constraint_at
  content_refused d = run_followed (λ c. false) (constraint_at (suc size) d) (λ s. Done (ConstraintContentSet s)) (name_token name ∷ brace_on) ∙ ap (λ (o : Outcome ConstraintTree). and_then o (λ a rest. run (λ c. false) (Done (ConstraintContentSet a)) rest)) (set_refused (constraint_at size) d)

-- what a set becomes, what stands behind the word constraint becomes
module _ (size depth : ℕ) (enough : 1 ≤ size) (tree : ConstraintContentTree) (rest : List Token) (counts : List Count) where
  abbrev c : Count
  c = counted (suc depth) 0

  not_refused : (vs : List Token) → Refused vs ≡ Took tree rest → ⊥
  not_refused vs e = cc

  name_there : (t : Token) (ts : List Token) → is_name t ≡ true → (b : Bool) → is_at kind.LeftBrace (next ts) ≡ b → Becomes (set_content_by size depth) (t ∷ ts) counts (Done tree) rest → Becomes (Take c (λ token. if b then named_constraint_by size depth (record { id = token.name; place = token.place }) else behind token (set_content_by size depth))) (t ∷ ts) counts (Done tree) rest
  name_there t ts is false brace h =
      let takes = subst (λ (u : Token). first_count (set_content_by size depth) u ≡ Some c) (sym (name_is t is)) (content_takes (record { id = t.name; place = t.place }) size depth) in
      record { outcome = sym (reads_behind (λ x. false) (set_content_by size depth) t c ts takes refl) ∙ h.outcome; taken = sym (taken_behind (set_content_by size depth) t c ts takes) ∙ h.taken }
  name_there t [] is true brace h = absurd cc
  name_there t (u ∷ vs) is true brace h =
      let parts : t ∷ u ∷ vs ≡ name_token (record { id = t.name; place = t.place }) ∷ mark kind.LeftBrace u.place ∷ vs = ap (λ (x : Token). x ∷ u ∷ vs) (name_is t is) ∙ ap (λ (x : Token). name_token (record { id = t.name; place = t.place }) ∷ x ∷ vs) (mark_is kind.LeftBrace u brace) in
      absurd (not_refused (mark kind.LeftBrace u.place ∷ vs) (sym (content_refused (record { id = t.name; place = t.place }) u.place vs size enough depth) ∙ ap (read (set_content_by size depth)) (sym parts) ∙ h.outcome))

  content_becomes : (ts : List Token) → Becomes (set_content_by size depth) ts counts (Done tree) rest → Becomes (content_by size depth) ts counts (Done tree) rest
  content_becomes [] h = look_becomes _ [] rest counts (Done tree) h
  content_becomes (t ∷ ts) h = look_becomes _ (t ∷ ts) rest counts (Done tree) (go (is_name t) refl)
    where
      go : (b : Bool) → is_name t ≡ b → Becomes (if b then Take c (behind_name_by size depth) else set_content_by size depth) (t ∷ ts) counts (Done tree) rest
      go false e = h
      go true e =
          let g = name_there t ts e (is_at kind.LeftBrace (next ts)) refl h in
          record { outcome = g.outcome; taken = g.taken }

item_rereads : (size depth : ℕ) (x : ConstraintItemTree) → IsProperConstraintItem x → length (spell_constraint_item x) ≤ size → Rereads (IsNo kind.Else) (item_by (outermost_at (suc size)) (constraint_at size) size (suc depth)) (spell_constraint_item x) (counts_constraint_item depth x) x
item_rereads size depth x proper short = record { again = λ more m. item_again (outermost_at (suc size)) (constraint_at size) size (λ d e us p n w. (expr_rereads size d e p n).again us w) (constraint_again size) depth x more proper short (λ opens. m) }

constraint_item_starts : (x : ConstraintItemTree) (us : List Token) → StartsPart (is_other kind.RightBrace) (IsNo kind.Else) (spell_constraint_item x ++ us)
constraint_item_starts x us = let w = item_starts x us in record { found = ap (λ (b : Bool). if b then false else true) w.no_end; good = w.no_else }

named_rereads : (size depth : ℕ) (name : Name) (left_brace : Place) (items : List ConstraintItemTree) (right_brace : Place) → AllByRecursion IsProperConstraintItem items → suc (length (flat_map spell_constraint_item items)) ≤ size → Rereads (IsNo kind.Else) (named_constraint_by size depth name) (mark kind.LeftBrace left_brace ∷ (flat_map spell_constraint_item items ++ mark kind.RightBrace right_brace ∷ [])) (counted depth 0 ∷ (flat_map (counts_constraint_item depth) items ++ counted depth 0 ∷ [])) (ConstraintContentNamed name left_brace items right_brace)
named_rereads size depth name left_brace items right_brace proper short =
    reread_mark _ kind.LeftBrace (counted depth 0) _ left_brace _ _ _
    (reread_part _ (EndsOption (is_other kind.RightBrace) (IsNo kind.Else)) (constraint_items_by size depth) _ (flat_map spell_constraint_item items) _ items _ _ _ (reread_list spell_constraint_item IsProperConstraintItem (counts_constraint_item depth) (is_other kind.RightBrace) (IsNo kind.Else) (item_by (outermost_at (suc size)) (constraint_at size) size (suc depth)) size size (item_rereads size depth) (λ x us p. constraint_item_starts x us) some_item items proper short (omega (arith, short))) (λ more m. (ends_there kind.RightBrace right_brace, other_mark kind.Else kind.RightBrace right_brace refl))
    (reread_mark _ kind.RightBrace (counted depth 0) _ right_brace _ _ _
    (reread_done _ _)))

pub content_rereads : (size depth : ℕ) (x : ConstraintContentTree) → IsProperConstraintContent x → length (spell_constraint_content x) ≤ size → Rereads (IsNo kind.Else) (content_by size depth) (spell_constraint_content x) (taken_content depth x) x
content_rereads size depth (ConstraintContentNamed name left_brace items right_brace) proper short =
    let long = length-append (flat_map spell_constraint_item items) (mark kind.RightBrace right_brace ∷ []) in
    let named = named_rereads size depth name left_brace items right_brace proper (omega (arith, short, long)) in
    reread_next _ (next_is is_name) _ _ _ _ _ true (λ more m. name_is_so name)
    (record { again = λ more m. take_becomes (counted (suc depth) 0) (behind_name_by size depth) (name_token name) _ more _ (Done (ConstraintContentNamed name left_brace items right_brace)) (choice_becomes kind.LeftBrace (named_constraint_by size depth name) _ (Done (ConstraintContentNamed name left_brace items right_brace)) _ more _ true (mark_is_so kind.LeftBrace left_brace) (named.again more m)) })
content_rereads size depth (ConstraintContentSet set) proper short = record { again = λ more m. content_becomes size depth (omega (arith, short, some_set set)) (ConstraintContentSet set) more (counts_constraint depth set) (spell_constraint set ++ more) (becomes_followed (constraint_at (suc size) depth) (Done set) (λ s. Done (ConstraintContentSet s)) (spell_constraint set ++ more) more (counts_constraint depth set) (constraint_again (suc size) depth set more proper (omega (arith, short)) (λ opens. m))) }

pub constraint_declaration_rereads : (size depth : ℕ) (x : ConstraintDeclarationTree) → IsProperConstraintDeclaration x → length (spell_constraint_declaration x) ≤ size → Rereads (IsNo kind.Else) (constraint_declaration_by size depth) (spell_constraint_declaration x) (taken_constraint_declaration depth x) x
constraint_declaration_rereads size depth (MakeConstraintDeclaration constraint content) proper short =
    reread_mark _ kind.Constraint (counted depth 0) _ constraint _ _ _
    (reread_last _ (content_by size depth) _ _ _ content _ (content_rereads size depth content proper (omega (arith, short))) refl)

pub constraint_declaration_begins : (E : Option Token → Type 0) → ((place : Place) → E (Some (mark kind.Constraint place))) → (x : ConstraintDeclarationTree) (us : List Token) → E (next (spell_constraint_declaration x ++ us))
constraint_declaration_begins E h (MakeConstraintDeclaration constraint content) us = h constraint

pub field_begins : (E : Option Token → Type 0) → ((place : Place) → E (Some (mark kind.Rand place))) → (x : FieldTree) (us : List Token) → E (next (spell_field x ++ us))
field_begins E h (MakeField rand field_type first rest semicolon) us = h rand

pub object_word_rereads : (depth : ℕ) (x : ObjectWord × Place) → Rereads Anything (object_word_by depth) (spell_object_word x) (counts_object_word depth x) x
object_word_rereads depth (the_object_word.Buffer, place) =
    reread_choice _ kind.Buffer _ _ _ _ _ true (λ rest m. (mark_is_so kind.Buffer place))
    (word_rereads object_word_kind the_object_word.Buffer depth place)
object_word_rereads depth (the_object_word.Stream, place) =
    reread_choice _ kind.Buffer _ _ _ _ _ false (λ rest m. (other_mark kind.Buffer kind.Stream place refl))
    (reread_choice _ kind.Stream _ _ _ _ _ true (λ rest m. (mark_is_so kind.Stream place))
    (word_rereads object_word_kind the_object_word.Stream depth place))
object_word_rereads depth (the_object_word.State, place) =
    reread_choice _ kind.Buffer _ _ _ _ _ false (λ rest m. (other_mark kind.Buffer kind.State place refl))
    (reread_choice _ kind.Stream _ _ _ _ _ false (λ rest m. (other_mark kind.Stream kind.State place refl))
    (reread_choice _ kind.State _ _ _ _ _ true (λ rest m. (mark_is_so kind.State place))
    (word_rereads object_word_kind the_object_word.State depth place)))
object_word_rereads depth (the_object_word.Resource, place) =
    reread_choice _ kind.Buffer _ _ _ _ _ false (λ rest m. (other_mark kind.Buffer kind.Resource place refl))
    (reread_choice _ kind.Stream _ _ _ _ _ false (λ rest m. (other_mark kind.Stream kind.Resource place refl))
    (reread_choice _ kind.State _ _ _ _ _ false (λ rest m. (other_mark kind.State kind.Resource place refl))
    (word_rereads object_word_kind the_object_word.Resource depth place)))

pub object_part_rereads : (size depth : ℕ) (x : ObjectPartTree) → IsProperObjectPart x → length (spell_object_part x) ≤ size → Rereads (IsNo kind.Else) (object_part_by size depth) (spell_object_part x) (taken_object_part depth x) x
object_part_rereads size depth (ObjectPartField x) proper short =
    reread_choice _ kind.Rand _ _ _ _ _ true (λ more m. field_begins (λ n. is_at kind.Rand n ≡ true) (λ p. mark_is_so kind.Rand p) x more)
    (reread_made _ (field_by size depth) ObjectPartField (spell_field x) (counts_field depth x) x (narrower Anything (IsNo kind.Else) _ _ _ _ (λ n m. tt) (field_rereads size depth x proper short)))
object_part_rereads size depth (ObjectPartConstraint x) proper short =
    reread_choice _ kind.Rand _ _ _ _ _ false (λ more m. constraint_declaration_begins (λ n. is_at kind.Rand n ≡ false) (λ p. other_mark kind.Rand kind.Constraint p refl) x more)
    (reread_choice _ kind.Constraint _ _ _ _ _ true (λ more m. constraint_declaration_begins (λ n. is_at kind.Constraint n ≡ true) (λ p. mark_is_so kind.Constraint p) x more)
    (reread_made _ (constraint_declaration_by size depth) ObjectPartConstraint (spell_constraint_declaration x) (taken_constraint_declaration depth x) x (constraint_declaration_rereads size depth x proper short)))
object_part_rereads size depth (ObjectPartEmpty place) proper short =
    reread_choice _ kind.Rand _ _ _ _ _ false (λ more m. other_mark kind.Rand kind.Semicolon place refl)
    (reread_choice _ kind.Constraint _ _ _ _ _ false (λ more m. other_mark kind.Constraint kind.Semicolon place refl)
    (reread_empty kind.Semicolon (counted depth 0) ObjectPartEmpty place _))

pub part_starts : (Good : Option Token → Type 0) (ts : List Token) → IsNo kind.RightBrace (next ts) → Good (next ts) → StartsPart (is_other kind.RightBrace) Good ts
part_starts Good ts e g = record { found = ap (λ (b : Bool). if b then false else true) e; good = g }

-- there is a token
abbrev pub IsThere : Option Token → Type 0
IsThere None = ⊥
IsThere (Some t) = Unit {0}

pub some_token : (ts : List Token) → IsThere (next (ts ++ [])) → 1 ≤ length ts
some_token [] h = absurd h
some_token (t ∷ ts) h = omega arith

object_part_starts : (x : ObjectPartTree) (us : List Token) → StartsPart (is_other kind.RightBrace) (IsNo kind.Else) (spell_object_part x ++ us)
object_part_starts (ObjectPartField x) us = part_starts (IsNo kind.Else) _ (field_begins (IsNo kind.RightBrace) (λ p. other_mark kind.RightBrace kind.Rand p refl) x us) (field_begins (IsNo kind.Else) (λ p. other_mark kind.Else kind.Rand p refl) x us)
object_part_starts (ObjectPartConstraint x) us = part_starts (IsNo kind.Else) _ (constraint_declaration_begins (IsNo kind.RightBrace) (λ p. other_mark kind.RightBrace kind.Constraint p refl) x us) (constraint_declaration_begins (IsNo kind.Else) (λ p. other_mark kind.Else kind.Constraint p refl) x us)
object_part_starts (ObjectPartEmpty place) us = part_starts (IsNo kind.Else) _ (other_mark kind.RightBrace kind.Semicolon place refl) (other_mark kind.Else kind.Semicolon place refl)

object_part_some : (x : ObjectPartTree) → 1 ≤ length (spell_object_part x)
object_part_some (ObjectPartField x) = some_token _ (field_begins IsThere (λ p. tt) x [])
object_part_some (ObjectPartConstraint x) = some_token _ (constraint_declaration_begins IsThere (λ p. tt) x [])
object_part_some (ObjectPartEmpty place) = omega arith

pub object_rereads : (size depth : ℕ) (x : ObjectTree) → IsProperObject x → length (spell_object x) ≤ size → Rereads Anything (object_by size depth) (spell_object x) (taken_object depth x) x
object_rereads size depth (MakeObject word place name left_brace parts right_brace) proper short =
    let long = length-append (flat_map spell_object_part parts) (mark kind.RightBrace right_brace ∷ []) in
    reread_part _ Anything (object_word_by depth) _ (spell_object_word (word, place)) _ (word, place) _ _ _ (object_word_rereads depth (word, place)) (λ more m. tt)
    (reread_name _ (counted depth 0) _ name _ _ _
    (reread_mark _ kind.LeftBrace (counted depth 0) _ left_brace _ _ _
    (reread_part _ (EndsOption (is_other kind.RightBrace) (IsNo kind.Else)) (list_by (is_other kind.RightBrace) (object_part_by size depth) size) _ (flat_map spell_object_part parts) _ parts _ _ _ (reread_list spell_object_part IsProperObjectPart (taken_object_part depth) (is_other kind.RightBrace) (IsNo kind.Else) (object_part_by size depth) size size (λ x p n. (object_part_rereads size depth x p n)) (λ x us p. object_part_starts x us) object_part_some parts proper (omega (arith, short, long)) (omega (arith, short, long))) (λ more m. ((ends_there kind.RightBrace right_brace), (other_mark kind.Else kind.RightBrace right_brace refl)))
    (reread_mark _ kind.RightBrace (counted depth 0) _ right_brace _ _ _
    (reread_done _ _)))))

pub object_begins : (E : Option Token → Type 0) → ((place : Place) → E (Some (mark kind.Buffer place))) → ((place : Place) → E (Some (mark kind.Stream place))) → ((place : Place) → E (Some (mark kind.State place))) → ((place : Place) → E (Some (mark kind.Resource place))) → (x : ObjectTree) (us : List Token) → E (next (spell_object x ++ us))
object_begins E buffer_case stream_case state_case resource_case (MakeObject the_object_word.Buffer place name left_brace parts right_brace) us = buffer_case place
object_begins E buffer_case stream_case state_case resource_case (MakeObject the_object_word.Stream place name left_brace parts right_brace) us = stream_case place
object_begins E buffer_case stream_case state_case resource_case (MakeObject the_object_word.State place name left_brace parts right_brace) us = state_case place
object_begins E buffer_case stream_case state_case resource_case (MakeObject the_object_word.Resource place name left_brace parts right_brace) us = resource_case place

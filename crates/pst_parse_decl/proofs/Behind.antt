-- Parsers behind a token that they take.
use Rattle.pst_ast.specs.ConstraintTree.{ConstraintTree, ConstraintOne, ConstraintContentSet}
use Rattle.pst_ast.specs.ExpressionTree.{ExprTree, RangesTree, ExprUnary, UnaryPrimary}
use Rattle.pst_ast.specs.Limits.{Count, counted}
use Rattle.pst_ast.specs.Marks.{name_token}
use Rattle.pst_ast.specs.declared.leaf.Name.{Name}
use Rattle.pst_ast.specs.declared.leaf.PrefixOperator.{PrefixOperator}
use Rattle.pst_parse_decl.specs.Objects.{behind, set_content_by}
use Rattle.pst_parse_expr.specs.Constraints.{Within, outermost_at, item_by, constraint_at, behind_expr, set_by}
use Rattle.pst_parse_operator.specs.Operators.{prefix_of, is_bare}
use Rattle.pst_parse_operator.specs.Reading.{expr_at, ranges_by, Parsers, primary_by, unary_by, prefix_by, level_by}
use Rattle.pst_reading.specs.Kinds.{is_mark, is_name, is_number}
use Rattle.pst_reading.specs.Parser.{Parser, Done, Wrong, Spent, Look, Take, followed_by, run, TooDeep, counts_taken}
use Rattle.pst_token.specs.declared.token.Token.{Token}
use Rattle.std.proofs.Common.{refl, sym, ap, subst, ◌∙◌, ℕ, zero, suc, ◌≡◌, Bool, true, false, if◌then◌else◌, List, ◌∷◌, Option, Some, None}

-- what the first token counts, where the parser takes it
abbrev pub first_count : {A : Type 0} → Parser A → Token → Option Count
first_count (Done a) token = None
first_count Wrong token = None
first_count Spent token = None
first_count (Look choose) token = first_count (choose (Some token)) token
first_count (Take count go_on) token = Some count

same_count : (c d : Count) → Some c ≡ Some d → c ≡ d
same_count c d e = cc

-- behind a token that a parser takes it goes on
pub reads_behind : {A : Type 0} (over : Count → Bool) (p : Parser A) (t : Token) (c : Count) (ts : List Token) → first_count p t ≡ Some c → over c ≡ false → run over p (t ∷ ts) ≡ run over (behind t p) ts
reads_behind over (Done a) t c ts e free = absurd cc
reads_behind over Wrong t c ts e free = absurd cc
reads_behind over Spent t c ts e free = absurd cc
reads_behind over (Look choose) t c ts e free = reads_behind over (choose (Some t)) t c ts e free
reads_behind over (Take d go_on) t c ts e free = ap (λ (b : Bool). if b then TooDeep (t ∷ ts) else run over (go_on t) ts) (ap over (same_count d c e) ∙ free)

pub taken_behind : {A : Type 0} (p : Parser A) (t : Token) (c : Count) (ts : List Token) → first_count p t ≡ Some c → counts_taken p (t ∷ ts) ≡ c ∷ counts_taken (behind t p) ts
taken_behind (Done a) t c ts e = absurd cc
taken_behind Wrong t c ts e = absurd cc
taken_behind Spent t c ts e = absurd cc
taken_behind (Look choose) t c ts e = taken_behind (choose (Some t)) t c ts e
taken_behind (Take d go_on) t c ts e = ap (λ (x : Count). x ∷ counts_taken (go_on t) ts) (same_count d c e)

-- where the first of two parsers takes a token, both do
pub first_followed : {A B : Type 0} (p : Parser A) (f : A → Parser B) (t : Token) (c : Count) → first_count p t ≡ Some c → first_count (followed_by p f) t ≡ Some c
first_followed (Done a) f t c e = absurd cc
first_followed Wrong f t c e = absurd cc
first_followed Spent f t c e = absurd cc
first_followed (Look choose) f t c e = first_followed (choose (Some t)) f t c e
first_followed (Take d go_on) f t c e = e

-- ---- a set of constraints takes a name, as the first token of an expression

module _ (name : Name) where
  no_prefix : prefix_of (Some (name_token name)) ≡ None
  unfolding prefix_of is_bare
  no_prefix = either (is_bare (name_token name)) None
    where
      either : (b : Bool) (x : Option PrefixOperator) → (if b then x else x) ≡ x
      either true x = refl
      either false x = refl

  primary_takes : (X : Parsers ExprTree) (turns d b : ℕ) → first_count (primary_by X turns d b) (name_token name) ≡ Some (counted d b)
  unfolding is_mark is_number is_name
  primary_takes X turns d b = refl

  unary_takes : (X : Parsers ExprTree) (turns prefixes d b : ℕ) → first_count (unary_by (primary_by X turns) (suc prefixes) d b) (name_token name) ≡ Some (counted d b)
  unary_takes X turns prefixes d b =
      subst (λ (o : Option PrefixOperator). first_count (prefix_by (primary_by X turns) (unary_by (primary_by X turns) prefixes) d b o) (name_token name) ≡ Some (counted d b)) (sym no_prefix)
      (first_followed (primary_by X turns d b) (λ p. Done (UnaryPrimary p)) (name_token name) (counted d b) (primary_takes X turns d b))

  level_takes : (X : Parsers ExprTree) (R : Parsers RangesTree) (turns prefixes above d b : ℕ) → first_count (level_by (unary_by (primary_by X turns) (suc prefixes)) R turns above d b) (name_token name) ≡ Some (counted d b)
  level_takes X R turns prefixes zero d b = first_followed (unary_by (primary_by X turns) (suc prefixes) d b) (λ u. Done (ExprUnary u)) (name_token name) (counted d b) (unary_takes X turns prefixes d b)
  level_takes X R turns prefixes (suc above) d b = first_followed (level_by (unary_by (primary_by X turns) (suc prefixes)) R turns above d b) _ (name_token name) (counted d b) (level_takes X R turns prefixes above d b)

  expr_takes : (size d : ℕ) → first_count (outermost_at (suc size) d) (name_token name) ≡ Some (counted d 0)
  unfolding expr_at
  expr_takes size d = level_takes (expr_at size) (ranges_by (expr_at size) size) size size 10 d 0

  item_takes : (S : Within ConstraintTree) (size d : ℕ) → first_count (item_by (outermost_at (suc size)) S size d) (name_token name) ≡ Some (counted d 0)
  unfolding is_mark
  item_takes S size d = first_followed (outermost_at (suc size) d) (behind_expr S d) (name_token name) (counted d 0) (expr_takes size d)

  set_takes : (S : Within ConstraintTree) (size d : ℕ) → first_count (set_by (outermost_at (suc size)) S size d) (name_token name) ≡ Some (counted (suc d) 0)
  unfolding is_mark
  set_takes S size d = first_followed (item_by (outermost_at (suc size)) S size (suc d)) (λ item. Done (ConstraintOne item)) (name_token name) (counted (suc d) 0) (item_takes S size (suc d))

  pub content_takes : (size d : ℕ) → first_count (set_content_by size d) (name_token name) ≡ Some (counted (suc d) 0)
  unfolding constraint_at
  content_takes size d = first_followed (constraint_at (suc size) d) (λ set. Done (ConstraintContentSet set)) (name_token name) (counted (suc d) 0) (set_takes (constraint_at size) size d)

-- What follows parts, and parts that several rules have, read again.
use Rattle.pst_ast.specs.ExpressionLimits.{counts_expr, counts_maybe_index}
use Rattle.pst_ast.specs.ExpressionProper.{IsProperExpr, IsProperMaybeIndex}
use Rattle.pst_ast.specs.ExpressionSpelling.{spell_expr, spell_maybe_index}
use Rattle.pst_ast.specs.ExpressionTree.{ExprTree, MaybeIndex, NoIndex, SomeIndex}
use Rattle.pst_ast.specs.Limits.{Count, counted}
use Rattle.pst_ast.specs.Marks.{mark, name_token, spell_option, OptionIs}
use Rattle.pst_ast.specs.SharedLimits.{counts_dot_name}
use Rattle.pst_ast.specs.SharedSpelling.{spell_dot_name}
use Rattle.pst_ast.specs.declared.leaf.Name.{Name}
use Rattle.pst_ast.specs.declared.shared.DotName.{DotName}
use Rattle.pst_base.specs.declared.position.Place.{Place}
use Rattle.pst_parse_part.specs.Choices.{if_next}
use Rattle.pst_parse_expr.proofs.SharedLaws.{IsAny}
use Rattle.pst_parse_operator.proofs.ExprAgain.{expr_again}
use Rattle.pst_parse_operator.proofs.PartsAgain.{maybe_index_again}
use Rattle.pst_parse_operator.proofs.Stops.{IsNo, Separates, separated, StopsIndex}
use Rattle.pst_parse_expr.specs.Constraints.{outermost_at, is_other, dot_name_by}
use Rattle.pst_parse_operator.specs.Reading.{expr_at, maybe_index_by}
use Rattle.pst_reading.proofs.Marks.{look_becomes, test_becomes, mark_becomes}
use Rattle.pst_reading.proofs.Rereading.{Rereads, Anything, reread_done, reread_mark, reread_name, reread_last}
use Rattle.pst_reading.proofs.Tokens.{mark_is_so, name_is}
use Rattle.pst_reading.specs.Kinds.{is_mark, is_name, next_is, number_of}
use Rattle.pst_reading.specs.Parser.{Parser, Done, followed_by, mark_by, next}
use Rattle.pst_token.specs.declared.kind.Kind.TheVariants as kind
use Rattle.pst_token.specs.declared.kind.Kind.{Kind}
use Rattle.pst_token.specs.declared.token.Token.{Token}
use Rattle.std.proofs.Common.{refl, sym, ap, subst, arith, append_assoc, ℕ, suc, ◌≤◌, ◌≡◌, Bool, true, false, if◌then◌else◌, List, [], ◌∷◌, ◌++◌, Option, Some, None, length, ◌==◌, ◌&&◌}
use Rattle.std.specs.List.{flat_map, AllByRecursion}

-- ---- tokens apart

-- a mark is no other mark
pub other_mark : (k j : Kind) (p : Place) → (number_of j == number_of k) ≡ false → is_mark k (mark j p) ≡ false
unfolding is_mark
other_mark k j p e = ap (λ (b : Bool). b && true) e

-- a name is no mark
pub other_name : (k : Kind) (n : Name) → (0 == number_of k) ≡ false → is_mark k (name_token n) ≡ false
unfolding is_mark
other_name k n e = ap (λ (b : Bool). b && (n.id.0 == 0 && true)) e

-- a mark is no name
pub mark_is_no_name : (k : Kind) (p : Place) → (number_of k == 0) ≡ false → is_name (mark k p) ≡ false
unfolding is_name
mark_is_no_name k p e = ap (λ (b : Bool). b && true) e

abbrev pub IsName : Option Token → Type 0
IsName next = next_is is_name next ≡ true

pub name_is_other : (k : Kind) (n : Option Token) → IsName n → (0 == number_of k) ≡ false → IsNo k n
name_is_other k None h e = absurd cc
name_is_other k (Some t) h e = subst (λ (u : Token). is_mark k u ≡ false) (sym (name_is t h)) (other_name k (record { id = t.name; place = t.place }) e)

-- the mark that closes a list
pub ends_there : (k : Kind) (p : Place) → is_other k (Some (mark k p)) ≡ false
ends_there k p = ap (λ (b : Bool). if b then false else true) (mark_is_so k p)

-- what ends a range
abbrev pub EndsRange : Option Token → Type 0
EndsRange next = Separates 0 next × IsNo kind.DotDot next

-- ---- what follows

module _ {A : Type 0} (E : Option Token → Type 0) (spell : A → List Token) where
  pub next_option : (x : Option A) (rest : List Token) → ((a : A) (us : List Token) → E (next (spell a ++ us))) → E (next rest) → E (next (spell_option spell x ++ rest))
  next_option None rest h e = e
  next_option (Some a) rest h e = h a rest

  pub next_option_in : (x : Option A) (more rest : List Token) → ((a : A) (us : List Token) → E (next (spell a ++ us))) → E (next (more ++ rest)) → E (next ((spell_option spell x ++ more) ++ rest))
  next_option_in None more rest h e = e
  next_option_in (Some a) more rest h e = subst (λ (u : List Token). E (next u)) (sym (append_assoc (spell a) more rest)) (h a (more ++ rest))

  pub next_list : (xs : List A) (rest : List Token) → ((a : A) (us : List Token) → E (next (spell a ++ us))) → E (next rest) → E (next (flat_map spell xs ++ rest))
  next_list [] rest h e = e
  next_list (x ∷ xs) rest h e = subst (λ (u : List Token). E (next u)) (sym (append_assoc (spell x) (flat_map spell xs) rest)) (h x (flat_map spell xs ++ rest))

  pub next_list_in : (xs : List A) (more rest : List Token) → ((a : A) (us : List Token) → E (next (spell a ++ us))) → E (next (more ++ rest)) → E (next ((flat_map spell xs ++ more) ++ rest))
  next_list_in xs more rest h e = subst (λ (u : List Token). E (next u)) (sym (append_assoc (flat_map spell xs) more rest)) (next_list xs (more ++ rest) h e)

pub next_part_in : (E : Option Token → Type 0) (front more rest : List Token) → E (next (front ++ (more ++ rest))) → E (next ((front ++ more) ++ rest))
next_part_in E front more rest e = subst (λ (u : List Token). E (next u)) (sym (append_assoc front more rest)) e

-- ---- parts of which nothing is asked

pub any_option : {A : Type 0} (x : Option A) → OptionIs IsAny x
any_option None = tt
any_option (Some a) = tt

pub any_list : {A : Type 0} (xs : List A) → AllByRecursion IsAny xs
any_list [] = tt
any_list (x ∷ xs) = (tt, any_list xs)

-- ---- parts that several rules have

pub mark_rereads : (k : Kind) (c : Count) (p : Place) → Rereads Anything (mark_by k c) (mark k p ∷ []) (c ∷ []) p
mark_rereads k c p = record { again = λ rest m. mark_becomes k c p rest }

pub expr_rereads : (size depth : ℕ) (e : ExprTree) → IsProperExpr e → length (spell_expr e) ≤ size → Rereads (Separates 0) (outermost_at (suc size) depth) (spell_expr e) (counts_expr depth 0 e) e
expr_rereads size depth e proper short = record { again = λ rest w. expr_again (suc size) depth 0 e rest proper (omega (arith, short)) (separated 0 (next rest) w e proper 0 (omega arith) (omega arith)) }

pub index_rereads : (size depth : ℕ) (i : MaybeIndex) → IsProperMaybeIndex i → length (spell_maybe_index i) ≤ size → Rereads (IsNo kind.LeftBracket) (maybe_index_by (expr_at (suc size)) depth 0) (spell_maybe_index i) (counts_maybe_index depth 0 i) i
index_rereads size depth i proper short = record { again = λ rest w. maybe_index_again (expr_at (suc size)) (suc size) (expr_again (suc size)) depth 0 i rest proper (omega (arith, short)) (stops i rest w) }
  where
    stops : (i : MaybeIndex) (rest : List Token) → IsNo kind.LeftBracket (next rest) → StopsIndex i (next rest)
    stops NoIndex rest w = w
    stops (SomeIndex j) rest w = tt

pub dot_name_rereads : (depth : ℕ) (x : DotName) → Rereads Anything (dot_name_by depth) (spell_dot_name x) (counts_dot_name depth x) x
dot_name_rereads depth x =
    reread_mark _ kind.Dot (counted depth 0) _ x.dot _ _ _
    (reread_name _ (counted depth 0) _ x.name _ _ _
    (reread_done _ _))

pub dot_name_begins : (E : Option Token → Type 0) → ((place : Place) → E (Some (mark kind.Dot place))) → (x : DotName) (us : List Token) → E (next (spell_dot_name x ++ us))
dot_name_begins E h x us = h x.dot

pub dot_name_some : (x : DotName) → 1 ≤ length (spell_dot_name x)
dot_name_some x = omega arith

-- a choice by a test
pub reread_next : {A : Type 0} (May : Option Token → Type 0) (begins : Option Token → Bool) (p q : Parser A) (text : List Token) (counts : List Count) (a : A) (b : Bool) → ((rest : List Token) → May (next rest) → begins (next (text ++ rest)) ≡ b) → Rereads May (if b then p else q) text counts a → Rereads May (if_next begins p q) text counts a
reread_next May begins p q text counts a b e h = record { again = λ rest m. look_becomes (λ n. if begins n then p else q) (text ++ rest) rest counts (Done a) (test_becomes (begins (next (text ++ rest))) b p q (Done a) (text ++ rest) rest counts (e rest m) (h.again rest m)) }

-- a part that is the whole tree
pub reread_made : {A B : Type 0} (May : Option Token → Type 0) (p : Parser A) (make : A → B) (text : List Token) (counts : List Count) (a : A) → Rereads May p text counts a → Rereads May (followed_by p (λ x. Done (make x))) text counts (make a)
reread_made May p make text counts a h = reread_last May p (λ x. Done (make x)) text counts a (make a) h refl

-- a mark that is the whole tree
pub reread_empty : {B : Type 0} (k : Kind) (c : Count) (make : Place → B) (p : Place) (May : Option Token → Type 0) → Rereads May (followed_by (mark_by k c) (λ q. Done (make q))) (mark k p ∷ []) (c ∷ []) (make p)
reread_empty k c make p May = reread_mark May k c (λ q. Done (make q)) p [] [] (make p) (reread_done May (make p))

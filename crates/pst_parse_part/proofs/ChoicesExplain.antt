-- What choices, and parts that several rules have, explain.
use Rattle.pst_ast.specs.ExpressionLimits.{counts_maybe_index}
use Rattle.pst_ast.specs.ExpressionProper.{IsProperMaybeIndex}
use Rattle.pst_ast.specs.ExpressionSpelling.{spell_maybe_index}
use Rattle.pst_ast.specs.Limits.{Count, counted, counts_option}
use Rattle.pst_ast.specs.Marks.{mark, spell_option, OptionIs}
use Rattle.pst_ast.specs.SharedLimits.{counts_dot_name}
use Rattle.pst_ast.specs.SharedSpelling.{spell_dot_name}
use Rattle.pst_base.specs.declared.position.Place.{Place}
use Rattle.pst_parse_part.specs.Choices.{if_next}
use Rattle.pst_parse_expr.proofs.SharedLaws.{IsAny}
use Rattle.pst_parse_operator.proofs.Parts.{maybe_index_explains, expr_explains}
use Rattle.pst_parse_expr.specs.Constraints.{dot_name_by}
use Rattle.pst_parse_operator.specs.Reading.{expr_at, maybe_index_by}
use Rattle.pst_reading.proofs.Chains.{explains_mark, explains_name, explains_part}
use Rattle.pst_reading.proofs.Explaining.{Meaning, Means, Explains, Behind, explains_done, wider}
use Rattle.pst_reading.proofs.Marks.{explains_choice, mark_explains, IsMark}
use Rattle.pst_reading.specs.Kinds.{is_mark, next_is}
use Rattle.pst_reading.specs.Options.{option_by}
use Rattle.pst_reading.specs.Parser.{Parser, Done, followed_by, mark_by, if_mark, next}
use Rattle.pst_token.specs.declared.kind.Kind.TheVariants as kind
use Rattle.pst_token.specs.declared.kind.Kind.{Kind}
use Rattle.pst_token.specs.declared.token.Token.{Token}
use Rattle.std.proofs.Common.{refl, sym, subst, append-nil, ℕ, suc, Bool, List, [], ◌∷◌, ◌++◌, Option, Some, None}

pub explains_if_mark : {A : Type 0} (M : Meaning A) (k : Kind) (p q : Parser A) → Explains M p → Explains M q → Explains M (if_mark k p q)
explains_if_mark M k p q P Q ts = explains_choice M (next_is (is_mark k) (next ts)) p q ts (λ e. P ts) (λ e. Q ts)

-- a part that may be left out
pub explains_option : {A : Type 0} (spell : A → List Token) (IsProper : A → Type 0) (counts : A → List Count) (begins : Option Token → Bool) (part : Parser A) → Explains (Means spell IsProper counts) part → Explains (Means (spell_option spell) (OptionIs IsProper) (counts_option counts)) (option_by begins part)
explains_option spell IsProper counts begins part E ts =
    let M = Means (spell_option spell) (OptionIs IsProper) (counts_option counts) in
    explains_choice M (begins (next ts)) (followed_by part (λ x. Done (Some x))) (Done None) ts
    (λ present. explains_part M spell IsProper counts part (λ x. Done (Some x)) E (λ x p. explains_done (Behind M (spell x) (counts x)) (Some x) (record { is = append-nil (spell x); proper = p; counted = append-nil (counts x) })) ts)
    (λ absent. explains_done M None (record { is = refl; proper = tt; counted = refl }) ts)

-- a mark as a part of its own
pub mark_is_explained : (k : Kind) (c : Count) → Explains (Means (λ p. mark k p ∷ []) IsAny (λ p. c ∷ [])) (mark_by k c)
mark_is_explained k c ts = wider (IsMark k c) (Means (λ p. mark k p ∷ []) IsAny (λ p. c ∷ [])) (mark_by k c) ts (λ p text counts h. record { is = h.is; proper = tt; counted = h.counted }) (mark_explains k c ts)

pub explains_if_next : {A : Type 0} (M : Meaning A) (begins : Option Token → Bool) (p q : Parser A) → Explains M p → Explains M q → Explains M (if_next begins p q)
explains_if_next M begins p q P Q ts = explains_choice M (begins (next ts)) p q ts (λ e. P ts) (λ e. Q ts)

-- a part that is the whole tree
pub explains_made : {A B : Type 0} (M : Meaning B) (spell : A → List Token) (IsProper : A → Type 0) (counts : A → List Count) (p : Parser A) (make : A → B) → Explains (Means spell IsProper counts) p → ((a : A) → IsProper a → M (make a) (spell a) (counts a)) → Explains M (followed_by p (λ a. Done (make a)))
explains_made M spell IsProper counts p make E h = explains_part M spell IsProper counts p (λ a. Done (make a)) E (λ a q. explains_done (Behind M (spell a) (counts a)) (make a) (subst (λ (u : List Token). M (make a) u (counts a ++ [])) (sym (append-nil (spell a))) (subst (λ (u : List Count). M (make a) (spell a) u) (sym (append-nil (counts a))) (h a q))))

-- a mark that is the whole tree
pub explains_empty : {B : Type 0} (M : Meaning B) (k : Kind) (c : Count) (make : Place → B) → ((p : Place) → M (make p) (mark k p ∷ []) (c ∷ [])) → Explains M (followed_by (mark_by k c) (λ p. Done (make p)))
explains_empty M k c make h = explains_mark M k c (λ p. Done (make p)) (λ p. explains_done (Behind M (mark k p ∷ []) (c ∷ [])) (make p) (h p))

-- an index, or none
pub index_explains : (size depth : ℕ) → Explains (Means spell_maybe_index IsProperMaybeIndex (counts_maybe_index depth 0)) (maybe_index_by (expr_at (suc size)) depth 0)
index_explains size depth = maybe_index_explains (expr_at (suc size)) size (expr_explains (suc size)) depth 0

-- a name behind a dot
pub dot_name_explains : (depth : ℕ) → Explains (Means spell_dot_name IsAny (counts_dot_name depth)) (dot_name_by depth)
dot_name_explains depth =
    explains_mark _ kind.Dot (counted depth 0) _ (λ dot.
    explains_name _ (counted depth 0) _ (λ name.
    explains_done _ (record { dot = dot; name = name }) (record { is = refl; proper = tt; counted = refl })))

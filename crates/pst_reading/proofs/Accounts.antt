-- What rules explain, as facts that are put together part by part.
use Rattle.std.proofs.Common.{◌≡◌, ℕ, Bool, true, false, if◌then◌else◌, List, [], ◌∷◌, ◌++◌, Some, Option, None, refl, sym, ap, ◌∙◌, append-nil}
use Rattle.std.specs.List.{flat_map, AllByRecursion}
use Rattle.pst_base.specs.declared.position.Place.{Place}
use Rattle.pst_token.specs.declared.kind.Kind.{Kind}
use Rattle.pst_token.specs.declared.token.Token.{Token}
use Rattle.pst_ast.specs.declared.leaf.Name.{Name}
use Rattle.pst_ast.specs.Limits.{Count, counts_option}
use Rattle.pst_ast.specs.Marks.{mark, name_token, spell_option, OptionIs}
use Rattle.pst_reading.specs.Kinds.{is_mark, next_is}
use Rattle.pst_reading.specs.Parser.{Parser, Done, Look, followed_by, mark_by, name_by, if_mark, next}
use Rattle.pst_reading.specs.Lists.{list_by}
use Rattle.pst_reading.specs.Options.{option_by, row_by}
use Rattle.pst_reading.proofs.Explaining.{Meaning, Means, Explains, Behind, explains_done, wider}
use Rattle.pst_reading.proofs.Marks.{IsMark, mark_explains, explains_choice}
use Rattle.pst_reading.proofs.Chains.{explains_mark, explains_name, explains_part}
use Rattle.pst_reading.proofs.Lists.{list_explains}

-- the same as one fact
pub record Accounts {A : Type 0} (M : Meaning A) (p : Parser A) : Type 0 where
  pub all : Explains M p

pub account_done : {A : Type 0} (M : Meaning A) (a : A) → M a [] [] → Accounts M (Done a)
account_done M a h = record { all = explains_done M a h }

pub account_mark : {A : Type 0} (M : Meaning A) (k : Kind) (c : Count) (f : Place → Parser A) → ((place : Place) → Accounts (Behind M (mark k place ∷ []) (c ∷ [])) (f place)) → Accounts M (followed_by (mark_by k c) f)
account_mark M k c f F = record { all = explains_mark M k c f (λ place. (F place).all) }

pub account_name : {A : Type 0} (M : Meaning A) (c : Count) (f : Name → Parser A) → ((name : Name) → Accounts (Behind M (name_token name ∷ []) (c ∷ [])) (f name)) → Accounts M (followed_by (name_by c) f)
account_name M c f F = record { all = explains_name M c f (λ name. (F name).all) }

pub account_part : {A B : Type 0} (M : Meaning B) (spell : A → List Token) (IsProper : A → Type 0) (counts_of : A → List Count) (p : Parser A) (f : A → Parser B) → Accounts (Means spell IsProper counts_of) p → ((a : A) → IsProper a → Accounts (Behind M (spell a) (counts_of a)) (f a)) → Accounts M (followed_by p f)
account_part M spell IsProper counts_of p f E F = record { all = explains_part M spell IsProper counts_of p f E.all (λ a h. (F a h).all) }

pub account_if_mark : {A : Type 0} (M : Meaning A) (k : Kind) (p q : Parser A) → Accounts M p → Accounts M q → Accounts M (if_mark k p q)
account_if_mark M k p q P Q = record { all = λ ts. explains_choice M (next_is (is_mark k) (next ts)) p q ts (λ e. P.all ts) (λ e. Q.all ts) }

-- the next token decides
pub account_look : {A : Type 0} (M : Meaning A) (choose : Option Token → Parser A) → ((next : Option Token) → Accounts M (choose next)) → Accounts M (Look choose)
account_look M choose C = record { all = λ ts. (C (next ts)).all ts }

pub account_test : {A : Type 0} (M : Meaning A) (b : Bool) (p q : Parser A) → Accounts M p → Accounts M q → Accounts M (if b then p else q)
account_test M true p q P Q = P
account_test M false p q P Q = Q

-- a mark by its place
pub account_word : (k : Kind) (c : Count) → Accounts (Means (λ (place : Place). mark k place ∷ []) (λ (place : Place). Unit {0}) (λ (place : Place). c ∷ [])) (mark_by k c)
account_word k c = record { all = λ ts. wider (IsMark k c) (Means (λ (place : Place). mark k place ∷ []) (λ (place : Place). Unit {0}) (λ (place : Place). c ∷ [])) (mark_by k c) ts (λ a text counts h. record { is = h.is; proper = tt; counted = h.counted }) (mark_explains k c ts) }

module _ {A : Type 0} (spell : A → List Token) (IsProper : A → Type 0) (counts : A → List Count) where
  pub account_option : (begins : Option Token → Bool) (part : Parser A) → Accounts (Means spell IsProper counts) part → Accounts (Means (spell_option spell) (OptionIs IsProper) (counts_option counts)) (option_by begins part)
  account_option begins part E =
      let M = Means (spell_option spell) (OptionIs IsProper) (counts_option counts) in
      record {
        all = λ ts. explains_choice M (begins (next ts)) (followed_by part (λ x. Done (Some x))) (Done None) ts
            (λ present. explains_part M spell IsProper counts part (λ x. Done (Some x)) E.all (λ x p. explains_done (Behind M (spell x) (counts x)) (Some x) (record { is = append-nil (spell x); proper = p; counted = append-nil (counts x) })) ts)
            (λ absent. explains_done M None (record { is = refl; proper = tt; counted = refl }) ts);
      }

  pub account_list : (begins : Option Token → Bool) (part : Parser A) → Accounts (Means spell IsProper counts) part → (turns : ℕ) → Accounts (Means (flat_map spell) (AllByRecursion IsProper) (flat_map counts)) (list_by begins part turns)
  account_list begins part E turns = record { all = list_explains spell IsProper counts begins part E.all turns }

  pub account_row : {W : Type 0} (row : List A → W) (spell_row : W → List Token) (IsProperRow : W → Type 0) (counts_row : W → List Count) → ((xs : List A) → spell_row (row xs) ≡ flat_map spell xs) → ((xs : List A) → AllByRecursion IsProper xs → IsProperRow (row xs)) → ((xs : List A) → counts_row (row xs) ≡ flat_map counts xs) → (list : Parser (List A)) → Accounts (Means (flat_map spell) (AllByRecursion IsProper) (flat_map counts)) list → Accounts (Means spell_row IsProperRow counts_row) (row_by row list)
  account_row row spell_row IsProperRow counts_row spelled proper counted list E =
      let M = Means spell_row IsProperRow counts_row in
      record {
        all = explains_part M (flat_map spell) (AllByRecursion IsProper) (flat_map counts) list (λ xs. Done (row xs)) E.all
            (λ xs p. explains_done (Behind M (flat_map spell xs) (flat_map counts xs)) (row xs) (record { is = append-nil (flat_map spell xs) ∙ sym (spelled xs); proper = proper xs p; counted = append-nil (flat_map counts xs) ∙ sym (counted xs) }));
      }

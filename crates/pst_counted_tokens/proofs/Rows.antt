-- Lists of one length.
use Rattle.std.proofs.Common.{◌≡◌, ℕ, List, [], ◌∷◌, ◌++◌, length, Option, None, Some, ap, refl, arith}
use Rattle.std.specs.List.{flat_map}
use Rattle.std.proofs.lemmas.List.{length-append}
use Rattle.pst_token.specs.declared.token.Token.{Token}
use Rattle.pst_ast.specs.Limits.{Count, counts_option}
use Rattle.pst_ast.specs.Marks.{spell_option}

pub behind : (a c : List Count) (b d : List Token) → length a ≡ length b → length c ≡ length d → length (a ++ c) ≡ length (b ++ d)
behind a c b d first second = omega (arith, first, second, length-append a c, length-append b d)

pub each_of_list : {A : Type 0} (counts : A → List Count) (spelled : A → List Token) → ((x : A) → length (counts x) ≡ length (spelled x)) → (xs : List A) → length (flat_map counts xs) ≡ length (flat_map spelled xs)
each_of_list counts spelled each [] = refl
each_of_list counts spelled each (x ∷ xs) = behind _ _ _ _ (each x) (each_of_list counts spelled each xs)

pub each_of_option : {A : Type 0} (counts : A → List Count) (spelled : A → List Token) → ((x : A) → length (counts x) ≡ length (spelled x)) → (x : Option A) → length (counts_option counts x) ≡ length (spell_option spelled x)
each_of_option counts spelled each None = refl
each_of_option counts spelled each (Some x) = each x

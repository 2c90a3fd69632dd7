-- What a parser reads again in front of any rest that may follow.
use Rattle.std.proofs.Common.{◌≡◌, ℕ, ◌<◌, ◌≤◌, Bool, true, false, if◌then◌else◌, List, [], ◌∷◌, ◌++◌, length, Some, Option, None, refl, sym, ap, subst, ◌∙◌, append_assoc}
use Rattle.std.specs.List.{flat_map, AllByRecursion}
use Rattle.pst_base.specs.declared.position.Place.{Place}
use Rattle.pst_token.specs.declared.kind.Kind.{Kind}
use Rattle.pst_token.specs.declared.token.Token.{Token}
use Rattle.pst_ast.specs.declared.leaf.Name.{Name}
use Rattle.pst_ast.specs.Limits.{Count, counts_option}
use Rattle.pst_ast.specs.Marks.{mark, name_token, spell_option, OptionIs}
use Rattle.pst_reading.specs.Kinds.{is_mark, next_is}
use Rattle.pst_reading.specs.Parser.{Parser, Done, followed_by, mark_by, name_by, if_mark, next}
use Rattle.pst_reading.specs.Lists.{list_by}
use Rattle.pst_reading.specs.Options.{option_by, row_by}
use Rattle.pst_reading.proofs.Becoming.{Becomes, stays, becomes_both, becomes_followed}
use Rattle.pst_reading.proofs.Marks.{choice_becomes, look_becomes, test_becomes}
use Rattle.pst_reading.proofs.Chains.{becomes_mark, becomes_name}
use Rattle.pst_reading.proofs.Lists.{StartsPart, list_again}

-- in front of each rest that may follow, the parser takes the text, which counts so, and gives the value
pub record Rereads {A : Type 0} (May : Option Token → Type 0) (p : Parser A) (text : List Token) (counts : List Count) (a : A) : Type 0 where
  pub again : (rest : List Token) → May (next rest) → Becomes p (text ++ rest) counts (Done a) rest

-- whatever follows
abbrev pub Anything : Option Token → Type 0
Anything next = Unit {0}

pub reread_done : {A : Type 0} (May : Option Token → Type 0) (a : A) → Rereads May (Done a) [] [] a
reread_done May a = record { again = λ rest m. stays (Done a) rest }

-- fewer rests
pub narrower : {A : Type 0} (May Few : Option Token → Type 0) (p : Parser A) (text : List Token) (counts : List Count) (a : A) → ((n : Option Token) → Few n → May n) → Rereads May p text counts a → Rereads Few p text counts a
narrower May Few p text counts a to h = record { again = λ rest m. h.again rest (to (next rest) m) }

-- a token, and then the rest of the rule
pub reread_mark : {A : Type 0} (May : Option Token → Type 0) (k : Kind) (c : Count) (f : Place → Parser A) (place : Place) (text : List Token) (counts : List Count) (a : A) → Rereads May (f place) text counts a → Rereads May (followed_by (mark_by k c) f) (mark k place ∷ text) (c ∷ counts) a
reread_mark May k c f place text counts a h = record { again = λ rest m. becomes_mark k c f place (Done a) (text ++ rest) rest counts (h.again rest m) }

pub reread_name : {A : Type 0} (May : Option Token → Type 0) (c : Count) (f : Name → Parser A) (name : Name) (text : List Token) (counts : List Count) (a : A) → Rereads May (f name) text counts a → Rereads May (followed_by (name_by c) f) (name_token name ∷ text) (c ∷ counts) a
reread_name May c f name text counts a h = record { again = λ rest m. becomes_name c f name (Done a) (text ++ rest) rest counts (h.again rest m) }

-- a part, and then the rest of the rule, which begins so that the part ends
pub reread_part : {A B : Type 0} (May Ends : Option Token → Type 0) (p : Parser B) (f : B → Parser A) (front : List Token) (front_counts : List Count) (x : B) (text : List Token) (counts : List Count) (a : A) → Rereads Ends p front front_counts x → ((rest : List Token) → May (next rest) → Ends (next (text ++ rest))) → Rereads May (f x) text counts a → Rereads May (followed_by p f) (front ++ text) (front_counts ++ counts) a
reread_part May Ends p f front front_counts x text counts a h to g = record { again = λ rest m. subst (λ (u : List Token). Becomes (followed_by p f) u (front_counts ++ counts) (Done a) rest) (sym (append_assoc front text rest)) (becomes_both p f x (Done a) (front ++ (text ++ rest)) (text ++ rest) rest front_counts counts (h.again (text ++ rest) (to rest m)) (g.again rest m)) }

-- a part that is the last
pub reread_last : {A B : Type 0} (May : Option Token → Type 0) (p : Parser B) (f : B → Parser A) (text : List Token) (counts : List Count) (x : B) (a : A) → Rereads May p text counts x → f x ≡ Done a → Rereads May (followed_by p f) text counts a
reread_last May p f text counts x a h e = record { again = λ rest m. subst (λ (q : Parser _). Becomes (followed_by p f) (text ++ rest) counts q rest) e (becomes_followed p (Done x) f (text ++ rest) rest counts (h.again rest m)) }

-- a choice that the text's first token, or what follows, makes
pub reread_choice : {A : Type 0} (May : Option Token → Type 0) (k : Kind) (p q : Parser A) (text : List Token) (counts : List Count) (a : A) (b : Bool) → ((rest : List Token) → May (next rest) → next_is (is_mark k) (next (text ++ rest)) ≡ b) → Rereads May (if b then p else q) text counts a → Rereads May (if_mark k p q) text counts a
reread_choice May k p q text counts a b e h = record { again = λ rest m. choice_becomes k p q (Done a) (text ++ rest) rest counts b (e rest m) (h.again rest m) }

-- ---- a part that may be left out

-- what may follow it: what ends it, and does not begin it
abbrev pub EndsOption : (Option Token → Bool) → (Option Token → Type 0) → Option Token → Type 0
EndsOption begins Ends next = (begins next ≡ false) × Ends next

pub reread_option : {A : Type 0} (spell : A → List Token) (IsProper : A → Type 0) (counts : A → List Count) (begins : Option Token → Bool) (Ends : Option Token → Type 0) (part : Parser A) (bound : ℕ) → ((x : A) → IsProper x → length (spell x) ≤ bound → Rereads Ends part (spell x) (counts x) x) → ((x : A) (rest : List Token) → begins (next (spell x ++ rest)) ≡ true) → (o : Option A) → OptionIs IsProper o → length (spell_option spell o) ≤ bound → Rereads (EndsOption begins Ends) (option_by begins part) (spell_option spell o) (counts_option counts o) o
reread_option spell IsProper counts begins Ends part bound R B None proper short = record { again = λ rest m. look_becomes (λ n. if begins n then followed_by part (λ x. Done (Some x)) else Done None) rest rest [] (Done None) (test_becomes (begins (next rest)) false (followed_by part (λ x. Done (Some x))) (Done None) (Done None) rest rest [] m.0 (stays (Done None) rest)) }
reread_option spell IsProper counts begins Ends part bound R B (Some x) proper short = record { again = λ rest m. look_becomes (λ n. if begins n then followed_by part (λ y. Done (Some y)) else Done None) (spell x ++ rest) rest (counts x) (Done (Some x)) (test_becomes (begins (next (spell x ++ rest))) true (followed_by part (λ y. Done (Some y))) (Done None) (Done (Some x)) (spell x ++ rest) rest (counts x) (B x rest) (becomes_followed part (Done x) (λ y. Done (Some y)) (spell x ++ rest) rest (counts x) ((R x proper short).again rest m.1))) }

-- ---- parts in a row

-- what may follow them: what ends each of them, and does not begin one
pub reread_list : {A : Type 0} (spell : A → List Token) (IsProper : A → Type 0) (counts : A → List Count) (begins : Option Token → Bool) (Ends : Option Token → Type 0) (part : Parser A) (bound turns : ℕ) → ((x : A) → IsProper x → length (spell x) ≤ bound → Rereads Ends part (spell x) (counts x) x) → ((x : A) (rest : List Token) → IsProper x → StartsPart begins Ends (spell x ++ rest)) → ((x : A) → 1 ≤ length (spell x)) → (xs : List A) → AllByRecursion IsProper xs → length (flat_map spell xs) < turns → length (flat_map spell xs) ≤ bound → Rereads (EndsOption begins Ends) (list_by begins part turns) (flat_map spell xs) (flat_map counts xs) xs
reread_list spell IsProper counts begins Ends part bound turns R B some xs proper few short = record { again = λ rest m. list_again spell IsProper counts begins part bound Ends (λ x more p n g. (R x p n).again more g) B some xs turns rest proper few short m.0 m.1 }

-- the same as a row of the tree
pub reread_row : {A W : Type 0} (row : List A → W) (spell : A → List Token) (IsProper : A → Type 0) (counts : A → List Count) (spell_row : W → List Token) (counts_row : W → List Count) (begins : Option Token → Bool) (Ends : Option Token → Type 0) (part : Parser A) (bound turns : ℕ) → ((x : A) → IsProper x → length (spell x) ≤ bound → Rereads Ends part (spell x) (counts x) x) → ((x : A) (rest : List Token) → IsProper x → StartsPart begins Ends (spell x ++ rest)) → ((x : A) → 1 ≤ length (spell x)) → ((xs : List A) → spell_row (row xs) ≡ flat_map spell xs) → ((xs : List A) → counts_row (row xs) ≡ flat_map counts xs) → (w : W) (xs : List A) → row xs ≡ w → AllByRecursion IsProper xs → length (spell_row w) < turns → length (spell_row w) ≤ bound → Rereads (EndsOption begins Ends) (row_by row (list_by begins part turns)) (spell_row w) (counts_row w) w
reread_row {W = W} row spell IsProper counts spell_row counts_row begins Ends part bound turns R B some spelled counted w xs is proper few short =
    subst (λ (v : W). Rereads (EndsOption begins Ends) (row_by row (list_by begins part turns)) (spell_row v) (counts_row v) v) is
    (subst (λ (u : List Token). Rereads (EndsOption begins Ends) (row_by row (list_by begins part turns)) u (counts_row (row xs)) (row xs)) (sym (spelled xs))
    (subst (λ (u : List Count). Rereads (EndsOption begins Ends) (row_by row (list_by begins part turns)) (flat_map spell xs) u (row xs)) (sym (counted xs))
    (reread_last (EndsOption begins Ends) (list_by begins part turns) (λ ys. Done (row ys)) (flat_map spell xs) (flat_map counts xs) xs (row xs)
    (reread_list spell IsProper counts begins Ends part bound turns R B some xs proper (subst (λ (u : List Token). length u < turns) same few) (subst (λ (u : List Token). length u ≤ bound) same short)) refl)))
  where
    same : spell_row w ≡ flat_map spell xs
    same = ap spell_row (sym is) ∙ spelled xs

-- Which word is wrong.
use Rattle.std.proofs.Common.{arith, sym, subst, refl, ap, ◌∙◌, ◌≡◌, ◌<◌, ◌≤◌, ◌+◌, ◌⊎◌, inl, inr, ℕ, zero, suc, List, [], ◌∷◌, ◌++◌, length, take, drop, get_or, IsTrue, Option, Some}
use Rattle.std.specs.Prelude.{bytes_eq}
use Rattle.std.proofs.lemmas.List.{take-append-drop}
use Rattle.std.specs.List.{find}
use Rattle.pst_words.specs.declared.command.Command.{Command}
use Rattle.pst_words.specs.declared.command.Command.TheVariants.{Run, Solve, Check, Gen, Static, Place, Sweep}
use Rattle.pst_words.specs.declared.command.Lines.{Lines}
use Rattle.pst_words.specs.Table.{command_text, is_served}
use Rattle.pst_words.specs.Lines.{AreArguments, IsWhole, IsLine, BeginsLine, IsNoLine, IsWrongWord}
use Rattle.pst_words.specs.Read.{IsWrongBehind}
use Rattle.pst_words.proofs.Dropped.{some_one}
use Rattle.pst_words.proofs.Fronts.{front_less}
use Rattle.pst_words.proofs.Extended.{goes_on}

-- ---- lists

take_take : {A : Type 0} (k r : ℕ) (xs : List A) → k ≤ r → take k (take r xs) ≡ take k xs
take_take zero r xs h = refl
take_take (suc k) zero xs h = absurd (omega (arith, h))
take_take (suc k) (suc r) [] h = refl
take_take (suc k) (suc r) (x ∷ xs) h = ap (λ t. x ∷ t) (take_take k r xs (omega (arith, h)))

take_next : {A : Type 0} (k : ℕ) (x : A) (xs : List A) → take (k + 1) (x ∷ xs) ≡ x ∷ take k xs
take_next k x xs = let e : k + 1 ≡ suc k = omega arith in ap (λ n. take n (x ∷ xs)) e

cons_parts : {A : Type 0} (x y : A) (xs ys : List A) → x ∷ xs ≡ y ∷ ys → (x ≡ y) × (xs ≡ ys)
cons_parts x y xs ys e = (ap (λ l. get_or l 0 x) e, ap (drop 1) e)

no_cons : {A : Type 0} (x : A) (xs : List A) → [] ≡ x ∷ xs → ⊥
no_cons x xs e = let lengths : 0 ≡ suc (length xs) = ap length e in omega (arith, lengths)

-- ---- commands

abbrev all_commands : List Command
all_commands = Run ∷ Solve ∷ Check ∷ Gen ∷ Static ∷ Place ∷ Sweep ∷ []

abbrev command_named : List ℕ → Option Command
command_named text = find (λ c. bytes_eq (command_text c) text) all_commands

named : (command : Command) → command_named (command_text command) ≡ Some command
named Run = refl
named Solve = refl
named Check = refl
named Gen = refl
named Static = refl
named Place = refl
named Sweep = refl

one_command : (c d : Command) → command_text c ≡ command_text d → c ≡ d
one_command c d e = some_one c d (sym (named c) ∙ ap command_named e ∙ named d)

-- ---- lines

front_of : (command : Command) (have : ℕ) (words : List (List ℕ)) (k few : ℕ) → k ≤ few → AreArguments command have (take few words) → AreArguments command have (take k words)
front_of command have words k few h a =
    subst (AreArguments command have) (take_take k few words h)
    (front_less command have (take k (take few words)) (drop k (take few words)) (subst (AreArguments command have) (sym (take-append-drop k (take few words))) a))

-- a line with this command
parts_of_line : (lines : Lines) (have : ℕ) (command other : Command) (words arguments : List (List ℕ)) → IsLine lines have (command_text command ∷ words) other arguments → IsWhole command have words
parts_of_line lines have command other words arguments l =
    let parts = cons_parts (command_text command) (command_text other) words arguments l.are in
    subst (λ (c : Command). IsWhole c have words) (sym (one_command command other parts.0)) (subst (IsWhole other have) (sym parts.1) l.whole)

pub wrong_behind : (lines : Lines) (have : ℕ) (command : Command) (words : List (List ℕ)) (wrong : ℕ) → 0 < have → IsTrue (is_served lines command) → IsWrongBehind command have words wrong
    → IsWrongWord lines have (command_text command ∷ words) wrong
wrong_behind lines have command words wrong some served w = record {
  earlier = λ k h.
      subst (BeginsLine lines have) (sym (take_next k (command_text command) words))
      (goes_on lines have command (take k words) some served (front_of command have words k w.few (omega (arith, h, w.is)) w.right));
  here = by_case w.here;
}
  where
    is_no_front : (AreArguments command have (take (w.few + 1) words) → ⊥) → BeginsLine lines have (take (wrong + 1) (command_text command ∷ words)) → ⊥
    is_no_front no_more b =
        let front : take (wrong + 1) (command_text command ∷ words) ≡ command_text command ∷ take (w.few + 1) words =
        take_next wrong (command_text command) words ∙ ap (λ n. command_text command ∷ take n words) w.is in
        let line : IsLine lines have (command_text command ∷ take (w.few + 1) words ++ b.more) b.command b.arguments =
        subst (λ (ws : List (List ℕ)). IsLine lines have (ws ++ b.more) b.command b.arguments) front b.line in
        no_more (front_less command have (take (w.few + 1) words) b.more (parts_of_line lines have command b.command (take (w.few + 1) words ++ b.more) b.arguments line).right)

    by_case : ((w.few < length words) × (AreArguments command have (take (w.few + 1) words) → ⊥)) ⊎ ((w.few ≡ length words) × (IsWhole command have words → ⊥))
        → ((wrong < length (command_text command ∷ words)) × (BeginsLine lines have (take (wrong + 1) (command_text command ∷ words)) → ⊥))
        ⊎ ((wrong ≡ length (command_text command ∷ words)) × IsNoLine lines have (command_text command ∷ words))
    by_case (inl (inside, no_more)) = inl (omega (arith, inside, w.is), is_no_front no_more)
    by_case (inr (end, not_whole)) = inr (omega (arith, end, w.is), λ other arguments l. not_whole (parts_of_line lines have command other words arguments l))

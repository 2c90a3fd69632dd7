use Rattle.std.proofs.Common.{arith, sym, subst, ap, ◌∙◌, ◌≡◌, ◌<◌, ℕ, List, ◌∷◌, map, string_bytes, IsTrue, Result, Ok, Err, MatchResult}
use Rattle.pst_words.specs.declared.command.Command.{Command}
use Rattle.pst_words.specs.declared.command.Lines.{Lines}
use Rattle.pst_words.specs.declared.line.Line.{Line}
use Rattle.pst_words.specs.Table.{command_text, is_served}
use Rattle.pst_words.specs.Lines.{IsWhole, IsLine, IsWrongWord}
use Rattle.pst_words.specs.Read.{IsWrongBehind}
use Rattle.pst_words.proofs.Wrong.{wrong_behind}
use Rattle.pst_words.proofs.reading.read_words.Goals as goal

by_arguments : {A : Type 0} (f : A → List ℕ) (arguments_of : Line → List A) (lines : Lines) (have : ℕ) (command : Command) (words rest : List A) (first : A) → words ≡ first ∷ rest → f first ≡ command_text command
    → 0 < have → IsTrue (is_served lines command) → (r : Result Line ℕ)
    → MatchResult r (λ line. (line.command ≡ command) × (arguments_of line ≡ rest) × IsWhole command have (map f rest)) (λ wrong. IsWrongBehind command have (map f rest) wrong)
    → MatchResult r (λ line. IsLine lines have (map f words) line.command (map f (arguments_of line))) (λ wrong. IsWrongWord lines have (map f words) wrong)
by_arguments {A} f arguments_of lines have command words rest first words_are first_is some served (Ok line) h =
    let seen : map f words ≡ command_text command ∷ map f rest = ap (map f) words_are ∙ ap (λ (t : List ℕ). t ∷ map f rest) first_is in
    let is : IsLine lines have (map f words) command (map f rest) = record { lanes = some; served = served; are = seen; whole = h.2 } in
    subst (λ (c : Command). IsLine lines have (map f words) c (map f (arguments_of line))) (sym h.0) (subst (λ (t : List A). IsLine lines have (map f words) command (map f t)) (sym h.1) is)
by_arguments {A} f arguments_of lines have command words rest first words_are first_is some served (Err wrong) h =
    let seen : map f words ≡ command_text command ∷ map f rest = ap (map f) words_are ∙ ap (λ (t : List ℕ). t ∷ map f rest) first_is in
    subst (λ (ws : List (List ℕ)). IsWrongWord lines have ws wrong) (sym seen) (wrong_behind lines have command (map f rest) wrong some served h)

pub returns : goal.returns
returns c =
    by_arguments string_bytes (λ line. line.arguments.now) c.args.lines c.args.have c.in-Some-named.command c.args.words.now c.in-Some.arguments.now c.in-Some.first.now c.in-Some.ensures.cases.0
    (sym c.as_str.ensures.value ∙ c.in-Some-named.ensures) (omega (arith, c.if-have-eq0.false)) (sym c.if-not-serves.ensures) c.read_arguments.result c.read_arguments.ensures

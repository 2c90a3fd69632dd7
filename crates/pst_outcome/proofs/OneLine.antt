-- Words are one line, or have one wrong word.
use Rattle.std.proofs.Common.{◌≡◌, ◌∙◌, ℕ, ◌+◌, ◌*◌, ◌<◌, ◌⊎◌, inl, inr, List, [], ◌∷◌, ◌++◌, length, get_or, take, drop, refl, ap, sym, subst, arith, true}
use Rattle.std.specs.Prelude.{Some, codes}
use Rattle.std.specs.List.{list_all, take_while}
use Rattle.std.proofs.lemmas.Bool.{and_parts, and_from}
use Rattle.std.proofs.lemmas.List.{append_cancel_left, take-append-drop}
use Rattle.pst_token.specs.Lexemes.{is_name_start, is_word_byte, is_word, IsName}
use Rattle.pst_token.proofs.Runs.{take_while-run}
use Rattle.pst_token.proofs.Bytes.{name_start_word_byte}
use Rattle.pst_words.specs.declared.command.Command.{Command}
use Rattle.pst_words.specs.declared.command.Command.TheVariants.{Run, Solve, Check, Gen, Static, Place, Sweep}
use Rattle.pst_words.specs.declared.command.Lines.{Lines}
use Rattle.pst_words.specs.Table.{command_text}
use Rattle.pst_words.specs.Lines.{IsLine, IsWrongWord, IsNoLine, BeginsLine}
use Rattle.pst_outcome.specs.Tasks.{HasRoot, IsRoot}
use Rattle.pst_outcome.proofs.OneReading.{tri}

-- a number for a text, by its first two letters
abbrev code : List ℕ → ℕ
code text = get_or text 0 0 * 256 + get_or text 1 0

-- commands are told apart by their names
one_command : (c d : Command) → command_text c ≡ command_text d → c ≡ d
one_command Run Run e = refl
one_command Run Solve e = let h : 29301 ≡ 29551 = ap code e in absurd (omega (arith, h))
one_command Run Check e = let h : 29301 ≡ 25448 = ap code e in absurd (omega (arith, h))
one_command Run Gen e = let h : 29301 ≡ 26469 = ap code e in absurd (omega (arith, h))
one_command Run Static e = let h : 29301 ≡ 29556 = ap code e in absurd (omega (arith, h))
one_command Run Place e = let h : 29301 ≡ 28780 = ap code e in absurd (omega (arith, h))
one_command Run Sweep e = let h : 29301 ≡ 29559 = ap code e in absurd (omega (arith, h))
one_command Solve Run e = let h : 29551 ≡ 29301 = ap code e in absurd (omega (arith, h))
one_command Solve Solve e = refl
one_command Solve Check e = let h : 29551 ≡ 25448 = ap code e in absurd (omega (arith, h))
one_command Solve Gen e = let h : 29551 ≡ 26469 = ap code e in absurd (omega (arith, h))
one_command Solve Static e = let h : 29551 ≡ 29556 = ap code e in absurd (omega (arith, h))
one_command Solve Place e = let h : 29551 ≡ 28780 = ap code e in absurd (omega (arith, h))
one_command Solve Sweep e = let h : 29551 ≡ 29559 = ap code e in absurd (omega (arith, h))
one_command Check Run e = let h : 25448 ≡ 29301 = ap code e in absurd (omega (arith, h))
one_command Check Solve e = let h : 25448 ≡ 29551 = ap code e in absurd (omega (arith, h))
one_command Check Check e = refl
one_command Check Gen e = let h : 25448 ≡ 26469 = ap code e in absurd (omega (arith, h))
one_command Check Static e = let h : 25448 ≡ 29556 = ap code e in absurd (omega (arith, h))
one_command Check Place e = let h : 25448 ≡ 28780 = ap code e in absurd (omega (arith, h))
one_command Check Sweep e = let h : 25448 ≡ 29559 = ap code e in absurd (omega (arith, h))
one_command Gen Run e = let h : 26469 ≡ 29301 = ap code e in absurd (omega (arith, h))
one_command Gen Solve e = let h : 26469 ≡ 29551 = ap code e in absurd (omega (arith, h))
one_command Gen Check e = let h : 26469 ≡ 25448 = ap code e in absurd (omega (arith, h))
one_command Gen Gen e = refl
one_command Gen Static e = let h : 26469 ≡ 29556 = ap code e in absurd (omega (arith, h))
one_command Gen Place e = let h : 26469 ≡ 28780 = ap code e in absurd (omega (arith, h))
one_command Gen Sweep e = let h : 26469 ≡ 29559 = ap code e in absurd (omega (arith, h))
one_command Static Run e = let h : 29556 ≡ 29301 = ap code e in absurd (omega (arith, h))
one_command Static Solve e = let h : 29556 ≡ 29551 = ap code e in absurd (omega (arith, h))
one_command Static Check e = let h : 29556 ≡ 25448 = ap code e in absurd (omega (arith, h))
one_command Static Gen e = let h : 29556 ≡ 26469 = ap code e in absurd (omega (arith, h))
one_command Static Static e = refl
one_command Static Place e = let h : 29556 ≡ 28780 = ap code e in absurd (omega (arith, h))
one_command Static Sweep e = let h : 29556 ≡ 29559 = ap code e in absurd (omega (arith, h))
one_command Place Run e = let h : 28780 ≡ 29301 = ap code e in absurd (omega (arith, h))
one_command Place Solve e = let h : 28780 ≡ 29551 = ap code e in absurd (omega (arith, h))
one_command Place Check e = let h : 28780 ≡ 25448 = ap code e in absurd (omega (arith, h))
one_command Place Gen e = let h : 28780 ≡ 26469 = ap code e in absurd (omega (arith, h))
one_command Place Static e = let h : 28780 ≡ 29556 = ap code e in absurd (omega (arith, h))
one_command Place Place e = refl
one_command Place Sweep e = let h : 28780 ≡ 29559 = ap code e in absurd (omega (arith, h))
one_command Sweep Run e = let h : 29559 ≡ 29301 = ap code e in absurd (omega (arith, h))
one_command Sweep Solve e = let h : 29559 ≡ 29551 = ap code e in absurd (omega (arith, h))
one_command Sweep Check e = let h : 29559 ≡ 25448 = ap code e in absurd (omega (arith, h))
one_command Sweep Gen e = let h : 29559 ≡ 26469 = ap code e in absurd (omega (arith, h))
one_command Sweep Static e = let h : 29559 ≡ 29556 = ap code e in absurd (omega (arith, h))
one_command Sweep Place e = let h : 29559 ≡ 28780 = ap code e in absurd (omega (arith, h))
one_command Sweep Sweep e = refl

-- a line has one command and one list of words behind it
pub one_line : (lines : Lines) (have : ℕ) (words : List (List ℕ)) (c d : Command) (xs ys : List (List ℕ)) → IsLine lines have words c xs → IsLine lines have words d ys → (c ≡ d) × (xs ≡ ys)
one_line lines have words c d xs ys h k = (one_command c d (first both), rest both)
  where
    both : command_text c ∷ xs ≡ command_text d ∷ ys
    both = sym h.are ∙ k.are

    first : {X : Type 0} {x y : X} {us vs : List X} → x ∷ us ≡ y ∷ vs → x ≡ y
    first e = cc

    rest : {X : Type 0} {x y : X} {us vs : List X} → x ∷ us ≡ y ∷ vs → us ≡ vs
    rest e = cc

-- each front of a line begins it
line_begins : (lines : Lines) (have : ℕ) (words : List (List ℕ)) (c : Command) (xs : List (List ℕ)) (n : ℕ) → IsLine lines have words c xs → BeginsLine lines have (take n words)
line_begins lines have words c xs n h =
    record { more = drop n words; command = c; arguments = xs; line = subst (λ (ws : List (List ℕ)). IsLine lines have ws c xs) (sym (take-append-drop n words)) h }

-- words are no line where one is wrong
pub not_wrong : (lines : Lines) (have : ℕ) (words : List (List ℕ)) (c : Command) (xs : List (List ℕ)) (w : ℕ) → IsLine lines have words c xs → IsWrongWord lines have words w → ⊥
not_wrong lines have words c xs w h wrong = by_place wrong.here
  where
    by_place : ((w < length words) × (BeginsLine lines have (take (w + 1) words) → ⊥)) ⊎ ((w ≡ length words) × IsNoLine lines have words) → ⊥
    by_place (inl (inside, none)) = none (line_begins lines have words c xs (w + 1) h)
    by_place (inr (past, none)) = none c xs h

not_before : (lines : Lines) (have : ℕ) (words : List (List ℕ)) (v w : ℕ) → v < w → IsWrongWord lines have words v → IsWrongWord lines have words w → ⊥
not_before lines have words v w low a b = by_place a.here b.here
  where
    by_place : ((v < length words) × (BeginsLine lines have (take (v + 1) words) → ⊥)) ⊎ ((v ≡ length words) × IsNoLine lines have words)
        → ((w < length words) × (BeginsLine lines have (take (w + 1) words) → ⊥)) ⊎ ((w ≡ length words) × IsNoLine lines have words) → ⊥
    by_place (inl (inside, none)) _ = none (b.earlier v low)
    by_place (inr (past, none)) (inl (inside, _)) = omega (arith, past, inside, low)
    by_place (inr (past, none)) (inr (past_too, _)) = omega (arith, past, past_too, low)

-- at most one word is the first wrong one
pub one_wrong : (lines : Lines) (have : ℕ) (words : List (List ℕ)) (v w : ℕ) → IsWrongWord lines have words v → IsWrongWord lines have words w → v ≡ w
one_wrong lines have words v w a b = by_order (tri v w)
  where
    by_order : (v < w) ⊎ ((v ≡ w) ⊎ (w < v)) → v ≡ w
    by_order (inl low) = absurd (not_before lines have words v w low a b)
    by_order (inr (inl same)) = same
    by_order (inr (inr high)) = absurd (not_before lines have words w v high b a)

bytes_of_name : (name : List ℕ) → is_word name ≡ true → list_all is_word_byte name ≡ true
bytes_of_name [] h = refl
bytes_of_name (b ∷ more) h =
    let both = and_parts (is_name_start b) (list_all is_word_byte more) h in and_from _ _ (name_start_word_byte b both.0) both.1

-- a name ends where `::` begins
name_before : (name rest : List ℕ) → IsName name → take_while is_word_byte (name ++ (codes "::" ++ rest)) ≡ name
name_before name rest h = take_while-run is_word_byte name (codes "::" ++ rest) (bytes_of_name name h.word) refl

-- words name one root
one_root : (arguments : List (List ℕ)) (c d x y : List ℕ) → HasRoot arguments c x → HasRoot arguments d y → (c ≡ d) × (x ≡ y)
one_root arguments c d x y h k =
    let texts : c ++ (codes "::" ++ x) ≡ d ++ (codes "::" ++ y) = inside (sym h.are ∙ k.are) in
    let components : c ≡ d = sym (name_before c x h.component_is_name) ∙ ap (take_while is_word_byte) texts ∙ name_before d y k.component_is_name in
    let behind : d ++ (codes "::" ++ x) ≡ d ++ (codes "::" ++ y) = ap (λ t. t ++ (codes "::" ++ x)) (sym components) ∙ texts in
    (components, append_cancel_left (codes "::") x y (append_cancel_left d (codes "::" ++ x) (codes "::" ++ y) behind))
  where
    inside : {X : Type 0} {u v : X} → Some u ≡ Some v → u ≡ v
    inside e = cc

-- a line has one root
pub one_root_of : (command : Command) (arguments : List (List ℕ)) (c d x y : List ℕ) → IsRoot command arguments c x → IsRoot command arguments d y → (c ≡ d) × (x ≡ y)
one_root_of Gen arguments c d x y h k = (h.0 ∙ sym k.0, h.1 ∙ sym k.1)
one_root_of command arguments c d x y h k = one_root arguments c d x y h k

-- Enums and functions read what they spell again.
use Rattle.pst_ast.specs.DeclarationLimits.{counts_enum_value, counts_enum_item, counts_next_enum_item, counts_enum, counts_answer, counts_parameter, counts_next_parameter, counts_parameters, counts_function}
use Rattle.pst_ast.specs.DeclarationProper.{IsProperEnumValue, IsProperEnumItem, IsProperNextEnumItem, IsProperEnum, IsProperAnswer, IsProperParameter, IsProperNextParameter, IsProperParameters, IsProperFunction}
use Rattle.pst_ast.specs.DeclarationSpelling.{spell_enum_value, spell_enum_item, spell_next_enum_item, spell_enum, spell_answer, spell_parameter, spell_next_parameter, spell_parameters, spell_function}
use Rattle.pst_ast.specs.DeclarationTree.{EnumValueTree, EnumItemTree, NextEnumItemTree, EnumTree, AnswerTree, ParameterTree, NextParameterTree, ParametersTree, FunctionTree, MakeEnumValue, MakeEnumItem, MakeNextEnumItem, MakeEnum, AnswerVoid, AnswerPlain, MakeParameter, MakeNextParameter, MakeParameters, MakeFunction}
use Rattle.pst_ast.specs.Limits.{Count, counted, counts_option}
use Rattle.pst_ast.specs.Marks.{mark, name_token, spell_option, OptionIs}
use Rattle.pst_ast.specs.SharedLimits.{counts_plain}
use Rattle.pst_ast.specs.SharedSpelling.{spell_plain}
use Rattle.pst_base.specs.declared.position.Place.{Place}
use Rattle.pst_parse_part.proofs.Following.{other_mark, other_name, ends_there, next_list_in, next_part_in, any_option, mark_rereads, expr_rereads, reread_made, reread_empty}
use Rattle.pst_parse_part.proofs.PlainAgain.{plain_rereads, plain_begins}
use Rattle.pst_parse_member.specs.Enums.{parameters_by, function_rest_by, function_by, next_enum_item_by, enum_by, enum_item_by, parameter_by, enum_value_by, answer_by, next_parameter_by}
use Rattle.pst_parse_part.specs.Plain.{plain_by}
use Rattle.pst_parse_expr.proofs.SharedLaws.{IsAny}
use Rattle.pst_parse_operator.proofs.Stops.{IsNo, Separates, right_brace_closes, comma_closes}
use Rattle.pst_parse_expr.specs.Constraints.{outermost_at, is_at, is_other}
use Rattle.pst_reading.proofs.Rereading.{Rereads, Anything, reread_done, reread_mark, reread_name, reread_part, reread_last, reread_choice, EndsOption, reread_option, reread_list}
use Rattle.pst_reading.proofs.Tokens.{mark_is_so}
use Rattle.pst_reading.specs.Lists.{list_by}
use Rattle.pst_reading.specs.Options.{option_by}
use Rattle.pst_reading.specs.Parser.{mark_by, next}
use Rattle.pst_token.specs.declared.kind.Kind.TheVariants as kind
use Rattle.pst_token.specs.declared.token.Token.{Token}
use Rattle.std.proofs.Common.{refl, ap, arith, length-append, ℕ, suc, ◌≤◌, ◌≡◌, Bool, true, false, if◌then◌else◌, List, [], ◌∷◌, ◌++◌, Option, Some, None, length}
use Rattle.std.specs.List.{flat_map}

pub enum_value_rereads : (size depth : ℕ) (x : EnumValueTree) → IsProperEnumValue x → length (spell_enum_value x) ≤ size → Rereads (Separates 0) (enum_value_by size depth) (spell_enum_value x) (counts_enum_value depth x) x
enum_value_rereads size depth (MakeEnumValue equal expr) proper short =
    reread_mark _ kind.Equal (counted depth 0) _ equal _ _ _
    (reread_last _ (outermost_at (suc size) depth) _ _ _ expr _ (expr_rereads size depth expr proper (omega (arith, short))) refl)

pub enum_value_begins : (E : Option Token → Type 0) → ((place : Place) → E (Some (mark kind.Equal place))) → (x : EnumValueTree) (us : List Token) → E (next (spell_enum_value x ++ us))
enum_value_begins E h (MakeEnumValue equal expr) us = h equal

pub enum_item_rereads : (size depth : ℕ) (x : EnumItemTree) → IsProperEnumItem x → length (spell_enum_item x) ≤ size → Rereads (EndsOption (is_at kind.Equal) (Separates 0)) (enum_item_by size depth) (spell_enum_item x) (counts_enum_item depth x) x
enum_item_rereads size depth (MakeEnumItem name value) proper short =
    reread_name _ (counted depth 0) _ name _ _ _
    (reread_last _ (option_by (is_at kind.Equal) (enum_value_by size depth)) _ _ _ value _ (reread_option spell_enum_value IsProperEnumValue (counts_enum_value depth) (is_at kind.Equal) (Separates 0) (enum_value_by size depth) size (λ x p n. (enum_value_rereads size depth x p n)) (λ x us. enum_value_begins (λ n. is_at kind.Equal n ≡ true) (mark_is_so kind.Equal) x us) value proper (omega (arith, short))) refl)

pub next_enum_item_begins : (E : Option Token → Type 0) → ((place : Place) → E (Some (mark kind.Comma place))) → (x : NextEnumItemTree) (us : List Token) → E (next (spell_next_enum_item x ++ us))
next_enum_item_begins E h (MakeNextEnumItem comma item) us = h comma

pub next_enum_item_some : (x : NextEnumItemTree) → 1 ≤ length (spell_next_enum_item x)
next_enum_item_some (MakeNextEnumItem comma item) = omega arith

pub next_enum_item_rereads : (size depth : ℕ) (x : NextEnumItemTree) → IsProperNextEnumItem x → length (spell_next_enum_item x) ≤ size → Rereads (EndsOption (is_at kind.Equal) (Separates 0)) (next_enum_item_by size depth) (spell_next_enum_item x) (counts_next_enum_item depth x) x
next_enum_item_rereads size depth (MakeNextEnumItem comma item) proper short =
    reread_mark _ kind.Comma (counted depth 0) _ comma _ _ _
    (reread_last _ (enum_item_by size depth) _ _ _ item _ (enum_item_rereads size depth item proper (omega (arith, short))) refl)

pub enum_rereads : (size depth : ℕ) (x : EnumTree) → IsProperEnum x → length (spell_enum x) ≤ size → Rereads Anything (enum_by size depth) (spell_enum x) (counts_enum depth x) x
enum_rereads size depth (MakeEnum enum_place name left_brace first rest right_brace) proper short =
    let long = length-append (spell_enum_item first) (flat_map spell_next_enum_item rest ++ mark kind.RightBrace right_brace ∷ []) in
    let long2 = length-append (flat_map spell_next_enum_item rest) (mark kind.RightBrace right_brace ∷ []) in
    reread_mark _ kind.Enum (counted depth 0) _ enum_place _ _ _
    (reread_name _ (counted depth 0) _ name _ _ _
    (reread_mark _ kind.LeftBrace (counted depth 0) _ left_brace _ _ _
    (reread_part _ (EndsOption (is_at kind.Equal) (Separates 0)) (enum_item_by size depth) _ (spell_enum_item first) _ first _ _ _ (enum_item_rereads size depth first proper.0 (omega (arith, short, long, long2))) (λ more m. (next_list_in (EndsOption (is_at kind.Equal) (Separates 0)) spell_next_enum_item rest (mark kind.RightBrace right_brace ∷ []) more (λ x us. next_enum_item_begins (EndsOption (is_at kind.Equal) (Separates 0)) (λ p. ((other_mark kind.Equal kind.Comma p refl), (comma_closes p))) x us) ((other_mark kind.Equal kind.RightBrace right_brace refl), (right_brace_closes right_brace))))
    (reread_part _ (EndsOption (is_at kind.Comma) (EndsOption (is_at kind.Equal) (Separates 0))) (list_by (is_at kind.Comma) (next_enum_item_by size depth) size) _ (flat_map spell_next_enum_item rest) _ rest _ _ _ (reread_list spell_next_enum_item IsProperNextEnumItem (counts_next_enum_item depth) (is_at kind.Comma) (EndsOption (is_at kind.Equal) (Separates 0)) (next_enum_item_by size depth) size size (λ x p n. (next_enum_item_rereads size depth x p n)) (λ x us p. record { found = next_enum_item_begins (λ n. is_at kind.Comma n ≡ true) (mark_is_so kind.Comma) x us; good = (next_enum_item_begins (EndsOption (is_at kind.Equal) (Separates 0)) (λ p. ((other_mark kind.Equal kind.Comma p refl), (comma_closes p))) x us) }) next_enum_item_some rest proper.1 (omega (arith, short, long, long2)) (omega (arith, short, long, long2))) (λ more m. ((other_mark kind.Comma kind.RightBrace right_brace refl), ((other_mark kind.Equal kind.RightBrace right_brace refl), (right_brace_closes right_brace))))
    (reread_mark _ kind.RightBrace (counted depth 0) _ right_brace _ _ _
    (reread_done _ _))))))

pub answer_rereads : (size depth : ℕ) (x : AnswerTree) → IsProperAnswer x → length (spell_answer x) ≤ size → Rereads (IsNo kind.LeftBracket) (answer_by size depth) (spell_answer x) (counts_answer depth x) x
answer_rereads size depth (AnswerVoid place) proper short =
    reread_choice _ kind.Void _ _ _ _ _ true (λ rest m. mark_is_so kind.Void place)
    (reread_empty kind.Void (counted depth 0) AnswerVoid place (IsNo kind.LeftBracket))
answer_rereads size depth (AnswerPlain plain) proper short =
    reread_choice _ kind.Void _ _ _ _ _ false (λ rest m. plain_begins (IsNo kind.Void) (λ p. other_mark kind.Void kind.Int p refl) (λ p. other_mark kind.Void kind.Bit p refl) (λ p. other_mark kind.Void kind.Bool p refl) plain rest)
    (reread_made _ (plain_by size depth) AnswerPlain (spell_plain plain) (counts_plain depth plain) plain (plain_rereads size depth plain proper short))

pub parameter_rereads : (size depth : ℕ) (x : ParameterTree) → IsProperParameter x → length (spell_parameter x) ≤ size → Rereads Anything (parameter_by size depth) (spell_parameter x) (counts_parameter depth x) x
parameter_rereads size depth (MakeParameter input plain name) proper short =
    let long = length-append (spell_option (λ p. mark kind.Input p ∷ []) input) (spell_plain plain ++ name_token name ∷ []) in
    let long2 = length-append (spell_plain plain) (name_token name ∷ []) in
    reread_part _ (EndsOption (is_at kind.Input) Anything) (option_by (is_at kind.Input) (mark_by kind.Input (counted depth 0))) _ (spell_option (λ p. mark kind.Input p ∷ []) input) _ input _ _ _ (reread_option (λ p. mark kind.Input p ∷ []) IsAny (λ p. counted depth 0 ∷ []) (is_at kind.Input) Anything (mark_by kind.Input (counted depth 0)) size (λ x p n. mark_rereads kind.Input (counted depth 0) x) (λ x us. mark_is_so kind.Input x) input (any_option input) (omega (arith, short, long, long2))) (λ more m. (next_part_in (EndsOption (is_at kind.Input) Anything) (spell_plain plain) (name_token name ∷ []) more (plain_begins (EndsOption (is_at kind.Input) Anything) (λ p. ((other_mark kind.Input kind.Int p refl), tt)) (λ p. ((other_mark kind.Input kind.Bit p refl), tt)) (λ p. ((other_mark kind.Input kind.Bool p refl), tt)) plain ((name_token name ∷ []) ++ more))))
    (reread_part _ (IsNo kind.LeftBracket) (plain_by size depth) _ (spell_plain plain) _ plain _ _ _ (plain_rereads size depth plain proper (omega (arith, short, long, long2))) (λ more m. (other_name kind.LeftBracket name refl))
    (reread_name _ (counted depth 0) _ name _ _ _
    (reread_done _ _)))

pub next_parameter_begins : (E : Option Token → Type 0) → ((place : Place) → E (Some (mark kind.Comma place))) → (x : NextParameterTree) (us : List Token) → E (next (spell_next_parameter x ++ us))
next_parameter_begins E h (MakeNextParameter comma parameter) us = h comma

pub next_parameter_some : (x : NextParameterTree) → 1 ≤ length (spell_next_parameter x)
next_parameter_some (MakeNextParameter comma parameter) = omega arith

parameter_some : (x : ParameterTree) → 1 ≤ length (spell_parameter x)
parameter_some (MakeParameter input plain name) = omega (arith, length-append (spell_option (λ p. mark kind.Input p ∷ []) input) (spell_plain plain ++ name_token name ∷ []), length-append (spell_plain plain) (name_token name ∷ []))

pub next_parameter_rereads : (size depth : ℕ) (x : NextParameterTree) → IsProperNextParameter x → length (spell_next_parameter x) ≤ size → Rereads Anything (next_parameter_by size depth) (spell_next_parameter x) (counts_next_parameter depth x) x
next_parameter_rereads size depth (MakeNextParameter comma parameter) proper short =
    reread_mark _ kind.Comma (counted depth 0) _ comma _ _ _
    (reread_last _ (parameter_by size depth) _ _ _ parameter _ (parameter_rereads size depth parameter proper (omega (arith, short))) refl)

pub parameters_rereads : (size depth : ℕ) (x : ParametersTree) → IsProperParameters x → length (spell_parameters x) ≤ size → Rereads (EndsOption (is_at kind.Comma) Anything) (parameters_by size depth) (spell_parameters x) (counts_parameters depth x) x
parameters_rereads size depth (MakeParameters first rest) proper short =
    let long = length-append (spell_parameter first) (flat_map spell_next_parameter rest) in
    reread_part _ Anything (parameter_by size depth) _ (spell_parameter first) _ first _ _ _ (parameter_rereads size depth first proper.0 (omega (arith, short, long))) (λ more m. tt)
    (reread_last _ (list_by (is_at kind.Comma) (next_parameter_by size depth) size) _ _ _ rest _ (reread_list spell_next_parameter IsProperNextParameter (counts_next_parameter depth) (is_at kind.Comma) Anything (next_parameter_by size depth) size size (λ x p n. (next_parameter_rereads size depth x p n)) (λ x us p. record { found = next_parameter_begins (λ n. is_at kind.Comma n ≡ true) (mark_is_so kind.Comma) x us; good = tt }) next_parameter_some rest proper.1 (omega (arith, short, long, parameter_some first)) (omega (arith, short, long))) refl)

-- a list of parameters does not begin with the bracket that closes it
parameter_found : (x : ParameterTree) (us : List Token) → is_other kind.RightParenthesis (next (spell_parameter x ++ us)) ≡ true
parameter_found (MakeParameter (Some input) plain name) us = ap (λ (b : Bool). if b then false else true) (other_mark kind.RightParenthesis kind.Input input refl)
parameter_found (MakeParameter None plain name) us = ap (λ (b : Bool). if b then false else true) (next_part_in (IsNo kind.RightParenthesis) (spell_plain plain) (name_token name ∷ []) us (plain_begins (IsNo kind.RightParenthesis) (λ p. other_mark kind.RightParenthesis kind.Int p refl) (λ p. other_mark kind.RightParenthesis kind.Bit p refl) (λ p. other_mark kind.RightParenthesis kind.Bool p refl) plain _))

parameters_found : (x : ParametersTree) (us : List Token) → is_other kind.RightParenthesis (next (spell_parameters x ++ us)) ≡ true
parameters_found (MakeParameters first rest) us = next_part_in (λ n. is_other kind.RightParenthesis n ≡ true) (spell_parameter first) (flat_map spell_next_parameter rest) us (parameter_found first _)

abbrev spell_rest : Place → Option ParametersTree → Place → Place → List Token
spell_rest left_parenthesis parameters right_parenthesis semicolon = mark kind.LeftParenthesis left_parenthesis ∷ (spell_option spell_parameters parameters ++ mark kind.RightParenthesis right_parenthesis ∷ mark kind.Semicolon semicolon ∷ [])

abbrev counts_rest : ℕ → Option ParametersTree → List Count
counts_rest depth parameters = counted depth 0 ∷ (counts_option (counts_parameters depth) parameters ++ counted depth 0 ∷ counted depth 0 ∷ [])

function_rest_rereads : (size depth : ℕ) (left_parenthesis : Place) (parameters : Option ParametersTree) (right_parenthesis semicolon : Place) → OptionIs IsProperParameters parameters
    → length (spell_rest left_parenthesis parameters right_parenthesis semicolon) ≤ size
    → Rereads Anything (function_rest_by size depth) (spell_rest left_parenthesis parameters right_parenthesis semicolon) (counts_rest depth parameters)
    (record { left_parenthesis = left_parenthesis; parameters = parameters; right_parenthesis = right_parenthesis; semicolon = semicolon })
function_rest_rereads size depth left_parenthesis parameters right_parenthesis semicolon proper short =
    let long = length-append (spell_option spell_parameters parameters) (mark kind.RightParenthesis right_parenthesis ∷ mark kind.Semicolon semicolon ∷ []) in
    reread_mark _ kind.LeftParenthesis (counted depth 0) _ left_parenthesis _ _ _
    (reread_part _ (EndsOption (is_other kind.RightParenthesis) (EndsOption (is_at kind.Comma) Anything)) (option_by (is_other kind.RightParenthesis) (parameters_by size depth)) _ (spell_option spell_parameters parameters) _ parameters _ _ _ (reread_option spell_parameters IsProperParameters (counts_parameters depth) (is_other kind.RightParenthesis) (EndsOption (is_at kind.Comma) Anything) (parameters_by size depth) size (λ x p n. (parameters_rereads size depth x p n)) (λ x us. parameters_found x us) parameters proper (omega (arith, short, long))) (λ more m. ((ends_there kind.RightParenthesis right_parenthesis), ((other_mark kind.Comma kind.RightParenthesis right_parenthesis refl), tt)))
    (reread_mark _ kind.RightParenthesis (counted depth 0) _ right_parenthesis _ _ _
    (reread_mark _ kind.Semicolon (counted depth 0) _ semicolon _ _ _
    (reread_done _ _))))

pub function_rereads : (size depth : ℕ) (x : FunctionTree) → IsProperFunction x → length (spell_function x) ≤ size → Rereads Anything (function_by size depth) (spell_function x) (counts_function depth x) x
function_rereads size depth (MakeFunction import_place target function answer name left_parenthesis parameters right_parenthesis semicolon) proper short =
    let rest = spell_rest left_parenthesis parameters right_parenthesis semicolon in
    let long = length-append (spell_option (λ p. mark kind.Target p ∷ []) target) (mark kind.Function function ∷ (spell_answer answer ++ name_token name ∷ rest)) in
    let long2 = length-append (spell_answer answer) (name_token name ∷ rest) in
    reread_mark _ kind.Import (counted depth 0) _ import_place _ _ _
    (reread_part _ (EndsOption (is_at kind.Target) Anything) (option_by (is_at kind.Target) (mark_by kind.Target (counted depth 0))) _ (spell_option (λ p. mark kind.Target p ∷ []) target) _ target _ _ _ (reread_option (λ p. mark kind.Target p ∷ []) IsAny (λ p. counted depth 0 ∷ []) (is_at kind.Target) Anything (mark_by kind.Target (counted depth 0)) size (λ x p n. mark_rereads kind.Target (counted depth 0) x) (λ x us. mark_is_so kind.Target x) target (any_option target) (omega (arith, short, long, long2))) (λ more m. ((other_mark kind.Target kind.Function function refl), tt))
    (reread_mark _ kind.Function (counted depth 0) _ function _ _ _
    (reread_part _ (IsNo kind.LeftBracket) (answer_by size depth) _ (spell_answer answer) _ answer _ _ _ (answer_rereads size depth answer proper.0 (omega (arith, short, long, long2))) (λ more m. (other_name kind.LeftBracket name refl))
    (reread_name _ (counted depth 0) _ name _ _ _
    (reread_last _ (function_rest_by size depth) _ _ _ _ _ (function_rest_rereads size depth left_parenthesis parameters right_parenthesis semicolon proper.1 (omega (arith, short, long, long2))) refl)))))

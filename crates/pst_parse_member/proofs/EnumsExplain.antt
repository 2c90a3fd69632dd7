-- What enums and functions explain.
use Rattle.pst_ast.specs.DeclarationLimits.{counts_enum_value, counts_enum_item, counts_next_enum_item, counts_enum, counts_answer, counts_parameter, counts_next_parameter, counts_parameters, counts_function}
use Rattle.pst_ast.specs.DeclarationProper.{IsProperEnumValue, IsProperEnumItem, IsProperNextEnumItem, IsProperEnum, IsProperAnswer, IsProperParameter, IsProperNextParameter, IsProperParameters, IsProperFunction}
use Rattle.pst_ast.specs.DeclarationSpelling.{spell_enum_value, spell_enum_item, spell_next_enum_item, spell_enum, spell_answer, spell_parameter, spell_next_parameter, spell_parameters, spell_function}
use Rattle.pst_ast.specs.DeclarationTree.{MakeEnumValue, MakeEnumItem, MakeNextEnumItem, MakeEnum, AnswerVoid, AnswerPlain, MakeParameter, MakeNextParameter, MakeParameters, MakeFunction}
use Rattle.pst_ast.specs.ExpressionLimits.{counts_expr}
use Rattle.pst_ast.specs.ExpressionProper.{IsProperExpr}
use Rattle.pst_ast.specs.ExpressionSpelling.{spell_expr}
use Rattle.pst_ast.specs.Limits.{Count, counted, counts_option}
use Rattle.pst_ast.specs.Marks.{mark, spell_option, OptionIs}
use Rattle.pst_ast.specs.SharedLimits.{counts_plain}
use Rattle.pst_ast.specs.SharedProper.{IsProperPlain}
use Rattle.pst_ast.specs.SharedSpelling.{spell_plain}
use Rattle.pst_parse_part.proofs.ChoicesExplain.{explains_if_mark, explains_option, mark_is_explained, explains_made, explains_empty}
use Rattle.pst_parse_part.proofs.PlainExplain.{plain_explains}
use Rattle.pst_parse_member.specs.Enums.{parameters_by, FunctionRestTree, function_rest_by, function_by, next_enum_item_by, enum_by, enum_item_by, parameter_by, enum_value_by, answer_by, next_parameter_by}
use Rattle.pst_parse_part.specs.Plain.{plain_by}
use Rattle.pst_parse_expr.proofs.Answering.{explains}
use Rattle.pst_parse_expr.proofs.SharedLaws.{IsAny}
use Rattle.pst_parse_expr.specs.Constraints.{outermost_at, is_at, is_other}
use Rattle.pst_reading.proofs.Chains.{explains_mark, explains_name, explains_part}
use Rattle.pst_reading.proofs.Explaining.{Means, Explains, explains_done}
use Rattle.pst_reading.proofs.Lists.{list_explains}
use Rattle.pst_reading.specs.Lists.{list_by}
use Rattle.pst_reading.specs.Options.{option_by}
use Rattle.pst_reading.specs.Parser.{mark_by}
use Rattle.pst_token.specs.declared.kind.Kind.TheVariants as kind
use Rattle.pst_token.specs.declared.token.Token.{Token}
use Rattle.std.proofs.Common.{refl, append-nil, ℕ, suc, List, [], ◌∷◌, ◌++◌}
use Rattle.std.specs.List.{flat_map, AllByRecursion}

pub enum_value_explains : (size depth : ℕ) → Explains (Means spell_enum_value IsProperEnumValue (counts_enum_value depth)) (enum_value_by size depth)
enum_value_explains size depth =
    explains_mark _ kind.Equal (counted depth 0) _ (λ equal.
    explains_part _ spell_expr IsProperExpr (counts_expr depth 0) (outermost_at (suc size) depth) _ (explains depth (suc size)) (λ expr h1.
    explains_done _ (MakeEnumValue equal expr) (record { is = rw append-nil refl; proper = h1; counted = rw append-nil refl })))

pub enum_item_explains : (size depth : ℕ) → Explains (Means spell_enum_item IsProperEnumItem (counts_enum_item depth)) (enum_item_by size depth)
enum_item_explains size depth =
    explains_name _ (counted depth 0) _ (λ name.
    explains_part _ (spell_option spell_enum_value) (OptionIs IsProperEnumValue) (counts_option (counts_enum_value depth)) (option_by (is_at kind.Equal) (enum_value_by size depth)) _ (explains_option spell_enum_value IsProperEnumValue (counts_enum_value depth) (is_at kind.Equal) (enum_value_by size depth) (enum_value_explains size depth)) (λ value h1.
    explains_done _ (MakeEnumItem name value) (record { is = rw append-nil refl; proper = h1; counted = rw append-nil refl })))

pub next_enum_item_explains : (size depth : ℕ) → Explains (Means spell_next_enum_item IsProperNextEnumItem (counts_next_enum_item depth)) (next_enum_item_by size depth)
next_enum_item_explains size depth =
    explains_mark _ kind.Comma (counted depth 0) _ (λ comma.
    explains_part _ spell_enum_item IsProperEnumItem (counts_enum_item depth) (enum_item_by size depth) _ (enum_item_explains size depth) (λ item h1.
    explains_done _ (MakeNextEnumItem comma item) (record { is = rw append-nil refl; proper = h1; counted = rw append-nil refl })))

pub enum_explains : (size depth : ℕ) → Explains (Means spell_enum IsProperEnum (counts_enum depth)) (enum_by size depth)
enum_explains size depth =
    explains_mark _ kind.Enum (counted depth 0) _ (λ enum_place.
    explains_name _ (counted depth 0) _ (λ name.
    explains_mark _ kind.LeftBrace (counted depth 0) _ (λ left_brace.
    explains_part _ spell_enum_item IsProperEnumItem (counts_enum_item depth) (enum_item_by size depth) _ (enum_item_explains size depth) (λ first h3.
    explains_part _ (flat_map spell_next_enum_item) (AllByRecursion IsProperNextEnumItem) (flat_map (counts_next_enum_item depth)) (list_by (is_at kind.Comma) (next_enum_item_by size depth) size) _ (list_explains spell_next_enum_item IsProperNextEnumItem (counts_next_enum_item depth) (is_at kind.Comma) (next_enum_item_by size depth) (next_enum_item_explains size depth) size) (λ rest h4.
    explains_mark _ kind.RightBrace (counted depth 0) _ (λ right_brace.
    explains_done _ (MakeEnum enum_place name left_brace first rest right_brace) (record { is = refl; proper = (h3, h4); counted = refl })))))))

pub answer_explains : (size depth : ℕ) → Explains (Means spell_answer IsProperAnswer (counts_answer depth)) (answer_by size depth)
answer_explains size depth =
    let M = Means spell_answer IsProperAnswer (counts_answer depth) in
    explains_if_mark M kind.Void _ _ (explains_empty M kind.Void (counted depth 0) AnswerVoid (λ p. record { is = refl; proper = tt; counted = refl }))
    (explains_made M spell_plain IsProperPlain (counts_plain depth) (plain_by size depth) AnswerPlain (plain_explains size depth) (λ x p. record { is = refl; proper = p; counted = refl }))

pub parameter_explains : (size depth : ℕ) → Explains (Means spell_parameter IsProperParameter (counts_parameter depth)) (parameter_by size depth)
parameter_explains size depth =
    explains_part _ (spell_option (λ p. mark kind.Input p ∷ [])) (OptionIs IsAny) (counts_option (λ p. counted depth 0 ∷ [])) (option_by (is_at kind.Input) (mark_by kind.Input (counted depth 0))) _ (explains_option (λ p. mark kind.Input p ∷ []) IsAny (λ p. counted depth 0 ∷ []) (is_at kind.Input) (mark_by kind.Input (counted depth 0)) (mark_is_explained kind.Input (counted depth 0))) (λ input h0.
    explains_part _ spell_plain IsProperPlain (counts_plain depth) (plain_by size depth) _ (plain_explains size depth) (λ plain h1.
    explains_name _ (counted depth 0) _ (λ name.
    explains_done _ (MakeParameter input plain name) (record { is = refl; proper = h1; counted = refl }))))

pub next_parameter_explains : (size depth : ℕ) → Explains (Means spell_next_parameter IsProperNextParameter (counts_next_parameter depth)) (next_parameter_by size depth)
next_parameter_explains size depth =
    explains_mark _ kind.Comma (counted depth 0) _ (λ comma.
    explains_part _ spell_parameter IsProperParameter (counts_parameter depth) (parameter_by size depth) _ (parameter_explains size depth) (λ parameter h1.
    explains_done _ (MakeNextParameter comma parameter) (record { is = rw append-nil refl; proper = h1; counted = rw append-nil refl })))

pub parameters_explains : (size depth : ℕ) → Explains (Means spell_parameters IsProperParameters (counts_parameters depth)) (parameters_by size depth)
parameters_explains size depth =
    explains_part _ spell_parameter IsProperParameter (counts_parameter depth) (parameter_by size depth) _ (parameter_explains size depth) (λ first h0.
    explains_part _ (flat_map spell_next_parameter) (AllByRecursion IsProperNextParameter) (flat_map (counts_next_parameter depth)) (list_by (is_at kind.Comma) (next_parameter_by size depth) size) _ (list_explains spell_next_parameter IsProperNextParameter (counts_next_parameter depth) (is_at kind.Comma) (next_parameter_by size depth) (next_parameter_explains size depth) size) (λ rest h1.
    explains_done _ (MakeParameters first rest) (record { is = rw append-nil refl; proper = (h0, h1); counted = rw append-nil refl })))

abbrev spell_function_rest : FunctionRestTree → List Token
spell_function_rest r = mark kind.LeftParenthesis r.left_parenthesis ∷ (spell_option spell_parameters r.parameters ++ mark kind.RightParenthesis r.right_parenthesis ∷ mark kind.Semicolon r.semicolon ∷ [])

abbrev IsProperFunctionRest : FunctionRestTree → Type 0
IsProperFunctionRest r = OptionIs IsProperParameters r.parameters

abbrev counts_function_rest : ℕ → FunctionRestTree → List Count
counts_function_rest depth r = counted depth 0 ∷ (counts_option (counts_parameters depth) r.parameters ++ counted depth 0 ∷ counted depth 0 ∷ [])

function_rest_explains : (size depth : ℕ) → Explains (Means spell_function_rest IsProperFunctionRest (counts_function_rest depth)) (function_rest_by size depth)
function_rest_explains size depth =
    explains_mark _ kind.LeftParenthesis (counted depth 0) _ (λ opening.
    explains_part _ (spell_option spell_parameters) (OptionIs IsProperParameters) (counts_option (counts_parameters depth)) (option_by (is_other kind.RightParenthesis) (parameters_by size depth)) _ (explains_option spell_parameters IsProperParameters (counts_parameters depth) (is_other kind.RightParenthesis) (parameters_by size depth) (parameters_explains size depth)) (λ listed h1.
    explains_mark _ kind.RightParenthesis (counted depth 0) _ (λ closing.
    explains_mark _ kind.Semicolon (counted depth 0) _ (λ ending.
    explains_done _ (record { left_parenthesis = opening; parameters = listed; right_parenthesis = closing; semicolon = ending }) (record { is = refl; proper = h1; counted = refl })))))

pub function_explains : (size depth : ℕ) → Explains (Means spell_function IsProperFunction (counts_function depth)) (function_by size depth)
function_explains size depth =
    explains_mark _ kind.Import (counted depth 0) _ (λ import_place.
    explains_part _ (spell_option (λ p. mark kind.Target p ∷ [])) (OptionIs IsAny) (counts_option (λ p. counted depth 0 ∷ [])) (option_by (is_at kind.Target) (mark_by kind.Target (counted depth 0))) _ (explains_option (λ p. mark kind.Target p ∷ []) IsAny (λ p. counted depth 0 ∷ []) (is_at kind.Target) (mark_by kind.Target (counted depth 0)) (mark_is_explained kind.Target (counted depth 0))) (λ target h1.
    explains_mark _ kind.Function (counted depth 0) _ (λ function.
    explains_part _ spell_answer IsProperAnswer (counts_answer depth) (answer_by size depth) _ (answer_explains size depth) (λ answer h3.
    explains_name _ (counted depth 0) _ (λ name.
    explains_part _ spell_function_rest IsProperFunctionRest (counts_function_rest depth) (function_rest_by size depth) _ (function_rest_explains size depth) (λ rest h5.
    explains_done _ (MakeFunction import_place target function answer name rest.left_parenthesis rest.parameters rest.right_parenthesis rest.semicolon) (record { is = rw append-nil refl; proper = (h3, h5); counted = rw append-nil refl })))))))

-- From stages to right answers.
use Rattle.std.proofs.Common.{◌≡◌, ◌≢◌, ◌∙◌, ℕ, ◌+◌, true, false, List, map, sym, subst}
use Rattle.std.specs.Prelude.{Result, Ok, Err, IfOk, string_bytes}
use Rattle.pst_base.specs.declared.memory.NoMemory.{NoMemory}
use Rattle.pst_lexer.specs.declared.fault.LexFault.{LexFault}
use Rattle.pst_lexer.specs.declared.fault.LexFault.TheVariants as fault
use Rattle.pst_token.specs.declared.token.Token.{Token}
use Rattle.pst_ast.specs.DeclarationTree.{UnitTree}
use Rattle.pst_ast.specs.DeclarationView.{view_unit}
use Rattle.pst_ast.specs.declared.declaration.Unit.{Unit as UnitNode}
use Rattle.pst_model.specs.Limits.{most_instances}
use Rattle.pst_elab_rules.specs.declared.end.ElabEnd.{ElabEnd}
use Rattle.pst_elab_rules.specs.declared.end.ElabEnd.TheVariants as elab
use Rattle.pst_elab.specs.PassedOn.{IsEnd}
use Rattle.pst_sources_read.specs.Limits.{most_tokens}
use Rattle.pst_sources_read.specs.declared.parsing.UnitsEnd.{UnitsEnd}
use Rattle.pst_sources_read.specs.declared.parsing.UnitsEnd.TheVariants as units
use Rattle.pst_words.specs.declared.command.Command.{Command}
use Rattle.pst_sources_read.specs.Lexed.{HasTextFault, AreLexed}
use Rattle.pst_sources_read.specs.Parsed.{AreParsed, IsUnitsEnd}
use Rattle.pst_outcome.specs.declared.answer.Answer.{Answer}
use Rattle.pst_outcome.specs.declared.answer.Answer.TheVariants.{Large, Lexical, Syntax, Rule}
use Rattle.pst_outcome.specs.declared.answer.What.TheVariants.{Instances, Tokens}
use Rattle.pst_outcome.specs.Texts.{large_text, lexical_text, syntax_text, rule_text, source_name}
use Rattle.pst_outcome.specs.Tasks.{IsRoot, AreSources}
use Rattle.pst_outcome.specs.Sources.{Front, Ends, OfUnits, OfTokens, OfTexts, BreaksRule, HasManyInstances, IsSyntaxFault, IsLexicalFault, HasManyTokens, HasUnits, HasTokens}
use Rattle.pst_front.specs.declared.stage.Stage.{Stage}
use Rattle.pst_front.specs.declared.stage.Stage.TheVariants.{Ended, Elaborated}
use Rattle.pst_line_parts.specs.Lines.{ComesTo}
use Rattle.pst_front.specs.Stages.{front_of, IsStage, Says, SaysElabEnd, SaysUnitsEnd, SaysFault}

-- a right answer was said
pub told : (R : Front → Type 0) (a : Answer) (text : List ℕ) (stage : Stage) → R (Ends a text) → Says a text stage → IsStage R stage
told R a text (Ended reply) right says =
    record { right = subst (λ (b : Answer). R (Ends b (string_bytes reply.text))) (sym says.0) (subst (λ (t : List ℕ). R (Ends a t)) (sym says.1) right); sound = tt }
told R a text (Elaborated names model root) right says = absurd says

pub said : (R : Front → Type 0) (a : Answer) (text : List ℕ) (r : Result Stage NoMemory) → R (Ends a text) → IfOk r (Says a text) → IfOk r (IsStage R)
said R a text (Ok stage) right says = told R a text stage right says
said R a text (Err e) right says = tt

-- what is right in one step is right in the one before
pub carried : (R S : Front → Type 0) (r : Result Stage NoMemory) → ((front : Front) → R front → S front) → IfOk r (IsStage R) → IfOk r (IsStage S)
carried R S (Ok stage) f h = record { right = f (front_of stage) h.right; sound = h.sound }
carried R S (Err e) f h = tt

module _ (arguments : List (List ℕ)) (component action : List ℕ) where
  -- units without a model
  pub without_model : (names : List (List ℕ)) (units : List UnitTree) (e : ElabEnd) (r : Result Stage NoMemory) → IsEnd units names component action e → IfOk r (SaysElabEnd arguments e) → IfOk r (IsStage (OfUnits arguments component action names units))
  without_model names units (elab.Broken place rule) r h says =
      said (OfUnits arguments component action names units) (Rule place rule) (rule_text (source_name arguments place.file) place rule) r (BreaksRule place rule h) says
  without_model names units (elab.Many count) r h says =
      said (OfUnits arguments component action names units) (Large Instances (most_instances + 1)) (large_text Instances (most_instances + 1)) r (HasManyInstances h.1)
      (subst (λ (n : ℕ). IfOk r (Says (Large Instances n) (large_text Instances n))) h.0 says)
  without_model names units elab.NoMemory (Ok stage) h says = absurd says
  without_model names units elab.NoMemory (Err e) h says = tt

  -- tokens that are no units
  pub without_units : (names : List (List ℕ)) (tokens : List (List Token)) (e : UnitsEnd) (r : Result Stage NoMemory) → IsUnitsEnd tokens e → IfOk r (SaysUnitsEnd arguments e) → IfOk r (IsStage (OfTokens arguments component action names tokens))
  without_units names tokens (units.Faulty deep place) r h says =
      said (OfTokens arguments component action names tokens) (Syntax deep place) (syntax_text (source_name arguments place.file) deep place) r (IsSyntaxFault deep place h) says
  without_units names tokens units.NoMemory (Ok stage) h says = absurd says
  without_units names tokens units.NoMemory (Err e) h says = tt

  -- texts that are no tokens
  pub without_tokens : (texts : List (List ℕ)) (e : LexFault) (r : Result Stage NoMemory) → (e ≢ fault.NoMemory → HasTextFault texts e) → IfOk r (SaysFault arguments e) → IfOk r (IsStage (OfTexts arguments component action texts))
  without_tokens texts (fault.Bad place) r h says =
      said (OfTexts arguments component action texts) (Lexical false place) (lexical_text (source_name arguments place.file) false place) r (IsLexicalFault false place (h (λ e. cc))) says
  without_tokens texts (fault.Wide place) r h says =
      said (OfTexts arguments component action texts) (Lexical true place) (lexical_text (source_name arguments place.file) true place) r (IsLexicalFault true place (h (λ e. cc))) says
  without_tokens texts fault.Many r h says =
      said (OfTexts arguments component action texts) (Large Tokens (most_tokens + 1)) (large_text Tokens (most_tokens + 1)) r (HasManyTokens (h (λ e. cc))) says
  without_tokens texts fault.NoMemory (Ok stage) h says = absurd says
  without_tokens texts fault.NoMemory (Err e) h says = tt

-- the units of tokens
pub parsed_units : (arguments : List (List ℕ)) (component action : List ℕ) (names : List (List ℕ)) (tokens : List (List Token)) (units slice : List UnitNode) (r : Result Stage NoMemory)
    → slice ≡ units → AreParsed tokens (map view_unit units) → IfOk r (IsStage (OfUnits arguments component action names (map view_unit slice))) → IfOk r (IsStage (OfTokens arguments component action names tokens))
parsed_units arguments component action names tokens units slice r same parsed h =
    carried (OfUnits arguments component action names (map view_unit slice)) (OfTokens arguments component action names tokens) r
    (λ front right. HasUnits (map view_unit slice) front (subst (λ (us : List UnitNode). AreParsed tokens (map view_unit us)) (sym same) parsed) right) h

-- the tokens of texts
pub lexed_tokens : (arguments : List (List ℕ)) (component action : List ℕ) (texts names : List (List ℕ)) (tokens slice : List (List Token)) (r : Result Stage NoMemory)
    → slice ≡ tokens → AreLexed texts names tokens → IfOk r (IsStage (OfTokens arguments component action names slice)) → IfOk r (IsStage (OfTexts arguments component action texts))
lexed_tokens arguments component action texts names tokens slice r same lexed h =
    carried (OfTokens arguments component action names slice) (OfTexts arguments component action texts) r
    (λ front right. HasTokens names slice front (subst (λ (ts : List (List Token)). AreLexed texts names ts) (sym same) lexed) right) h

-- the sources of a line
pub sources_come : (command : Command) (arguments texts sources : List (List ℕ)) (component action : List ℕ) (r : Result Stage NoMemory)
    → AreSources command arguments texts sources → IsRoot command arguments component action → IfOk r (IsStage (OfTexts arguments component action sources)) → IfOk r (IsStage (ComesTo command arguments texts))
sources_come command arguments texts sources component action r are root h =
    carried (OfTexts arguments component action sources) (ComesTo command arguments texts) r
    (λ front right. record { sources = sources; are_sources = are; component = component; action = action; is_root = root; comes_to = right }) h

-- What the texts of sources come to, step by step: an answer with its text, or their model. Each step gives way to those before it.
use Rattle.std.specs.Prelude.{ℕ, ◌+◌, Bool, true, false, List}
use Rattle.pst_base.specs.declared.position.Place.{Place}
use Rattle.pst_token.specs.declared.token.Token.{Token}
use Rattle.pst_lexer.specs.declared.fault.LexFault.{LexFault}
use Rattle.pst_lexer.specs.declared.fault.LexFault.TheVariants as fault
use Rattle.pst_ast.specs.DeclarationTree.{UnitTree}
use Rattle.pst_model.specs.Limits.{most_instances}
use Rattle.pst_model.specs.ModelTree.{ModelTree}
use Rattle.pst_elab_rules.specs.Ends.{IsFirstBreach, HasMany, IsElaborated}
use Rattle.pst_sources_read.specs.Limits.{most_tokens}
use Rattle.pst_sources_read.specs.Lexed.{AreLexed, HasTextFault}
use Rattle.pst_sources_read.specs.Parsed.{AreParsed, HasSyntaxFault}
use Rattle.pst_outcome.specs.declared.answer.Answer.{Answer}
use Rattle.pst_outcome.specs.declared.answer.Answer.TheVariants.{Large, Lexical, Syntax, Rule}
use Rattle.pst_outcome.specs.declared.answer.What.TheVariants as what
use Rattle.pst_outcome.specs.Texts.{source_name, large_text, lexical_text, syntax_text, rule_text}

-- an answer and its text, or the names of the sources, their model and the number of the root's action type
pub data Front : Type 0 where
  Ends : Answer → List ℕ → Front
  HasModel : List (List ℕ) → ModelTree → ℕ → Front

-- The units break a rule, have too many instances, or keep all rules and limits: then they have a model.
pub data OfUnits (arguments : List (List ℕ)) (component action : List ℕ) (names : List (List ℕ)) (units : List UnitTree) : Front → Type 0 where
  BreaksRule : (place : Place) (rule : ℕ) → IsFirstBreach units names component action place rule
      → OfUnits arguments component action names units (Ends (Rule place rule) (rule_text (source_name arguments place.file) place rule))
  HasManyInstances : HasMany units names
      → OfUnits arguments component action names units (Ends (Large what.Instances (most_instances + 1)) (large_text what.Instances (most_instances + 1)))
  AreElaborated : (m : ModelTree) (root : ℕ) → IsElaborated units names component action m root → OfUnits arguments component action names units (HasModel names m root)

-- A source is no unit, or all are.
pub data OfTokens (arguments : List (List ℕ)) (component action : List ℕ) (names : List (List ℕ)) (tokens : List (List Token)) : Front → Type 0 where
  IsSyntaxFault : (deep : Bool) (place : Place) → HasSyntaxFault tokens deep place
      → OfTokens arguments component action names tokens (Ends (Syntax deep place) (syntax_text (source_name arguments place.file) deep place))
  HasUnits : (units : List UnitTree) (front : Front) → AreParsed tokens units → OfUnits arguments component action names units front
      → OfTokens arguments component action names tokens front

-- a number above 2^63-1 begins at the place, or nothing begins there
abbrev pub lexical_fault : Bool → Place → LexFault
lexical_fault true place = fault.Wide place
lexical_fault false place = fault.Bad place

-- A text is no list of tokens, there are too many, or all texts are lists of tokens.
pub data OfTexts (arguments : List (List ℕ)) (component action : List ℕ) (texts : List (List ℕ)) : Front → Type 0 where
  IsLexicalFault : (wide : Bool) (place : Place) → HasTextFault texts (lexical_fault wide place)
      → OfTexts arguments component action texts (Ends (Lexical wide place) (lexical_text (source_name arguments place.file) wide place))
  HasManyTokens : HasTextFault texts fault.Many
      → OfTexts arguments component action texts (Ends (Large what.Tokens (most_tokens + 1)) (large_text what.Tokens (most_tokens + 1)))
  HasTokens : (names : List (List ℕ)) (tokens : List (List Token)) (front : Front) → AreLexed texts names tokens → OfTokens arguments component action names tokens front
      → OfTexts arguments component action texts front

-- Sources come to one end, or to one model.
use Rattle.std.proofs.Common.{◌≡◌, ◌∙◌, ℕ, ◌+◌, Bool, true, false, List, [], refl, ap, sym, subst}
use Rattle.std.specs.Prelude.{All, Option, Some}
use Rattle.pst_base.specs.declared.position.Place.{Place}
use Rattle.pst_io.specs.Shelf.{Files}
use Rattle.pst_token.specs.declared.token.Token.{Token}
use Rattle.pst_token.specs.Laws.{EachTextHasOneReading}
use Rattle.pst_lexer.specs.declared.fault.LexFault.{LexFault}
use Rattle.pst_lexer.specs.declared.fault.LexFault.TheVariants as fault
use Rattle.pst_lexer.specs.Fault.{EachTextHasOneOutcome}
use Rattle.pst_texts.specs.Texts.{TokensOfTextsAreOne}
use Rattle.pst_ast.specs.DeclarationTree.{UnitTree}
use Rattle.pst_ast.specs.Laws.{AtMostOneTree, AnswersAgree}
use Rattle.pst_ast.specs.Rule.{TheUnit}
use Rattle.pst_model.specs.ModelTree.{ModelTree}
use Rattle.pst_elab_rules.specs.Laws.{FirstBreachesAreOne, AnswersAreApart}
use Rattle.pst_words.specs.declared.command.Command.{Command}
use Rattle.pst_words.specs.Lines.{IsArgument}
use Rattle.pst_files_read.specs.Files.{sources_in}
use Rattle.pst_sources_read.specs.Limits.{most_tokens}
use Rattle.pst_outcome.specs.declared.answer.Answer.TheVariants.{Large, Lexical, Syntax, Rule, NoMemory}
use Rattle.pst_outcome.specs.declared.answer.What.TheVariants as what
use Rattle.pst_outcome.specs.Texts.{source_name, large_text, lexical_text, syntax_text, rule_text}
use Rattle.pst_outcome.specs.Tasks.{AreSources}
use Rattle.pst_outcome.specs.Sources.{Front, Ends, HasModel, OfUnits, BreaksRule, HasManyInstances, AreElaborated, OfTokens, IsSyntaxFault, HasUnits, OfTexts, IsLexicalFault, HasManyTokens, HasTokens, lexical_fault}
use Rattle.pst_outcome.specs.Outcome.{HasFront}
use Rattle.pst_outcome.proofs.OneReading.{one_texts}
use Rattle.pst_outcome.proofs.OneLine.{one_root_of}
use Rattle.pst_outcome.proofs.OneLexing.{one_text_fault, no_text_fault}
use Rattle.pst_outcome.proofs.OneParse.{one_units, one_syntax_fault, no_syntax_fault}
use Rattle.pst_outcome.proofs.OneTask.{one_sources}

-- the laws that tell what sources come to
pub record SourceLaws : Type 0 where
  pub readings : EachTextHasOneReading
  pub outcomes : EachTextHasOneOutcome
  pub texts : TokensOfTextsAreOne
  pub trees : AtMostOneTree TheUnit
  pub agree : AnswersAgree
  pub breaches : FirstBreachesAreOne
  pub apart : AnswersAreApart

-- ---- units

abbrev broken : List (List ℕ) → Place → ℕ → Front
broken arguments place rule = Ends (Rule place rule) (rule_text (source_name arguments place.file) place rule)

of_units : SourceLaws → (arguments : List (List ℕ)) (component action : List ℕ) (names : List (List ℕ)) (units : List UnitTree) (a b : Front)
    → OfUnits arguments component action names units a → OfUnits arguments component action names units b → a ≡ b
of_units laws arguments component action names units _ _ (BreaksRule p r h) (BreaksRule q u k) =
    let same = laws.breaches units names component action p q r u h k in
    ap (λ (x : Place). broken arguments x r) same.0 ∙ ap (λ (n : ℕ). broken arguments q n) same.1
of_units laws arguments component action names units _ _ (BreaksRule p r h) (HasManyInstances k) = absurd (laws.apart.many_alone units names component action p r k h)
of_units laws arguments component action names units _ _ (BreaksRule p r h) (AreElaborated m root k) = absurd (laws.apart.no_breach units names component action m root p r k h)
of_units laws arguments component action names units _ _ (HasManyInstances h) (BreaksRule q u k) = absurd (laws.apart.many_alone units names component action q u h k)
of_units laws arguments component action names units _ _ (HasManyInstances h) (HasManyInstances k) = refl
of_units laws arguments component action names units _ _ (HasManyInstances h) (AreElaborated m root k) = absurd (laws.apart.not_many units names component action m root k h)
of_units laws arguments component action names units _ _ (AreElaborated m root h) (BreaksRule q u k) = absurd (laws.apart.no_breach units names component action m root q u h k)
of_units laws arguments component action names units _ _ (AreElaborated m root h) (HasManyInstances k) = absurd (laws.apart.not_many units names component action m root h k)
of_units laws arguments component action names units _ _ (AreElaborated m root h) (AreElaborated l number k) =
    let same = laws.apart.one_answer units names component action m l root number h k in
    ap (λ (x : ModelTree). HasModel names x root) same.0 ∙ ap (λ (n : ℕ). HasModel names l n) same.1

-- ---- tokens

abbrev faulty : List (List ℕ) → Bool → Place → Front
faulty arguments deep place = Ends (Syntax deep place) (syntax_text (source_name arguments place.file) deep place)

of_tokens : SourceLaws → (arguments : List (List ℕ)) (component action : List ℕ) (names : List (List ℕ)) (tokens : List (List Token)) (a b : Front)
    → OfTokens arguments component action names tokens a → OfTokens arguments component action names tokens b → a ≡ b
of_tokens laws arguments component action names tokens _ _ (IsSyntaxFault d p h) (IsSyntaxFault e q k) =
    let same = one_syntax_fault laws.agree tokens d e p q h k in
    ap (λ (x : Bool). faulty arguments x p) same.0 ∙ ap (λ (x : Place). faulty arguments e x) same.1
of_tokens laws arguments component action names tokens _ _ (IsSyntaxFault d p h) (HasUnits units b k _) = absurd (no_syntax_fault tokens units d p k h)
of_tokens laws arguments component action names tokens _ _ (HasUnits units a h _) (IsSyntaxFault e q k) = absurd (no_syntax_fault tokens units e q h k)
of_tokens laws arguments component action names tokens _ _ (HasUnits units a h x) (HasUnits others b k y) =
    let same : others ≡ units = one_units laws.trees tokens others units k h in
    of_units laws arguments component action names units a b x (subst (λ (us : List UnitTree). OfUnits arguments component action names us b) same y)

-- ---- texts

abbrev front_of : List (List ℕ) → LexFault → Front
front_of arguments (fault.Bad place) = Ends (Lexical false place) (lexical_text (source_name arguments place.file) false place)
front_of arguments (fault.Wide place) = Ends (Lexical true place) (lexical_text (source_name arguments place.file) true place)
front_of arguments fault.Many = Ends (Large what.Tokens (most_tokens + 1)) (large_text what.Tokens (most_tokens + 1))
front_of arguments fault.NoMemory = Ends NoMemory []

as_front : (arguments : List (List ℕ)) (wide : Bool) (place : Place) → front_of arguments (lexical_fault wide place) ≡ Ends (Lexical wide place) (lexical_text (source_name arguments place.file) wide place)
as_front arguments true place = refl
as_front arguments false place = refl

of_texts : SourceLaws → (arguments : List (List ℕ)) (component action : List ℕ) (texts : List (List ℕ)) (a b : Front)
    → OfTexts arguments component action texts a → OfTexts arguments component action texts b → a ≡ b
of_texts laws arguments component action texts _ _ (IsLexicalFault w p h) (IsLexicalFault v q k) =
    sym (as_front arguments w p) ∙ ap (front_of arguments) (one_text_fault laws.readings laws.outcomes texts (lexical_fault w p) (lexical_fault v q) h k) ∙ as_front arguments v q
of_texts laws arguments component action texts _ _ (IsLexicalFault w p h) (HasManyTokens k) =
    sym (as_front arguments w p) ∙ ap (front_of arguments) (one_text_fault laws.readings laws.outcomes texts (lexical_fault w p) fault.Many h k)
of_texts laws arguments component action texts _ _ (IsLexicalFault w p h) (HasTokens names tokens b k _) = absurd (no_text_fault laws.readings laws.outcomes texts names tokens (lexical_fault w p) k h)
of_texts laws arguments component action texts _ _ (HasManyTokens h) (IsLexicalFault v q k) =
    ap (front_of arguments) (one_text_fault laws.readings laws.outcomes texts fault.Many (lexical_fault v q) h k) ∙ as_front arguments v q
of_texts laws arguments component action texts _ _ (HasManyTokens h) (HasManyTokens k) = refl
of_texts laws arguments component action texts _ _ (HasManyTokens h) (HasTokens names tokens b k _) = absurd (no_text_fault laws.readings laws.outcomes texts names tokens fault.Many k h)
of_texts laws arguments component action texts _ _ (HasTokens names tokens a h _) (IsLexicalFault v q k) = absurd (no_text_fault laws.readings laws.outcomes texts names tokens (lexical_fault v q) h k)
of_texts laws arguments component action texts _ _ (HasTokens names tokens a h _) (HasManyTokens k) = absurd (no_text_fault laws.readings laws.outcomes texts names tokens fault.Many h k)
of_texts laws arguments component action texts _ _ (HasTokens names tokens a h x) (HasTokens others more b k y) =
    let same = laws.texts texts others names more tokens k.are h.are in
    of_tokens laws arguments component action names tokens a b x
    (subst (λ (ts : List (List Token)). OfTokens arguments component action names ts b) same.1 (subst (λ (ns : List (List ℕ)). OfTokens arguments component action ns more b) same.0 y))

-- ---- lines

-- the sources of a line come to one end, or to one model
pub one_front : SourceLaws → (f : Files) (faults : ℕ) (command : Command) (have : ℕ) (arguments : List (List ℕ)) (traced trace : Option (List ℕ)) (a b : Front) → All (IsArgument command have) arguments
    → HasFront (Some f) faults faults command arguments traced a → HasFront (Some f) faults faults command arguments trace b → a ≡ b
one_front laws f faults command have arguments traced trace a b each h k =
    let texts : k.texts ≡ h.texts = one_texts f (sources_in arguments) k.texts h.texts (k.read.each f refl) (h.read.each f refl) in
    let own : AreSources command arguments h.texts k.sources = subst (λ (ts : List (List ℕ)). AreSources command arguments ts k.sources) texts k.are_sources in
    let sources : k.sources ≡ h.sources = one_sources command have arguments h.texts k.sources h.sources each own h.are_sources in
    let roots = one_root_of command arguments k.component h.component k.action h.action k.is_root h.is_root in
    let moved : OfTexts arguments h.component h.action h.sources b =
    subst (λ (x : List ℕ). OfTexts arguments h.component x h.sources b) roots.1
    (subst (λ (x : List ℕ). OfTexts arguments x k.action h.sources b) roots.0 (subst (λ (xs : List (List ℕ)). OfTexts arguments k.component k.action xs b) sources k.comes_to)) in
    of_texts laws arguments h.component h.action h.sources a b h.comes_to moved

-- Lists of tokens that end with `End`.
use Rattle.std.specs.Prelude.{◌≡◌, List, [], ◌∷◌, ◌++◌}
use Rattle.pst_token.specs.declared.kind.Kind.TheVariants as kind
use Rattle.pst_token.specs.declared.token.Token.{Token}

-- the last token is `End`
pub record IsEnded (tokens : List Token) : Type 0 where
  pub before_end : List Token
  pub last : Token
  pub all : tokens ≡ before_end ++ last ∷ []
  pub is_end : last.kind ≡ kind.End

use Rattle.pst_token.specs.Tokens.{lexemes_of}
use Rattle.pst_token.proofs.TokenLists.{tokens-longer}
use Rattle.pst_lexer.proofs.laws.texts_stay_as_names_grow.Goals as goal

pub returns : goal.returns
returns c names more lexing h = record {
  parts = h.parts;
  rest = h.rest;
  front = h.front;
  each = tokens-longer names more (lexemes_of lexing.file h.parts) lexing.tokens h.each;
}

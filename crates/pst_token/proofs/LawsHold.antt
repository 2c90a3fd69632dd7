-- The laws about the tokens of a text hold.
use Rattle.std.proofs.Common.{◌≡◌, ◌≢◌, ℕ, List, [], ◌∷◌, ◌++◌, refl, ap, sym, subst, ◌∙◌, append-nil}
use Rattle.std.proofs.lemmas.List.{append_cancel_left}
use Rattle.pst_token.specs.declared.token.Token.{Token}
use Rattle.pst_token.specs.declared.kind.Kind.{Kind}
use Rattle.pst_token.specs.Spelling.{spelling_of}
use Rattle.pst_token.specs.Lexemes.{fixed}
use Rattle.pst_token.specs.Parts.{Part, lexeme, MayStand}
use Rattle.pst_token.specs.Tokens.{AreTokens, IsReading, complete, lexemes_of}
use Rattle.pst_token.specs.Laws.{EachTextHasOneReading, TokensStayAsNamesGrow, SpellingsAreReadBack}
use Rattle.pst_token.proofs.Readings.{each_reading, one_reading}
use Rattle.pst_token.proofs.TokenLists.{tokens-longer}
use Rattle.pst_token.proofs.NextOfSpellings.{next-spelling_of}
use Rattle.pst_token.proofs.NextStands.{next_fits}

pub one_each : EachTextHasOneReading
one_each text =
    let one = each_reading text in
    record {
      parts = one.parts;
      rest = one.rest;
      ending = one.ending;
      reading = one.reading;
      only = λ ps r e reading. one_reading text ps one.parts r one.rest e one.ending reading one.reading;
    }

pub longer : TokensStayAsNamesGrow
longer file names more text tokens h = record {
  parts = h.parts;
  reading = h.reading;
  before_end = h.before_end;
  each = tokens-longer names more (lexemes_of file h.parts) h.before_end h.each;
  all = h.all;
}

pub read_back : SpellingsAreReadBack
read_back k some =
    let fits = next_fits (spelling_of k) (lexeme (fixed k)) (next-spelling_of k some) in
    let none : fits.rest ≡ [] = append_cancel_left (spelling_of k) fits.rest [] (sym fits.split ∙ sym (append-nil (spelling_of k))) in
    record {
      front = record {
        made = sym (append-nil (spelling_of k ++ []) ∙ append-nil (spelling_of k));
        stand = (subst (MayStand (lexeme (fixed k))) none fits.stands, tt, tt);
      };
      ends = refl;
    }

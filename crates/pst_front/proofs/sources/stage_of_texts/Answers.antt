use Rattle.std.proofs.Common.{List, map, string_bytes, sym, subst}
use Rattle.pst_token.specs.declared.token.Token.{Token}
use Rattle.pst_sources_read.specs.Lexed.{AreLexed}
use Rattle.pst_front.proofs.Said.{without_tokens, lexed_tokens}
use Rattle.pst_front.proofs.sources.stage_of_texts.Goals as goal

pub stage_of_tokens-requires : goal.stage_of_tokens-requires
stage_of_tokens-requires c = (c.args.texts.now, subst (λ (ts : List (List Token)). AreLexed c.args.texts.now c.lex_texts.new.names ts) (sym c.as_slice.ensures.value) c.in-Ok.ensures.lexed)

pub returns-in-Ok : goal.returns-in-Ok
returns-in-Ok c =
    lexed_tokens (map string_bytes c.args.arguments.now) c.args.root.now.component.now c.args.root.now.action.now c.args.texts.now c.lex_texts.new.names c.in-Ok.tokens.items c.as_slice.result.now c.stage_of_tokens.result
    c.as_slice.ensures.value c.in-Ok.ensures.lexed c.stage_of_tokens.ensures

pub returns-in-Err : goal.returns-in-Err
returns-in-Err c =
    without_tokens (map string_bytes c.args.arguments.now) c.args.root.now.component.now c.args.root.now.action.now c.args.texts.now c.in-Err.fault c.stage_without_tokens.result c.in-Err.ensures.fault c.stage_without_tokens.ensures

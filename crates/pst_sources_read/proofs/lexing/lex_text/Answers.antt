use Rattle.pst_sources_read.proofs.OneText.{fed_fault, fed_text, lexed_text}
use Rattle.pst_sources_read.proofs.lexing.lex_text.Goals as goal

pub returns-in-Err-clause-fault : goal.returns-in-Err-clause-fault
returns-in-Err-clause-fault c = λ other. fed_fault c.args.file c.args.room c.args.text.now c.in-Err.fault c.new-lexer.result c.new-lexer.ensures.empty (c.in-Err.ensures.certain other)

pub returns-in-Ok-clause-tokens : goal.returns-in-Ok-clause-tokens
returns-in-Ok-clause-tokens c =
    lexed_text c.args.file c.args.room c.args.text.now c.new-lexer.result c.feed.new.self c.args.names.now c.feed.new.names c.finish.new.names c.finish.result c.new-lexer.ensures.empty
    (fed_text c.args.file c.args.room c.args.text.now c.new-lexer.result c.feed.new.self c.new-lexer.ensures.empty c.in-Ok.ensures.file c.in-Ok.ensures.room c.in-Ok.ensures.ok.0)
    c.in-Ok.ensures.names c.finish.ensures.names c.in-Ok.ensures.numbered c.finish.ensures.tokens c.finish.ensures.room c.finish.ensures.numbered

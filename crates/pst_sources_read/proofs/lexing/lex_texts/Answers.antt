use Rattle.std.proofs.Common.{◌≡◌, ◌∙◌, ℕ, List, ap, subst}
use Rattle.pst_lexer.specs.Fault.{HasFault}
use Rattle.pst_sources_read.specs.TextsLexed.{IsTextAdded}
use Rattle.pst_sources_read.proofs.Counted.{more_so_far, fault_so_far}
use Rattle.pst_sources_read.proofs.lexing.lex_texts.Goals as goal

pub returns-in-Err-clause-fault : goal.returns-in-Err-clause-fault
returns-in-Err-clause-fault c = λ other.
    fault_so_far c.args.texts.now c.loop-number.number c.index-texts-number.result c.loop-number.names c.loop-number.all.items c.loop-number.room c.in-Err.fault c.loop-number-test.true c.index-texts-number.is
    c.loop-number.invariant (subst (λ (t : List ℕ). HasFault c.loop-number.number c.loop-number.room t c.in-Err.fault) c.as_slice-text.ensures (c.in-Err.ensures.fault other))

pub loop-number-preserved : goal.loop-number-preserved
loop-number-preserved c =
    more_so_far c.tokens_stay_as_names_grow.ensures c.args.texts.now c.loop-number.number c.index-texts-number.result c.loop-number.names c.lex_next.new.names c.loop-number.all.items c.lex_next.new.all.items
    c.loop-number.room c.in-Ok.left c.loop-number-test.true c.index-texts-number.is c.loop-number.invariant
    (subst (λ (t : List ℕ). IsTextAdded c.loop-number.number c.loop-number.room c.in-Ok.left t c.loop-number.names c.lex_next.new.names c.loop-number.all.items c.lex_next.new.all.items) c.as_slice-text.ensures c.in-Ok.ensures.tokens)

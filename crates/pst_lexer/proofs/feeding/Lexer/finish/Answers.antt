use Rattle.std.proofs.Common.{◌≡◌, ◌⊎◌, Err, refl, sym, ap, subst}
use Rattle.pst_lexer.specs.declared.fault.LexFault.{LexFault}
use Rattle.pst_lexer.specs.declared.fault.LexFault.TheVariants as fault
use Rattle.pst_lexer.specs.Fault.{HasFault}
use Rattle.pst_lexer.specs.Lexing.{Lexing, HasItsTexts}
use Rattle.pst_lexer.proofs.Pieces.{scanning_names, lexing_fault, exact_answer}
use Rattle.pst_lexer.proofs.feeding.Lexer.finish.Goals as goal

pub returns-in-Some-clause-fault : goal.returns-in-Some-clause-fault
returns-in-Some-clause-fault c other =
    subst (λ (l : Lexing). HasFault l.file l.room l.taken c.in-Some.fault) c.self.view_is
    (lexing_fault c.self.inside.scanner c.self.inside.fault c.in-Some.fault c.self.invariant c.in-Some.is other)

pub returns-in-Some-clause-exact : goal.returns-in-Some-clause-exact
returns-in-Some-clause-exact c =
    exact_answer c.args.self.file c.args.self.room c.args.names.now c.args.self.taken (Err c.in-Some.fault) tt
    (λ other. subst (λ (l : Lexing). HasFault l.file l.room l.taken c.in-Some.fault) c.self.view_is
    (lexing_fault c.self.inside.scanner c.self.inside.fault c.in-Some.fault c.self.invariant c.in-Some.is other))

pub finish-requires-clause-scanning : goal.finish-requires-clause-scanning
finish-requires-clause-scanning c =
    scanning_names c.args.names.now c.self.inside.scanner c.self.inside.fault c.self.invariant (subst (HasItsTexts c.args.names.now) (sym c.self.view_is) c.requires.texts)

pub returns-clause-exact : goal.returns-clause-exact
returns-clause-exact c =
    subst (λ (l : Lexing). (f : LexFault) → HasFault l.file l.room l.taken f → (c.finish.result ≡ Err f) ⊎ (c.finish.result ≡ Err fault.NoMemory)) c.self.view_is
    (exact_answer c.self.inside.scanner.file c.self.inside.scanner.room c.finish.new.names c.self.inside.scanner.taken.items c.finish.result c.finish.ensures.ok c.finish.ensures.fault)

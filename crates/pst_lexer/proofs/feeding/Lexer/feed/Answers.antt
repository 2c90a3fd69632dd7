use Rattle.std.proofs.Common.{◌≡◌, ◌++◌, refl, sym, ap, subst, length, ◌+◌, ◌≤◌, ◌^◌}
use Rattle.pst_lexer.specs.Lexing.{Lexing, HasItsTexts}
use Rattle.pst_lexer.specs.Fault.{AlwaysHasFault}
use Rattle.pst_lexer.proofs.Pieces.{scanning_names, scanned_so_far, fault_kept, fault_certain}
use Rattle.pst_lexer.proofs.feeding.Lexer.feed.Goals as goal

pub take-outcome-requires-clause-scanning : goal.take-outcome-requires-clause-scanning
take-outcome-requires-clause-scanning c =
    scanning_names c.args.names.now c.self.inside.scanner c.self.inside.fault c.self.invariant (subst (HasItsTexts c.args.names.now) (sym c.self.view_is) c.requires.texts)

pub invariant_of-self : goal.invariant_of-self
invariant_of-self c =
    fault_kept c.take-outcome.new.names c.self.inside.scanner c.take-outcome.new.self c.args.piece.now c.in-Err.fault c.self.invariant.small c.take-outcome.ensures.room
    (subst (λ (l : Lexing). length l.taken + length c.args.piece.now ≤ 2 ^ 31) (sym c.self.view_is) c.requires.length)
    c.take-outcome.ensures.scanning c.in-Err.ensures.taken c.in-Err.ensures.fault

pub returns-in-Err-clause-certain : goal.returns-in-Err-clause-certain
returns-in-Err-clause-certain c other =
    subst (λ (l : Lexing). AlwaysHasFault l.file l.room (l.taken ++ c.args.piece.now) c.in-Err.fault) c.self.view_is
    (fault_certain c.self.inside.scanner c.take-outcome.new.self c.args.piece.now c.in-Err.fault c.take-outcome.ensures.file c.take-outcome.ensures.room c.in-Err.ensures.taken c.in-Err.ensures.fault other)

pub returns-in-Err-clause-texts : goal.returns-in-Err-clause-texts
returns-in-Err-clause-texts c = scanned_so_far c.take-outcome.new.names c.take-outcome.new.self c.take-outcome.ensures.scanning

pub returns-in_default-outcome-clause-texts : goal.returns-in_default-outcome-clause-texts
returns-in_default-outcome-clause-texts c = scanned_so_far c.take-outcome.new.names c.take-outcome.new.self c.take-outcome.ensures.scanning

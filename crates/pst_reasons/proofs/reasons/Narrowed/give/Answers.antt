use Rattle.std.proofs.Common.{rules, subst}
use Rattle.pst_reasons.specs.Giving.{Settles}
use Rattle.pst_reasons.proofs.KeepLemmas.{unsettled, given_on, some_marks, can_back, gone_back, at_same, gives_err, reasons_given}
use Rattle.pst_reasons.proofs.reasons.Narrowed.give.Goals as goal

pub settle_from-requires : goal.settle_from-requires
settle_from-requires c = unsettled c.others_dont_matter.ensures c.args.self.now c.note_given.new.self c.args.variable c.args.span c.mark-mark.result c.mark-mark.ensures c.requires.kept c.requires.variable c.requires.span c.in_ok-note_given.ensures.noted

pub returns-in_err-note_given : goal.returns-in_err-note_given
returns-in_err-note_given c = gives_err c.args.self.now c.note_given.new.self c.args.variable c.args.span c.from_residual.result (λ o e. search rules) (at_same c.args.self.now c.note_given.new.self c.requires.kept c.in_err-note_given.ensures.same)

pub returns-in-Ok-None : goal.returns-in-Ok-None
returns-in-Ok-None c =
    let n = c.note_given.new.self in
    let r = c.settle_from.new.self in
    given_on c.args.self.now n r c.args.variable c.args.span c.requires.kept c.requires.variable c.in_ok-note_given.ensures.noted c.settle_from.ensures.narrower (subst (λ o. Settles o n r) c.in-Ok-None.field-0-is c.in-Ok-None.ensures.settles)

pub go_back-requires-clause-some : goal.go_back-requires-clause-some
go_back-requires-clause-some c = some_marks c.args.self.now c.note_given.new.self c.settle_from.new.self c.args.variable c.args.span c.in_ok-note_given.ensures.noted c.settle_from.ensures.narrower

pub go_back-requires-clause-can : goal.go_back-requires-clause-can
go_back-requires-clause-can c = can_back c.args.self.now c.note_given.new.self c.settle_from.new.self c.args.variable c.args.span c.requires.variable c.in_ok-note_given.ensures.noted c.settle_from.ensures.narrower

pub go_back-requires-in-Err-clause-some : goal.go_back-requires-in-Err-clause-some
go_back-requires-in-Err-clause-some c = some_marks c.args.self.now c.note_given.new.self c.settle_from.new.self c.args.variable c.args.span c.in_ok-note_given.ensures.noted c.settle_from.ensures.narrower

pub go_back-requires-in-Err-clause-can : goal.go_back-requires-in-Err-clause-can
go_back-requires-in-Err-clause-can c = can_back c.args.self.now c.note_given.new.self c.settle_from.new.self c.args.variable c.args.span c.requires.variable c.in_ok-note_given.ensures.noted c.settle_from.ensures.narrower

pub returns-in-Ok-Some : goal.returns-in-Ok-Some
returns-in-Ok-Some c =
    let s = c.args.self.now in
    let n = c.note_given.new.self in
    let r = c.settle_from.new.self in
    let noted = c.in_ok-note_given.ensures.noted in (
      at_same s c.go_back.new.self c.requires.kept (gone_back s n r c.go_back.new.self c.args.variable c.args.span c.requires.kept c.requires.variable noted c.settle_from.ensures.narrower c.go_back.ensures),
      reasons_given s n r c.args.variable c.args.span c.in-Ok-Some.places c.requires.variable noted (subst (λ o. Settles o n r) c.in-Ok-Some.field-0-is c.in-Ok-Some.ensures.settles),
    )

pub returns-in-Err : goal.returns-in-Err
returns-in-Err c =
    let s = c.args.self.now in
    let n = c.note_given.new.self in
    let r = c.settle_from.new.self in
    at_same s c.go_back-in-Err.new.self c.requires.kept (gone_back s n r c.go_back-in-Err.new.self c.args.variable c.args.span c.requires.kept c.requires.variable c.in_ok-note_given.ensures.noted c.settle_from.ensures.narrower c.go_back-in-Err.ensures)

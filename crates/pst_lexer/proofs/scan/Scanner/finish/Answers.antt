use Rattle.std.proofs.Common.{length, refl, pos}
use Rattle.std.proofs.lemmas.Result.{err_from_is_err_and}
use Rattle.pst_token.specs.declared.kind.Kind.TheVariants as kind
use Rattle.pst_lexer.proofs.Numbered.{stay_other}
use Rattle.pst_lexer.proofs.Joining.{certain_last, finished}
use Rattle.pst_lexer.proofs.scan.Scanner.finish.Goals as goal

pub returns-in_err-scan-clause-fault : goal.returns-in_err-scan-clause-fault
returns-in_err-scan-clause-fault c =
    let p = err_from_is_err_and c.from_residual.result c.from_residual.ensures.1 in
    rw (p.1, p.2) (λ other. certain_last c.args.self c.scan.new.self c.in_err-scan.field-0.0 c.scan.ensures.kept (c.in_err-scan.ensures.fault other))

pub returns-clause-ok : goal.returns-clause-ok
returns-clause-ok c =
    finished c.scan.new.names c.args.self c.scan.new.self c.push.new.self.tokens.items c.scan.ensures.kept c.scan.ensures.scanning (c.in_ok-scan.ensures.done refl) c.in_ok-push.ensures.ok

pub returns-clause-numbered : goal.returns-clause-numbered
returns-clause-numbered c first h =
    stay_other c.scan.new.self.tokens.items c.push.new.self.tokens.items (length c.scan.new.names) kind.End 0 (pos 0) c.scan.new.self.place (λ same. cc) c.in_ok-push.ensures.ok first (c.in_ok-scan.ensures.numbered first h)

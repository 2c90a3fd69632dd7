use Rattle.std.proofs.Common.{◌≤◌, ℕ, List, map, string_bytes}
use Rattle.pst_words.specs.declared.command.Lines.{Lines}
use Rattle.pst_words.specs.Lines.{IsLine}
use Rattle.pst_portable.specs.declared.request.Request.{Request}
use Rattle.pst_portable.specs.Requests.{IsServable, IsRequest}
use Rattle.pst_portable.proofs.Done.{at_line, unlined_servable, unlined_is}
use Rattle.pst_portable.proofs.words.request_of_words.Goals as goal

pub request_of_line-requires : goal.request_of_line-requires
request_of_line-requires g c = (c.args.have, c.in-Ok.ensures.whole)

pub returns-in-Ok-clause-servable : goal.returns-in-Ok-clause-servable
returns-in-Ok-clause-servable g c =
    at_line (λ (x : Request). (ls : Lines) (n : ℕ) (ws : List (List ℕ)) → n ≤ 16 → IsLine ls n ws c.in-Ok.line.command (map string_bytes c.in-Ok.line.arguments.now) → IsServable ls n x) (IsServable c.args.lines c.args.have)
    c.request_of_line.result (λ x h. h c.args.lines c.args.have (map string_bytes c.args.words.now) c.requires c.in-Ok.ensures) c.request_of_line.ensures.servable

pub returns-in-Ok-clause-is : goal.returns-in-Ok-clause-is
returns-in-Ok-clause-is g c =
    let files = g.S.Shelf.files c.args.shelf.now in
    let old = g.S.Shelf.faults c.args.shelf.now in
    let new = g.S.Shelf.faults c.request_of_line.new.shelf in
    at_line (λ (x : Request). (ls : Lines) (n : ℕ) (ws : List (List ℕ)) → IsLine ls n ws c.in-Ok.line.command (map string_bytes c.in-Ok.line.arguments.now) → IsRequest ls n ws files old new x)
    (IsRequest c.args.lines c.args.have (map string_bytes c.args.words.now) files old new)
    c.request_of_line.result (λ x h. h c.args.lines c.args.have (map string_bytes c.args.words.now) c.in-Ok.ensures) c.request_of_line.ensures.is

pub returns-in-Ok-clause-unopened : goal.returns-in-Ok-clause-unopened
returns-in-Ok-clause-unopened g c = λ none. absurd (none c.in-Ok.line.command (map string_bytes c.in-Ok.line.arguments.now) c.in-Ok.ensures)

pub returns-in-Err-clause-servable : goal.returns-in-Err-clause-servable
returns-in-Err-clause-servable g c = unlined_servable c.args.lines c.in-Err.word c.args.have c.request_of_no_line.result c.request_of_no_line.ensures

pub returns-in-Err-clause-is : goal.returns-in-Err-clause-is
returns-in-Err-clause-is g c =
    unlined_is (g.S.Shelf.files c.args.shelf.now) (g.S.Shelf.faults c.args.shelf.now) c.args.lines c.args.have (map string_bytes c.args.words.now) c.in-Err.word c.request_of_no_line.result
    c.in-Err.ensures c.request_of_no_line.ensures

use Rattle.std.proofs.Common.{List, length, ap, arith}
use Rattle.pst_scen.specs.declared.event.Event.{Event}
use Rattle.pst_book.specs.Books.{View}
use Rattle.pst_workers.proofs.Working.{no_shorter}
use Rattle.pst_workers.proofs.shared.move_on.Goals as goal

pub starts_elsewhere-requires : goal.starts_elsewhere-requires
starts_elsewhere-requires g c =
    let first = ap (λ (t : List Event). length t) c.trace-before.ensures.value in
    let old = ap (λ (v : View). length v.trace) c.book.ensures.book in
    let last = ap (λ (t : List Event). length t) c.trace.ensures.value in
    let new = ap (λ (v : View). length v.trace) c.book-2.ensures.book in
    let grows = no_shorter g.N.Name.scenario g.N.Name.lanes c.ended.new.self.trace c.turn-turned.result.opened c.turn-turned.new.self.trace c.turn-turned.ensures.opens in
    omega (arith, first, old, last, new, grows)

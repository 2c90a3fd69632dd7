use Rattle.std.proofs.Common.{sym, subst}
use Rattle.pst_pool_sources.specs.Offers.{AreSources}
use Rattle.pst_open_ends.specs.Changes.{ends_undone, undone}
use Rattle.pst_free_ends.specs.Steps.{Follows, HasRoom}
use Rattle.pst_supply.proofs.walk.go_back.Goals as goal

pub leave-requires-clause-known : goal.leave-requires-clause-known
leave-requires-clause-known c = subst (AreSources c.args.among.now) (sym c.deref.ensures.value) c.requires.known

pub leave-requires-clause-follows : goal.leave-requires-clause-follows
leave-requires-clause-follows c = subst (Follows c.args.taken.now c.args.change.now) (sym c.deref.ensures.value) c.requires.follows

pub leave-requires-clause-has_room : goal.leave-requires-clause-has_room
leave-requires-clause-has_room c = subst (λ l. HasRoom c.args.among.now (ends_undone c.args.change.now.ends l)) (sym c.deref.ensures.value) c.requires.has_room

pub returns-clause-among : goal.returns-clause-among
returns-clause-among c =
    subst (AreSources c.leave.new.sources) (sym c.take_back.ensures)
    (subst (λ l. AreSources c.leave.new.sources (undone c.args.change.now l)) c.deref.ensures.value c.leave.ensures.sources)

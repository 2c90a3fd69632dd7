use Rattle.std.proofs.Common.{length, ◌∙◌, ap, arith}
use Rattle.pst_pool_sources.specs.Offers.{free_ends, AreSources}
use Rattle.pst_open_ends.specs.Changes.{ends_undone}
use Rattle.pst_free_ends.specs.Steps.{restored, unbegun}
use Rattle.pst_free_ends.proofs.Restores.{longer}
use Rattle.pst_free_ends.proofs.Leaves.{given_back, shrunk}
use Rattle.pst_free_ends.proofs.steps.leave.Goals as goal

pub put_end-requires : goal.put_end-requires
put_end-requires c = λ n p k.
    let taken = c.args.taken.now in
    let acts = c.args.acts.now in
    let mid = ends_undone c.args.change.now.ends acts in
    let a = ap (λ l. length (restored taken.near n p l)) (c.requires.known.ends n p) in
    let b = longer taken.far n p (restored taken.near n p (free_ends n p acts)) in
    let d = ap (λ l. length l) (c.requires.follows.takes.ends n p) in
    let e = c.requires.has_room n p k in
    omega arith

pub put_end-requires-2 : goal.put_end-requires-2
put_end-requires-2 c = λ n p k.
    let taken = c.args.taken.now in
    let acts = c.args.acts.now in
    let mid = ends_undone c.args.change.now.ends acts in
    let a = ap (λ l. length (restored taken.far n p l)) (c.put_end.ensures.ends n p ∙ ap (restored taken.near n p) (c.requires.known.ends n p)) in
    let d = ap (λ l. length l) (c.requires.follows.takes.ends n p) in
    let e = c.requires.has_room n p k in
    let r = c.put_end.ensures.room n p in
    omega arith

pub returns-clause-sources : goal.returns-clause-sources
returns-clause-sources c =
    let taken = c.args.taken.now in
    let acts = c.args.acts.now in
    let change = c.args.change.now in
    let mid = ends_undone change.ends acts in
    let back : AreSources c.unbegin.new.sources mid =
    given_back taken mid acts c.args.sources.now c.unbegin.new.sources c.requires.follows.takes c.requires.known
    (λ n p. c.unbegin.ensures.ends n p ∙ c.put_end-2.ensures.ends n p ∙ ap (restored taken.far n p) (c.put_end.ensures.ends n p))
    (λ p. c.unbegin.ensures.begun p ∙ ap (unbegun taken.begun p) (c.put_end-2.ensures.begun p ∙ c.put_end.ensures.begun p)) in
    shrunk change acts c.requires.follows.more c.requires.follows.begun c.unbegin.new.sources c.shrink.new.self back c.shrink.ensures.ends c.shrink.ensures.begun

pub returns-clause-room : goal.returns-clause-room
returns-clause-room c = λ n p. omega (arith, c.put_end.ensures.room n p, c.put_end-2.ensures.room n p, c.unbegin.ensures.room n p, c.shrink.ensures.room n p)

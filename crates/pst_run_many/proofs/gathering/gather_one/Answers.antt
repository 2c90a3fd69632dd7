use Rattle.std.proofs.Common.{◌≡◌, ◌<◌, ◌∙◌, ℕ, length, ap, sym, subst, arith}
use Rattle.atomic_table.specs.Seated.{TableId}
use Rattle.pst_post.specs.Seats.{seat_progress}
use Rattle.pst_post.specs.Steps.{with_seat}
use Rattle.pst_post.specs.Views.{entry_at}
use Rattle.pst_post.specs.declared.view.SeatStatus.TheVariants.{Gathered}
use Rattle.pst_desk.specs.Desks.{with_entries, entries_changed}
use Rattle.pst_desk.specs.Ended.{Collected}
use Rattle.pst_run_many.specs.Gathered.{IsSettled}
use Rattle.pst_run_many.proofs.Settling.{settled, others_settled}
use Rattle.pst_run_many.proofs.gathering.gather_one.Goals as goal

pub returns-clause-here : goal.returns-clause-here
returns-clause-here g c =
    let lane = c.lane-lane.result in
    let p = seat_progress c.args.seat in
    let own = c.lane-lane.ensures.lane in
    let wide = c.show_width.ensures in
    let words = ap (λ (t : TableId). t.words) c.requires.seat in
    let inside : lane < length c.args.desk.now.entries = omega (arith, wide, words, c.lane-lane.ensures.small) in
    subst (λ (k : ℕ). IsSettled p (entry_at c.ended-ended.new.self.entries k)) own
    (settled c.args.desk.now c.gather.new.self c.ended-ended.new.self lane p c.ended-ended.result inside
    (subst (λ (k : ℕ). c.gather.new.self ≡ with_entries c.args.desk.now (entries_changed c.args.desk.now.entries k (with_seat (Gathered p)))) (sym own) c.gather.ensures)
    c.ended-ended.ensures.collected c.ended-ended.ensures.gathered)

pub returns-clause-others : goal.returns-clause-others
returns-clause-others g c = λ k ne.
    let lane = c.lane-lane.result in
    let p = seat_progress c.args.seat in
    let own = c.lane-lane.ensures.lane in
    others_settled c.args.desk.now c.gather.new.self c.ended-ended.new.self lane p c.ended-ended.result
    (subst (λ (j : ℕ). c.gather.new.self ≡ with_entries c.args.desk.now (entries_changed c.args.desk.now.entries j (with_seat (Gathered p)))) (sym own) c.gather.ensures)
    c.ended-ended.ensures.collected k (λ same. ne (same ∙ own))

use Rattle.std.specs.Prelude.{◌≡◌, ℕ, ◌<◌, ◌++◌, List, drop, get_or, length}
use Rattle.std.proofs.Common.{arith, sym, ap, ◌∙◌, subst, Vec, Global}
use Rattle.std.proofs.lemmas.List.{drop_at, take_at}
use Rattle.std.specs.Vec.Iter.{into_iter_items}
use Rattle.atomic_table.specs.Seated.{TableId}
use Rattle.pst_model.specs.ModelView.{view_model}
use Rattle.pst_post.specs.Seats.{fresh_seat}
use Rattle.pst_scen.specs.Plan.{Entries}
use Rattle.pst_book.specs.Books.{View}
use Rattle.pst_lanes.specs.Lanes.{starts_on, ends_on}
use Rattle.pst_workers.specs.declared.crew.SeatedLane.{SeatedLane}
use Rattle.pst_workers.specs.Told.{Told, told, told_of, lane_at}
use Rattle.pst_run_many.specs.Stops.{Came}
use Rattle.pst_run_many.specs.Many.{RunsMany}
use Rattle.pst_run_many.proofs.Lanes.{told_at, told_before}
use Rattle.pst_run_many.proofs.many.run_in.Given.{Over}
use Rattle.pst_run_many.proofs.many.run_in.Goals as goal
use Rattle.pst_run_many.proofs.many.run_in.Goals.{After-put_behind}

-- the lanes that were handed in, as they are handed out again
owned_is : (g : Over) (c : After-put_behind g) → into_iter_items c.into_iter-rest.result ≡ c.args.lanes.now.items
owned_is g c = c.into_iter-rest.ensures.rest ∙ ap (λ (v : Vec g.row.T.Denot Global). v.items) c.replace.ensures.value

words_are : (g : Over) (c : After-put_behind g) → c.args.post.words ≡ g.N.Name.lanes
words_are g c = ap (λ (t : TableId). t.words) c.requires.post.0 ∙ c.requires.post.1

-- the lanes of which the run was, and the others behind them
whole_is : (g : Over) (c : After-put_behind g) → c.put_behind.new.lanes.items ≡ c.end_run-ended.new.lanes ++ into_iter_items c.seat_lanes-crew.new.lanes
whole_is g c =
    let ys = c.end_run-ended.new.lanes in
    let v = c.run_together-book.new.lanes in
    let many : length ys ≡ v.len = c.end_run-ended.ensures.count ∙ c.as_mut_slice.ensures.len in
    c.put_behind.ensures ∙ ap (λ (xs : List g.row.T.Denot). xs ++ into_iter_items c.seat_lanes-crew.new.lanes) (take_at ys (drop (length ys) v.items) v.len many)

pub returns-clause-others : goal.returns-clause-others
returns-clause-others g c =
    let lanes = c.end_run-ended.new.lanes in
    let book = ap (λ (v : View). v.lanes) c.requires.book in
    let count = c.end_run-ended.ensures.count in
    let many : length lanes ≡ c.args.book.lanes = omega (arith, count, book, c.as_mut_slice.ensures.len, c.run_together-book.ensures.count) in
    let words : c.args.post.words ≡ c.args.book.lanes = words_are g c ∙ sym book in
    ap (λ (xs : List g.row.T.Denot). drop c.args.book.lanes xs) (whole_is g c)
    ∙ (drop_at lanes (into_iter_items c.seat_lanes-crew.new.lanes) c.args.book.lanes many
    ∙ (c.seat_lanes-crew.ensures.rest ∙ (λ i. drop (words i) (owned_is g c i))))

pub returns-clause-runs : goal.returns-clause-runs
returns-clause-runs g c =
    let calls = g.T.Target.calls in
    let faults = g.T.Target.faults in
    let m = view_model c.args.job.now.model.now in
    let s = c.args.job.now.scenario.now in
    let book = c.run_together-book.result.0 in
    let first = c.run_together-book.result.1 in
    let again = c.run_together-book.ensures.book in
    let before = told_of calls faults c.args.lanes.now.items in
    let after = told_of calls faults c.put_behind.new.lanes.items in
    let mid = c.as_mut_slice.result.now in
    let value = c.as_mut_slice.ensures.value in
    let crew_count = c.seat_lanes-crew.ensures.count in
    let words = words_are g c in
    let came = λ (k : ℕ) (d : g.row.T.Denot) (h : k < length mid).
    let low : k < g.N.Name.lanes = omega (arith, h, c.as_mut_slice.ensures.len, c.run_together-book.ensures.count) in
    let seated : SeatedLane g.row.T.Denot = record { lane = d; seat = fresh_seat c.args.post 0 } in
    let all : k < length c.args.lanes.now.items = omega (arith, low, c.requires.lanes) in
    let crew = c.seat_lanes-crew.ensures.lanes k seated d (omega (arith, low, crew_count, words)) ∙ ap (λ (xs : List g.row.T.Denot). get_or xs k d) (owned_is g c) in
    let was : lane_at before k ≡ told calls faults (get_or c.seat_lanes-crew.result.items k seated).lane = told_at calls faults c.args.lanes.now.items k d all ∙ ap (λ (x : g.row.T.Denot). told calls faults x) (sym crew) in
    subst (λ (z : Told × List g.row.T.Denot). Came m s first k (starts_on k book.trace) (ends_on k book.trace) z.0 (told calls faults (get_or z.1 k d))) (λ i. (sym was i, sym value i)) (c.run_together-book.ensures.came k seated d low) in
    let same = λ (k : ℕ) (d : g.row.T.Denot) (h : k < length mid).
    let low : k < length c.end_run-ended.new.lanes = omega (arith, h, c.end_run-ended.ensures.count) in
    subst (λ (xs : List g.row.T.Denot). lane_at (told_of calls faults xs) k ≡ told calls faults (get_or c.end_run-ended.new.lanes k d)) (sym (whole_is g c))
    (told_before calls faults c.end_run-ended.new.lanes (into_iter_items c.seat_lanes-crew.new.lanes) k d low) in
    let plan = ap (λ (v : View). v.plan) again ∙ sym (ap (λ (v : View). v.plan) c.requires.book) in
    let lanes = ap (λ (v : View). v.lanes) again ∙ sym (ap (λ (v : View). v.lanes) c.requires.book) in
    subst (λ (z : Entries × ℕ). RunsMany m s z.0 z.1 before after c.end_run-ended.result) (λ i. (plan i, lanes i)) (c.end_run-ended.ensures.runs before after came same)

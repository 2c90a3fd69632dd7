use Rattle.std.proofs.Common.{◌∙◌, ap, sym, subst, map}
use Rattle.std.specs.Prelude.{IfOk}
use Rattle.pst_model.specs.ModelView.{view_step}
use Rattle.pst_legal.specs.Statements.{way_in, way_in_step}
use Rattle.pst_handle_nodes.specs.Ways.{Leads}
use Rattle.pst_handle_nodes.proofs.Rows.{way_sequence, way_parallel, way_schedule, way_joined}
use Rattle.pst_handle_nodes.proofs.ways.+ways.Goals as goal

pub find_in_step-returns-in-Sequence : goal.find_in_step-returns-in-Sequence
find_in_step-returns-in-Sequence t c =
    let h = c.args.handle in
    subst (λ o. IfOk c.find_in.result (λ found. Leads o found c.args.way.now.items c.find_in.new.way.items))
    (ap (λ xs. way_in h 0 (map view_step xs)) c.as_slice.ensures.value ∙ sym (ap (λ s. way_in_step h (view_step s)) c.in-Sequence.is ∙ way_sequence h c.in-Sequence.steps))
    c.find_in.ensures

pub find_in_step-returns-in-Parallel : goal.find_in_step-returns-in-Parallel
find_in_step-returns-in-Parallel t c =
    let h = c.args.handle in
    subst (λ o. IfOk c.find_in-in-Parallel.result (λ found. Leads o found c.args.way.now.items c.find_in-in-Parallel.new.way.items))
    (ap (λ xs. way_in h 0 (map view_step xs)) c.as_slice-in-Parallel.ensures.value ∙ sym (ap (λ s. way_in_step h (view_step s)) c.in-Parallel.is ∙ way_parallel h c.in-Parallel.steps))
    c.find_in-in-Parallel.ensures

pub find_in_step-returns-in-Schedule : goal.find_in_step-returns-in-Schedule
find_in_step-returns-in-Schedule t c =
    let h = c.args.handle in
    subst (λ o. IfOk c.find_in-in-Schedule.result (λ found. Leads o found c.args.way.now.items c.find_in-in-Schedule.new.way.items))
    (ap (λ xs. way_in h 0 (map view_step xs)) c.as_slice-in-Schedule.ensures.value ∙ sym (ap (λ s. way_in_step h (view_step s)) c.in-Schedule.is ∙ way_schedule h c.in-Schedule.steps))
    c.find_in-in-Schedule.ensures

pub find_in_step-returns-in-Joined : goal.find_in_step-returns-in-Joined
find_in_step-returns-in-Joined t c =
    let h = c.args.handle in
    subst (λ o. IfOk c.find_in-in-Joined.result (λ found. Leads o found c.args.way.now.items c.find_in-in-Joined.new.way.items))
    (ap (λ xs. way_in h 0 (map view_step xs)) c.as_slice-in-Joined.ensures.value ∙ sym (ap (λ s. way_in_step h (view_step s)) c.in-Joined.is ∙ way_joined h c.in-Joined.parallel c.in-Joined.join c.in-Joined.steps))
    c.find_in-in-Joined.ensures

use Rattle.std.proofs.Common.{◌≡◌, ◌∙◌, ◌/◌, ◌≤◌, ℕ, List, [], Bool, true, false, length, get_or, replicate, sym, ap, subst, arith}
use Rattle.std.proofs.lemmas.List.{get_or-replicate, length-replicate}
use Rattle.pst_scen.specs.declared.event.Event.{Event}
use Rattle.pst_scen.specs.Rows.{row_words}
use Rattle.pst_scen.specs.Plan.{Entries, widest}
use Rattle.pst_book.specs.Ready.{AreReady}
use Rattle.pst_book.specs.Waiting.{IsWaiting}
use Rattle.pst_book.proofs.book.Book.new.Goals as goal

-- at first all blocks are marked
ready_first : (p : Entries) (t : List Event) (marks : List Bool) (count : ℕ) → count ≡ length p.groups → marks ≡ replicate (row_words count) true → AreReady p t marks
ready_first p t marks count n e = record {
  many = ap (λ (v : List Bool). length v) e ∙ length-replicate (row_words count) true ∙ ap row_words n;
  marked = λ g l ready. ap (λ (v : List Bool). get_or v (g / 64) false) e ∙ get_or-replicate (row_words count) (g / 64) true false (omega (arith, l, n));
}

pub invariant_of-result : goal.invariant_of-result
invariant_of-result c =
    let p = c.args.plan.now in
    let run = c.in_ok-run.run' in
    let is = c.in_ok-run.ensures in
    let lanes = is.1 in
    let room = is.3 in
    let waits : IsWaiting p run.plan = subst (IsWaiting p) (sym is.0) c.in_ok-waiting.ensures in
    let some = c.requires.some in
    let few = c.requires.few in
    let many = c.requires.planned.entries.many in
    let groups : length run.plan.groups ≡ length p.groups = ap (λ (e : Entries). length e.groups) waits.is in
    let own : length run.plan.groups ≡ length c.in_ok-waiting.field-0.groups = ap (λ (e : Entries). length e.groups) is.0 in
    record {
      kept = record {
        links = c.requires.links;
        plan = c.requires.planned;
        some = omega (arith, some, lanes);
        few = omega (arith, few, lanes);
        wide = subst (λ (n : ℕ). widest p.groups ≤ n) (sym lanes) c.requires.wide;
        core = record { blocks = []; are = sym is.2; core = tt };
        small = c.requires.small;
        room = omega (arith, room, many, groups, own);
      };
      waits = waits;
      ready = ready_first run.plan run.trace c.in_ok-ready.ready.items c.len.result (c.len.ensures.is ∙ sym groups) c.in_ok-ready.ensures;
    }

use Rattle.std.proofs.Common.{map, sym, ap, subst, ◌∙◌}
use Rattle.std.specs.List.{find}
use Rattle.std.specs.Option.{option_map}
use Rattle.pst_model.specs.declared.model.Model.{Model}
use Rattle.pst_model.specs.ModelView.{view_model}
use Rattle.pst_legal.specs.SupplyReading.{spots}
use Rattle.pst_pool_sources.specs.Offers.{AreSources, fitting}
use Rattle.pst_open_ends.specs.Spots.{kept_spot}
use Rattle.pst_open_ends.specs.Changes.{opened}
use Rattle.pst_open_ends.specs.Turns.{turns, IsDoneBefore, AreNexts}
use Rattle.pst_supply.specs.Stops.{IsStop}
use Rattle.pst_supply.proofs.Sources.{begin_free, begin_ahead}
use Rattle.pst_supply.proofs.Known.{first_known}
use Rattle.pst_supply.proofs.walk.begin.Goals as goal

pub next_need-need-requires-clause-nexts : goal.next_need-need-requires-clause-nexts
next_need-need-requires-clause-nexts c =
    subst (λ l. AreNexts l c.deref-2.result.now) (sym c.deref-3.ensures.value)
    (subst (AreNexts c.in_ok-nexts.nexts.items) (c.deref.ensures.value ∙ sym c.deref-2.ensures.value) c.in_ok-nexts.ensures)

pub stop_at-requires-clause-next : goal.stop_at-requires-clause-next
stop_at-requires-clause-next c = c.next_need-need.ensures.next ∙ ap (λ l. option_map kept_spot (find (turns c.args.ties.now) (spots l))) (c.deref-2.ensures.value ∙ sym c.deref-5.ensures.value)

pub stop_at-requires-clause-done : goal.stop_at-requires-clause-done
stop_at-requires-clause-done c = subst (λ l. IsDoneBefore c.args.ties.now l c.next_need-need.result) (c.deref-2.ensures.value ∙ sym c.deref-5.ensures.value) c.next_need-need.ensures.done

pub stop_at-requires-clause-beyond : goal.stop_at-requires-clause-beyond
stop_at-requires-clause-beyond c = λ h. c.in_ok-beyond.ensures.new (c.is_some.ensures ∙ h)

pub stop_at-requires-clause-among : goal.stop_at-requires-clause-among
stop_at-requires-clause-among c =
    let acts = c.in_ok-acts.acts.items in
    let sources = c.in_ok-among.among in
    subst (AreSources sources) (sym c.deref-5.ensures.value)
    (begin_free (view_model c.args.model.now) c.args.leaves.now acts c.in_ok-acts.ensures sources (λ n p. c.in_ok-among.ensures.ends n p ∙ ap (fitting n p) c.deref-4.ensures.value) c.in_ok-among.ensures.begun)

pub returns : goal.returns
returns c =
    let news = c.in_ok-beyond.beyond in
    let m = view_model c.args.model.now in
    let acts = c.in_ok-acts.acts.items in
    let sources = c.in_ok-among.among in
    record {
      model = c.in_ok-beyond.ensures.model;
      level = c.in_ok-beyond.ensures.level;
      beyond = first_known news c.in_ok-first.first.need c.next_need-need.result c.in_ok-first.ensures.need (λ h. c.in_ok-beyond.ensures.new (c.is_some.ensures ∙ h));
      acts = c.in_ok-acts.ensures ∙ ap (λ (k : Model). map (opened (view_model k)) c.args.leaves.now) (sym c.in_ok-beyond.ensures.model);
      among = begin_free m c.args.leaves.now acts c.in_ok-acts.ensures sources (λ n p. c.in_ok-among.ensures.ends n p ∙ ap (fitting n p) c.deref-4.ensures.value) c.in_ok-among.ensures.begun;
      ahead = begin_ahead m c.args.leaves.now acts c.in_ok-acts.ensures;
      nexts = subst (AreNexts c.in_ok-nexts.nexts.items) c.deref.ensures.value c.in_ok-nexts.ensures;
      first = subst (λ l. IsStop (view_model news.model.now) c.args.ties.now l c.args.count news.level c.in_ok-first.first) c.deref-5.ensures.value c.in_ok-first.ensures.stop;
    }

use Rattle.std.proofs.Common.{◌≡◌, length, map, sym, ap, subst, ◌∙◌}
use Rattle.std.specs.Prelude.{reverse}
use Rattle.pst_model.specs.declared.model.Model.{Model}
use Rattle.pst_model.specs.ModelView.{view_model}
use Rattle.pst_scen.specs.Scenarios.{leaves_of}
use Rattle.pst_legal.specs.Binds.{bounds_of}
use Rattle.pst_open_ends.specs.Changes.{opened}
use Rattle.pst_open_ends.specs.Turns.{AreNexts}
use Rattle.pst_supply.specs.Stops.{IsStop}
use Rattle.pst_supply.specs.Made.{Ground, AllStand, CanLeave}
use Rattle.pst_supply.proofs.Known.{begin_known}
use Rattle.pst_supply.proofs.walk.SupplyWalk.with_order.Goals as goal

pub invariant_of-result : goal.invariant_of-result
invariant_of-result c =
    let begun = c.in_ok-begun.begun in
    let h = c.in_ok-begun.ensures in
    let m = view_model begun.beyond.model.now in
    let acts = begun.acts.items in
    let nodes = c.in_ok-nodes.nodes.items in
    let leaves = c.in_ok-leaves.leaves.items in
    let level = begun.beyond.level in
    let g : Ground = record { model = m; nodes = nodes; leaves = leaves; seed = c.args.seed; place = c.args.place; level = level } in
    let count : c.leaf_count-count.result ≡ length (leaves_of nodes) = c.leaf_count-count.ensures ∙ ap (λ l. length (leaves_of l)) (sym c.in_ok-nodes.ensures) in
    let ties : c.in_ok-ties.ties ≡ bounds_of m nodes =
    c.in_ok-ties.ensures ∙ ap (λ (k : Model). bounds_of (view_model k) c.args.nodes.now) (sym h.model) ∙ ap (bounds_of m) (sym c.in_ok-nodes.ensures) in
    let stop : IsStop m (bounds_of m nodes) acts (length (leaves_of nodes)) level begun.first =
    subst (λ k. IsStop m (bounds_of m nodes) acts k level begun.first) count
    (subst (λ b. IsStop m b acts c.leaf_count-count.result level begun.first) ties h.first) in
    let is : acts ≡ map (opened m) leaves = h.acts ∙ ap (map (opened m)) (sym c.in_ok-leaves.ensures) in
    record {
      count = count;
      beyond = begin_known begun.beyond begun.first c.new-2.result.items c.new-2.ensures.items h.beyond;
      ties = ties;
      nexts = subst (AreNexts begun.nexts.items) is h.nexts;
      among = h.among;
      ahead = h.ahead;
      leave = subst (λ l. CanLeave begun.among (reverse l) acts) (sym c.new-2.ensures.items) tt;
      stands = subst (λ l. AllStand g begun.first (reverse l) acts) (sym c.new-2.ensures.items) (is, stop);
    }

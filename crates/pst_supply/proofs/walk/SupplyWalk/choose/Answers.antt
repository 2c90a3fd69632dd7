use Rattle.std.proofs.Common.{◌≡◌, ℕ, ◌+◌, ◌<◌, List, [], ◌∷◌, ◌++◌, length, Some, ap, sym, subst, ◌∙◌, inr}
use Rattle.std.specs.Prelude.{reverse}
use Rattle.std.proofs.lemmas.List.{reverse-append, length-reverse}
use Rattle.std.proofs.lemmas.Option.{same_Some}
use Rattle.pst_model.specs.ModelTree.{ModelTree}
use Rattle.pst_model.specs.ModelView.{view_model}
use Rattle.pst_scen.specs.declared.act.Act.{Act}
use Rattle.pst_scen.specs.Scenarios.{leaves_of}
use Rattle.pst_legal.specs.Binds.{Bound, bounds_of}
use Rattle.pst_legal.specs.SupplyReading.{Source}
use Rattle.pst_pool_sources.specs.Offers.{AreSources}
use Rattle.pst_open_ends.specs.declared.spot.Spot.{Spot}
use Rattle.pst_open_ends.specs.Spots.{given_source}
use Rattle.pst_supply.specs.declared.walk.Made.{Made}
use Rattle.pst_supply.specs.Walks.{HasDigit, answer}
use Rattle.pst_supply.specs.Stops.{options_at, IsStop, stop_after}
use Rattle.pst_supply.specs.Choices.{NamesSource}
use Rattle.pst_open_ends.specs.Changes.{undone}
use Rattle.pst_open_ends.specs.Turns.{AreNexts}
use Rattle.pst_supply.specs.Made.{AllStand, CanLeave, AreKnown, ground_of}
use Rattle.pst_supply.proofs.Stands.{made_digit, one_more, stops}
use Rattle.pst_supply.proofs.Sources.{turn_is, open_is, still_leaves}
use Rattle.pst_supply.proofs.Known.{turn_known, all_nexts}
use Rattle.pst_supply.proofs.walk.SupplyWalk.choose.Goals as goal

same_options : (m : ModelTree) (a b : List Bound) (acts more : List Act) (j k level : ℕ) (need : Spot) → a ≡ b → acts ≡ more → j ≡ k → options_at m a acts j level need ≡ options_at m b more k level need
same_options m a b acts more j k level need e f g =
    ap (λ x. options_at m x acts j level need) e ∙ ap (λ x. options_at m b x j level need) f ∙ ap (λ x. options_at m b more x level need) g

pub pick-requires-clause-beyond : goal.pick-requires-clause-beyond
pick-requires-clause-beyond c =
    let w = c.self.inside in
    let made = reverse w.made.items in
    let at : c.stop_of.result ≡ stop_after w.first made = c.stop_of.ensures ∙ ap (λ l. stop_after w.first (reverse l)) (c.deref.ensures.value ∙ c.reserve.ensures.items) in
    turn_known w.beyond w.first w.made.items c.in-Some.need c.self.invariant.beyond (ap (λ s. s.need) (sym at) ∙ c.in-Some.is)

pub pick-requires-clause-among : goal.pick-requires-clause-among
pick-requires-clause-among c = subst (AreSources c.self.inside.among) (sym c.deref-2.ensures.value) c.self.invariant.among

pub pick-requires-clause-digit : goal.pick-requires-clause-digit
pick-requires-clause-digit c =
    let w = c.self.inside in
    let m = view_model w.beyond.model.now in
    let made = reverse w.made.items in
    let at : c.stop_of.result ≡ stop_after w.first made = c.stop_of.ensures ∙ ap (λ l. stop_after w.first (reverse l)) (c.deref.ensures.value ∙ c.reserve.ensures.items) in
    let has = subst (λ k. HasDigit (answer k) c.args.digit) (sym c.self.view_is) c.requires in
    let t = made_digit (ground_of w) w.first made w.acts.items c.args.digit c.self.invariant.stands has in
    let need : t.need ≡ c.in-Some.need = sym (same_Some c.in-Some.need t.need (sym c.in-Some.is ∙ ap (λ s. s.need) at ∙ t.is)) in
    subst (λ (l : List Source). c.args.digit < length l) (sym (same_options m w.ties (bounds_of m w.nodes.items) c.deref-2.result.now w.acts.items w.count (length (leaves_of w.nodes.items)) w.beyond.level c.in-Some.need c.self.invariant.ties c.deref-2.ensures.value c.self.invariant.count))
    (subst (λ n. c.args.digit < length (options_at m (bounds_of m w.nodes.items) w.acts.items (length (leaves_of w.nodes.items)) w.beyond.level n)) need t.below)

pub go_on-requires-clause-beyond : goal.go_on-requires-clause-beyond
go_on-requires-clause-beyond c =
    let w = c.self.inside in
    let made = reverse w.made.items in
    let at : c.stop_of.result ≡ stop_after w.first made = c.stop_of.ensures ∙ ap (λ l. stop_after w.first (reverse l)) (c.deref.ensures.value ∙ c.reserve.ensures.items) in
    turn_known w.beyond w.first w.made.items c.in-Some.need c.self.invariant.beyond (ap (λ s. s.need) (sym at) ∙ c.in-Some.is)

pub go_on-requires-clause-nexts : goal.go_on-requires-clause-nexts
go_on-requires-clause-nexts c =
    let w = c.self.inside in
    subst (λ l. AreNexts l w.acts.items) (sym c.deref-3.ensures.value) (all_nexts (ground_of w) w.first (reverse w.made.items) w.acts.items w.nexts.items c.self.invariant.stands c.self.invariant.nexts)

pub go_on-requires-clause-turn : goal.go_on-requires-clause-turn
go_on-requires-clause-turn c =
    let w = c.self.inside in
    let m = view_model w.beyond.model.now in
    let g = ground_of w in
    let made = reverse w.made.items in
    let need = c.in-Some.need in
    let at : c.stop_of.result ≡ stop_after w.first made = c.stop_of.ensures ∙ ap (λ l. stop_after w.first (reverse l)) (c.deref.ensures.value ∙ c.reserve.ensures.items) in
    let turn : (stop_after w.first made).need ≡ Some need = ap (λ s. s.need) (sym at) ∙ c.in-Some.is in
    turn_is (bounds_of m w.nodes.items) w.acts.items need (sym turn ∙ (stops g w.first made w.acts.items c.self.invariant.stands).next) (open_is need c.is_nothing.result c.is_nothing.ensures c.if-not-is_nothing.false)

pub invariant_of-self-2 : goal.invariant_of-self-2
invariant_of-self-2 c =
    let w = c.self.inside in
    let m = view_model w.beyond.model.now in
    let g = ground_of w in
    let made = reverse w.made.items in
    let need = c.in-Some.need in
    let new = c.go_on.new.acts.items in
    let at : c.stop_of.result ≡ stop_after w.first made = c.stop_of.ensures ∙ ap (λ l. stop_after w.first (reverse l)) (c.deref.ensures.value ∙ c.reserve.ensures.items) in
    let has = subst (λ k. HasDigit (answer k) c.args.digit) (sym c.self.view_is) c.requires in
    let t = made_digit g w.first made w.acts.items c.args.digit c.self.invariant.stands has in
    let same : t.need ≡ need = sym (same_Some need t.need (sym c.in-Some.is ∙ ap (λ s. s.need) at ∙ t.is)) in
    let below = subst (λ n. c.args.digit < length (options_at m (bounds_of m w.nodes.items) w.acts.items (length (leaves_of w.nodes.items)) w.beyond.level n)) same t.below in
    let turn : (stop_after w.first made).need ≡ Some need = ap (λ s. s.need) (sym at) ∙ c.in-Some.is in
    let options = same_options m w.ties (bounds_of m w.nodes.items) c.deref-2.result.now w.acts.items w.count (length (leaves_of w.nodes.items)) w.beyond.level need c.self.invariant.ties c.deref-2.ensures.value c.self.invariant.count in
    let many : c.len.result ≡ length made = c.len.ensures ∙ c.reserve.ensures.len ∙ w.made.ok.0 ∙ sym (length-reverse w.made.items) in
    let named = subst (λ k. NamesSource w.seed (w.place + k) (options_at m (bounds_of m w.nodes.items) w.acts.items (length (leaves_of w.nodes.items)) w.beyond.level need) c.args.digit (given_source c.in_ok-source.source)) many
    (subst (λ l. NamesSource w.seed (w.place + c.len.result) l c.args.digit (given_source c.in_ok-source.source)) options c.in_ok-source.ensures) in
    let stop = subst (λ k. IsStop m (bounds_of m w.nodes.items) new k w.beyond.level c.in_ok-went.went.stop) c.self.invariant.count
    (subst (λ b. IsStop m b new w.count w.beyond.level c.in_ok-went.went.stop) c.self.invariant.ties c.in_ok-went.ensures.gone.stop) in
    let x : Made = record { digit = c.args.digit; change = c.in_ok-went.went.change; taken = c.in_ok-went.went.taken; stop = c.in_ok-went.went.stop } in
    let items : c.push.new.self.items ≡ w.made.items ++ x ∷ [] = c.in-Ok.ensures.items ∙ ap (λ l. l ++ x ∷ []) c.reserve.ensures.items in
    let all : reverse c.push.new.self.items ≡ x ∷ made = ap reverse items ∙ reverse-append w.made.items (x ∷ []) in
    record {
      count = c.self.invariant.count;
      beyond = inr (turn_known w.beyond w.first w.made.items need c.self.invariant.beyond turn);
      ties = c.self.invariant.ties;
      nexts = c.self.invariant.nexts;
      among = c.go_on.ensures.among;
      ahead = c.go_on.ensures.ahead;
      leave = subst (λ l. CanLeave c.go_on.new.among l new) (sym all) (
        c.in_ok-went.ensures.follows,
        c.in_ok-went.ensures.has_room,
        still_leaves w.among c.go_on.new.among c.go_on.ensures.room made (undone x.change new) (subst (CanLeave w.among made) c.in_ok-went.ensures.gone.supplies.back c.self.invariant.leave),
      );
      stands = subst (λ l. AllStand g w.first l new) (sym all)
          (one_more g w.first made w.acts.items new x need (given_source c.in_ok-source.source) c.self.invariant.stands turn below named c.in_ok-went.ensures.gone.supplies stop);
    }

pub invariant_of-self-in_err-went : goal.invariant_of-self-in_err-went
invariant_of-self-in_err-went c =
    let w = c.self.inside in
    let g = ground_of w in
    let among = c.go_on.new.among in
    let acts = c.go_on.new.acts.items in
    let made = reverse w.made.items in
    let same : acts ≡ w.acts.items = c.in_err-went.ensures.err in
    let all : reverse c.reserve.new.self.items ≡ made = ap reverse c.reserve.ensures.items in
    record {
      count = c.self.invariant.count;
      beyond = subst (AreKnown w.beyond w.first) (sym c.reserve.ensures.items) c.self.invariant.beyond;
      ties = c.self.invariant.ties;
      nexts = c.self.invariant.nexts;
      among = c.go_on.ensures.among;
      ahead = c.go_on.ensures.ahead;
      leave = subst (λ l. CanLeave among l acts) (sym all) (subst (CanLeave among made) (sym same) (still_leaves w.among among c.go_on.ensures.room made w.acts.items c.self.invariant.leave));
      stands = subst (λ l. AllStand g w.first l acts) (sym all) (subst (AllStand g w.first made) (sym same) c.self.invariant.stands);
    }

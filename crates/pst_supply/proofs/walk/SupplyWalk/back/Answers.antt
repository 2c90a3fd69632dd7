use Rattle.std.proofs.Common.{◌≡◌, [], ◌∷◌, ◌++◌, ap, sym, subst, ◌∙◌, inr}
use Rattle.std.specs.Prelude.{reverse, option_to_list, Option}
use Rattle.std.proofs.lemmas.List.{reverse-append}
use Rattle.pst_open_ends.specs.Changes.{undone}
use Rattle.pst_free_ends.specs.Steps.{NoneAhead}
use Rattle.pst_supply.specs.declared.walk.Made.{Made}
use Rattle.pst_supply.specs.Made.{AllStand, CanLeave, ground_of}
use Rattle.pst_supply.proofs.Sources.{still_leaves}
use Rattle.pst_supply.proofs.Known.{made_known}
use Rattle.pst_supply.proofs.walk.SupplyWalk.back.Goals as goal

pub go_back-requires-clause-follows : goal.go_back-requires-clause-follows
go_back-requires-clause-follows c =
    let w = c.self.inside in
    let new = c.pop.new.self.items in
    let all : reverse w.made.items ≡ c.in-Some.last ∷ reverse new = ap reverse (c.pop.ensures.items ∙ ap (λ (o : Option Made). new ++ option_to_list o) c.in-Some.is) ∙ reverse-append new (c.in-Some.last ∷ []) in
    (subst (λ l. CanLeave w.among l w.acts.items) all c.self.invariant.leave).0

pub go_back-requires-clause-has_room : goal.go_back-requires-clause-has_room
go_back-requires-clause-has_room c =
    let w = c.self.inside in
    let new = c.pop.new.self.items in
    let all : reverse w.made.items ≡ c.in-Some.last ∷ reverse new = ap reverse (c.pop.ensures.items ∙ ap (λ (o : Option Made). new ++ option_to_list o) c.in-Some.is) ∙ reverse-append new (c.in-Some.last ∷ []) in
    (subst (λ l. CanLeave w.among l w.acts.items) all c.self.invariant.leave).1

pub invariant_of-self : goal.invariant_of-self
invariant_of-self c =
    let w = c.self.inside in
    let g = ground_of w in
    let last = c.in-Some.last in
    let new = c.pop.new.self.items in
    let all : reverse w.made.items ≡ last ∷ reverse new = ap reverse (c.pop.ensures.items ∙ ap (λ (o : Option Made). new ++ option_to_list o) c.in-Some.is) ∙ reverse-append new (last ∷ []) in
    let leave = subst (λ l. CanLeave w.among l w.acts.items) all c.self.invariant.leave in
    let stands = subst (λ l. AllStand g w.first l w.acts.items) all c.self.invariant.stands in
    record {
      count = c.self.invariant.count;
      beyond = inr (made_known w.beyond w.first w.made.items new last (c.pop.ensures.items ∙ ap (λ (o : Option Made). new ++ option_to_list o) c.in-Some.is) c.self.invariant.beyond);
      ties = c.self.invariant.ties;
      nexts = c.self.invariant.nexts;
      among = c.go_back.ensures.among;
      ahead = subst NoneAhead (sym c.go_back.ensures.undone) leave.0.ahead;
      leave = subst (CanLeave c.go_back.new.among (reverse new)) (sym c.go_back.ensures.undone)
          (still_leaves w.among c.go_back.new.among c.go_back.ensures.room (reverse new) (undone last.change w.acts.items) leave.2);
      stands = subst (AllStand g w.first (reverse new)) (sym c.go_back.ensures.undone) stands.2;
    }

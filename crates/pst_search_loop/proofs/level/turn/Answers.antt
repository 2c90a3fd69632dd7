use Rattle.std.proofs.Common.{◌≡◌, ◌<◌, ◌∷◌, ◌++◌, [], length, sym, ap, ◌∙◌, subst, arith}
use Rattle.std.specs.Prelude.{Option, option_to_list}
use Rattle.std.proofs.lemmas.Result.{IfOk-weaker}
use Rattle.pst_search_loop.specs.declared.frame.Frame.{Frame}
use Rattle.pst_search_loop.specs.Conflicts.{IsJoined}
use Rattle.pst_search_loop.specs.Kept.{Kept}
use Rattle.pst_search_loop.proofs.Stack.{IsPopped, stands_back, length_stands}
use Rattle.pst_search_loop.proofs.Turns.{backs_out, rank_back, one_more, went_turns}
use Rattle.pst_search_loop.proofs.level.turn.Goals as goal

pub returns-then-is_before : goal.returns-then-is_before
returns-then-is_before g c =
    let k : Kept = g.W.Walker.kept c.args.walker.now in
    let l : Kept = g.W.Walker.kept c.back.new.self in
    let fs = c.pop.new.self.items in
    let f = c.in-Some.frame in
    let split : c.args.frames.now.items ≡ fs ++ f ∷ [] = c.pop.ensures.items ∙ ap (λ (o : Option Frame). fs ++ option_to_list o) c.in-Some.is in
    let popped : IsPopped k l fs f = stands_back k l fs c.args.frames.now.items f c.back.ensures.0 c.requires.stands split c.back.ensures.1 in
    let size : c.len-at.result ≡ length l.choices = c.len-at.ensures ∙ c.pop.new.self.ok.0 ∙ sym (length_stands l fs popped.stands) in
    (backs_out k l fs f c.args.conflict popped c.requires.conflict (λ p h. subst (λ n. p < n) size (c.is_before.ensures c.if-is_before.true p h)), rank_back k l fs f popped (omega arith))

pub next-requires-clause-stands : goal.next-requires-clause-stands
next-requires-clause-stands g c =
    let k : Kept = g.W.Walker.kept c.args.walker.now in
    let l : Kept = g.W.Walker.kept c.back.new.self in
    let fs = c.pop.new.self.items in
    let f = c.in-Some.frame in
    let split : c.args.frames.now.items ≡ fs ++ f ∷ [] = c.pop.ensures.items ∙ ap (λ (o : Option Frame). fs ++ option_to_list o) c.in-Some.is in
    (stands_back k l fs c.args.frames.now.items f c.back.ensures.0 c.requires.stands split c.back.ensures.1).stands

pub next-requires-clause-options : goal.next-requires-clause-options
next-requires-clause-options g c =
    let k : Kept = g.W.Walker.kept c.args.walker.now in
    let l : Kept = g.W.Walker.kept c.back.new.self in
    let fs = c.pop.new.self.items in
    let f = c.in-Some.frame in
    let split : c.args.frames.now.items ≡ fs ++ f ∷ [] = c.pop.ensures.items ∙ ap (λ (o : Option Frame). fs ++ option_to_list o) c.in-Some.is in
    let popped : IsPopped k l fs f = stands_back k l fs c.args.frames.now.items f c.back.ensures.0 c.requires.stands split c.back.ensures.1 in
    (popped.right.scenario, popped.right.options)

pub next-requires-clause-passed : goal.next-requires-clause-passed
next-requires-clause-passed g c =
    let k : Kept = g.W.Walker.kept c.args.walker.now in
    let l : Kept = g.W.Walker.kept c.back.new.self in
    let fs = c.pop.new.self.items in
    let f = c.in-Some.frame in
    let split : c.args.frames.now.items ≡ fs ++ f ∷ [] = c.pop.ensures.items ∙ ap (λ (o : Option Frame). fs ++ option_to_list o) c.in-Some.is in
    let popped : IsPopped k l fs f = stands_back k l fs c.args.frames.now.items f c.back.ensures.0 c.requires.stands split c.back.ensures.1 in
    let size : c.len-at.result ≡ length l.choices = c.len-at.ensures ∙ c.pop.new.self.ok.0 ∙ sym (length_stands l fs popped.stands) in
    one_more k l fs f c.args.conflict c.join.new.self popped c.requires.conflict (subst (λ n. IsJoined f.reasons c.args.conflict n c.join.new.self) size c.in_ok-join.ensures)

pub returns : goal.returns
returns g c =
    let k : Kept = g.W.Walker.kept c.args.walker.now in
    let l : Kept = g.W.Walker.kept c.back.new.self in
    let fs = c.pop.new.self.items in
    let f = c.in-Some.frame in
    let split : c.args.frames.now.items ≡ fs ++ f ∷ [] = c.pop.ensures.items ∙ ap (λ (o : Option Frame). fs ++ option_to_list o) c.in-Some.is in
    let popped : IsPopped k l fs f = stands_back k l fs c.args.frames.now.items f c.back.ensures.0 c.requires.stands split c.back.ensures.1 in
    IfOk-weaker c.next.result _ _ (λ shown h. went_turns k l _ fs _ f shown popped (omega arith) h) c.next.ensures

use Rattle.std.proofs.Common.{◌≡◌, sym, subst, arith}
use Rattle.pst_search_loop.specs.declared.level.Found.{Found}
use Rattle.pst_search_loop.specs.declared.level.Found.TheVariants as found
use Rattle.pst_search_loop.specs.Kept.{Kept, FactsHold, at_level}
use Rattle.pst_search_loop.specs.Search.{Ends}
use Rattle.pst_search_loop.proofs.Past.{past_on, none_anywhere, none_at_last, spent_here, found_here, begun, still_of_search}
use Rattle.pst_search_loop.proofs.levels.search_levels.Goals as goal

pub search_level-requires-clause-facts : goal.search_level-requires-clause-facts
search_level-requires-clause-facts g c =
    let k : Kept = g.W.Walker.kept c.args.walker.now in
    let l : Kept = g.W.Walker.kept c.loop-walker.walker in
    let b : Kept = g.W.Walker.kept c.begin.new.self in
    let is : b ≡ at_level k c.loop-walker.level = begun k l b c.loop-walker.level c.loop-walker.invariant.of_search c.in_ok-begin.ensures in
    subst (λ (x : Kept). FactsHold x.facts) (sym is) c.requires.facts

pub returns-in-Here : goal.returns-in-Here
returns-in-Here g c =
    let k : Kept = g.W.Walker.kept c.args.walker.now in
    let l : Kept = g.W.Walker.kept c.loop-walker.walker in
    let b : Kept = g.W.Walker.kept c.begin.new.self in
    let n : Kept = g.W.Walker.kept c.search_level.new.walker in
    let level = c.loop-walker.level in
    let left = c.loop-walker.left in
    let is : b ≡ at_level k level = begun k l b level c.loop-walker.invariant.of_search c.in_ok-begin.ensures in
    let ends : Ends found.Here (at_level k level) n left = subst (λ (x : Kept). Ends found.Here x n left) is (subst (λ (f : Found). Ends f b n left) c.in-Here.is c.in_ok-search_level.ensures) in
    found_here c.whole_readings_are_built.ensures.built k n level c.args.budget left c.args.infer c.loop-walker.invariant.few c.loop-walker.invariant.past ends

pub returns-in-Spent : goal.returns-in-Spent
returns-in-Spent g c =
    let k : Kept = g.W.Walker.kept c.args.walker.now in
    let l : Kept = g.W.Walker.kept c.loop-walker.walker in
    let b : Kept = g.W.Walker.kept c.begin.new.self in
    let n : Kept = g.W.Walker.kept c.search_level.new.walker in
    let level = c.loop-walker.level in
    let left = c.loop-walker.left in
    let is : b ≡ at_level k level = begun k l b level c.loop-walker.invariant.of_search c.in_ok-begin.ensures in
    let ends : Ends found.Spent (at_level k level) n left = subst (λ (x : Kept). Ends found.Spent x n left) is (subst (λ (f : Found). Ends f b n left) c.in-Spent.is c.in_ok-search_level.ensures) in
    (c.loop-walker.invariant.few, spent_here k level c.args.budget left c.loop-walker.invariant.past ends.1)

pub returns-then-not-on_level : goal.returns-then-not-on_level
returns-then-not-on_level g c s few legal =
    let k : Kept = g.W.Walker.kept c.args.walker.now in
    let l : Kept = g.W.Walker.kept c.loop-walker.walker in
    let b : Kept = g.W.Walker.kept c.begin.new.self in
    let n : Kept = g.W.Walker.kept c.search_level.new.walker in
    let level = c.loop-walker.level in
    let left = c.loop-walker.left in
    let f : Found = found.Nothing c.in-Nothing.on_level c.in-Nothing.rest in
    let is : b ≡ at_level k level = begun k l b level c.loop-walker.invariant.of_search c.in_ok-begin.ensures in
    let ends : Ends f (at_level k level) n left = subst (λ (x : Kept). Ends f x n left) is (subst (λ (f : Found). Ends f b n left) c.in-Nothing.is c.in_ok-search_level.ensures) in
    none_anywhere c.legal_scenarios_are_read.ensures.legal k level left c.in-Nothing.rest c.in-Nothing.on_level c.requires.sound c.if-not-on_level.true ends.1 s legal

pub returns-then-infer-level : goal.returns-then-infer-level
returns-then-infer-level g c =
    let k : Kept = g.W.Walker.kept c.args.walker.now in
    let l : Kept = g.W.Walker.kept c.loop-walker.walker in
    let b : Kept = g.W.Walker.kept c.begin.new.self in
    let n : Kept = g.W.Walker.kept c.search_level.new.walker in
    let level = c.loop-walker.level in
    let left = c.loop-walker.left in
    let f : Found = found.Nothing c.in-Nothing.on_level c.in-Nothing.rest in
    let is : b ≡ at_level k level = begun k l b level c.loop-walker.invariant.of_search c.in_ok-begin.ensures in
    let ends : Ends f (at_level k level) n left = subst (λ (x : Kept). Ends f x n left) is (subst (λ (f : Found). Ends f b n left) c.in-Nothing.is c.in_ok-search_level.ensures) in
    none_at_last c.legal_scenarios_are_read.ensures.legal k level c.args.budget left c.in-Nothing.rest c.args.infer c.in-Nothing.on_level c.requires.sound (omega arith) c.loop-walker.invariant.past ends.1

pub loop-walker-preserved : goal.loop-walker-preserved
loop-walker-preserved g c =
    let k : Kept = g.W.Walker.kept c.args.walker.now in
    let l : Kept = g.W.Walker.kept c.loop-walker.walker in
    let b : Kept = g.W.Walker.kept c.begin.new.self in
    let n : Kept = g.W.Walker.kept c.search_level.new.walker in
    let level = c.loop-walker.level in
    let left = c.loop-walker.left in
    let f : Found = found.Nothing c.in-Nothing.on_level c.in-Nothing.rest in
    let is : b ≡ at_level k level = begun k l b level c.loop-walker.invariant.of_search c.in_ok-begin.ensures in
    let here : Ends f b n left = subst (λ (f : Found). Ends f b n left) c.in-Nothing.is c.in_ok-search_level.ensures in
    let ends : Ends f (at_level k level) n left = subst (λ (x : Kept). Ends f x n left) is here in
    record {
      of_search = still_of_search k b n level is here.0;
      past = past_on c.legal_scenarios_are_read.ensures.legal k level c.args.budget left c.in-Nothing.rest c.in-Nothing.on_level c.requires.sound c.loop-walker.invariant.past ends.1;
      few = omega arith;
    }

-- A block that the tables allow follows the core's rule.
use Rattle.std.proofs.Common.{◌≡◌, ℕ, suc, ◌+◌, ◌<◌, ◌≤◌, List, [], ◌∷◌, ◌++◌, length, get_or, map, take, sym, ap, ◌∙◌, subst, arith, append_assoc, take-suc}
use Rattle.std.specs.Prelude.{Bool, true, false, Option}
use Rattle.std.specs.Bool.{OnTrue}
use Rattle.std.proofs.lemmas.List.{map-append}
use Rattle.pst_scen.specs.declared.scenario.Scenario.{Scenario}
use Rattle.pst_scen.specs.declared.event.Event.{Event}
use Rattle.pst_scen.specs.declared.event.Event.TheVariants.{Start, End}
use Rattle.pst_scen.specs.Trace.{IsWholeGroup, Ends, events_of}
use Rattle.pst_scen.specs.Plan.{Entries, members}
use Rattle.pst_scen.specs.Plans.{IsPlanOf}
use Rattle.pst_scen.specs.Core.{IsReady}
use Rattle.pst_book.specs.Tables.{IsNext}
use Rattle.pst_order.specs.Laws.{PlanGroupsAreWhole, MustIsInside}
use Rattle.pst_order.specs.Rule.{FollowsRule}
use Rattle.pst_book.proofs.Openings.{conflict_in}
use Rattle.pst_by_rule.specs.Blocks.{act_of, lane_of, starts_in, block_of, IsOneBlock}
use Rattle.pst_by_rule.specs.Counted.{AreCounted, DidStart}
use Rattle.pst_by_rule.specs.Followed.{AreStarts}
use Rattle.pst_by_rule.proofs.Begun.{Begun, begun_more, begun_all}

-- the members that started are a whole block
pub starts_all : (p : Entries) (t now part : List Event) (group next : ℕ) → group < length p.groups → get_or p.groups group 0 ≡ group → length p.groups ≤ next
    → Begun p t now group next (map act_of part) (map lane_of part) → AreStarts p t part
starts_all p t now part group next l number past b = record {
  group = group;
  below = l;
  number = number;
  members_are = begun_all p t now group next (map act_of part) (map lane_of part) past b;
  join = b.join;
  free = record { many = b.many; different = b.different; below = b.below; idle = b.idle };
}

pub starts_follow : (whole : PlanGroupsAreWhole) (inside : MustIsInside) (s : Scenario) (p : Entries) (t part : List Event) → IsPlanOf s p → AreStarts p t part → FollowsRule s 16 t (starts_in part)
starts_follow whole inside s p t part plan a =
    let many = plan.entries.many in
    let g = a.group in
    let l : g < length s.actions = let b = a.below in omega (arith, b, many) in
    let group : IsWholeGroup s (map act_of part) =
    subst (λ ms. IsWholeGroup s ms) (sym a.members_are) (subst (λ v. IsWholeGroup s (members p.groups v)) a.number (whole s p g plan l).0) in
    let ready : IsReady s t (map act_of part) = record {
      group = group;
      fresh = λ x c. (a.join x c).fresh;
      awaited = λ x y c m.
          let y_in = group.inside y c in
          let x_in = inside s x y plan.runs y_in m in
          (a.join y c).awaited x (omega (arith, x_in, many)) ((plan.entries.must x y x_in y_in).1 m);
      clear = λ x y r c m.
          let both = conflict_in m in
          (a.join y c).clear x (let z = both.0 in omega (arith, z, many)) r ((plan.entries.conflict x y both.0 both.1).1 m);
    } in
    (ready, a.free)

-- one event more of a part
pub part_more : (f : Event → ℕ) (part : List Event) (i : ℕ) (d : Event) → i < length part → map f (take (i + 1) part) ≡ map f (take i part) ++ f (get_or part i d) ∷ []
part_more f part i d l = ap (λ xs. map f xs) (take_more part i d l) ∙ map-append f (take i part) (get_or part i d ∷ [])
  where
    take_more : (part : List Event) (i : ℕ) (d : Event) → i < length part → take (i + 1) part ≡ take i part ++ get_or part i d ∷ []
    take_more part i d l = let next : i + 1 ≡ suc i = omega arith in ap (λ v. take v part) next ∙ take-suc part i d l

pub trace_more : (t part : List Event) (i : ℕ) (d : Event) → i < length part → t ++ take (i + 1) part ≡ (t ++ take i part) ++ get_or part i d ∷ []
trace_more t part i d l =
    let next : i + 1 ≡ suc i = omega arith in
    ap (λ xs. t ++ xs) (ap (λ v. take v part) next ∙ take-suc part i d l) ∙ sym (append_assoc t (take i part) (get_or part i d ∷ []))

-- the one event of an end
pub end_is : (part : List Event) (a : ℕ) → IsOneBlock part → block_of part ≡ Ends a → part ≡ End a ∷ []
end_is part a one e = sym one.are ∙ ap events_of e

-- one start more
module _ (p : Entries) (t part : List Event) (group act next i : ℕ) (d : Event) (l : i < length part) (act_in : act < length p.groups) (n : IsNext p.groups act next)
    (olds olds' ended ended' : List Bool) (awaited awaited' way way' table table' : List ℕ) (holders holders' : List (Option ℕ)) where
  abbrev before : List Event
  before = t ++ take i part

  abbrev after : List Event
  after = t ++ take (i + 1) part

  pub begun_next : AreCounted p before olds ended awaited way table holders → DidStart p before (get_or part i d) act olds' ended' awaited' way' table' holders'
      → Begun p t before group act (map act_of (take i part)) (map lane_of (take i part))
      → Begun p t after group next (map act_of (take (i + 1) part)) (map lane_of (take (i + 1) part))
  begun_next counted did b =
      let acts : map act_of (take (i + 1) part) ≡ map act_of (take i part) ++ act ∷ [] =
      part_more act_of part i d l ∙ ap (λ e. map act_of (take i part) ++ act_of e ∷ []) did.is in
      let lanes : map lane_of (take (i + 1) part) ≡ map lane_of (take i part) ++ did.lane ∷ [] =
      part_more lane_of part i d l ∙ ap (λ e. map lane_of (take i part) ++ lane_of e ∷ []) did.is in
      let more : after ≡ before ++ Start act did.lane did.more ∷ [] = trace_more t part i d l ∙ ap (λ e. before ++ e ∷ []) did.is in
      subst (λ xs. Begun p t after group next xs (map lane_of (take (i + 1) part))) (sym acts)
      (subst (λ ys. Begun p t after group next (map act_of (take i part) ++ act ∷ []) ys) (sym lanes)
      (begun_more p t before group act next did.lane did.more (map act_of (take i part)) (map lane_of (take i part)) b
      act_in did.join (λ e. did.join.fresh (counted.tied.inside.begun act e)) did.below did.idle n after more))

  pub counted_next : DidStart p before (get_or part i d) act olds' ended' awaited' way' table' holders' → AreCounted p after olds' ended' awaited' way' table' holders'
  counted_next did = subst (λ v. AreCounted p v olds' ended' awaited' way' table' holders') (sym (trace_more t part i d l)) did.counted

pub on_true : (b : Bool) {A B : Type 0} → (A → B) → OnTrue b A → OnTrue b B
on_true true f a = f a
on_true false f a = a

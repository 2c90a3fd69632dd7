use Rattle.std.proofs.Common.{◌≡◌, ◌++◌, [], ◌<◌, ◌≤◌, ◌∙◌, List, length, map, take, sym, subst, arith, append-nil, take_all}
use Rattle.std.proofs.lemmas.Bool.{OnTrue_at}
use Rattle.pst_scen.specs.declared.event.Event.{Event}
use Rattle.pst_by_rule.specs.Blocks.{act_of, lane_of}
use Rattle.pst_by_rule.specs.Counted.{AreCounted}
use Rattle.pst_by_rule.proofs.Begun.{Begun, begun_none}
use Rattle.pst_by_rule.proofs.Ruled.{starts_all, begun_next, counted_next}
use Rattle.pst_by_rule.proofs.starts.follow_starts.Goals as goal

pub loop-i-init : goal.loop-i-init
loop-i-init c = record {
  begun = λ t ended k. subst (λ v. Begun c.args.plan.now t v c.act_of-group.result c.act_of-group.result [] []) (sym (append-nil t))
      (begun_none c.args.plan.now t c.act_of-group.result c.len-count.ensures.numbered (let a = c.if-group-count.false in omega (arith, a, c.len-count.ensures.is)) (sym c.group.ensures.is ∙ c.if-group.false));
  counted = λ t ended k. subst (λ v. AreCounted c.args.plan.now v c.args.started.now ended c.args.awaited.now c.args.in_the_way.now c.args.next.now c.args.holders.now) (sym (append-nil t)) k;
}

pub follow_start-requires-clause-counted : goal.follow_start-requires-clause-counted
follow_start-requires-clause-counted c =
    let k = c.requires.counted in
    (k.0 ++ take c.loop-i.i c.args.part.now, k.1, c.args.next.now, c.loop-i.invariant.counted k.0 k.1 k.2)

pub loop-i-preserved : goal.loop-i-preserved
loop-i-preserved c =
    let p = c.args.plan.now in
    let i = c.loop-i.i in
    let part = c.args.part.now in
    let v = c.loop-i.invariant in
    let act_in : c.loop-i.act < length p.groups = let a = c.if-act-count.false in omega (arith, a, c.len-count.ensures.is) in
    let l : i < length part = c.loop-i-test.true in
    record {
      begun = λ t ended k.
          let n = v.counted t ended k in
          let did = OnTrue_at c.if-not-follow_start.false (c.follow_start.ensures (t ++ take i part) ended c.args.next.now n) in
          begun_next p t part c.act_of-group.result c.loop-i.act _ i _ l act_in (n.tied.next_is c.loop-i.act act_in) _ _ _ _ _ _ _ _ _ _ _ _ n did (v.begun t ended k);
      counted = λ t ended k.
          let n = v.counted t ended k in
          let did = OnTrue_at c.if-not-follow_start.false (c.follow_start.ensures (t ++ take i part) ended c.args.next.now n) in
          counted_next p t part c.act_of-group.result c.loop-i.act _ i _ l act_in (n.tied.next_is c.loop-i.act act_in) c.loop-i.started _ ended _ c.args.awaited.now _ c.loop-i.in_the_way _ c.args.next.now _ c.loop-i.holders _ did;
    }

pub returns : goal.returns
returns c =
    λ t ended k.
    let p = c.args.plan.now in
    let part = c.args.part.now in
    let i = c.loop-i.i in
    let all : take i part ≡ part = take_all i part (let e = c.loop-i-test.false in omega (arith, e)) in
    let v = c.loop-i.invariant in
    let group_in : c.act_of-group.result < length p.groups = let a = c.if-group-count.false in omega (arith, a, c.len-count.ensures.is) in
    let past : length p.groups ≤ c.loop-i.act = let a = c.if-act-count-2.false in omega (arith, a, c.len-count.ensures.is) in (
      starts_all p t (t ++ take i part) part c.act_of-group.result c.loop-i.act group_in (sym c.group.ensures.is ∙ c.if-group.false) past
          (subst (λ (xs : List Event). Begun p t (t ++ take i part) c.act_of-group.result c.loop-i.act (map act_of xs) (map lane_of xs)) all (v.begun t ended k)),
      subst (λ (xs : List Event). AreCounted p (t ++ xs) c.loop-i.started ended c.args.awaited.now c.loop-i.in_the_way c.args.next.now c.loop-i.holders) all (v.counted t ended k),
    )

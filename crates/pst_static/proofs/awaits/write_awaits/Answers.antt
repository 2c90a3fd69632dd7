use Rattle.std.proofs.Common.{◌≡◌, ◌<◌, ◌∙◌, ℕ, List, length, get_or, set, sym, subst, length-set, get_or-set_same, get_or-set_other, arith}
use Rattle.pst_programs.proofs.Written.{get_below, of_get}
use Rattle.pst_static.specs.Awaiting.{IsDealtAt, IsNews}
use Rattle.pst_static.proofs.News.{turn_first, turn_last, turn_more, heard_more, less_left}
use Rattle.pst_static.proofs.awaits.write_awaits.Goals as goal

pub turns-init : goal.turns-init
turns-init c = record {
  turn = turn_first c.args.dealt.now c.args.latest.now c.args.heard.now.items c.args.act c.args.lane c.requires.once.only c.args.draft.now.items c.args.told.now;
  heard = c.requires.heard;
}

pub returns-in-None-clause-written : goal.returns-in-None-clause-written
returns-in-None-clause-written c =
    turn_last c.args.dealt.now c.args.latest.now c.args.heard.now.items c.args.act c.args.lane c.requires.once.only c.args.draft.now.items c.turns.draft.items c.turns.heard.items c.args.told.now c.turns.told c.turns.invariant.turn
    (λ m x n. c.in-None.ensures m x (get_below c.args.latest.now m n.row n.is_row)
    (subst (λ (h : List ℕ). IsNews c.args.dealt.now c.args.latest.now h c.args.act c.args.lane m x) (sym c.deref.ensures.value) n))

pub turns-preserved : goal.turns-preserved
turns-preserved c =
    let dealt = c.args.dealt.now in
    let latest = c.args.latest.now in
    let act = c.args.act in
    let lane = c.args.lane in
    let heard = c.turns.heard.items in
    let m = c.in-Some.other in
    let x = c.in-Some.action in
    let place = c.place_at-place.result in
    let news = subst (λ (h : List ℕ). IsNews dealt latest h act lane m x) c.deref.ensures.value c.in-Some.ensures.0 in
    let i = c.turns.invariant in
    let below : m < length latest = get_below latest m news.row news.is_row in
    let many = i.heard.many in
    let m_in : m < length heard = omega (arith, below, many) in
    let is : place ≡ get_or news.row.items act 0 = c.place_at-place.ensures.is news.row news.is_row in
    let at : IsDealtAt dealt place x m = subst (λ v. IsDealtAt dealt v x m) (sym is) news.at in
    let later = news.later in
    let x_in = c.requires.once.inside x m (of_get dealt at.0 (x, m) at.2) in
    record {
      turn = turn_more dealt latest c.args.heard.now.items act lane c.requires.once.only c.args.draft.now.items c.turns.draft.items heard c.args.told.now c.turns.told i.turn m x news
          (λ o y n. c.in-Some.ensures.1 o y (get_below latest o n.row n.is_row) (subst (λ (h : List ℕ). IsNews dealt latest h act lane o y) (sym c.deref.ensures.value) n)) (set heard m place) (get_or-set_same heard m place 0 m_in ∙ is) (λ o n. get_or-set_other heard m o place 0 n)
          c.push.new.self.items c.in_ok-push-in-Some.ensures.items x_in;
      heard = heard_more (length latest) dealt c.turns.draft.items c.push.new.self.items heard (set heard m place) m x place c.requires.once.only (λ one other a b. c.requires.once.once x m one other a b) at (omega (arith, later, is))
          c.in_ok-push-in-Some.ensures.items (length-set heard m place) (get_or-set_same heard m place 0 m_in) (λ o n. get_or-set_other heard m o place 0 n) i.heard;
    }

pub turns-smaller : goal.turns-smaller
turns-smaller c =
    let latest = c.args.latest.now in
    let heard = c.turns.heard.items in
    let m = c.in-Some.other in
    let place = c.place_at-place.result in
    let news = subst (λ (h : List ℕ). IsNews c.args.dealt.now latest h c.args.act c.args.lane m c.in-Some.action) c.deref.ensures.value c.in-Some.ensures.0 in
    let below : m < length latest = get_below latest m news.row news.is_row in
    let many = c.turns.invariant.heard.many in
    let is : place ≡ get_or news.row.items c.args.act 0 = c.place_at-place.ensures.is news.row news.is_row in
    let later = news.later in
    less_left (length c.args.dealt.now) heard m place (omega (arith, below, many)) (omega (arith, later, is)) c.place_at-place.ensures.within

pub bounds-told-action : goal.bounds-told-action
bounds-told-action c =
    let dealt = c.args.dealt.now in
    let n = c.in-Some.ensures.0 in
    let l = c.requires.once.inside c.in-Some.action c.in-Some.other (of_get dealt n.at.0 (c.in-Some.action, c.in-Some.other) n.at.2) in
    let many = c.turns.invariant.turn.many in
    omega (arith, l, many)

pub index_mut-requires : goal.index_mut-requires
index_mut-requires c =
    let n = c.in-Some.ensures.0 in
    let below = get_below c.args.latest.now c.in-Some.other n.row n.is_row in
    let many = c.turns.invariant.heard.many in
    omega (arith, below, many)

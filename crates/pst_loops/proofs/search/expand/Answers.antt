use Rattle.std.proofs.Common.{◌≡◌, ◌∙◌, ◌++◌, ◌∷◌, [], ◌+◌, ◌<◌, ◌≤◌, arith, ap, subst, sym, List, ℕ, Bool, false, length, get_or, take, length-append, Some}
use Rattle.std.proofs.lemmas.Option.{slice_get-get_or}
use Rattle.pst_loops.specs.Graph.{HasEdge}
use Rattle.pst_loops.specs.Search.{IsSearch, IsReached, IsGone, work}
use Rattle.pst_loops.proofs.Turns.{known_edge, new_edge, turned, edge_there, reached_on, row_read, still_reached, same_read, same_search, take_all, work_marked}
use Rattle.pst_loops.proofs.search.expand.Goals as goal
use Rattle.pst_loops.proofs.search.expand.Goals.{then-not-marks-next+in_ok-push, else-not-marks-next}

pub loop-next-init : goal.loop-next-init
loop-next-init c = record {
  search = c.requires.search;
  row = (let r = row_read c.args.edges.now c.args.top c.index-edges-top.result c.requires.within c.index-edges-top.is in (r.0, r.1, r.2 ∙ sym c.deref-next-items.ensures.value));
  reached = c.requires.reached;
  falls = omega arith;
}

pub returns-then-next-to-clause-yes : goal.returns-then-next-to-clause-yes
returns-then-next-to-clause-yes c =
    let row = c.deref-next-items.result.now in
    let e = edge_there c.args.edges.now c.args.top row c.loop-next.next-index 0 c.loop-next.invariant.row (omega arith) in
    reached_on c.args.edges.now c.args.from c.args.top c.args.to c.loop-next.marks c.loop-next.invariant.search.found c.loop-next.invariant.reached
    (subst (HasEdge c.args.edges.now c.args.top) c.if-next-to.true e)

pub bounds-marks-next : goal.bounds-marks-next
bounds-marks-next c =
    let e = edge_there c.args.edges.now c.args.top c.deref-next-items.result.now c.loop-next.next-index 0 c.loop-next.invariant.row (omega arith) in
    let b = c.requires.edges c.args.top _ e in
    let a = c.loop-next.invariant.search.all in
    omega arith

pub bounds-marks-next-then-not-marks-next : goal.bounds-marks-next-then-not-marks-next
bounds-marks-next-then-not-marks-next c =
    let e = edge_there c.args.edges.now c.args.top c.deref-next-items.result.now c.loop-next.next-index 0 c.loop-next.invariant.row (omega arith) in
    let b = c.requires.edges c.args.top _ e in
    let a = c.loop-next.invariant.search.all in
    omega arith

fallen : (old new marked most : ℕ) (s t : List ℕ) (y : ℕ) → new ≡ marked → marked + 1 ≡ old → t ≡ s ++ y ∷ [] → old + length s ≤ most → new + length t ≤ most
fallen old new marked most s t y e k p h = let n = simp length-append at (ap length p) in omega arith

pub loop-next-preserved : goal.loop-next-preserved
loop-next-preserved c =
    let row = c.deref-next-items.result.now in
    let i = c.loop-next.next-index in
    let l : i < length row = omega arith in
    let y = get_or row i 0 in
    let e = edge_there c.args.edges.now c.args.top row i 0 c.loop-next.invariant.row l in
    let b = c.requires.edges c.args.top y e in
    let a = c.loop-next.invariant.search.all in
    let m : y < length c.loop-next.marks = omega arith in
    record {
      search = elim c.if-not-marks-next.branch [
        | then-not-marks-next+in_ok-push w ↦ same_search c.args.edges.now c.args.from c.args.to _ _ _ _ (IsGone c.args.top (take (i + 1) row)) w.marks-is (ap (λ (v : _). v.items) w.stack-is ∙ w.in_ok-push.ensures.items)
            (new_edge c.args.edges.now c.args.from c.args.to c.loop-next.marks c.loop-next.stack.items c.args.top row i y c.loop-next.invariant.search l (same_read row i 0 y l) c.loop-next.invariant.reached e b c.if-next-to.false)
        | else-not-marks-next w ↦ same_search c.args.edges.now c.args.from c.args.to _ _ _ _ (IsGone c.args.top (take (i + 1) row)) w.marks-is (ap (λ (v : _). v.items) w.stack-is)
            (known_edge c.args.edges.now c.args.from c.args.to c.loop-next.marks c.loop-next.stack.items c.args.top row i y c.loop-next.invariant.search l (same_read row i 0 y l)
            (slice_get-get_or c.loop-next.marks y false m ∙ ap Some w.if-not-marks-next.false) c.if-next-to.false)
      ];
      row = c.loop-next.invariant.row;
      reached = elim c.if-not-marks-next.branch [ then-not-marks-next+in_ok-push w ↦ subst (λ (x : List Bool). IsReached c.args.from x c.args.top) (sym w.marks-is) (still_reached c.args.from c.loop-next.marks y c.args.top c.loop-next.invariant.reached) | else-not-marks-next w ↦ subst (λ (x : List Bool). IsReached c.args.from x c.args.top) (sym w.marks-is) c.loop-next.invariant.reached ];
      falls = elim c.if-not-marks-next.branch [ then-not-marks-next+in_ok-push w ↦ fallen (work c.loop-next.marks) _ _ _ c.loop-next.stack.items _ y (ap work w.marks-is) (work_marked c.loop-next.marks y false m w.if-not-marks-next.true) (ap (λ (v : _). v.items) w.stack-is ∙ w.in_ok-push.ensures.items) c.loop-next.invariant.falls | else-not-marks-next w ↦ rw (w.marks-is, w.stack-is) c.loop-next.invariant.falls ];
    }

pub returns-clause-yes : goal.returns-clause-yes
returns-clause-yes c =
    let row = c.deref-next-items.result.now in
    turned c.args.edges.now c.args.from c.args.to c.loop-next.marks c.loop-next.stack.items c.args.top row c.loop-next.invariant.row
    (subst (λ (x : List ℕ). IsSearch c.args.edges.now c.args.from c.args.to c.loop-next.marks c.loop-next.stack.items (IsGone c.args.top x)) (take_all row c.loop-next.next-index (omega arith)) c.loop-next.invariant.search)

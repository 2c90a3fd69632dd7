use Rattle.std.proofs.Common.{◌≡◌, ◌∙◌, ◌+◌, ◌≤◌, ◌++◌, length, take, ap, arith, length-append}
use Rattle.std.proofs.lemmas.Grind.{common_steps}
use Rattle.pst_io.proofs.Reading.{taken-whole, taken-more}
use Rattle.pst_io.proofs.whole.read_all.Goals as goal

pub returns-then-n-eq0-clause-whole : goal.returns-then-n-eq0-clause-whole
returns-then-n-eq0-clause-whole g c left told =
    c.reserve.ensures.items ∙ taken-whole _ _ _ _ c.loop-piece.invariant.taken (λ now is. ((c.in_ok-n.ensures.moved now is).end (omega arith)).0 c.if-n-eq0.true) left told

pub returns-then-n-eq0-clause-fits : goal.returns-then-n-eq0-clause-fits
returns-then-n-eq0-clause-fits g c left told =
    let all = returns-then-n-eq0-clause-whole g c left told in
    let sum : length c.reserve.new.self.items ≡ length c.args.into.now.items + length left = ap length all ∙ length-append _ _ in
    omega (arith, sum, ap length c.reserve.ensures.items)

pub loop-piece-preserved : goal.loop-piece-preserved
loop-piece-preserved g c =
    let kept = c.loop-piece.invariant in
    let read = c.in_ok-n.ensures in
    let n = c.in_ok-n.n in
    let fits : n ≤ length c.read.new.into = omega (arith, read.bound) in
    let items : c.extend_from_slice.new.self.items ≡ c.loop-piece.into.items ++ take n c.read.new.into = grind (arith, common_steps) in
    record {
      files = read.same_files ∙ kept.files;
      faults = read.count ∙ kept.faults;
      taken = rw items (taken-more _ _ _ _ _ n _ _ kept.taken fits read.moved read.left);
      start_is = kept.start_is;
      now_is = c.extend_from_slice.new.self.ok.0;
    }

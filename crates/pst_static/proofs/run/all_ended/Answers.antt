use Rattle.std.proofs.Common.{◌≡◌, ◌<◌, List, length, get_or, refl, ap, subst, ⊎_elim, arith}
use Rattle.std.proofs.lemmas.Bool.{cases_lt, cases_eq}
use Rattle.pst_programs.specs.declared.program.Instruction.{Instruction}
use Rattle.pst_programs.specs.Programs.{program_at}
use Rattle.pst_static.proofs.Moved.{program_beyond, read_is}
use Rattle.pst_static.proofs.run.all_ended.Goals as goal

pub returns-then-places-lane : goal.returns-then-places-lane
returns-then-places-lane c =
    let lane = c.loop-lane.lane in
    let e : length (program_at c.args.programs.now lane) ≡ length c.as_slice.result.now =
    ap (λ (v : List Instruction). length v) (read_is c.args.programs.now lane c.index-programs-lane.result c.as_slice.result.now c.loop-lane-test.true c.as_slice.ensures) in
    let k = c.if-places-lane.true in
    ((λ t. absurd cc), (λ h. absurd (h lane (omega (arith, e, k)))))

pub loop-lane-preserved : goal.loop-lane-preserved
loop-lane-preserved c =
    let lane = c.loop-lane.lane in
    let e : length (program_at c.args.programs.now lane) ≡ length c.as_slice.result.now =
    ap (λ (v : List Instruction). length v) (read_is c.args.programs.now lane c.index-programs-lane.result c.as_slice.result.now c.loop-lane-test.true c.as_slice.ensures) in
    let past = c.if-places-lane.false in
    let here : get_or c.args.places.now lane 0 < length (program_at c.args.programs.now lane) → ⊥ = λ h. omega (arith, h, e, past) in
    λ m l h. ⊎_elim (λ q. here (subst (λ v. get_or c.args.places.now v 0 < length (program_at c.args.programs.now v)) q h)) (λ q. c.loop-lane.invariant m (omega (arith, l, q)) h) (cases_eq m lane)

pub returns : goal.returns
returns c =
    let past = c.loop-lane-test.false in (
      λ t lane h. ⊎_elim (λ l. c.loop-lane.invariant lane (omega (arith, l, past)) h)
          (λ l. let e : length (program_at c.args.programs.now lane) ≡ 0 = ap (λ (v : List Instruction). length v) (program_beyond c.args.programs.now lane l) in omega (arith, h, e)) (cases_lt lane (length c.args.programs.now)),
      λ h. refl,
    )

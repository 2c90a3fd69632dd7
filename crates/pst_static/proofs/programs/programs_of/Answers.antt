use Rattle.std.proofs.Common.{◌≡◌, ◌+◌, ◌∙◌, ◌∷◌, [], List, length, Some, slice_get, refl, ap, sym, subst, ⊎_elim, length-append, arith}
use Rattle.std.specs.Prelude.{Contains}
use Rattle.std.specs.Global.{Vec}
use Rattle.std.proofs.lemmas.Bool.{cases_eq}
use Rattle.std.proofs.lemmas.Option.{slice_get_read}
use Rattle.pst_book.proofs.Elements.{none_in}
use Rattle.pst_programs.specs.declared.program.Instruction.{Instruction}
use Rattle.pst_programs.specs.declared.program.Instruction.TheVariants.{Run}
use Rattle.pst_programs.specs.declared.program.Program.{Program}
use Rattle.pst_programs.specs.Lanes.{on_lane}
use Rattle.pst_programs.specs.Programs.{program_at}
use Rattle.pst_programs.proofs.Places.{some_one}
use Rattle.pst_programs.proofs.Dealing.{on_contains}
use Rattle.pst_programs.proofs.Written.{get_below}
use Rattle.pst_static.specs.Drafts.{signalled}
use Rattle.pst_static.proofs.Signalled.{are_programs, draft_runs}
use Rattle.pst_static.proofs.Drafting.{facts, program_before, program_last}
use Rattle.pst_static.proofs.programs.programs_of.Goals as goal

pub program_of-requires : goal.program_of-requires
program_of-requires c =
    let p = c.args.plan.now in
    let d = c.requires.drafted in
    let dealt = c.args.dealt.now in
    let f = facts c.requires.planned.0 p c.requires.planned.1 c.whole_is_sound.ensures.clash c.members_are_those.ensures c.groups_are_whole.ensures.whole c.args.lanes d.order d.serial dealt d.deals in
    let lane = c.loop-lane.lane in
    let row = c.index-drafts-lane.result in
    let is : slice_get c.args.drafts.now lane ≡ Some row = slice_get_read c.args.drafts.now (length c.args.drafts.now) lane row refl c.loop-lane-test.true c.index-drafts-lane.is in
    λ a h.
    let r = draft_runs p d.order dealt lane [] row.items (on_lane dealt lane) (d.are.each lane row is) a (subst (λ (v : List Instruction). Contains v (Run a)) c.deref.ensures.value h) in
    let l = f.inside a lane (on_contains dealt lane a (⊎_elim (λ k. absurd (none_in (Run a) k)) (λ k. k) r)) in
    let n = d.are.many_told in
    omega (arith, l, n)

pub loop-lane-preserved : goal.loop-lane-preserved
loop-lane-preserved c =
    let programs = c.loop-lane.programs.items in
    let drafts = c.args.drafts.now in
    let told = c.args.told.now in
    let lane = c.loop-lane.lane in
    let program = c.in_ok-program.program in
    let i = c.loop-lane.invariant in
    let row = c.index-drafts-lane.result in
    let is : slice_get drafts lane ≡ Some row = slice_get_read drafts (length drafts) lane row refl c.loop-lane-test.true c.index-drafts-lane.is in
    let more = c.in_ok-push.ensures.items in
    let many = i.many in
    record {
      many = ap (λ (v : List Program). length v) more ∙ length-append programs (program ∷ []) ∙ ap (λ k. k + 1) i.many;
      each = λ m d l e. ap (λ (v : List Program). program_at v m) more
          ∙ ⊎_elim
          (λ q. let same : row ≡ d = some_one row d (sym is ∙ subst (λ k. slice_get drafts k ≡ Some d) q e) in
          program_last programs program m (omega (arith, q, many)) ∙ c.in_ok-program.ensures ∙ ap (signalled told) c.deref.ensures.value ∙ ap (λ (v : Vec Instruction). signalled told v.items) same)
          (λ q. program_before programs program m (omega (arith, l, q, many)) ∙ i.each m d (omega (arith, l, q)) e)
          (cases_eq m lane);
    }

pub returns : goal.returns
returns c =
    let p = c.args.plan.now in
    let d = c.requires.drafted in
    let dealt = c.args.dealt.now in
    let f = facts c.requires.planned.0 p c.requires.planned.1 c.whole_is_sound.ensures.clash c.members_are_those.ensures c.groups_are_whole.ensures.whole c.args.lanes d.order d.serial dealt d.deals in
    let past = c.loop-lane-test.false in
    let low = c.loop-lane.auto.lane-end in
    let i = c.loop-lane.invariant in
    let many = i.many in
    let n = d.are.many in
    are_programs p c.args.lanes d.order dealt c.args.drafts.now c.args.told.now c.loop-lane.programs.items d.serial d.deals f.only f.inside d.are (omega (arith, past, low, many, n))
    (λ l x e. let b = get_below c.args.drafts.now l x e in i.each l x (omega (arith, b, past)) e)

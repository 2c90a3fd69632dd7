use Rattle.std.proofs.Common.{◌∙◌, ◌++◌, ◌∷◌, [], ap, sym, subst, get_or, take, take_all}
use Rattle.std.specs.Prelude.{Contains}
use Rattle.std.proofs.lemmas.List.Elements.{Contains-get_or}
use Rattle.pst_programs.specs.declared.program.Instruction.TheVariants.{Run}
use Rattle.pst_static.specs.Drafts.{signalled}
use Rattle.pst_static.proofs.Dealt.{take_next}
use Rattle.pst_static.proofs.Signalled.{signalled_more}
use Rattle.pst_static.proofs.programs.program_of.Goals as goal

pub loop-step-preserved : goal.loop-step-preserved
loop-step-preserved c =
    let told = c.args.told.now in
    let draft = c.args.draft.now in
    let i = c.loop-step.step-index in
    let x = get_or draft i (Run 0) in
    c.in_ok-add_step.ensures ∙ ap (λ v. v ++ signalled told (x ∷ [])) c.loop-step.invariant ∙ sym (signalled_more told (take i draft) (x ∷ []))
    ∙ ap (signalled told) (sym (take_next draft i (Run 0) c.loop-step-test.true))

pub add_step-requires : goal.add_step-requires
add_step-requires c =
    λ a e. c.requires a (subst (λ v. Contains c.args.draft.now v) e (Contains-get_or c.args.draft.now c.loop-step.step-index (Run 0) c.loop-step-test.true))

pub returns : goal.returns
returns c = c.from_vec.ensures ∙ c.loop-step.invariant ∙ ap (signalled c.args.told.now) (take_all c.loop-step.step-index c.args.draft.now c.loop-step-test.false)

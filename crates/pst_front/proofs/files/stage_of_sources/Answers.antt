use Rattle.std.proofs.Common.{◌≡◌, ◌∙◌, ◌∷◌, [], ℕ, List, map, string_bytes, sym, ap, subst}
use Rattle.pst_words.specs.declared.command.Command.{Command}
use Rattle.pst_outcome.specs.Tasks.{AreSources}
use Rattle.pst_front.proofs.Said.{sources_come}
use Rattle.pst_line_parts.proofs.Rooted.{are_sources}
use Rattle.pst_front.proofs.files.stage_of_sources.Goals as goal

pub returns-then-is_gen : goal.returns-then-is_gen
returns-then-is_gen c =
    let arguments = map string_bytes c.args.line.now.arguments.now in
    let generated = c.in_ok-text.ensures.is in
    sources_come c.args.line.now.command arguments c.args.texts.now c.from_ref.result.now c.root_of-root.result.component.now c.root_of-root.result.action.now c.stage_of_texts.result
    (subst (λ (k : Command). AreSources k arguments c.args.texts.now c.from_ref.result.now) (sym c.if-is_gen.ensures) (generated.0, generated.1, c.from_ref.ensures.value ∙ ap (λ (t : List ℕ). t ∷ []) generated.2))
    c.root_of-root.ensures c.stage_of_texts.ensures

pub returns : goal.returns
returns c =
    sources_come c.args.line.now.command (map string_bytes c.args.line.now.arguments.now) c.args.texts.now c.args.texts.now c.root_of-root.result.component.now c.root_of-root.result.action.now c.stage_of_texts-2.result
    (are_sources c.args.line.now.command (map string_bytes c.args.line.now.arguments.now) c.args.texts.now c.if-is_gen.ensures) c.root_of-root.ensures c.stage_of_texts-2.ensures

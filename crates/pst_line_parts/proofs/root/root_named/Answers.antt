use Rattle.std.proofs.Common.{map, string_bytes, sym, subst, List, ℕ}
use Rattle.pst_outcome.specs.Tasks.{IsRoot}
use Rattle.pst_line_parts.proofs.Given.{root_there}
use Rattle.pst_line_parts.proofs.Rooted.{is_root}
use Rattle.pst_line_parts.proofs.root.root_named.Goals as goal

pub unreachable-requires : goal.unreachable-requires
unreachable-requires c = root_there c.args.line.now.command (map string_bytes c.args.line.now.arguments.now) c.requires.behind c.requires.other c.in-None.ensures

pub returns : goal.returns
returns c =
    let command = c.args.line.now.command in
    let arguments = map string_bytes c.args.line.now.arguments.now in
    let root = is_root command arguments c.in-Some.root.component.now c.in-Some.root.action.now c.requires.other
    (record { are = c.in-Some.ensures.0; component_is_name = c.in-Some.ensures.1; action_is_name = c.in-Some.ensures.2 }) in
    subst (λ (t : List ℕ). IsRoot command arguments t c.text_of_name-action.result.now) (sym c.text_of_name-component.ensures)
    (subst (λ (t : List ℕ). IsRoot command arguments c.in-Some.root.component.now t) (sym c.text_of_name-action.ensures) root)

use Rattle.pst_line_parts.proofs.Texts.{name_text}
use Rattle.pst_line_parts.proofs.root.text_of_name.Goals as goal

pub unreachable-requires : goal.unreachable-requires
unreachable-requires c = c.in-Err.ensures.cases.0 (name_text c.args.name.now c.requires)

use Rattle.std.proofs.Common.{◌∙◌, sym}
use Rattle.pst_shape.specs.Walks.{answer as shape_answer}
use Rattle.pst_link_walk.proofs.Opened.{options_next}
use Rattle.pst_link_walk.proofs.walk.is_at_place.Goals as goal

pub returns-in-Options : goal.returns-in-Options
returns-in-Options c = λ level so. options_next (shape_answer c.args.shape.now level) c.in-Options.field-0 (sym c.in-Options.is ∙ c.next.ensures level)

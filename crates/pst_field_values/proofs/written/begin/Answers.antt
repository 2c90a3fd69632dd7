use Rattle.pst_model.specs.ModelView.{view_model}
use Rattle.pst_known.specs.Known.{seen}
use Rattle.pst_field_values.proofs.Wider.{over_none}
use Rattle.pst_field_values.proofs.written.begin.Goals as goal

pub returns : goal.returns
returns c = record {
  over = over_none (view_model c.args.scene.now.model.now) (seen c.args.scene.now) c.args.subject.now c.requires.reached c.new.result.items c.in_ok-bounds.bounds.items c.new.ensures.items c.in_ok-bounds.ensures;
}

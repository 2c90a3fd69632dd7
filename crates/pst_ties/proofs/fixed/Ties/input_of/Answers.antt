use Rattle.std.proofs.Common.{◌∙◌, ap}
use Rattle.std.specs.List.{find}
use Rattle.std.specs.Option.{option_map}
use Rattle.pst_legal.specs.Binds.{is_from, to_of}
use Rattle.pst_ties.specs.declared.tied.End.{End}
use Rattle.pst_ties.specs.Tieds.{fixed_of}
use Rattle.pst_ties.proofs.Ends.{input_is}
use Rattle.pst_ties.proofs.fixed.Ties.input_of.Goals as goal

pub returns : goal.returns
returns c =
    let key : End = record { act = c.args.act; reference = c.args.reference } in
    ap fixed_of (c.other_end.ensures ∙ c.self.invariant.inputs key)
    ∙ input_is c.self.inside.found.items key
    ∙ ap (λ bounds. option_map to_of (find (is_from c.args.act c.args.reference) bounds)) c.self.view_is

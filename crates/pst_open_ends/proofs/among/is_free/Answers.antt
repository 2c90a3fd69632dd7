use Rattle.std.proofs.Common.{◌≡◌, ◌∙◌, ◌&&◌, Bool, true, false, not, if◌then◌else◌, ap, sym}
use Rattle.pst_scen.specs.declared.act.Link.TheVariants as link
use Rattle.pst_legal.specs.SupplyReading.{is_stream, is_writer, is_open, is_previous}
use Rattle.pst_open_ends.specs.Spots.{read_spot}
use Rattle.pst_open_ends.proofs.among.is_free.Goals as goal

pub returns-then-is_writer : goal.returns-then-is_writer
returns-then-is_writer c =
    let need = c.args.need.now in
    let spot = c.args.spot.now in
    let previous : Bool = is_previous c.args._acts.now need.pool (link.Act spot.act spot.reference) in
    let stream : is_stream need.flow ≡ false = sym c.is_stream.ensures ∙ c.if-is_stream.false in
    let writer : is_writer need.flow ≡ true = sym c.is_writer.ensures ∙ c.if-is_writer.true in
    ap not (c.requires writer)
    ∙ sym (ap (λ b. if b then is_open (read_spot spot) else not (is_writer need.flow && previous)) stream ∙ ap (λ b. not (b && previous)) writer)

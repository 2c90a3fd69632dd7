use Rattle.std.proofs.Common.{refl}
use Rattle.pst_io.proofs.out_sink.OutSinkSink.TheImpl.Goals as goal

pub reserve-tells : goal.reserve-tells
reserve-tells g c = record { room = rw c.ensures.ok c.ensures.room; refused = rw c.ensures.ok tt; same_bytes = refl; same_count = c.ensures.unchanged }

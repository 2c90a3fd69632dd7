use denote.Exit.{no}
use denote.Param.{param}
use denote.Param.Send.{param_send, arg_send, shr_send}
use Rattle.pst_post.proofs.mailbox.Post.TheSendSync as post
use Rattle.pst_post.proofs.seats.LaneSeat.TheSendSync as seat
use Rattle.pst_workers.proofs.shared.SharedDesk.TheSendSync as desk
use Rattle.pst_workers.proofs.Crossing.{job_crosses, six_cross}
use Rattle.pst_workers.proofs.crew.hand_over.Goals as goal

pub spawn_with-requires-send-F : goal.spawn_with-requires-send-F
spawn_with-requires-send-F g c κs within =
    param_send 2 _ (arg_send _ no _ (six_cross _ _ _ _ _ _ _ (shr_send _ _ _ c.type_bounds.sync-R) (shr_send _ _ _ (job_crosses _ _ c.type_bounds.sync-G)) (shr_send _ _ _ post.the_sync) (shr_send _ _ _ (desk.the_sync _ (param 1 g.row.N) g.N.Name)) c.type_bounds.send-T seat.the_send))

-- A model owns nothing but lists, boxes and numbers, so it may cross threads.
use denote.RattleType.{RattleType}
use denote.Param.Send.{IsSend, IsSync, sendable, struct_send, struct_sync, recorded_send, recorded_sync}
use denote.Struct.Declared.{shape}
use denote.Param.SendFields.{declared_send, declared_sync, variants_send, variants_sync}
use Rattle.std.proofs.Crossing.{crosses as std_crosses}
use Rattle.std.proofs.vec.Vec.TheSendSync as vec
use Rattle.std.proofs.boxed.Box.TheSendSync as boxed
use Rattle.std.proofs.alloc.Global.TheSendSync as global
use Rattle.std.below.std_heap.proofs.GlobalAllocator.TheSendSync as allocator
use Rattle.std.specs.contracts.vec.Vec as vec_type
use Rattle.std.specs.contracts.alloc.Global as global_type
use Rattle.std.specs.contracts.impls.GlobalAllocator.TheImpl.{ghosts}
use Rattle.pst_base.proofs.table.NameId.TheSendSync as name
use Rattle.pst_expr.specs.contracts.tree.Expr as expr_type
use Rattle.pst_expr.proofs.tree.Expr.TheLaws.TheKnot as expr
use Rattle.pst_expr.proofs.tree.BinaryOp.TheSendSync as binary
use Rattle.pst_expr.proofs.tree.UnaryOp.TheSendSync as unary
use Rattle.pst_model.specs.contracts.constraint.Slot as slot_type
use Rattle.pst_model.proofs.constraint.Slot.TheLaws.TheKnot as slot
use Rattle.pst_model.specs.contracts.constraint.Constraint as constraint_type
use Rattle.pst_expr.proofs.ranges.Span.TheSendSync as span
use Rattle.std.proofs.option.Option.TheSendSync as option
use Rattle.pst_model.proofs.activity.Join.TheSendSync as join
use Rattle.pst_model.proofs.activity.Tie.TheSendSync as tie
use Rattle.pst_model.proofs.activity.Step.TheLaws.TheKnot as step
use Rattle.pst_model.specs.contracts.activity.Step as step_type
use Rattle.pst_model.specs.contracts.activity.Activity as activity_type
use Rattle.pst_model.proofs.body.BodyStep.TheLaws.TheKnot as body
use Rattle.pst_model.specs.contracts.body.BodyStep as body_type
use Rattle.pst_model.specs.contracts.body.Source as source_type
use Rattle.pst_model.proofs.action.Field.TheSendSync as field
use Rattle.pst_model.proofs.action.Reference.TheSendSync as reference
use Rattle.pst_model.proofs.action.Claim.TheSendSync as claim
use Rattle.pst_model.specs.contracts.action.Content as content_type
use Rattle.pst_model.specs.contracts.action.ActionType as action_type
use Rattle.pst_model.proofs.object.ObjectKind.TheSendSync as kind
use Rattle.pst_model.specs.contracts.object.ObjectType as object_type
use Rattle.pst_model.proofs.model.Part.TheSendSync as part
use Rattle.pst_model.proofs.model.Pool.TheSendSync as pool
use Rattle.pst_model.proofs.model.Function.TheSendSync as function
use Rattle.pst_model.proofs.model.Serve.TheSendSync as serve
use Rattle.pst_model.specs.contracts.model.Model as model_type

vec_send : (R : RattleType) → IsSend R → IsSend (vec_type.the_row R global_type.the_row ghosts)
vec_send R s = vec.the_send R global_type.the_row ghosts s global.the_send allocator.the_frees

vec_sync : (R : RattleType) → IsSync R → IsSync (vec_type.the_row R global_type.the_row ghosts)
vec_sync R s = vec.the_sync R global_type.the_row ghosts s global.the_sync

expr_send : IsSend expr_type.the_row
expr_send = search (std_crosses, expr.crosses, sendable) depth 60 fits 20000

expr_sync : IsSync expr_type.the_row
expr_sync = search (std_crosses, expr.crosses, sendable) depth 60 fits 20000

slot_send : IsSend slot_type.the_row
slot_send = search (std_crosses, slot.crosses, sendable) depth 60 fits 20000

slot_sync : IsSync slot_type.the_row
slot_sync = search (std_crosses, slot.crosses, sendable) depth 60 fits 20000

expr_field_send : IsSend (expr_type.the_field).row
expr_field_send = search (std_crosses, expr.crosses, sendable) depth 60 fits 20000

expr_field_sync : IsSync (expr_type.the_field).row
expr_field_sync = search (std_crosses, expr.crosses, sendable) depth 60 fits 20000

constraint_field_send : IsSend (constraint_type.the_field).row
constraint_field_send = struct_send (shape constraint_type.the_type) (expr_field_send, (vec_send _ slot_send, tt))

constraint_field_sync : IsSync (constraint_type.the_field).row
constraint_field_sync = struct_sync (shape constraint_type.the_type) (expr_field_sync, (vec_sync _ slot_sync, tt))

constraint_send : IsSend constraint_type.the_row
constraint_send = recorded_send _ _ _ (constraint_type.the_type).to_one constraint_field_send

constraint_sync : IsSync constraint_type.the_row
constraint_sync = recorded_sync _ _ _ (constraint_type.the_type).to_one constraint_field_sync

ruleset sends = (constraint_field_send, constraint_send, span.the_field_send, span.the_send, join.the_field_send, join.the_send, option.the_field_send, option.the_send, boxed.the_send, vec.the_send, global.the_send, global.the_field_send, allocator.the_frees)

ruleset syncs = (constraint_field_sync, constraint_sync, span.the_field_sync, span.the_sync, join.the_field_sync, join.the_sync, option.the_field_sync, option.the_sync, boxed.the_sync, vec.the_sync, global.the_sync, global.the_field_sync)

step_send : IsSend step_type.the_row
step_send = search (std_crosses, step.crosses, sends, sendable) depth 60 fits 20000

step_sync : IsSync step_type.the_row
step_sync = search (std_crosses, step.crosses, syncs, sendable) depth 60 fits 20000

activity_send : IsSend activity_type.the_row
activity_send = declared_send activity_type.the_type (vec_send _ (search sendable), (vec_send _ step_send, (vec_send _ tie.the_send, tt)))

activity_sync : IsSync activity_type.the_row
activity_sync = declared_sync activity_type.the_type (vec_sync _ (search sendable), (vec_sync _ step_sync, (vec_sync _ tie.the_sync, tt)))

body_send : IsSend body_type.the_row
body_send = search (std_crosses, body.crosses, sends, sendable) depth 60 fits 20000

body_sync : IsSync body_type.the_row
body_sync = search (std_crosses, body.crosses, syncs, sendable) depth 60 fits 20000

content_send : IsSend content_type.the_row
content_send = variants_send content_type.enum ((vec_send _ body_send, tt), ((activity_send, tt), tt))

action_send : IsSend action_type.the_row
action_send = declared_send action_type.the_type (name.the_send, (name.the_send, (search sendable, (vec_send _ field.the_send, (vec_send _ reference.the_send, (vec_send _ claim.the_send, (vec_send _ constraint_send, (content_send, tt))))))))

object_send : IsSend object_type.the_row
object_send = declared_send object_type.the_type (name.the_send, (kind.the_send, (vec_send _ field.the_send, (vec_send _ constraint_send, tt))))

pub model_send : IsSend model_type.the_row
model_send = declared_send model_type.the_type (vec_send _ action_send, (vec_send _ object_send, (vec_send _ part.the_send, (vec_send _ pool.the_send, (vec_send _ function.the_send, (vec_send _ serve.the_send, tt))))))

content_sync : IsSync content_type.the_row
content_sync = variants_sync content_type.enum ((vec_sync _ body_sync, tt), ((activity_sync, tt), tt))

action_sync : IsSync action_type.the_row
action_sync = declared_sync action_type.the_type (name.the_sync, (name.the_sync, (search sendable, (vec_sync _ field.the_sync, (vec_sync _ reference.the_sync, (vec_sync _ claim.the_sync, (vec_sync _ constraint_sync, (content_sync, tt))))))))

object_sync : IsSync object_type.the_row
object_sync = declared_sync object_type.the_type (name.the_sync, (kind.the_sync, (vec_sync _ field.the_sync, (vec_sync _ constraint_sync, tt))))

pub model_sync : IsSync model_type.the_row
model_sync = declared_sync model_type.the_type (vec_sync _ action_sync, (vec_sync _ object_sync, (vec_sync _ part.the_sync, (vec_sync _ pool.the_sync, (vec_sync _ function.the_sync, (vec_sync _ serve.the_sync, tt))))))

use Rattle.std.proofs.Common.{length, ap, refl, arith}
use Rattle.std.proofs.lemmas.Result.{err_from_is_err_and}
use Rattle.std.proofs.lemmas.Option.{slice_get-get_or}
use Rattle.pst_model.specs.ConstraintTree.{view_constraint}
use Rattle.pst_body.specs.Sites.{place_of}
use Rattle.pst_body.specs.Stores.{Store}
use Rattle.pst_body.proofs.Passing.{can_at, begins_on, so_far_begins, passed_next, next_on, passed_stop, passed_all}
use Rattle.pst_body.proofs.call.pass_arguments.Goals as goal

pub loop-i-init : goal.loop-i-init
loop-i-init c = record {
  on = begins_on c.args.memory.now c.clear_arguments.new.self c.clear_arguments.ensures;
  many = ap (λ (s : Store). length s.arguments) c.clear_arguments.ensures;
  so_far = so_far_begins (place_of c.args.site.now c.args.turns.now) c.args.arguments.now c.args.ranges.now c.args.memory.now c.clear_arguments.new.self c.clear_arguments.ensures;
}

pub pass_argument-requires-clause-ready : goal.pass_argument-requires-clause-ready
pass_argument-requires-clause-ready c =
    can_at c.args.memory.now.room c.loop-i.memory.room c.args.arguments.now c.loop-i.i c.index-arguments-i.result c.loop-i-test.true c.index-arguments-i.is c.requires.each (ap (λ (s : Store). s.room) c.loop-i.invariant.on)

pub pass_argument-requires-clause-few : goal.pass_argument-requires-clause-few
pass_argument-requires-clause-few c = let many = c.loop-i.invariant.many in let few = c.requires.few in let below = c.loop-i-test.true in omega (arith, many, few, below)

pub loop-i-preserved : goal.loop-i-preserved
loop-i-preserved c =
    let below = c.loop-i-test.true in
    let many = c.requires.many in
    let done = c.in_ok-pass_argument.ensures in
    let was = c.loop-i.invariant.many in
    let grown = done.1 in
    record {
      on = next_on (tt {0}) (place_of c.args.site.now c.args.turns.now) (view_constraint c.index-arguments-i.result) _ c.args.memory.now c.loop-i.memory c.pass_argument.new.memory c.loop-i.invariant.on done;
      many = omega (arith, was, grown);
      so_far = passed_next (tt {0}) (place_of c.args.site.now c.args.turns.now) c.args.arguments.now c.args.ranges.now c.loop-i.i c.index-arguments-i.result _ c.args.memory.now c.loop-i.memory c.pass_argument.new.memory
          below many c.index-arguments-i.is (slice_get-get_or c.args.ranges.now c.loop-i.i _ (omega (arith, below, many))) c.loop-i.invariant.on done c.loop-i.invariant.so_far;
    }

pub returns-in_err-pass_argument : goal.returns-in_err-pass_argument
returns-in_err-pass_argument c =
    let p = err_from_is_err_and c.from_residual.result c.from_residual.ensures.1 in
    let below = c.loop-i-test.true in
    let many = c.requires.many in
    rw (p.1, p.2) (passed_stop (Unit {0}) (Unit {0}) (place_of c.args.site.now c.args.turns.now) c.args.arguments.now c.args.ranges.now c.loop-i.i c.index-arguments-i.result _ c.args.memory.now c.args.memory.now c.loop-i.memory c.pass_argument.new.memory c.in_err-pass_argument.field-0.0
    below many c.index-arguments-i.is (slice_get-get_or c.args.ranges.now c.loop-i.i _ (omega (arith, below, many))) refl c.loop-i.invariant.on c.in_err-pass_argument.ensures c.loop-i.invariant.so_far)

pub returns : goal.returns
returns c =
    let all = c.loop-i-test.false in
    passed_all (tt {0}) (place_of c.args.site.now c.args.turns.now) c.args.arguments.now c.args.ranges.now c.loop-i.i c.args.memory.now c.args.memory.now c.loop-i.memory all refl c.loop-i.invariant.on c.loop-i.invariant.so_far

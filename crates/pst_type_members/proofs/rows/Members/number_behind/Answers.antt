use Rattle.std.proofs.Common.{arith}
use Rattle.std.specs.List.{flat_map}
use Rattle.pst_tree.specs.Bases
use Rattle.pst_tree.specs.Needed.{needs_within}
use Rattle.pst_type_members.specs.Listed.{is_of}
use Rattle.pst_type_members.proofs.Rowed.{blank}
use Rattle.pst_type_members.proofs.Standing.{found_here, found_behind}
use Rattle.pst_type_members.proofs.rows.Members.number_behind.Goals as goal

pub returns-then-stands : goal.returns-then-stands
returns-then-stands c =
    let f = needs_within (is_of c.args.by) c.args.self.now in
    let types = c.args.types.now in
    found_here f types c.loop-type_.type_-index blank c.loop-type_-test.true c.args.member.now c.in_ok-stands.stands c.in_ok-stands.ensures c.loop-type_.before c.in-Some.number
    (Bases.number_in (flat_map f types) c.args.member.now) (omega (arith, c.in-Some.ensures)) c.loop-type_.invariant (omega (arith, c.if-stands.true))

pub loop-type_-preserved : goal.loop-type_-preserved
loop-type_-preserved c =
    let f = needs_within (is_of c.args.by) c.args.self.now in
    let types = c.args.types.now in
    found_behind f types c.loop-type_.type_-index blank c.loop-type_-test.true c.args.member.now c.in_ok-stands.stands c.in_ok-stands.ensures c.loop-type_.before c.in-Some.number
    (Bases.number_in (flat_map f types) c.args.member.now) (omega (arith, c.in-Some.ensures)) c.loop-type_.invariant (λ less. omega (arith, less, c.if-stands.false))

use Rattle.std.proofs.Common.{rules, ◌≡◌, ◌≤◌, ℕ, Option, length, subst, sym, ◌∙◌, arith}
use Rattle.std.specs.Prelude.{Some, None, slice_get}
use Rattle.std.specs.HashMap.{get}
use Rattle.pst_members.specs.Keys.{same_key}
use Rattle.pst_members.proofs.Walking.{IsPut, all_put, put_on, stands_within, before_there}
use Rattle.pst_members.proofs.own.put_members.Goals as goal

pub loop-at-preserved : goal.loop-at-preserved
loop-at-preserved c =
    let ds = c.args.declarations.now in
    let last = get same_key c.args.linked.now.last in
    let before = c.args.linked.now.before.items in
    let is : slice_get ds c.in-Some.position ≡ Some c.in-Some-member_at.member = sym c.member_at.ensures ∙ c.in-Some-member_at.is in
    put_on ds last before c.requires.linked c.args.scope c.args.versions.now c.args.base c.loop-at.versions c.loop-at.version c.with.new.self c.in_ok-version.version c.in-Some.position c.loop-at.at c.in-Some-member_at.member
    c.loop-at.invariant c.in-Some.is is c.in_ok-version.ensures.kept c.in_ok-version.ensures.added c.before-at.result
    (before_there ds last before c.requires.linked c.in-Some.position c.in-Some-member_at.member is c.before-at.result c.before-at.ensures)

pub returns-in_default-member_at-clause-over : goal.returns-in_default-member_at-clause-over
returns-in_default-member_at-clause-over c =
    let within = stands_within c.args.declarations.now c.args.scope c.args.versions.now c.args.base c.loop-at.versions c.loop-at.version c.loop-at.at c.loop-at.invariant c.in-Some.position c.in-Some.is in
    let past : length c.args.declarations.now ≤ c.in-Some.position = search rules in
    absurd (omega (arith, within, past))

pub returns-in_default-clause-over : goal.returns-in_default-clause-over
returns-in_default-clause-over c =
    let none : c.loop-at.at ≡ None = search rules in
    let put = subst (λ (at : Option ℕ). IsPut c.args.declarations.now c.args.scope c.args.versions.now c.args.base c.loop-at.versions c.loop-at.version at) none c.loop-at.invariant in
    all_put c.args.declarations.now (get same_key c.args.linked.now.last) c.args.linked.now.before.items c.requires.linked c.args.scope c.args.versions.now c.args.base c.loop-at.versions c.loop-at.version put

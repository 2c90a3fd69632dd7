use Rattle.std.proofs.Common.{◌≡◌, ℕ, ◌∷◌, ◌++◌, [], List, ◌≤◌, length, reverse, arith, sym, subst, ap, ◌∙◌}
use Rattle.std.specs.Prelude.{Some, None, Option, option_to_list}
use Rattle.std.proofs.lemmas.Grind.{common_steps}
use Rattle.std.proofs.lemmas.List.{length-append}
use Rattle.pst_ast.specs.declared.instance.Instance.{Instance}
use Rattle.pst_tree.specs.declared.walk.Pending.{Pending}
use Rattle.pst_tree.specs.Walked.{entry, pending_in, IsWalk}
use Rattle.pst_tree.proofs.Walking.{walk_begins, walk_goes_on, walk_is_long, walk_ends, no_items}
use Rattle.pst_tree.proofs.walk.walk.Goals as goal

pub loop-next-init : goal.loop-next-init
loop-next-init c =
    let ds = c.args.index.now in
    let root = c.args.root.now in
    let first : Instance = entry root.name.id root.name.id None in
    let listed : c.push.new.self.items ≡ first ∷ [] =
    c.in_ok-push.ensures.items ∙ ap (λ (xs : List Instance). xs ++ c.entry.result ∷ []) c.new-listed.ensures.items ∙ ap (λ (i : Instance). i ∷ []) c.entry.ensures in
    let coming : reverse c.add_row.new.pending.items ≡ pending_in ds 0 root ++ [] =
    c.in_ok-add_row.ensures ∙ ap (λ (ps : List Pending). pending_in ds 0 root ++ reverse ps) c.new-pending.ensures.items in
    record {
      few = omega (arith, ap length listed);
      walk = subst (λ (xs : List Instance). IsWalk ds root xs c.add_row.new.pending.items) (sym listed) (walk_begins ds root c.add_row.new.pending.items coming);
    }

pub returns-then-number-ge-LIMIT : goal.returns-then-number-ge-LIMIT
returns-then-number-ge-LIMIT c =
    let ds = c.args.index.now in
    let root = c.args.root.now in
    let split : c.loop-next.pending.items ≡ c.pop.new.self.items ++ c.in-Some.next ∷ [] =
    c.pop.ensures.items ∙ ap (λ (o : Option Pending). c.pop.new.self.items ++ option_to_list o) c.in-Some.is in
    let long : 256 ≤ length c.loop-next.listed.items = omega (arith, c.loop-next.listed.ok.0) in
    walk_is_long ds root c.loop-next.listed.items c.pop.new.self.items c.in-Some.next (subst (λ (ps : List Pending). IsWalk ds root c.loop-next.listed.items ps) split c.loop-next.invariant.walk) long

pub loop-next-preserved : goal.loop-next-preserved
loop-next-preserved c =
    let ds = c.args.index.now in
    let root = c.args.root.now in
    let p = c.in-Some.next in
    let next : Instance = entry p.name p.component.name.id (Some p.parent) in
    let split : c.loop-next.pending.items ≡ c.pop.new.self.items ++ p ∷ [] = c.pop.ensures.items ∙ ap (λ (o : Option Pending). c.pop.new.self.items ++ option_to_list o) c.in-Some.is in
    let listed : c.push-in-Some.new.self.items ≡ c.loop-next.listed.items ++ next ∷ [] =
    c.in_ok-push-2.ensures.items ∙ ap (λ (i : Instance). c.loop-next.listed.items ++ i ∷ []) c.entry-in-Some.ensures in
    let number : c.len-number.result ≡ length c.loop-next.listed.items = omega (arith, c.loop-next.listed.ok.0) in
    let coming : reverse c.add_row-in-Some.new.pending.items ≡ pending_in ds (length c.loop-next.listed.items) p.component ++ reverse c.pop.new.self.items =
    subst (λ (n : ℕ). reverse c.add_row-in-Some.new.pending.items ≡ pending_in ds n p.component ++ reverse c.pop.new.self.items) number c.in_ok-add_row-2.ensures in
    record {
      few = omega (arith, c.loop-next.listed.ok.0, ap length listed, length-append c.loop-next.listed.items (next ∷ []));
      walk = subst (λ (xs : List Instance). IsWalk ds root xs c.add_row-in-Some.new.pending.items) (sym listed)
          (walk_goes_on ds root c.loop-next.listed.items c.pop.new.self.items c.add_row-in-Some.new.pending.items p
          (subst (λ (ps : List Pending). IsWalk ds root c.loop-next.listed.items ps) split c.loop-next.invariant.walk) coming);
    }

pub returns : goal.returns
returns c =
    let ds = c.args.index.now in
    let root = c.args.root.now in
    let none : length c.loop-next.pending.items ≡ 0 = grind (arith, common_steps) in
    (walk_ends ds root c.loop-next.listed.items (subst (λ (ps : List Pending). IsWalk ds root c.loop-next.listed.items ps) (no_items c.loop-next.pending.items none) c.loop-next.invariant.walk), c.loop-next.invariant.few)

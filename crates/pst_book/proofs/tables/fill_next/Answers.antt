use Rattle.std.proofs.Common.{◌≡◌, ◌+◌, ◌-◌, ◌<◌, ◌∙◌, ℕ, length, get_or, slice_set, subst, sym, ⊎_elim, arith}
use Rattle.std.proofs.lemmas.Bool.{cases_eq}
use Rattle.std.proofs.lemmas.List.{length-set, get_or-set_same, get_or-set_other}
use Rattle.pst_book.specs.Tables.{IsNext}
use Rattle.pst_book.proofs.Founding.{IsSeen, seen_next, seen_here, seen_other}
use Rattle.pst_book.proofs.tables.fill_next.Goals as goal

pub acts-init : goal.acts-init
acts-init c =
    let n = c.len-count.ensures.is in
    record {
      below = omega (arith, n);
      many_next = c.requires.many_next;
      many_seen = c.requires.many_seen;
      next_is = λ a l m. absurd (omega (arith, l, m, n));
      seen_is = λ g l. subst (λ v. IsSeen c.args.plan.now.groups c.len-count.result g v) (sym (c.requires.none_seen g l))
          (record { behind = omega (arith, n); inside = omega arith; none_before = λ b x y e. omega (arith, x, y, n); same = λ m. absurd (omega (arith, m)) });
    }

pub acts-preserved : goal.acts-preserved
acts-preserved c =
    let groups = c.args.plan.now.groups in
    let v = c.acts.invariant in
    let i = c.acts.left - 1 in
    let x = get_or c.acts.seen c.group-group.result 0 in
    let some = c.acts-test.true in
    let e : c.acts.left ≡ i + 1 = omega (arith, some) in
    let l : i < length groups = let b = v.below in omega (arith, b, some) in
    let g : c.group-group.result ≡ get_or groups i 0 = c.group-group.ensures.is in
    let g_in : c.group-group.result < length groups = let k = c.group-group.ensures.least in omega (arith, k, l) in
    let before : IsSeen groups (i + 1) (get_or groups i 0) x =
    subst (λ (k : ℕ). IsSeen groups k (get_or groups i 0) x) e
    (subst (λ (h : ℕ). IsSeen groups c.acts.left h x) g (v.seen_is c.group-group.result g_in)) in
    record {
      below = omega (arith, l);
      many_next = length-set c.acts.next i x ∙ v.many_next;
      many_seen = length-set c.acts.seen c.group-group.result i ∙ v.many_seen;
      next_is = λ a lo m. ⊎_elim
          (λ q. subst (λ (k : ℕ). IsNext groups k (get_or (slice_set c.acts.next i x) k 0)) (sym q)
          (subst (λ (y : ℕ). IsNext groups i y) (sym (get_or-set_same c.acts.next i x 0 (omega (arith, l, v.many_next)))) (seen_next groups i l x before)))
          (λ q. subst (λ (y : ℕ). IsNext groups a y) (sym (get_or-set_other c.acts.next i a x 0 q)) (v.next_is a (omega (arith, lo, q, e)) m))
          (cases_eq a i);
      seen_is = λ h m. ⊎_elim
          (λ q. subst (λ (k : ℕ). IsSeen groups i k (get_or (slice_set c.acts.seen c.group-group.result i) k 0)) (sym q)
          (subst (λ (y : ℕ). IsSeen groups i c.group-group.result y) (sym (get_or-set_same c.acts.seen c.group-group.result i 0 (omega (arith, g_in, v.many_seen))))
          (subst (λ (k : ℕ). IsSeen groups i k i) (sym g) (seen_here groups i l))))
          (λ q. subst (λ (y : ℕ). IsSeen groups i h y) (sym (get_or-set_other c.acts.seen c.group-group.result h i 0 q))
          (seen_other groups i l h (get_or c.acts.seen h 0) (λ r. q (r ∙ sym g)) (subst (λ (k : ℕ). IsSeen groups k h (get_or c.acts.seen h 0)) e (v.seen_is h m))))
          (cases_eq h c.group-group.result);
    }

pub returns : goal.returns
returns c = record { many = c.acts.invariant.many_next; each = λ a l. c.acts.invariant.next_is a (let z = c.acts-test.false in omega (arith, z)) l }

use Rattle.std.proofs.Common.{rules, ◌≡◌, ◌%◌, ℕ}
use Rattle.std.specs.Prelude.{IfOk, Result, Ok, Err}
use Rattle.pst_base.specs.declared.memory.NoMemory.{NoMemory}
use Rattle.pst_members.specs.Found.{IsBranch, IsParted}
use Rattle.pst_members.proofs.Parting.{parted_on}
use Rattle.pst_members.proofs.versions.Versions.+part.Goals as goal

on_ok : (r : Result ℕ NoMemory) (P Q : ℕ → Type 0) → ((n : ℕ) → P n → Q n) → IfOk r P → IfOk r Q
on_ok (Ok n) P Q f p = f n p
on_ok (Err e) P Q f p = p

pub returns-then-key-other-clause-added : goal.returns-then-key-other-clause-added
returns-then-key-other-clause-added t c =
    let mid = c.part.new.self in
    let new = c.branch-self.new.self in
    let same : c.args.key % 2 ≡ c.args.other % 2 = search rules in
    on_ok c.branch-self.result (λ n. IsBranch mid c.args.key c.in_ok-below.below 0 new n) (λ n. IsParted c.args.key c.args.value c.args.other c.args.kept new n)
    (λ n branch. parted_on mid new c.args.key c.args.value c.args.other c.args.kept c.in_ok-below.below n same c.in_ok-below.ensures.added branch)
    c.branch-self.ensures.added

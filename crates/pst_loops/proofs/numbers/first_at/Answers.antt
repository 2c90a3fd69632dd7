use Rattle.std.proofs.Common.{rules, ◌≡◌, ◌∙◌, inl, inr, ap, sym, subst, ℕ, Some, get_or, arith}
use Rattle.std.specs.Prelude.{slice_get}
use Rattle.std.proofs.lemmas.Option.{slice_get-get_or}
use Rattle.pst_ast.specs.declared.scope_declaration.Declaration.{Declaration}
use Rattle.pst_loops.proofs.Joined.{there_within, some_is}
use Rattle.pst_loops.proofs.OneMore.{blank, below}
use Rattle.pst_loops.proofs.numbers.first_at.Goals as goal

pub returns-then-eq : goal.returns-then-eq
returns-then-eq c =
    let ds = c.args.declarations.now in
    let same : (get_or ds c.loop-at.at blank).name.place ≡ c.args.place = search rules in
    (get_or ds c.loop-at.at blank, slice_get-get_or ds c.loop-at.at blank (omega arith), same)

pub loop-at-preserved : goal.loop-at-preserved
loop-at-preserved c =
    let ds = c.args.declarations.now in
    let other : (get_or ds c.loop-at.at blank).name.place ≡ c.args.place → ⊥ = search rules in
    let there = slice_get-get_or ds c.loop-at.at blank (omega arith) in
    λ k d l e p. elim (below k c.loop-at.at l) [
      | inl s ↦ c.loop-at.invariant k d s e p
      | inr q ↦ other (ap (λ (z : Declaration). z.name.place) (some_is _ d (sym there ∙ subst (λ (n : ℕ). slice_get ds n ≡ Some d) q e)) ∙ p)
    ]

pub returns : goal.returns
returns c = λ k d e p. let l = there_within c.args.declarations.now k d e in c.loop-at.invariant k d (omega arith) e p

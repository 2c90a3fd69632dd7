-- Where one more declaration has its activity from.
use Rattle.std.proofs.Common.{◌≡◌, ◌⊎◌, inl, inr, ℕ, ◌+◌, List, [], ◌∷◌, ◌++◌, length, Option, refl, sym, ap, subst, ◌∙◌, arith}
use Rattle.std.specs.Prelude.{Some, None, slice_get}
use Rattle.pst_base.specs.declared.position.Place.{Place}
use Rattle.pst_ast.specs.DeclarationTree.{UnitTree}
use Rattle.pst_ast.specs.declared.scope_declaration.Declaration.{Declaration}
use Rattle.pst_type_rules.specs.Sites.{DeclaredAction, action_at}
use Rattle.pst_steady.specs.declared.reach.Seed.{Seed}
use Rattle.pst_steady.specs.declared.reach.Seed.TheVariants as seed
use Rattle.pst_steady.specs.Seeded.{IsSeed, AreSeeds}
use Rattle.pst_steady.proofs.Lists.{some_is, no_some, push_cases, push_length}

seed_kept : (action : Option DeclaredAction) (old new : List DeclaredAction) → ((k : ℕ) (a : DeclaredAction) → slice_get old k ≡ Some a → slice_get new k ≡ Some a) → (s : Seed) → IsSeed action old s → IsSeed action new s
seed_kept action old new kept (seed.Own k) is = record { is = is.is; found = is.found; there = kept k is.is is.there; active = is.active }
seed_kept action old new kept seed.Stop is = is
seed_kept action old new kept seed.Inherit is = is

module _ (units : List UnitTree) (ds : List Declaration) where
  pub no_seeds : (actions : List DeclaredAction) → AreSeeds units ds 0 actions []
  no_seeds actions = record { long = refl; each = λ i d s there at. absurd (no_some at) }

  pub one_more_seed : (n : ℕ) (old new : List DeclaredAction) (seeds : List Seed) (d : Declaration) (s : Seed) → slice_get ds n ≡ Some d
      → ((k : ℕ) (a : DeclaredAction) → slice_get old k ≡ Some a → slice_get new k ≡ Some a) → IsSeed (action_at units d.name.place) new s → AreSeeds units ds n old seeds
      → AreSeeds units ds (n + 1) new (seeds ++ s ∷ [])
  one_more_seed n old new seeds d s there kept is so_far = record {
    long = longer;
    each = λ i e t at given. elim (push_cases seeds s i t given) [
      | inl before ↦ seed_kept (action_at units e.name.place) old new kept t (so_far.each i e t at before)
      | inr last ↦
          let same : d ≡ e = some_is (sym there ∙ subst (λ (k : ℕ). slice_get ds k ≡ Some e) (last.0 ∙ so_far.long) at) in
          subst (λ (u : Seed). IsSeed (action_at units e.name.place) new u) last.1 (subst (λ (f : Declaration). IsSeed (action_at units f.name.place) new s) same is)
    ];
  }
    where
      longer : length (seeds ++ s ∷ []) ≡ n + 1
      longer = omega (arith, push_length seeds s, so_far.long)

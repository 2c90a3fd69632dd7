-- Binds are collected use by use.
use Rattle.std.proofs.Common.{◌≡◌, refl, sym, ◌∙◌, append_assoc}
use Rattle.std.specs.Prelude.{List, [], ◌∷◌, ◌++◌, map, Option, Some, None}
use Rattle.std.specs.List.{fold, filter_map, cons_option}
use Rattle.std.proofs.lemmas.List.{append-nil}
use Rattle.pst_base.specs.declared.table.NameId.{NameId}
use Rattle.pst_ast.specs.declared.leaf.Name.{Name}
use Rattle.pst_ast.specs.Uses.{Use, Joins}
use Rattle.pst_pool_binds.specs.PoolBinds.{ExplicitBind, explicit_of}
use Rattle.pst_pool_binds.specs.FoundBinds.{with_bind, with_use}

with_more : (binds : List ExplicitBind) (o : Option ExplicitBind) (rest : List ExplicitBind) → with_bind binds o ++ rest ≡ binds ++ cons_option o rest
with_more binds None rest = refl
with_more binds (Some b) rest = append_assoc binds (b ∷ []) rest

collected : (binds : List ExplicitBind) (us : List Use) → fold with_use binds us ≡ binds ++ filter_map explicit_of us
collected binds [] = sym (append-nil binds)
collected binds (u ∷ us) = collected (with_use binds u) us ∙ with_more binds (explicit_of u) (filter_map explicit_of us)

pub uses_collected : (us : List Use) → fold with_use [] us ≡ filter_map explicit_of us
uses_collected us = collected [] us

pub joins_are_none : (binds : List ExplicitBind) (labels : List NameId) (joined : List Name) → fold with_use binds (map (Joins labels) joined) ≡ binds
joins_are_none binds labels [] = refl
joins_are_none binds labels (name ∷ more) = joins_are_none binds labels more

-- What is used of the sources.
use Rattle.std.proofs.Common.{◌≡◌, ◌≤◌}
use Rattle.std.specs.Prelude.{Bool, true, false}
use Rattle.pst_model.specs.Limits.{most_elements}
use Rattle.pst_ast.specs.declared.scope_declaration.Declaration.{Declaration}
use Rattle.pst_ast.specs.declared.scope_declaration.Scope.TheVariants.{Part}
use Rattle.pst_ast.specs.declared.scope_declaration.Sort.{Sort}
use Rattle.pst_ast.specs.Sorts.{same_place, same_scope, is_field}
use Rattle.pst_tree.specs.Bases.{members_that}
use Rattle.pst_terms.specs.Sources.{Sources, declared_in}
use Rattle.pst_terms.specs.Fields.{count_of}
use Rattle.pst_terms.specs.Readings.{is_inner_sort}
use Rattle.pst_sound_model.proofs.Members.{In}
use Rattle.pst_sound_model.proofs.Owned.{HasOwnPlace, member_declared}

pub record AreFacts (s : Sources) : Type 0 where
  pub places : (d e : Declaration) → In d (declared_in s) → In e (declared_in s) → same_place e.name.place d.name.place ≡ true → e ≡ d
  pub scopes : (d e : Declaration) → In d (declared_in s) → In e (declared_in s) → is_inner_sort d.sort ≡ true → is_inner_sort e.sort ≡ false → same_scope d.scope (Part e.name.place) ≡ true → ⊥
  pub least : (d : Declaration) → In d (declared_in s) → is_field d.sort ≡ true → 1 ≤ count_of s d
  pub most : (d : Declaration) → In d (declared_in s) → is_field d.sort ≡ true → count_of s d ≤ most_elements

-- members of a type have places of their own
pub own_place : (s : Sources) → AreFacts s → (test : Sort → Bool) (type d : Declaration) → In d (members_that test (declared_in s) type) → HasOwnPlace (members_that test (declared_in s) type) d
own_place s facts test type d there = λ e h same. facts.places d e (member_declared test (declared_in s) type d there).0 (member_declared test (declared_in s) type e h).0 same

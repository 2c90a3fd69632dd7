-- What stands above and below in the tree of instances, one step at a time.
use Rattle.std.proofs.Common.{◌≡◌, ◌<◌, arith, sym, ap, ◌∙◌, append_assoc}
use Rattle.std.specs.Prelude.{ℕ, zero, suc, ◌+◌, ◌-◌, List, [], ◌∷◌, ◌++◌, length, drop, get_or}
use Rattle.std.specs.Option.{option_map_or, option_and_then}
use Rattle.std.proofs.lemmas.List.{drop_more}
use Rattle.pst_ast.specs.declared.leaf.Name.{Name}
use Rattle.pst_ast.specs.declared.instance.Instance.{Instance}
use Rattle.pst_bound_pools.specs.Serving.{parent_of, above_within, child_named, led_to}

-- a name where one has to stand
abbrev pub blank_name : Name
blank_name = record { id = record { 0 = 0 }; place = record { file = 0; line = 0; column = 0 } }

module _ (instances : List Instance) where
  pub above_more : (k : ℕ) (above : List ℕ) (here : ℕ) → 0 < k
      → above ++ above_within k instances here ≡ (above ++ here ∷ []) ++ option_map_or (above_within (k - 1) instances) (parent_of instances here) []
  above_more zero above here some = absurd (omega (arith, some))
  above_more (suc k) above here some =
      let same : k ≡ suc k - 1 = omega arith in
      ap (λ (n : ℕ). above ++ here ∷ option_map_or (above_within n instances) (parent_of instances here) []) same
      ∙ sym (append_assoc above (here ∷ []) (option_map_or (above_within (suc k - 1) instances) (parent_of instances here) []))

  pub led_more : (number : ℕ) (names : List Name) (i : ℕ) → i < length names
      → led_to instances number (drop i names) ≡ option_and_then (λ child. led_to instances child (drop (i + 1) names)) (child_named instances number (get_or names i blank_name).id)
  led_more number names i within = ap (led_to instances number) (drop_more names i blank_name within)

-- What judging sources says of them.
use Rattle.std.specs.Prelude.{◌≡◌, ℕ, ◌+◌, ◌≤◌, List, length, Option, Some, None, Result, Ok, Err}
use Rattle.pst_ast.specs.declared.instance.Instance.{Instance}
use Rattle.pst_ast.specs.DeclarationTree.{UnitTree}
use Rattle.pst_bind.specs.declared.pool_map.PoolMap.{PoolMap}
use Rattle.pst_bind.specs.PoolRules.{IsPoolMap}
use Rattle.pst_evaluate.specs.Kept.{known_in}
use Rattle.pst_evaluate.specs.Settled.{AreItemValues}
use Rattle.pst_model.specs.Limits.{most_instances}
use Rattle.pst_name_rules.specs.Earlier.{earlier}
use Rattle.pst_ast.specs.Breaches.{IsLeast, IsNone}
use Rattle.pst_ast.specs.declared.referent.Finding.{Finding}
use Rattle.pst_tree.specs.Instances.{AreInstances}
use Rattle.pst_type_rules.specs.Typed.{AreConstants}
use Rattle.pst_elab_rules.specs.declared.end.ElabEnd.{ElabEnd}
use Rattle.pst_elab_rules.specs.declared.end.ElabEnd.TheVariants as the_end
use Rattle.pst_elab_rules.specs.Ends.{AreTyped, HasMany, IsFirstBreach, LastBreach, root_number, root_place}
use Rattle.pst_source_rules.specs.declared.judged.Judged.{Judged}

-- the pools and the root where no rule of pools and of the root is broken, or else the least breach
abbrev pub IsLast : List UnitTree → List (List ℕ) → List Instance → List ℕ → List ℕ → Result (PoolMap × ℕ) Finding → Type 0
IsLast units names instances component action (Ok found) =
    IsPoolMap units instances found.0.pools found.0.served × IsNone (LastBreach units names instances component action) × (root_number units names instances component action ≡ Some found.1)
IsLast units names instances component action (Err f) = IsLeast (LastBreach units names instances component action) f.place f.rule

-- sources that keep all rules, with their constants, the values of their enum items, instances, pools and root
pub record IsJudged (units : List UnitTree) (names : List (List ℕ)) (component action : List ℕ) (j : Judged) : Type 0 where
  pub typed : AreTyped units names
  pub constants : AreConstants units names j.typed.constants
  pub values : AreItemValues units names (known_in j.values)
  pub instances : AreInstances units names j.tree.instances
  pub few : length j.tree.instances ≤ most_instances
  pub pooled : IsPoolMap units j.tree.instances j.pools.pools j.pools.served
  pub last : IsNone (LastBreach units names j.tree.instances component action)
  pub is_root : root_number units names j.tree.instances component action ≡ Some j.root

-- why sources aren't judged so, where memory sufficed
abbrev pub IsEnd : List UnitTree → List (List ℕ) → List ℕ → List ℕ → ElabEnd → Type 0
IsEnd units names component action (the_end.Broken place rule) = IsFirstBreach units names component action place rule
IsEnd units names component action (the_end.Many count) = (count ≡ most_instances + 1) × HasMany units names
IsEnd units names component action the_end.NoMemory = Unit {0}

-- ---- both parts together

abbrev pub no_root : Finding
no_root = record { place = root_place; rule = 24 }

abbrev pub or_first : Option Finding → Finding → Finding
or_first None f = f
or_first (Some g) f = g

abbrev pub both_of : Result PoolMap Finding → Option ℕ → Result (PoolMap × ℕ) Finding
both_of (Ok found) (Some root) = Ok (found, root)
both_of (Ok found) None = Err no_root
both_of (Err f) (Some root) = Err f
both_of (Err f) None = Err (or_first (earlier (Some f) (Some no_root)) f)

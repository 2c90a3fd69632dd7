-- What is found of the pools of sources.
use Rattle.std.specs.Prelude.{◌≡◌, List, Result, Ok, Err}
use Rattle.pst_ast.specs.declared.instance.Instance.{Instance}
use Rattle.pst_ast.specs.DeclarationTree.{UnitTree}
use Rattle.pst_ast.specs.Breaches.{IsLeast, IsNone}
use Rattle.pst_ast.specs.declared.referent.Finding.{Finding}
use Rattle.pst_name_rules.specs.Leasts.{IsLeastOf}
use Rattle.pst_names.specs.declared.end.RuleEnd.{RuleEnd}
use Rattle.pst_names.specs.declared.end.RuleEnd.TheVariants as rule_end
use Rattle.pst_bind.specs.declared.pool_map.PoolMap.{PoolMap}
use Rattle.pst_bind.specs.declared.judging.Judged.{Judged}
use Rattle.pst_bind.specs.Needs.{served}
use Rattle.pst_bind.specs.PoolRules.{PoolBreach, IsPoolMap}

abbrev pub IsBreach : List UnitTree → List Instance → Finding → Type 0
IsBreach units instances f = PoolBreach units instances f.place f.rule

-- the least breach of the rules of pools, and what is served
abbrev pub AreJudged : List UnitTree → List Instance → Judged → Type 0
AreJudged units instances judged = IsLeastOf (IsBreach units instances) judged.least × (judged.served.items ≡ served units instances)

-- the pools and what they serve where no rule of pools is broken, or else the least breach
abbrev pub ArePooled : List UnitTree → List Instance → Result PoolMap Finding → Type 0
ArePooled units instances (Ok found) = IsPoolMap units instances found.pools found.served × IsNone (PoolBreach units instances)
ArePooled units instances (Err f) = IsLeast (PoolBreach units instances) f.place f.rule

-- why there are no pools, where memory sufficed
abbrev pub IsPoolEnd : List UnitTree → List Instance → RuleEnd → Type 0
IsPoolEnd units instances (rule_end.Broken place rule) = IsLeast (PoolBreach units instances) place rule
IsPoolEnd units instances rule_end.NoMemory = Unit {0}

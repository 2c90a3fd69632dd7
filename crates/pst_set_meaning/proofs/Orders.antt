-- A breach of a rule of pools comes before that of the root.
use Rattle.std.proofs.Common.{inl}
use Rattle.pst_elab_rules.specs.Ends.{NoRoot}
use Rattle.pst_set_meaning.specs.Laws.{PoolRulesComeFirst}

pub pool_rules_come_first : PoolRulesComeFirst
pool_rules_come_first units names instances component action place _ rule _ breach early (NoRoot none) = inl early

-- How the index of declarations is kept.
use Rattle.std.specs.Prelude.{◌≡◌}
use Rattle.std.specs.List.{find}
use Rattle.std.specs.HashMap.{get}
use Rattle.pst_index.specs.declared.key.Key.{Key}
use Rattle.pst_index.specs.declared.key.By.TheVariants as by
use Rattle.pst_index.specs.declared.index.Index.TheInside.{Inside}
use Rattle.pst_members.specs.Kept.{AreTables}
use Rattle.pst_index.specs.Found.{has_key, same_key, is_other_item}

-- each map has the first declaration of each key, and each table is that of its action
pub record IsIndex (index : Inside) : Type 0 where
  pub names : (q : Key) → get same_key index.names q ≡ find (has_key by.Name q) index.declarations.items
  pub places : (q : Key) → get same_key index.places q ≡ find (has_key by.Place q) index.declarations.items
  pub items : (q : Key) → get same_key index.items q ≡ find (has_key by.Item q) index.declarations.items
  pub fields : (q : Key) → get same_key index.fields q ≡ find (has_key by.Field q) index.declarations.items
  pub others : (q : Key) → get same_key index.others q ≡ find (is_other_item (get same_key index.items q) q) index.declarations.items
  pub tables : AreTables index.declarations.items index.tables

-- How actions are kept.
use Rattle.std.specs.Prelude.{◌≡◌}
use Rattle.std.specs.List.{find}
use Rattle.std.specs.HashMap.{get}
use Rattle.pst_tree.specs.declared.key.PlaceKey.{PlaceKey}
use Rattle.pst_tree.specs.Members.{same_key}
use Rattle.pst_tree.specs.declared.sites.Sites.TheInside.{Inside}
use Rattle.pst_tree.specs.InheritedFound.{is_site_at}

-- each key has the first action that is declared there
pub record IsSites (s : Inside) : Type 0 where
  pub sites : (q : PlaceKey) → get same_key s.sites q ≡ find (is_site_at q) s.found.items

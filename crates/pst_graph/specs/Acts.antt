-- What the references and claims of two actions have to do with each other.
use Rattle.std.specs.Prelude.{◌⊎◌, ℕ}
use Rattle.pst_scen.specs.declared.act.Act.{Act}
use Rattle.pst_scen.specs.declared.act.Flow.TheVariants.{BufferIn, StateIn, StateOut}
use Rattle.pst_graph.specs.Links.{HasLink, ReadsReplaced, WritesUsed}

-- why links have the first action, which has that number, come before the second
pub data LinksOrder (one other : Act) (a : ℕ) : Type 0 where
  ByBuffer : HasLink other.references BufferIn a → LinksOrder one other a
  BySource : HasLink other.references StateIn a → LinksOrder one other a
  ByPrevious : HasLink other.references StateOut a → LinksOrder one other a
  ByReader : ReadsReplaced one.references other.references → LinksOrder one other a

-- one of the two writes a state pool that the other uses
abbrev pub Touches : Act → Act → Type 0
Touches one other = WritesUsed one.references other.references ⊎ WritesUsed other.references one.references

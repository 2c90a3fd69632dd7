-- The events of a legal trace are whole blocks.
use Rattle.std.proofs.Common.{ℕ, zero, suc, List, [], ◌∷◌, subst, arith}
use Rattle.std.specs.Prelude.{Contains}
use Rattle.pst_scen.specs.declared.event.Event.{Event}
use Rattle.pst_scen.specs.declared.scenario.Scenario.{Scenario}
use Rattle.pst_scen.specs.Trace.{Block, Starts, Ends, events, MayCome, AreLegal, IsLegalTrace}
use Rattle.pst_scen.specs.Judging.{IsBlock, AreWholeBlocks}

is_block : (s : Scenario) (lanes : ℕ) (trace : List Event) (block : Block) → MayCome s lanes trace block → IsBlock block
is_block s lanes trace (Starts members used) may = (may.group.some, may.free.many)
is_block s lanes trace (Ends a) may = tt

are_blocks : (s : Scenario) (lanes : ℕ) (blocks : List Block) → AreLegal s lanes blocks → (block : Block) → Contains blocks block → IsBlock block
are_blocks s lanes [] legal block (k, below, is) = absurd (omega (arith, below))
are_blocks s lanes (last ∷ older) legal block (zero, below, is) = subst IsBlock is (is_block s lanes (events older) last legal.1)
are_blocks s lanes (last ∷ older) legal block (suc k, below, is) = are_blocks s lanes older legal.0 block (k, omega (arith, below), is)

pub whole_blocks : (s : Scenario) (lanes : ℕ) (trace : List Event) → IsLegalTrace s lanes trace → AreWholeBlocks trace
whole_blocks s lanes trace h = record { blocks = h.blocks; are = h.are; whole = are_blocks s lanes h.blocks h.legal }

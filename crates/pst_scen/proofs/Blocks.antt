-- Blocks that are legal.
use Rattle.std.proofs.Common.{ℕ, ◌<◌, ◌≤◌, List, [], ◌∷◌, ◌++◌, sym, subst, arith}
use Rattle.pst_scen.specs.declared.scenario.Scenario.{Scenario}
use Rattle.pst_scen.specs.declared.event.Event.{Event}
use Rattle.pst_scen.specs.Trace.{Block, Starts, Ends, events, AreLegal, MayCome, IsWhole}
use Rattle.pst_scen.specs.Laws.{WiderTracesAreLegal, PrefixesAreLegal, WholeTracesArePrefixes}

-- the earlier blocks of legal ones are legal
pub earlier_are_legal : (s : Scenario) (lanes : ℕ) (more blocks : List Block) → AreLegal s lanes (more ++ blocks) → AreLegal s lanes blocks
earlier_are_legal s lanes [] blocks legal = legal
earlier_are_legal s lanes (block ∷ more) blocks legal = earlier_are_legal s lanes more blocks legal.0

-- a block that may come on some lanes may come on more
pub may_come_wider : (s : Scenario) (lanes more : ℕ) (trace : List Event) (block : Block) → lanes ≤ more → MayCome s lanes trace block → MayCome s more trace block
may_come_wider s lanes more trace (Ends a) wide may = may
may_come_wider s lanes more trace (Starts members used) wide may = record {
  group = may.group;
  fresh = may.fresh;
  free = record {
    many = may.free.many;
    different = may.free.different;
    below = λ l h. let low : l < lanes = may.free.below l h in omega arith;
    idle = may.free.idle;
  };
  sequence = may.sequence;
  buffer = may.buffer;
  source = may.source;
  previous = may.previous;
  clear = may.clear;
  apart = may.apart;
}

pub are_legal_wider : (s : Scenario) (lanes more : ℕ) (blocks : List Block) → lanes ≤ more → AreLegal s lanes blocks → AreLegal s more blocks
are_legal_wider s lanes more [] wide legal = tt
are_legal_wider s lanes more (block ∷ older) wide legal =
    (are_legal_wider s lanes more older wide legal.0, may_come_wider s lanes more (events older) block wide legal.1)

pub wider_traces : WiderTracesAreLegal
wider_traces s lanes more trace wide legal =
    record { blocks = legal.blocks; are = legal.are; legal = are_legal_wider s lanes more legal.blocks wide legal.legal }

pub prefixes : PrefixesAreLegal
prefixes s lanes trace begun =
    record { blocks = begun.blocks; are = begun.are; legal = earlier_are_legal s lanes begun.more begun.blocks begun.legal }

pub whole_traces : WholeTracesArePrefixes
whole_traces s lanes trace legal whole =
    record { blocks = legal.blocks; more = []; are = legal.are; legal = legal.legal; whole = subst (IsWhole s) (sym legal.are) whole }

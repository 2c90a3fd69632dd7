use Rattle.std.proofs.Common.{◌≡◌, ◌+◌, ◌-◌, ◌≤◌, ◌^◌, length}
use Rattle.pst_lexer.specs.Lexing.{OnlyAdds}
use Rattle.pst_lexer.specs.Numbering.{StayNumbered}
use Rattle.pst_lexer.specs.Scanning.{IsScanning, IsSmall, Keeps}
use Rattle.pst_lexer.proofs.scan.Scanner.scan.Given as goal

abbrev pub invariant-loop-self : goal.invariant-loop-self
invariant-loop-self l = record {
  kept : Keeps l.initial.self l.self;
  numbered : StayNumbered l.initial.self.tokens.items (length l.initial.names) l.self.tokens.items (length l.names);
  scanning : IsScanning l.is_last l.names l.self;
  small : IsSmall l.self;
  adds : OnlyAdds l.initial.names l.names;
  names : length l.names + length l.initial.self.tokens.items ≤ length l.initial.names + length l.self.tokens.items;
}

abbrev pub decreases-loop-self : goal.decreases-loop-self
decreases-loop-self l = length l.self.taken.items - l.self.start

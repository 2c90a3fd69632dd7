-- Lines of a header behind its counts.
use Rattle.std.specs.Prelude.{◌≡◌, ℕ, List, ◌++◌, Bool, true, ◌&&◌, nat_le, codes}
use Rattle.std.specs.List.{list_all}
use Rattle.pst_trace_lines.specs.declared.header.HeaderLine.{HeaderLine}
use Rattle.pst_trace_lines.specs.declared.header.HeaderLine.TheVariants.{Initial, Compound, Join, Action}

-- how many sorts of lines stand before those of this sort
abbrev pub rank : HeaderLine → ℕ
rank Initial = 0
rank Compound = 1
rank Join = 2
rank Action = 3

abbrev pub word : HeaderLine → List ℕ
word Initial = codes "initial "
word Compound = codes "compound "
word Join = codes "join "
word Action = codes "action "

-- a byte from 0x20 to 0x7E
abbrev pub is_printed : ℕ → Bool
is_printed byte = nat_le 32 byte && nat_le byte 126

-- the line, without its line feed, begins with the word of its sort, and its bytes are printed ones
pub record IsHeaderLine (sort : HeaderLine) (text : List ℕ) : Type 0 where
  pub rest : List ℕ
  pub begins : text ≡ word sort ++ rest
  pub printed : list_all is_printed text ≡ true

-- Names of lexed texts are printed.
use Rattle.std.specs.Prelude.{◌≡◌, ℕ, List, All, true}
use Rattle.std.specs.List.{list_all}
use Rattle.pst_token.specs.declared.token.Token.{Token}
use Rattle.pst_trace_lines.specs.Headers.{is_printed}
use Rattle.pst_sources_read.specs.Lexed.{AreLexed}

-- names of bytes from 0x20 to 0x7E alone
abbrev pub ArePrinted : List (List ℕ) → Type 0
ArePrinted names = All (λ name. list_all is_printed name ≡ true) names

-- So are the names of texts.
abbrev pub LexedNamesArePrinted : Type 0
LexedNamesArePrinted = (texts names : List (List ℕ)) (tokens : List (List Token)) → AreLexed texts names tokens → ArePrinted names

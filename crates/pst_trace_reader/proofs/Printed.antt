-- Printed bytes are text.
use Rattle.std.proofs.Common.{◌≡◌, ℕ, ◌<◌, true, List, [], ◌∷◌, arith}
use Rattle.std.specs.List.{list_all}
use Rattle.std.specs.Str.{IsAscii, IsUtf8}
use Rattle.std.proofs.lemmas.Bool.{and_parts}
use Rattle.std.proofs.lemmas.Bool.Decides.{nat_tests}
use Rattle.std.proofs.lemmas.Str.{IsUtf8-from_ascii}
use Rattle.std.proofs.lemmas.Str.Ascii.{IsAscii-nil, IsAscii-cons}
use Rattle.pst_trace_lines.specs.Headers.{is_printed}

printed_below : (b : ℕ) → is_printed b ≡ true → b < 128
printed_below b h = grind (arith, nat_tests)

printed_ascii : (line : List ℕ) → list_all is_printed line ≡ true → IsAscii line
printed_ascii [] h = IsAscii-nil
printed_ascii (b ∷ line) h =
    let parts = and_parts (is_printed b) (list_all is_printed line) h in
    IsAscii-cons b line (printed_below b parts.0) (printed_ascii line parts.1)

pub printed_text : (line : List ℕ) → list_all is_printed line ≡ true → IsUtf8 line
printed_text line h = IsUtf8-from_ascii line (printed_ascii line h)

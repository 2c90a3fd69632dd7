use Rattle.std.proofs.Common.{◌≡◌, ◌++◌, drop, get_or}
use Rattle.std.specs.Prelude.{string_bytes}
use Rattle.pst_trace_texts.specs.Lines.{each_from}
use Rattle.pst_place_answers.specs.Texts.{place_line}
use Rattle.pst_place_answers.proofs.lines.write_places.Given as goal

abbrev pub invariant-loop-number : goal.invariant-loop-number
invariant-loop-number l =
    string_bytes l.text ++ each_from (λ number ask. place_line ask (get_or l.places number 0)) l.number (drop l.number l.asks) ≡ string_bytes l.fn.text ++ each_from (λ number ask. place_line ask (get_or l.places number 0)) 0 l.asks

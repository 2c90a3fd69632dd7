-- How long the source of a generated model is.
use Rattle.std.proofs.Common.{◌≡◌, ℕ, ◌+◌, ◌/◌, ◌^◌, ◌<◌, ◌≤◌, List, [], ◌∷◌, ◌++◌, length, refl, arith, codes, decimal, length-append}
use Rattle.std.specs.List.{flat_map}
use Rattle.std.proofs.lemmas.Fmt.{length-decimal-le}
use Rattle.pst_trace_texts.specs.Lines.{line}
use Rattle.pst_generated.specs.Generated.{head_lines, action_lines, entry_line, entry_lines, generated_text}
use Rattle.pst_files_read.specs.Limits.{most_bytes}

three_long : (first second third : List ℕ) → length (first ++ second ++ third) ≡ length first + length second + length third
three_long first second third = omega (arith, length-append (first ++ second) third, length-append first second)

lines_long : (first second third : List ℕ) → length (flat_map line (first ∷ second ∷ third ∷ [])) ≡ length first + length second + length third + 3
lines_long first second third =
    omega (arith, length-append (line first) (line second ++ (line third ++ [])), length-append (line second) (line third ++ []), length-append (line third) [], length-append first (10 ∷ []), length-append second (10 ∷ []), length-append third (10 ∷ []))

head_long : length (flat_map line head_lines) ≡ 179
head_long = refl

action_long : length (flat_map line action_lines) ≡ 248
action_long = refl

front_long : length (codes "  action entry { activity { repeat (") ≡ 36
front_long = refl

back_long : length (codes ") { schedule {") ≡ 14
back_long = refl

pairs_long : length (codes "    do pair; do pair; do pair; do pair; } } } }") ≡ 47
pairs_long = refl

end_long : length (codes "}") ≡ 1
end_long = refl

entry_long : (turns : ℕ) → length (flat_map line (entry_lines turns)) ≡ length (decimal turns) + 101
entry_long turns =
    omega (arith, lines_long (entry_line turns) (codes "    do pair; do pair; do pair; do pair; } } } }") (codes "}"), three_long (codes "  action entry { activity { repeat (") (decimal turns) (codes ") { schedule {"), front_long, back_long, pairs_long, end_long)

pub generated_long : (size : ℕ) → size < 2 ^ 32 → length (generated_text size) ≤ most_bytes
generated_long size small =
    let turns : length (decimal (size / 8)) ≤ 10 = length-decimal-le 10 (size / 8) (omega arith) (omega (arith, small)) (omega (arith, small)) in
    let whole : length (generated_text size) ≡ length (flat_map line head_lines) + length (flat_map line action_lines) + length (flat_map line (entry_lines (size / 8))) = three_long (flat_map line head_lines) (flat_map line action_lines) (flat_map line (entry_lines (size / 8))) in
    let entry = entry_long (size / 8) in
    omega (arith, turns, whole, entry, head_long, action_long)

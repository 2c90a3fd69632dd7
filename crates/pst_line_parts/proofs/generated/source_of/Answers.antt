use Rattle.std.proofs.Common.{◌≡◌, ◌≤◌, ◌∙◌, List, ℕ, Vec, Global, length, map, ap, sym, subst, arith}
use Rattle.std.specs.Prelude.{string_bytes}
use Rattle.pst_words.specs.declared.key.Key.TheVariants.{Size}
use Rattle.pst_generated.specs.Generated.{generated_text}
use Rattle.pst_files_read.specs.Limits.{most_bytes}
use Rattle.pst_line_parts.proofs.Given.{number_fits, small_size}
use Rattle.pst_line_parts.proofs.Long.{generated_long}
use Rattle.pst_line_parts.proofs.generated.source_of.Goals as goal

pub returns-clause-is : goal.returns-clause-is
returns-clause-is c = (c.size_given.result, c.size_given.ensures, c.from_vec.ensures ∙ ap (λ (v : Vec ℕ Global). v.items) c.into_bytes.ensures.value ∙ c.in_ok-text.ensures)

pub returns-clause-small : goal.returns-clause-small
returns-clause-small c =
    let arguments = map string_bytes c.args.line.now.arguments.now in
    let fits = number_fits Size arguments 0 c.size_given.result (omega arith) (small_size c.args.line.now.command arguments c.requires) c.size_given.ensures.is_given c.size_given.ensures.is_not in
    let is : c.from_vec.result ≡ generated_text c.size_given.result = c.from_vec.ensures ∙ ap (λ (v : Vec ℕ Global). v.items) c.into_bytes.ensures.value ∙ c.in_ok-text.ensures in
    subst (λ (t : List ℕ). length t ≤ most_bytes) (sym is) (generated_long c.size_given.result fits)

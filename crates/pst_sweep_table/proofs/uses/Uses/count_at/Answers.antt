use Rattle.std.proofs.Common.{◌≡◌, ◌<◌, ◌∙◌, ℕ, List, get_or, length, map, sym, ap, subst}
use Rattle.std.specs.List.{range_with_len}
use Rattle.pst_sweep_table.specs.declared.uses.Use.{Use}
use Rattle.pst_sweep_table.specs.Uses.{used_in}
use Rattle.pst_sweep_table.proofs.Used.{read_at}
use Rattle.pst_sweep_table.proofs.uses.Uses.count_at.Goals as goal

pub returns : goal.returns
returns c =
    let used = c.self.inside.used.items in
    let types = c.self.inside.types in
    let view : map (used_in used) (range_with_len 0 types) ≡ c.args.self.now = c.self.view_is in
    let inside : c.args.number < length (map (used_in used) (range_with_len 0 types)) = subst (λ (counts : List ℕ). c.args.number < length counts) (sym view) c.requires in
    c.count_in.ensures ∙ ap (λ (kept : List Use). used_in kept c.args.number) c.deref.ensures.value
    ∙ sym (read_at used types c.args.number inside) ∙ ap (λ (counts : List ℕ). get_or counts c.args.number 0) view

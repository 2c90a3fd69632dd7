use Rattle.std.proofs.Common.{◌∙◌, ℕ, List, length, ap, subst}
use Rattle.std.specs.Prelude.{count_by}
use Rattle.pst_scen.specs.declared.act.Act.{Act}
use Rattle.pst_sweep_table.specs.Counts.{is_of, count_of}
use Rattle.pst_sweep_table.specs.Uses.{AreUses}
use Rattle.pst_sweep_table.proofs.Used.{uses_are}
use Rattle.pst_sweep_table.proofs.uses.Uses.of.Goals as goal

pub returns : goal.returns
returns c =
    let counts = c.in_ok-counts.counts.items in
    let used = c.in_ok-used.used.items in
    let counted = c.in_ok-counts.ensures in
    let of_counts : AreUses counts (length counts) used = subst (λ (ns : List ℕ). AreUses ns (length ns) used) c.deref.ensures.value c.in_ok-used.ensures in
    let of_types : AreUses counts c.args.types used = subst (λ (n : ℕ). AreUses counts n used) counted.many of_counts in
    uses_are counts used c.args.types (count_of c.args.scenario.now) of_types (λ type l. counted.each type l ∙ ap (λ (acts : List Act). count_by (is_of type) acts) c.as_slice.ensures)

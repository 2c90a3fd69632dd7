use Rattle.std.proofs.Common.{◌≡◌, sym, ◌∙◌}
use Rattle.pst_steady.proofs.Settling.{set_sound}
use Rattle.pst_steady.proofs.reach.settle.Goals as goal

pub returns-in-Some-clause-sound : goal.returns-in-Some-clause-sound
returns-in-Some-clause-sound c =
    set_sound c.args.seeds.now c.args.bases.now c.args.values.now c.args.at c.in-Some.value c.requires.within c.requires.sound (sym c.next_value.ensures ∙ c.in-Some.is)

use Rattle.std.proofs.Common.{ℕ, ap, ◌∙◌}
use Rattle.rand_pcg.specs.Lcg.{Lcg}
use Rattle.rand_pcg.specs.Pcg.{pcg64}
use Rattle.pst_rng.proofs.Generators.{generator_at-more}
use Rattle.pst_rng.proofs.reading.Words.next_word.Goals as goal

pub invariant_of-self : goal.invariant_of-self
invariant_of-self c =
    ap (λ (answer : ℕ × Lcg). answer.1) c.next_word.ensures ∙ ap (λ (g : Lcg). (pcg64 g).1) c.self.invariant
    ∙ generator_at-more c.self.inside.seed c.self.inside.place

-- The generator after so many words is the one that a jump of so many steps gives.
use Rattle.std.proofs.Common.{◌≡◌, ℕ, zero, suc, ◌+◌, refl, sym, ap, ◌∙◌, add-one}
use Rattle.rand_pcg.specs.Lcg.{Lcg, next, advance, state_after}
use Rattle.rand_pcg.specs.Pcg.{multiplier_128, pcg64}
use Rattle.pst_rng.specs.Words.{generator_at, seeded}

-- a jump and then a step is a jump of one more
pub next-advance : (w m n : ℕ) (g : Lcg) → next w m (advance w m n g) ≡ advance w m (suc n) g
unfolding state_after
next-advance w m zero g = refl
next-advance w m (suc n) g = next-advance w m n (next w m g)

pub generator_at-jump : (seed place : ℕ) → advance 128 multiplier_128 place (seeded seed) ≡ generator_at seed place
unfolding generator_at state_after
generator_at-jump seed zero = refl
generator_at-jump seed (suc place) =
    sym (next-advance 128 multiplier_128 place (seeded seed))
    ∙ ap (next 128 multiplier_128) (generator_at-jump seed place)

pub generator_at-more : (seed place : ℕ) → (pcg64 (generator_at seed place)).1 ≡ generator_at seed (place + 1)
unfolding generator_at
generator_at-more seed place = rw add-one refl

-- where a jump from the start leaves the generator
pub jumped : (seed place steps : ℕ) (start jump : Lcg) → start ≡ seeded seed → steps ≡ place
    → jump ≡ advance 128 multiplier_128 steps start → jump ≡ generator_at seed place
jumped seed place steps start jump made so_many jumps =
    jumps ∙ ap (λ (n : ℕ). advance 128 multiplier_128 n start) so_many
    ∙ ap (advance 128 multiplier_128 place) made ∙ generator_at-jump seed place

-- What a line asks for, by its command.
use Rattle.std.proofs.Common.{◌≡◌, ◌≤◌, ◌<◌, ◌⊎◌, inl, inr, ℕ, List, Bool, true, false, refl, sym, ◌∙◌, arith}
use Rattle.std.specs.Prelude.{IsTrue}
use Rattle.std.proofs.lemmas.Bool.{cases_lt}
use Rattle.pst_words.specs.declared.command.Command.{Command}
use Rattle.pst_words.specs.declared.command.Command.TheVariants.{Run, Solve, Check, Gen, Static, Place, Sweep}
use Rattle.pst_words.specs.declared.key.Key.TheVariants.{Infer, Budget}
use Rattle.pst_outcome.specs.declared.task.Work.{Work}
use Rattle.pst_outcome.specs.declared.task.Work.TheVariants as work
use Rattle.pst_outcome.specs.Tasks.{IsNumberGiven, FitsLanes, IsSeveral, IsSweep, AreLimits}

pub are_limits : (command : Command) (arguments : List (List ℕ)) (infer budget : ℕ) → (command ≡ Gen → ⊥) → IsNumberGiven Infer arguments 2 infer → IsNumberGiven Budget arguments 100000 budget
    → AreLimits command arguments infer budget
are_limits Run arguments infer budget other i b = (i, b)
are_limits Solve arguments infer budget other i b = (i, b)
are_limits Check arguments infer budget other i b = (i, b)
are_limits Gen arguments infer budget other i b = absurd (other refl)
are_limits Static arguments infer budget other i b = (i, b)
are_limits Place arguments infer budget other i b = (i, b)
are_limits Sweep arguments infer budget other i b = (i, b)

-- where more lanes are there
pub fits_more : (w : Work) (a b : ℕ) → a ≤ b → FitsLanes a w → FitsLanes b w
fits_more (work.Run lanes) a b more (low, high) = (low, omega (arith, more, high))
fits_more work.Solve a b more fits = tt
fits_more work.Check a b more fits = tt
fits_more (work.Generate size lanes) a b more (low, high) = (low, omega (arith, more, high))
fits_more (work.Place space) a b more fits = fits
fits_more (work.Sweep first count) a b more fits = fits
fits_more (work.Static over) a b more fits = fits

at_most : (n : ℕ) → (1 < n → ⊥) → (1 < n) ⊎ (n ≤ 1) → n ≤ 1
at_most n few (inl many) = absurd (few many)
at_most n few (inr one) = one

-- what isn't run on several lanes is run on one at most
pub fits_one : (w : Work) (have : ℕ) → FitsLanes have w → (IsSeveral w → ⊥) → FitsLanes 1 w
fits_one (work.Run lanes) have (low, high) alone = (low, at_most lanes alone (cases_lt 1 lanes))
fits_one work.Solve have fits alone = tt
fits_one work.Check have fits alone = tt
fits_one (work.Generate size lanes) have (low, high) alone = (low, at_most lanes alone (cases_lt 1 lanes))
fits_one (work.Place space) have fits alone = fits
fits_one (work.Sweep first count) have fits alone = fits
fits_one (work.Static over) have fits alone = fits

-- the seeds of a sweep need no lanes
pub fits_swept : (w : Work) (have : ℕ) → FitsLanes have w → IsSweep w → FitsLanes 1 w
fits_swept (work.Run lanes) have fits sweep = absurd sweep
fits_swept work.Solve have fits sweep = tt
fits_swept work.Check have fits sweep = tt
fits_swept (work.Generate size lanes) have fits sweep = absurd sweep
fits_swept (work.Place space) have fits sweep = fits
fits_swept (work.Sweep first count) have fits sweep = fits
fits_swept (work.Static over) have fits sweep = fits

-- what a test that answers no doesn't find
pub not_found : {P : Type 0} → (P → IsTrue false) → P → ⊥
not_found found p = let both : true ≡ false = sym (found p) in cc

-- The needs of one action are those of its references.
use Rattle.std.proofs.Common.{◌≡◌, ℕ, ◌+◌, List, [], ◌∷◌, ◌++◌, map, refl, ap, ◌∙◌}
use Rattle.std.specs.Prelude.{flat_map}
use Rattle.std.specs.List.{enumerate_from, filter}
use Rattle.std.proofs.lemmas.List.{map-append}
use Rattle.pst_scen.specs.declared.act.Act.{Act}
use Rattle.pst_scen.specs.declared.act.Filled.{Filled}
use Rattle.pst_legal.specs.Supplied.{is_need, linkings_in}
use Rattle.pst_supply.specs.declared.listing.Need.{Need}
use Rattle.pst_supply.specs.Needs.{need_of, needs_in}

same : (act : ℕ) (xs : List (ℕ × Filled)) → map need_of (map (λ e. record { act = act; reference = e.0; link = e.1.link }) xs) ≡ map (λ e. record { act = act; reference = e.0 }) xs
same act [] = refl
same act (x ∷ xs) = ap (λ (ys : List Need). record { act = act; reference = x.0 } ∷ ys) (same act xs)

pub of_act : (number : ℕ) (act : Act) → map need_of (linkings_in (number, act)) ≡ needs_in number act.references
of_act number act = same number (filter (λ e. is_need e.1.flow) (enumerate_from 0 act.references))

-- the needs of the first action, and then those of the others
pub next_act : (number : ℕ) (act : Act) (acts : List Act) → map need_of (flat_map linkings_in (enumerate_from number (act ∷ acts))) ≡ needs_in number act.references ++ map need_of (flat_map linkings_in (enumerate_from (number + 1) acts))
next_act number act acts =
    map-append need_of (linkings_in (number, act)) (flat_map linkings_in (enumerate_from (number + 1) acts))
    ∙ ap (λ ys. ys ++ map need_of (flat_map linkings_in (enumerate_from (number + 1) acts))) (of_act number act)

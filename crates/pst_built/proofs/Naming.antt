-- Which actions the needs name that are read in turn.
use Rattle.std.proofs.Common.{◌≡◌, ℕ, ◌+◌, ◌<◌, ◌≤◌, max, List, [], ◌∷◌, ◌++◌, refl, arith, inl, inr}
use Rattle.pst_scen.specs.declared.act.Link.{Link}
use Rattle.pst_scen.specs.declared.act.Link.TheVariants as link
use Rattle.pst_legal.specs.Supplied.{Linking, NamesBelow, named_after, AreNamedInTurn}
use Rattle.pst_built.proofs.Members.{In}

pub below_more : (n k : ℕ) (l : Link) → n ≤ k → NamesBelow n l → NamesBelow k l
below_more n k link.Nothing more below = tt
below_more n k link.Initial more below = tt
below_more n k (link.Act b q) more below = let l : b < n = below in let r : b < k = omega (arith, l, more) in r

after_most : (named n : ℕ) (l : Link) → named ≤ n → NamesBelow n l → named_after named l ≤ n
after_most named n link.Nothing most below = most
after_most named n link.Initial most below = most
after_most named n (link.Act b q) most below = let l : b < n = below in let r : max named (b + 1) ≤ n = omega (arith, l, most) in r

-- where those before it name at most so many, a need names one of these or the next
pub names_next : (front : List Linking) (x : Linking) (back : List Linking) (named n total : ℕ) → named ≤ n → ((y : Linking) → In y front → y.act < n → NamesBelow n y.link)
    → AreNamedInTurn (front ++ x ∷ back) named total → NamesBelow (n + 1) x.link
names_next [] x back named n total most each turns = below_more (named + 1) (n + 1) x.link (omega (arith, most)) turns.1
names_next (y ∷ front) x back named n total most each turns =
    let first = turns.0 in
    let below = each y (inl refl) (omega (arith, first, most)) in
    names_next front x back (named_after named y.link) n total (after_most named n y.link most below) (λ z has. each z (inr has)) turns.2

-- where all name at most so many, these are all
pub names_all : (needs : List Linking) (named n total : ℕ) → named ≤ n → ((y : Linking) → In y needs → y.act < n → NamesBelow n y.link) → AreNamedInTurn needs named total → total ≤ n
names_all [] named n total most each turns = let same : named ≡ total = turns in omega (arith, most, same)
names_all (y ∷ needs) named n total most each turns =
    let first = turns.0 in
    let below = each y (inl refl) (omega (arith, first, most)) in
    names_all needs (named_after named y.link) n total (after_most named n y.link most below) (λ z has. each z (inr has)) turns.2

-- The moves are no more than instructions and actions.
use Rattle.std.proofs.Common.{◌≡◌, ℕ, zero, suc, ◌+◌, ◌<◌, ◌≤◌, List, [], ◌∷◌, ◌++◌, length, get_or, replicate, true, false, refl, arith}
use Rattle.std.proofs.lemmas.List.Sums.{sum_by-cons}
use Rattle.pst_scen.specs.declared.event.Event.{Event}
use Rattle.pst_scen.specs.declared.event.Event.TheVariants.{Start, End}
use Rattle.pst_scen.specs.Trace.{starts_of}
use Rattle.pst_scen.specs.Core.{commands_of}
use Rattle.pst_scen.specs.Plan.{Entries, members}
use Rattle.pst_order.specs.Rule.{open_count}
use Rattle.pst_programs.specs.declared.program.Instruction.{Instruction}
use Rattle.pst_programs.specs.declared.program.Program.{Program}
use Rattle.pst_programs.specs.declared.program.Move.{Move}
use Rattle.pst_programs.specs.Serial.{group_of}
use Rattle.pst_programs.specs.Machine.{State, Steps, Reaches, First, Then, moved_on, IsAt, Tells, Hears, Begins, Ends}
use Rattle.pst_programs.specs.declared.program.Instruction.TheVariants.{Run}
use Rattle.pst_programs.specs.Safe.{Stands}
use Rattle.pst_programs.specs.Laws.{instructions}
use Rattle.pst_programs.proofs.Places.{lane_in, stands_in, as_many}

-- ---- blocks that were opened

abbrev pub opens : List Event → ℕ
opens trace = open_count (commands_of trace)

opens_more : (t u : List Event) → opens (t ++ u) ≡ opens t + opens u
opens_more [] u = omega arith
opens_more (Start a l true ∷ t) u = opens_more t u
opens_more (Start a l false ∷ t) u = let e = opens_more t u in omega (arith, e)
opens_more (End a ∷ t) u = opens_more t u

opens_once : (ms us : List ℕ) → length us ≡ length ms → 0 < length ms → opens (starts_of ms us) ≡ 1
opens_once [] us e l = absurd (omega (arith, l))
opens_once (m ∷ ms) [] e l = absurd (omega (arith, e))
opens_once (m ∷ []) (u ∷ us) e l = refl
opens_once (m ∷ n ∷ ms) (u ∷ us) e l = opens_once (n ∷ ms) us (omega (arith, e)) (omega arith)

-- ---- places

abbrev pub total : List ℕ → ℕ
total [] = 0
total (place ∷ places) = place + total places

abbrev pub Within : List Program → List ℕ → Type 0
Within [] [] = Unit {0}
Within [] (place ∷ places) = ⊥
Within (program ∷ programs) [] = ⊥
Within (program ∷ programs) (place ∷ places) = (place ≤ length program.steps) × Within programs places

within_first : (programs : List Program) → Within programs (replicate (length programs) 0)
within_first [] = tt
within_first (program ∷ programs) = (omega arith, within_first programs)

abbrev zeros : ℕ → List ℕ
zeros n = replicate n 0

total_first : (n : ℕ) → total (zeros n) ≡ 0
total_first zero = refl
total_first (suc n) = let e = total_first n in omega (arith, e)

within_moved : (programs : List Program) (places : List ℕ) (l : ℕ) (i : Instruction) → Within programs places → IsAt programs places l i → Within programs (moved_on places l) × (total (moved_on places l) ≡ suc (total places))
within_moved [] places l i w at = let h = lane_in [] l (get_or places l 0) i at in absurd (omega (arith, h))
within_moved (program ∷ programs) [] l i w at = absurd w
within_moved (program ∷ programs) (place ∷ places) zero i w at =
    let h : place < length program.steps = stands_in (program ∷ programs) 0 place i at in ((omega (arith, h), w.1), omega arith)
within_moved (program ∷ programs) (place ∷ places) (suc l) i w at =
    let r = within_moved programs places l i w.1 at in let e = r.1 in ((w.0, r.0), omega (arith, e))

within_total : (programs : List Program) (places : List ℕ) → Within programs places → total places ≤ instructions programs
within_total [] [] w = omega arith
within_total [] (place ∷ places) w = absurd w
within_total (program ∷ programs) [] w = absurd w
within_total (program ∷ programs) (place ∷ places) w =
    let r = within_total programs places w.1 in let l = w.0 in let e = sum_by-cons (λ program. length program.steps) program programs in omega (arith, r, l, e)

-- ---- moves

pub record IsCounted (programs : List Program) (moves : List Move) (state : State) : Type 0 where
  pub within : Within programs state.places
  pub count : length moves ≡ total state.places + opens state.trace

module _ (p : Entries) (programs : List Program) (some : (a l k : ℕ) → Stands programs l k (Run a) → 0 < length (members p.groups (group_of p a))) where
  pub counted : (moves : List Move) (state : State) → Reaches p programs moves state → IsCounted programs moves state
  counted _ _ First = record { within = within_first programs; count = let e = total_first (length programs) in omega (arith, e) }
  counted _ _ (Then moves move old new reached step) = by_step move new step (counted moves old reached)
    where
      by_step : (move : Move) (new : State) → Steps p programs old move new → IsCounted programs moves old → IsCounted programs (move ∷ moves) new
      by_step _ _ (Tells l a at) c = let r = within_moved programs old.places l _ c.within at in let e = r.1 in let f = c.count in record { within = r.0; count = omega (arith, e, f) }
      by_step _ _ (Hears l a at told) c = let r = within_moved programs old.places l _ c.within at in let e = r.1 in let f = c.count in record { within = r.0; count = omega (arith, e, f) }
      by_step _ _ (Begins l a us at ats fresh) c =
          let ms = members p.groups (group_of p a) in
          let e = opens_more old.trace (starts_of ms us) in
          let f = opens_once ms us (as_many programs old.places ms us ats) (some a l (get_or old.places l 0) at) in
          let g = c.count in
          record { within = c.within; count = omega (arith, e, f, g) }
      by_step _ _ (Ends l a at runs) c =
          let r = within_moved programs old.places l _ c.within at in
          let e = r.1 in
          let f = opens_more old.trace (End a ∷ []) in
          let g = c.count in
          record { within = r.0; count = omega (arith, e, f, g) }

  pub short : (moves : List Move) (state : State) → Reaches p programs moves state → length moves ≤ instructions programs + opens state.trace
  short moves state reached = let c = counted moves state reached in let e = c.count in let l = within_total programs state.places c.within in omega (arith, e, l)

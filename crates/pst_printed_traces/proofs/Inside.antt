-- A legal trace has whole blocks of actions that there are, on lanes that there are.
use Rattle.std.proofs.Common.{◌<◌, ◌≤◌, ◌^◌, ℕ, zero, suc, List, [], ◌∷◌, length, true, false, refl, subst, ⊎_elim, arith}
use Rattle.std.specs.Prelude.{All, Contains}
use Rattle.std.proofs.lemmas.List.Elements.{All-append, All-cons, All-nil, All-contains, All-weaker, Contains-append_cases, Contains-append_right}
use Rattle.pst_scen.specs.declared.event.Event.{Event}
use Rattle.pst_scen.specs.declared.event.Event.TheVariants.{Start, End}
use Rattle.pst_scen.specs.declared.scenario.Scenario.{Scenario}
use Rattle.pst_scen.specs.Trace.{Block, Starts, Ends, starts_of, events_of, events, MayCome, AreLegal, IsLegalTrace, StartsOn}
use Rattle.pst_scen.specs.Judging.{IsBlock, AreWholeBlocks}
use Rattle.pst_written_traces.specs.Written.{IsNumbered}

-- an action below the number, on a lane below the other
abbrev IsInside : ℕ → ℕ → Event → Type 0
IsInside count lanes (Start act lane more) = (act < count) × (lane < lanes)
IsInside count lanes (End act) = act < count

starts_inside : (count lanes : ℕ) (members used : List ℕ) → ((a : ℕ) → Contains members a → a < count) → ((l : ℕ) → Contains used l → l < lanes)
    → All (λ e. IsInside count lanes e) (starts_of members used)
starts_inside count lanes [] used acts below = All-nil (λ e. IsInside count lanes e)
starts_inside count lanes (a ∷ more) [] acts below = All-nil (λ e. IsInside count lanes e)
starts_inside count lanes (a ∷ []) (l ∷ ls) acts below =
    All-cons (λ e. IsInside count lanes e) (Start a l false) [] (acts a (0, omega arith, refl), below l (0, omega arith, refl)) (All-nil (λ e. IsInside count lanes e))
starts_inside count lanes (a ∷ b ∷ more) (l ∷ ls) acts below =
    All-cons (λ e. IsInside count lanes e) (Start a l true) (starts_of (b ∷ more) ls) (acts a (0, omega arith, refl), below l (0, omega arith, refl))
    (starts_inside count lanes (b ∷ more) ls (λ x h. acts x (Contains-append_right (a ∷ []) (b ∷ more) x h)) (λ x h. below x (Contains-append_right (l ∷ []) ls x h)))

module _ (s : Scenario) (lanes : ℕ) where
  block_inside : (trace : List Event) (block : Block) → All (λ e. IsInside (length s.actions) lanes e) trace → MayCome s lanes trace block
      → All (λ e. IsInside (length s.actions) lanes e) (events_of block)
  block_inside trace (Starts members used) before may = starts_inside (length s.actions) lanes members used may.group.inside may.free.below
  block_inside trace (Ends a) before ((lane, start), going) =
      let one : IsInside (length s.actions) lanes (Start a lane start.0) = All-contains (λ e. IsInside (length s.actions) lanes e) trace (Start a lane start.0) before start.1 in
      All-cons (λ e. IsInside (length s.actions) lanes e) (End a) [] one.0 (All-nil (λ e. IsInside (length s.actions) lanes e))

  blocks_inside : (blocks : List Block) → AreLegal s lanes blocks → All (λ e. IsInside (length s.actions) lanes e) (events blocks)
  blocks_inside [] legal = All-nil (λ e. IsInside (length s.actions) lanes e)
  blocks_inside (block ∷ older) (before, may) =
      let own = blocks_inside older before in
      All-append (λ e. IsInside (length s.actions) lanes e) (events older) (events_of block) own (block_inside (events older) block own may)

  all_inside : (trace : List Event) → IsLegalTrace s lanes trace → All (λ e. IsInside (length s.actions) lanes e) trace
  all_inside trace legal = subst (λ (es : List Event). All (λ e. IsInside (length s.actions) lanes e) es) legal.are (blocks_inside legal.blocks legal.legal)

  -- what starts in it is an action that there is, on a lane that there is
  pub start_inside : (trace : List Event) (act lane : ℕ) → IsLegalTrace s lanes trace → StartsOn trace act lane → (act < length s.actions) × (lane < lanes)
  start_inside trace act lane legal (more, start) = All-contains (λ e. IsInside (length s.actions) lanes e) trace (Start act lane more) (all_inside trace legal) start

  numbered : length s.actions < 2 ^ 32 → lanes ≤ 16 → (e : Event) → IsInside (length s.actions) lanes e → IsNumbered e
  numbered small few (Start act lane more) (of_act, of_lane) = (omega (arith, small, of_act), omega (arith, few, of_lane))
  numbered small few (End act) of_act = omega (arith, small, of_act)

  pub all_numbered : length s.actions < 2 ^ 32 → lanes ≤ 16 → (trace : List Event) → IsLegalTrace s lanes trace → All (λ e. IsNumbered e) trace
  all_numbered small few trace legal = All-weaker (λ e. IsInside (length s.actions) lanes e) (λ e. IsNumbered e) (numbered small few) trace (all_inside trace legal)

  -- ---- blocks

  is_block : (trace : List Event) (block : Block) → MayCome s lanes trace block → IsBlock block
  is_block trace (Starts members used) may = (may.group.some, may.free.many)
  is_block trace (Ends a) may = tt

  are_blocks : (blocks : List Block) → AreLegal s lanes blocks → (block : Block) → Contains blocks block → IsBlock block
  are_blocks [] legal block h = absurd (omega (arith, h.1))
  are_blocks (first ∷ older) (before, may) block h =
      ⊎_elim (λ one. here block one) (λ rest. are_blocks older before block rest) (Contains-append_cases (first ∷ []) older block h)
    where
      here : (block : Block) → Contains (first ∷ []) block → IsBlock block
      here block (zero, below, is) = subst IsBlock is (is_block (events older) first may)
      here block (suc k, below, is) = absurd (omega (arith, below))

  pub whole_blocks : (trace : List Event) → IsLegalTrace s lanes trace → AreWholeBlocks trace
  whole_blocks trace legal = record { blocks = legal.blocks; are = legal.are; whole = are_blocks legal.blocks legal.legal }

-- Each part of a list of choices goes on with a longer list, by steps that stand in a relation.
use Rattle.std.proofs.Common.{◌≡◌, ℕ, zero, suc, ◌+◌, ℤ, List, [], ◌∷◌, ◌++◌, length, Bool, true, false, if◌then◌else◌, Option, Some, None, refl, sym, ap, ◌∙◌, subst, nat_eq, nat_lt}
use Rattle.std.specs.Prelude.{slice_get}
use Rattle.pst_rng.specs.Words.{start_of}
use Rattle.pst_rng.specs.Weights.{weighted_start_of}
use Rattle.pst_expr.specs.Spans.{size_of}
use Rattle.pst_model.specs.declared.action.Field.{Field}
use Rattle.pst_model.specs.ModelTree.{ModelTree}
use Rattle.pst_scen.specs.declared.scenario.Scenario.{Scenario}
use Rattle.pst_legal.specs.Growing.{Look, with_look, is_within, most_levels}
use Rattle.pst_legal.specs.Pieces.{Piece, Action}
use Rattle.pst_legal.specs.Menus.{Menu, Way, Place, Weighted, Closed, menu}
use Rattle.pst_legal.specs.Reading.{Reading, Stops, Reads, Reader, then_read, read_place, put_value, value_number, option_at, read_fields, read_menu, read_pieces, if_within, read_way, read_piece, read_tree}
use Rattle.pst_legal.specs.SupplyReading.{Spot, Source, next_need, sources, supplied_by, inferred, end_supply, chosen, read_turn, read_supply}
use Rattle.pst_legal.specs.Blanks.{Blank, options, claim_blanks, value_blanks}
use Rattle.pst_legal.specs.ValueReading.{with_option, with_firsts, read_blanks, read_values}
pub use Rattle.pst_built.specs.StepsOf.{FieldSteps, BlankSteps, ValueSteps, AllWays}
use Rattle.pst_built.proofs.Goes.{Stands, After, Goes, same_go, stands_on, place_stands_at, goes_place, goes_always, after_on, goes_then}

module _ (R : Scenario → Scenario → Type 0) (same : (s : Scenario) → R s s) (both : (s t u : Scenario) → R s t → R t u → R s u) where
  goes_menu : (Q : Look → List Field → Type 0) (seed : ℕ) (x : Menu) (go : Look → List Field → (List ℤ → List Piece) → Reader) (s : Scenario) (p : ℕ) (ds : List ℕ) → AllWays Q x
      → ((look : Look) (fields : List Field) (below : List ℤ → List Piece) (q : ℕ) (rest : List ℕ) → Q look fields → Goes R s (go look fields below) q rest) → Goes R s (read_menu seed x go) p ds
  goes_menu Q seed (Way look fields below) go s p ds all each = each look fields below p ds all
  goes_menu Q seed (Place n after) go s p ds all each =
      goes_always R s (start_of seed p n) n p (λ k. read_menu seed (after k) go) ds (same s) (λ k q rest l. goes_menu Q seed (after k) go s q rest (all k) each)
  goes_menu Q seed (Weighted weights after) go s p ds all each =
      goes_always R s (weighted_start_of seed p weights) (length weights) p (λ k. read_menu seed (after k) go) ds (same s) (λ k q rest l. goes_menu Q seed (after k) go s q rest (all k) each)
  goes_menu Q seed Closed go s p ds all each = λ more. refl

  goes_fields : (seed n : ℕ) (fields : List Field) (known : List ℤ) (go : List ℤ → Reader) (s : Scenario) (p : ℕ) (ds : List ℕ) → FieldSteps R n fields s
      → ((values : List ℤ) (t : Scenario) (q : ℕ) (rest : List ℕ) → R s t → Goes R t (go values) q rest) → Goes R s (read_fields seed n fields known go) p ds
  goes_fields seed n [] known go s p ds steps each = each known s p ds (same s)
  goes_fields seed n (field ∷ fields) known go s p ds steps each =
      goes_always R s (start_of seed p (size_of field.domain)) (size_of field.domain) p
      (λ k read. read_fields seed n fields (known ++ value_number field k ∷ []) go (put_value read n (value_number field k))) ds (same s)
      (λ k q rest l. let t = put_value s n (value_number field k) in
      let step = steps k l in
      after_on R both s t (read_fields seed n fields (known ++ value_number field k ∷ []) go t q rest)
      (λ more. read_fields seed n fields (known ++ value_number field k ∷ []) go t q (rest ++ more)) step.0
      (goes_fields seed n fields (known ++ value_number field k ∷ []) go t q rest step.1 (λ values u r left has. each values u r left (both s t u step.0 has))))

  goes_pieces : (one : Piece → Option ℕ → Reader) (xs : List Piece) (parent : ℕ) (s : Scenario) (p : ℕ) (ds : List ℕ)
      → ((x : Piece) (t : Scenario) (q : ℕ) (rest : List ℕ) → Goes R t (one x (Some parent)) q rest) → Goes R s (read_pieces one xs parent) p ds
  goes_pieces one [] parent s p ds each = (same s, λ more. refl)
  goes_pieces one (x ∷ xs) parent s p ds each =
      goes_then R both s (one x (Some parent) s p ds) (λ more. one x (Some parent) s p (ds ++ more)) (read_pieces one xs parent) (each x s p ds)
      (λ t q rest has. goes_pieces one xs parent t q rest each)

  goes_if : (s : Scenario) (b : Bool) (f : Reader) (p : ℕ) (ds : List ℕ) → (b ≡ true → Goes R s f p ds)
      → After R s (if b then f s p ds else Stops) (λ more. if b then f s p (ds ++ more) else Stops)
  goes_if s true f p ds h = h refl
  goes_if s false f p ds h = λ more. refl

  -- ---- the tree

  module _ (m : ModelTree) (Q : Look → List Field → Type 0) (ways : (piece : Piece) → AllWays Q (menu m piece))
      (looks : (s : Scenario) (parent : Option ℕ) (look : Look) (fields : List Field) → Q look fields → R s (with_look m s parent look) × FieldSteps R (length s.nodes) fields (with_look m s parent look)) where
    goes_way : (seed : ℕ) (one : Piece → Option ℕ → Reader) (parent : Option ℕ) (look : Look) (fields : List Field) (below : List ℤ → List Piece) (s : Scenario) (p : ℕ) (ds : List ℕ) → Q look fields
        → ((x : Piece) (top : ℕ) (t : Scenario) (q : ℕ) (rest : List ℕ) → Goes R t (one x (Some top)) q rest) → Goes R s (read_way m seed one parent look fields below) p ds
    goes_way seed one parent look fields below s p ds is each =
        let t = with_look m s parent look in
        let step = looks s parent look fields is in
        let go : Reader = read_fields seed (length s.nodes) fields [] (λ values. read_pieces one (below values) (length s.nodes)) in
        after_on R both s t (if_within go t p ds) (λ more. if_within go t p (ds ++ more)) step.0
        (goes_if t (is_within t) go p ds (λ e. goes_fields seed (length s.nodes) fields [] (λ values. read_pieces one (below values) (length s.nodes)) t p ds step.1
        (λ values u q rest has. goes_pieces one (below values) (length s.nodes) u q rest (λ x. each x (length s.nodes)))))

    pub goes_piece : (seed levels : ℕ) (piece : Piece) (parent : Option ℕ) (s : Scenario) (p : ℕ) (ds : List ℕ) → Goes R s (read_piece m seed levels piece parent) p ds
    goes_piece seed zero piece parent s p ds =
        goes_menu Q seed (menu m piece) (λ look fields below s place left. Stops) s p ds (ways piece) (λ look fields below q rest is. λ more. refl)
    goes_piece seed (suc levels) piece parent s p ds =
        goes_menu Q seed (menu m piece) (read_way m seed (read_piece m seed levels) parent) s p ds (ways piece)
        (λ look fields below q rest is. goes_way seed (read_piece m seed levels) parent look fields below s q rest is
        (λ x top t r left. goes_piece seed levels x (Some top) t r left))

    pub goes_tree : (seed root : ℕ) (s : Scenario) (p : ℕ) (ds : List ℕ) → Goes R s (read_tree m seed root) p ds
    goes_tree seed root s p ds = goes_piece seed most_levels (Action root None) None s p ds

  -- ---- the sources

  module _ (m : ModelTree) (seed : ℕ)
      (links : (s : Scenario) (need : Spot) (source : Source) (k : ℕ) → next_need m s ≡ Some need → slice_get (sources m s need) k ≡ Some source → R s (supplied_by m s need source)) where
    chosen_same : (s : Scenario) (need : Spot) (o : Option Source) (q : ℕ) (ds : List ℕ)
        → chosen m need o (λ more next rest. read_supply m seed more next ds) s q ds ≡ chosen m need o (read_supply m seed) s q ds
    chosen_same s need None q ds = refl
    chosen_same s need (Some source) q ds = refl

    supply_is : (s : Scenario) (p : ℕ) (need : Spot) → next_need m s ≡ Some need → (ds : List ℕ)
        → read_supply m seed s p ds ≡ read_place (start_of seed p (length (sources m s need))) (length (sources m s need)) (λ k. chosen m need (slice_get (sources m s need) k) (read_supply m seed)) s p ds
    supply_is s p need is [] = ap (λ turn. read_turn m seed turn (λ s place left. Stops) s p []) is
    supply_is s p need is (d ∷ ds) =
        ap (λ turn. read_turn m seed turn (λ more next rest. read_supply m seed more next ds) s p (d ∷ ds)) is
        ∙ ap (λ r. if nat_lt d (length (sources m s need)) then r else Stops)
        (chosen_same s need (slice_get (sources m s need) (option_at (start_of seed p (length (sources m s need))) (length (sources m s need)) d)) (p + 1) ds)

    supply_end : (s : Scenario) (p : ℕ) → next_need m s ≡ None → (ds : List ℕ) → read_supply m seed s p ds ≡ end_supply s p ds
    supply_end s p is [] = ap (λ turn. read_turn m seed turn (λ s place left. Stops) s p []) is
    supply_end s p is (d ∷ ds) = ap (λ turn. read_turn m seed turn (λ more next rest. read_supply m seed more next ds) s p (d ∷ ds)) is

    end_stands : (s : Scenario) (b : Bool) (p : ℕ) (ds : List ℕ) → Stands R s (if b then Reads s p ds else Stops)
    end_stands s true p ds = same s
    end_stands s false p ds = tt

    chosen_stands : (ds : List ℕ) (s : Scenario) (need : Spot) (k q : ℕ) (o : Option Source) → next_need m s ≡ Some need → slice_get (sources m s need) k ≡ o
        → ((t : Scenario) (r : ℕ) → Stands R t (read_supply m seed t r ds)) → Stands R s (chosen m need o (read_supply m seed) s q ds)
    chosen_stands ds s need k q None is there each = tt
    chosen_stands ds s need k q (Some source) is there each =
        stands_on R both s (supplied_by m s need source) (read_supply m seed (supplied_by m s need source) q ds) (links s need source k is there) (each (supplied_by m s need source) q)

    -- where reading stands, whatever is left
    turn_stands : (ds : List ℕ) (s : Scenario) (p : ℕ) (o : Option Spot) → next_need m s ≡ o
        → ((d : ℕ) (rest : List ℕ) → ds ≡ d ∷ rest → (t : Scenario) (r : ℕ) → Stands R t (read_supply m seed t r rest)) → Stands R s (read_supply m seed s p ds)
    turn_stands ds s p None is each =
        subst (Stands R s) (sym (supply_end s p is ds)) (end_stands s (nat_eq (inferred s) s.level) p ds)
    turn_stands ds s p (Some need) is each =
        let n = length (sources m s need) in
        subst (Stands R s) (sym (supply_is s p need is ds))
        (place_stands_at R s (start_of seed p n) n p (λ k. chosen m need (slice_get (sources m s need) k) (read_supply m seed)) ds (same s)
        (λ k d rest l e. chosen_stands rest s need k (p + 1) (slice_get (sources m s need) k) is refl (each d rest e)))

    tail_is : (d e : ℕ) (ds es : List ℕ) → (d ∷ ds) ≡ (e ∷ es) → ds ≡ es
    tail_is d e ds es is = cc

    supply_stands : (ds : List ℕ) (s : Scenario) (p : ℕ) → Stands R s (read_supply m seed s p ds)
    supply_stands [] s p = turn_stands [] s p (next_need m s) refl (λ d rest e. absurd cc)
    supply_stands (d ∷ ds) s p =
        turn_stands (d ∷ ds) s p (next_need m s) refl (λ e rest is t r. subst (λ xs. Stands R t (read_supply m seed t r xs)) (tail_is d e ds rest is) (supply_stands ds t r))

    chosen_goes : (ds : List ℕ) (s : Scenario) (need : Spot) (k q : ℕ) (o : Option Source) → next_need m s ≡ Some need → slice_get (sources m s need) k ≡ o
        → ((t : Scenario) (r : ℕ) → Goes R t (read_supply m seed) r ds) → Goes R s (chosen m need o (read_supply m seed)) q ds
    chosen_goes ds s need k q None is there each = λ more. refl
    chosen_goes ds s need k q (Some source) is there each =
        let t = supplied_by m s need source in
        after_on R both s t (read_supply m seed t q ds) (λ more. read_supply m seed t q (ds ++ more)) (links s need source k is there) (each t q)

    end_goes : (s : Scenario) (b : Bool) (p : ℕ) (ds : List ℕ) → After R s (if b then Reads s p ds else Stops) (λ more. if b then Reads s p (ds ++ more) else Stops)
    end_goes s true p ds = (same s, λ more. refl)
    end_goes s false p ds = λ more. refl

    moved : (s : Scenario) (r other : Reading) (go : List ℕ → Reading) → other ≡ r → After R s r go → After R s other go
    moved s r other go is after = subst (λ x. After R s x go) (sym is) after

    turn_goes : (ds : List ℕ) (s : Scenario) (p : ℕ) (o : Option Spot) → next_need m s ≡ o
        → ((d : ℕ) (rest : List ℕ) → ds ≡ d ∷ rest → (t : Scenario) (r : ℕ) → Goes R t (read_supply m seed) r rest) → Goes R s (read_supply m seed) p ds
    turn_goes ds s p None is each =
        let b = nat_eq (inferred s) s.level in
        moved s (end_supply s p ds) (read_supply m seed s p ds) (λ more. read_supply m seed s p (ds ++ more)) (supply_end s p is ds)
        (same_go R s (end_supply s p ds) (λ more. end_supply s p (ds ++ more)) (λ more. read_supply m seed s p (ds ++ more)) (λ more. supply_end s p is (ds ++ more)) (end_goes s b p ds))
    turn_goes ds s p (Some need) is each =
        let n = length (sources m s need) in
        let next : ℕ → Reader = λ k. chosen m need (slice_get (sources m s need) k) (read_supply m seed) in
        let f : Reader = read_place (start_of seed p n) n next in
        moved s (f s p ds) (read_supply m seed s p ds) (λ more. read_supply m seed s p (ds ++ more)) (supply_is s p need is ds)
        (same_go R s (f s p ds) (λ more. f s p (ds ++ more)) (λ more. read_supply m seed s p (ds ++ more)) (λ more. supply_is s p need is (ds ++ more))
        (goes_place R s (start_of seed p n) n p next ds (same s)
        (λ k q rest l. chosen_stands rest s need k q (slice_get (sources m s need) k) is refl (λ t r. supply_stands rest t r))
        (λ k d rest l e. chosen_goes rest s need k (p + 1) (slice_get (sources m s need) k) is refl (each d rest e))))

    pub goes_supply : (ds : List ℕ) (s : Scenario) (p : ℕ) → Goes R s (read_supply m seed) p ds
    goes_supply [] s p = turn_goes [] s p (next_need m s) refl (λ d rest e. absurd cc)
    goes_supply (d ∷ ds) s p =
        turn_goes (d ∷ ds) s p (next_need m s) refl (λ e rest is t r. subst (λ xs. Goes R t (read_supply m seed) r xs) (tail_is d e ds rest is) (goes_supply ds t r))

  -- ---- the values

  pub goes_blanks : (m : ModelTree) (seed : ℕ) (blanks : List Blank) (s : Scenario) (p : ℕ) (ds : List ℕ) → BlankSteps R m blanks s → Goes R s (read_blanks m seed blanks) p ds
  goes_blanks m seed [] s p ds steps = (same s, λ more. refl)
  goes_blanks m seed (blank ∷ more) s p ds steps =
      let n = options m s.actions blank in
      goes_always R s (start_of seed p n) n p (λ k read. read_blanks m seed more (with_option m k blank read)) ds (same s)
      (λ k q rest l. let t = with_option m k blank s in
      let step = steps k l in
      after_on R both s t (read_blanks m seed more t q rest) (λ others. read_blanks m seed more t q (rest ++ others)) step.0 (goes_blanks m seed more t q rest step.1))

  pub goes_values : (m : ModelTree) (seed : ℕ) (s : Scenario) (p : ℕ) (ds : List ℕ) → ValueSteps R m s → Goes R s (read_values m seed) p ds
  goes_values m seed s p ds steps =
      let t = with_firsts m s in
      let claims = claim_blanks m s.actions in
      let values = read_blanks m seed (value_blanks m s.actions) in
      after_on R both s t (then_read (read_blanks m seed claims t p ds) values) (λ more. then_read (read_blanks m seed claims t p (ds ++ more)) values) steps.firsts
      (goes_then R both t (read_blanks m seed claims t p ds) (λ more. read_blanks m seed claims t p (ds ++ more)) values (goes_blanks m seed claims t p ds steps.claims)
      (λ u q rest has. goes_blanks m seed (value_blanks m s.actions) u q rest (steps.values u has)))

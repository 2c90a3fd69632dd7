-- A list of which choices are left begins with one that is read to its end.
use Rattle.std.proofs.Common.{◌≡◌, ℕ, zero, suc, ◌+◌, ℤ, List, [], ◌∷◌, ◌++◌, length, Bool, true, false, nat_eq, nat_lt, if◌then◌else◌, Option, Some, None, refl, sym, ap, ◌∙◌, append_assoc, length-append, arith}
use Rattle.std.specs.Prelude.{slice_get}
use Rattle.pst_rng.specs.Words.{start_of}
use Rattle.pst_rng.specs.Weights.{weighted_start_of}
use Rattle.pst_expr.specs.Spans.{size_of}
use Rattle.pst_model.specs.declared.action.Field.{Field}
use Rattle.pst_model.specs.ModelTree.{ModelTree}
use Rattle.pst_scen.specs.declared.scenario.Scenario.{Scenario}
use Rattle.pst_legal.specs.Growing.{Look, with_look, is_within, most_levels}
use Rattle.pst_legal.specs.Pieces.{Piece, Action}
use Rattle.pst_legal.specs.Menus.{Menu, Way, Place, Weighted, Closed, menu}
use Rattle.pst_legal.specs.Reading.{Reading, Wants, Stops, Reads, Reader, then_read, read_place, put_value, value_number, option_at, read_fields, read_menu, read_pieces, read_way, read_piece, read_tree}
use Rattle.pst_legal.specs.SupplyReading.{Spot, Source, next_need, sources, supplied_by, inferred, end_supply, chosen, read_turn, read_supply}

-- the first of the choices are read to the end, whatever stands behind them
pub record Cut (p : ℕ) (f : List ℕ → Reading) (ds : List ℕ) (t : Scenario) (q : ℕ) (left : List ℕ) : Type 0 where
  pub used : List ℕ
  pub counts : q ≡ p + length used
  pub is : ds ≡ used ++ left
  pub reads : (more : List ℕ) → f (used ++ more) ≡ Reads t q more

abbrev pub Cuts : ℕ → (List ℕ → Reading) → List ℕ → Reading → Type 0
Cuts p f ds (Wants s n) = Unit {0}
Cuts p f ds Stops = Unit {0}
Cuts p f ds (Reads t q left) = Cut p f ds t q left

cuts_wants : (p : ℕ) (f : List ℕ → Reading) (s : Scenario) (n : ℕ) (b : Bool) → Cuts p f [] (if b then Wants s n else Stops)
cuts_wants p f s n true = tt
cuts_wants p f s n false = tt

cuts_one : (p : ℕ) (f g : List ℕ → Reading) (d : ℕ) (ds : List ℕ) (b : Bool) → ((more : List ℕ) → f (d ∷ more) ≡ (if b then g more else Stops)) → (r : Reading) → Cuts (p + 1) g ds r → Cuts p f (d ∷ ds) (if b then r else Stops)
cuts_one p f g d ds false on r cut = tt
cuts_one p f g d ds true on (Wants s n) cut = tt
cuts_one p f g d ds true on Stops cut = tt
cuts_one p f g d ds true on (Reads t q left) cut = record { used = d ∷ cut.used; counts = (let e = cut.counts in omega (arith, e)); is = ap (λ xs. d ∷ xs) cut.is; reads = λ more. on (cut.used ++ more) ∙ cut.reads more }

cuts_place : (start n place : ℕ) (next : ℕ → Reader) (s : Scenario) (ds : List ℕ) → ((k p : ℕ) (rest : List ℕ) → Cuts p (next k s p) rest (next k s p rest))
    → Cuts place (read_place start n next s place) ds (read_place start n next s place ds)
cuts_place start n place next s [] each = cuts_wants place (read_place start n next s place) s n (nat_lt 0 n)
cuts_place start n place next s (d ∷ ds) each =
    cuts_one place (read_place start n next s place) (next (option_at start n d) s (place + 1)) d ds (nat_lt d n) (λ more. refl) (next (option_at start n d) s (place + 1) ds) (each (option_at start n d) (place + 1) ds)

cuts_both : (p : ℕ) (r : List ℕ → Reading) (g : Reader) (ds : List ℕ) (t : Scenario) (q : ℕ) (left : List ℕ) → Cut p r ds t q left → (y : Reading) → Cuts q (g t q) left y → Cuts p (λ xs. then_read (r xs) g) ds y
cuts_both p r g ds t q left cut (Wants s n) other = tt
cuts_both p r g ds t q left cut Stops other = tt
cuts_both p r g ds t q left cut (Reads u k rest) other = record {
  used = cut.used ++ other.used;
  counts = (let one = cut.counts in let two = other.counts in let sum : length (cut.used ++ other.used) ≡ length cut.used + length other.used = length-append cut.used other.used in omega (arith, one, two, sum));
  is = cut.is ∙ ap (λ xs. cut.used ++ xs) other.is ∙ sym (append_assoc cut.used other.used rest);
  reads = λ more. ap (λ xs. then_read (r xs) g) (append_assoc cut.used other.used more) ∙ ap (λ x. then_read x g) (cut.reads (other.used ++ more)) ∙ other.reads more;
}

pub cuts_then : (p : ℕ) (r : List ℕ → Reading) (g : Reader) (ds : List ℕ) (x : Reading) → Cuts p r ds x → ((t : Scenario) (q : ℕ) (left : List ℕ) → Cuts q (g t q) left (g t q left))
    → Cuts p (λ xs. then_read (r xs) g) ds (then_read x g)
cuts_then p r g ds (Wants s n) cut each = tt
cuts_then p r g ds Stops cut each = tt
cuts_then p r g ds (Reads t q left) cut each = cuts_both p r g ds t q left cut (g t q left) (each t q left)

cuts_menu : (seed : ℕ) (x : Menu) (go : Look → List Field → (List ℤ → List Piece) → Reader) (s : Scenario) (p : ℕ) (ds : List ℕ)
    → ((look : Look) (fields : List Field) (below : List ℤ → List Piece) (q : ℕ) (rest : List ℕ) → Cuts q (go look fields below s q) rest (go look fields below s q rest)) → Cuts p (read_menu seed x go s p) ds (read_menu seed x go s p ds)
cuts_menu seed (Way look fields below) go s p ds each = each look fields below p ds
cuts_menu seed (Place n after) go s p ds each = cuts_place (start_of seed p n) n p (λ k. read_menu seed (after k) go) s ds (λ k q rest. cuts_menu seed (after k) go s q rest each)
cuts_menu seed (Weighted weights after) go s p ds each =
    cuts_place (weighted_start_of seed p weights) (length weights) p (λ k. read_menu seed (after k) go) s ds (λ k q rest. cuts_menu seed (after k) go s q rest each)
cuts_menu seed Closed go s p ds each = tt

cuts_fields : (seed n : ℕ) (fields : List Field) (known : List ℤ) (go : List ℤ → Reader) (s : Scenario) (p : ℕ) (ds : List ℕ)
    → ((values : List ℤ) (t : Scenario) (q : ℕ) (rest : List ℕ) → Cuts q (go values t q) rest (go values t q rest)) → Cuts p (read_fields seed n fields known go s p) ds (read_fields seed n fields known go s p ds)
cuts_fields seed n [] known go s p ds each = each known s p ds
cuts_fields seed n (field ∷ fields) known go s p ds each =
    cuts_place (start_of seed p (size_of field.domain)) (size_of field.domain) p
    (λ k read. read_fields seed n fields (known ++ value_number field k ∷ []) go (put_value read n (value_number field k))) s ds
    (λ k q rest. cuts_fields seed n fields (known ++ value_number field k ∷ []) go (put_value s n (value_number field k)) q rest each)

cuts_pieces : (one : Piece → Option ℕ → Reader) (xs : List Piece) (parent : ℕ) (s : Scenario) (p : ℕ) (ds : List ℕ)
    → ((x : Piece) (t : Scenario) (q : ℕ) (rest : List ℕ) → Cuts q (one x (Some parent) t q) rest (one x (Some parent) t q rest)) → Cuts p (read_pieces one xs parent s p) ds (read_pieces one xs parent s p ds)
cuts_pieces one [] parent s p ds each = record { used = []; counts = omega arith; is = refl; reads = λ more. refl }
cuts_pieces one (x ∷ xs) parent s p ds each =
    cuts_then p (one x (Some parent) s p) (read_pieces one xs parent) ds (one x (Some parent) s p ds) (each x s p ds) (λ t q left. cuts_pieces one xs parent t q left each)

cuts_if : (p : ℕ) (b : Bool) (f : List ℕ → Reading) (ds : List ℕ) → Cuts p f ds (f ds) → Cuts p (λ xs. if b then f xs else Stops) ds (if b then f ds else Stops)
cuts_if p true f ds cut = cut
cuts_if p false f ds cut = tt

cuts_way : (m : ModelTree) (seed : ℕ) (one : Piece → Option ℕ → Reader) (parent : Option ℕ) (look : Look) (fields : List Field) (below : List ℤ → List Piece) (s : Scenario) (p : ℕ) (ds : List ℕ)
    → ((x : Piece) (top : ℕ) (t : Scenario) (q : ℕ) (rest : List ℕ) → Cuts q (one x (Some top) t q) rest (one x (Some top) t q rest))
    → Cuts p (read_way m seed one parent look fields below s p) ds (read_way m seed one parent look fields below s p ds)
cuts_way m seed one parent look fields below s p ds each =
    let t = with_look m s parent look in
    cuts_if p (is_within t) (read_fields seed (length s.nodes) fields [] (λ values. read_pieces one (below values) (length s.nodes)) t p) ds
    (cuts_fields seed (length s.nodes) fields [] (λ values. read_pieces one (below values) (length s.nodes)) t p ds
    (λ values u q rest. cuts_pieces one (below values) (length s.nodes) u q rest (λ x. each x (length s.nodes))))

cuts_piece : (m : ModelTree) (seed levels : ℕ) (piece : Piece) (parent : Option ℕ) (s : Scenario) (p : ℕ) (ds : List ℕ) → Cuts p (read_piece m seed levels piece parent s p) ds (read_piece m seed levels piece parent s p ds)
cuts_piece m seed zero piece parent s p ds = cuts_menu seed (menu m piece) (λ look fields below s place left. Stops) s p ds (λ look fields below q rest. tt)
cuts_piece m seed (suc levels) piece parent s p ds =
    cuts_menu seed (menu m piece) (read_way m seed (read_piece m seed levels) parent) s p ds
    (λ look fields below q rest. cuts_way m seed (read_piece m seed levels) parent look fields below s q rest (λ x top t r left. cuts_piece m seed levels x (Some top) t r left))

pub cuts_tree : (m : ModelTree) (seed root : ℕ) (s : Scenario) (p : ℕ) (ds : List ℕ) → Cuts p (read_tree m seed root s p) ds (read_tree m seed root s p ds)
cuts_tree m seed root s p ds = cuts_piece m seed most_levels (Action root None) None s p ds

-- ---- the sources

module _ (m : ModelTree) (seed : ℕ) where
  reads_end : (s : Scenario) (p : ℕ) (b : Bool) (ds : List ℕ) → (f : List ℕ → Reading) → ((more : List ℕ) → f more ≡ (if b then Reads s p more else Stops)) → Cuts p f ds (if b then Reads s p ds else Stops)
  reads_end s p true ds f on = record { used = []; counts = omega arith; is = refl; reads = on }
  reads_end s p false ds f on = tt

  at_end : (s : Scenario) (p : ℕ) → next_need m s ≡ None → (ds : List ℕ) → read_supply m seed s p ds ≡ end_supply s p ds
  at_end s p is [] = ap (λ turn. read_turn m seed turn (λ s place left. Stops) s p []) is
  at_end s p is (d ∷ ds) = ap (λ turn. read_turn m seed turn (λ more next rest. read_supply m seed more next ds) s p (d ∷ ds)) is

  cuts_chosen : (need : Spot) (o : Option Source) (s : Scenario) (p : ℕ) (rest : List ℕ) → ((t : Scenario) (q : ℕ) → Cuts q (read_supply m seed t q) rest (read_supply m seed t q rest))
      → Cuts p (λ xs. chosen m need o (λ more next left. read_supply m seed more next xs) s p xs) rest (chosen m need o (λ more next left. read_supply m seed more next rest) s p rest)
  cuts_chosen need None s p rest each = tt
  cuts_chosen need (Some source) s p rest each = each (supplied_by m s need source) p

  cuts_turn : (s : Scenario) (p d : ℕ) (ds : List ℕ) (o : Option Spot) → next_need m s ≡ o → ((t : Scenario) (q : ℕ) → Cuts q (read_supply m seed t q) ds (read_supply m seed t q ds))
      → Cuts p (read_supply m seed s p) (d ∷ ds) (read_turn m seed o (λ more next rest. read_supply m seed more next ds) s p (d ∷ ds))
  cuts_turn s p d ds None is each = reads_end s p (nat_eq (inferred s) s.level) (d ∷ ds) (read_supply m seed s p) (at_end s p is)
  cuts_turn s p d ds (Some need) is each =
      let n = length (sources m s need) in
      let k = option_at (start_of seed p n) n d in
      cuts_one p (read_supply m seed s p) (λ xs. chosen m need (slice_get (sources m s need) k) (λ more next left. read_supply m seed more next xs) s (p + 1) xs) d ds (nat_lt d n)
      (λ more. ap (λ turn. read_turn m seed turn (λ a b c. read_supply m seed a b more) s p (d ∷ more)) is)
      (chosen m need (slice_get (sources m s need) k) (λ more next left. read_supply m seed more next ds) s (p + 1) ds)
      (cuts_chosen need (slice_get (sources m s need) k) s (p + 1) ds each)

  cuts_nothing : (s : Scenario) (p : ℕ) (o : Option Spot) → next_need m s ≡ o → Cuts p (read_supply m seed s p) [] (read_turn m seed o (λ s place left. Stops) s p [])
  cuts_nothing s p None is = reads_end s p (nat_eq (inferred s) s.level) [] (read_supply m seed s p) (at_end s p is)
  cuts_nothing s p (Some need) is = cuts_wants p (read_supply m seed s p) s (length (sources m s need)) (nat_lt 0 (length (sources m s need)))

  pub cuts_supply : (ds : List ℕ) (s : Scenario) (p : ℕ) → Cuts p (read_supply m seed s p) ds (read_supply m seed s p ds)
  cuts_supply [] s p = cuts_nothing s p (next_need m s) refl
  cuts_supply (d ∷ ds) s p = cuts_turn s p d ds (next_need m s) refl (λ t q. cuts_supply ds t q)

-- What is read went one of the ways.
use Rattle.std.proofs.Common.{◌≡◌, ℕ, zero, suc, ◌+◌, ◌<◌, ℤ, pos, List, [], ◌∷◌, ◌++◌, length, get_or, Bool, true, false, nat_lt, if◌then◌else◌, Option, refl, sym, ap, ◌∙◌, arith, append_assoc, append-nil}
use Rattle.std.specs.List.{AllZip}
use Rattle.std.proofs.lemmas.Bool.{ltb-true}
use Rattle.std.proofs.Math.Nat.{mod-lt}
use Rattle.pst_rng.specs.Words.{start_of}
use Rattle.pst_rng.specs.Weights.{weighted_start_of}
use Rattle.pst_expr.specs.Spans.{IsDomain, values, size_of}
use Rattle.pst_expr.specs.Laws.{DomainsListValues}
use Rattle.pst_model.specs.declared.action.Field.{Field}
use Rattle.pst_model.specs.ModelTree.{ModelTree}
use Rattle.pst_scen.specs.declared.scenario.Scenario.{Scenario}
use Rattle.pst_legal.specs.Growing.{Look, with_look, is_within}
use Rattle.pst_legal.specs.Pieces.{Piece, IsValueOf}
use Rattle.pst_legal.specs.Menus.{Menu, Way, Place, Weighted, Closed}
use Rattle.pst_legal.specs.Reading.{Reading, Wants, Stops, Reads, Reader, then_read, option_at, read_place, put_value, value_number, read_fields, read_menu, read_pieces, read_way}
use Rattle.pst_built.proofs.Menus.{look_with, LeadsTo}
use Rattle.pst_built.proofs.ReachedNodes.{look_none, put_look}

-- an option with which reading went on
pub record Option-went (next : ℕ → Reader) (n : ℕ) (s t : Scenario) (place end : ℕ) (rest : List ℕ) : Type 0 where
  pub k : ℕ
  pub below : k < n
  pub left : List ℕ
  pub reads : next k s (place + 1) left ≡ Reads t end rest

no_wants : (s t : Scenario) (n end : ℕ) (rest : List ℕ) → Wants s n ≡ Reads t end rest → ⊥
no_wants s t n end rest e = cc

pub no_stops : (t : Scenario) (end : ℕ) (rest : List ℕ) → Stops ≡ Reads t end rest → ⊥
no_stops t end rest e = cc

pub place_went : (start n : ℕ) (next : ℕ → Reader) (s t : Scenario) (place : ℕ) (left : List ℕ) (end : ℕ) (rest : List ℕ) → read_place start n next s place left ≡ Reads t end rest → Option-went next n s t place end rest
place_went start n next s t place [] end rest e = by (nat_lt 0 n) e
  where
    by : (b : Bool) → (if b then Wants s n else Stops) ≡ Reads t end rest → Option-went next n s t place end rest
    by true h = absurd (no_wants s t n end rest h)
    by false h = absurd (no_stops t end rest h)
place_went start n next s t place (d ∷ left) end rest e = by (nat_lt d n) refl e
  where
    by : (b : Bool) → nat_lt d n ≡ b → (if b then next (option_at start n d) s (place + 1) left else Stops) ≡ Reads t end rest → Option-went next n s t place end rest
    by true l h = let below : d < n = ltb-true d n l in record { k = option_at start n d; below = mod-lt (start + d) (omega (arith, below)); left = left; reads = h }
    by false l h = absurd (no_stops t end rest h)

-- what one reader after another has read, the first has read before the second
pub record Twice (r : Reading) (go : Reader) (t : Scenario) (end : ℕ) (rest : List ℕ) : Type 0 where
  pub mid : Scenario
  pub place : ℕ
  pub left : List ℕ
  pub first : r ≡ Reads mid place left
  pub second : go mid place left ≡ Reads t end rest

pub twice : (r : Reading) (go : Reader) (t : Scenario) (end : ℕ) (rest : List ℕ) → then_read r go ≡ Reads t end rest → Twice r go t end rest
twice (Wants u n) go t end rest e = absurd (no_wants u t n end rest e)
twice Stops go t end rest e = absurd (no_stops t end rest e)
twice (Reads u place left) go t end rest e = record { mid = u; place = place; left = left; first = refl; second = e }

-- a value of a field's domain
pub value_of : DomainsListValues → (field : Field) (k : ℕ) → IsDomain field.domain → k < size_of field.domain → IsValueOf field (value_number field k)
value_of listed field k domain below =
    let l = listed field.domain domain in
    let v = value_number field k in
    let within : k < length (values field.domain) = omega (arith, l.count, below) in
    (l.exactly v).0 (k, within, get_same (values field.domain) k (pos 0) within)
  where
    get_same : (xs : List ℤ) (i : ℕ) (d : ℤ) → i < length xs → get_or xs i (get_or xs i d) ≡ get_or xs i d
    get_same [] i d h = absurd (omega (arith, h))
    get_same (x ∷ xs) zero d h = refl
    get_same (x ∷ xs) (suc i) d h = get_same xs i d (omega (arith, h))

abbrev pub AreDomains : List Field → Type 0
AreDomains [] = Unit {0}
AreDomains (field ∷ fields) = IsDomain field.domain × AreDomains fields

-- the values with which the fields' reading went on
pub record Fields-went (m : ModelTree) (s t : Scenario) (parent : Option ℕ) (look : Look) (fields : List Field) (known : List ℤ) (go : List ℤ → Reader) (end : ℕ) (rest : List ℕ) : Type 0 where
  pub values : List ℤ
  pub zip : AllZip IsValueOf fields values
  pub place : ℕ
  pub left : List ℕ
  pub reads : go (known ++ values) (with_look m s parent (look_with look (known ++ values))) place left ≡ Reads t end rest

pub fields_went : DomainsListValues → (m : ModelTree) (seed : ℕ) (s t : Scenario) (parent : Option ℕ) (look : Look) (fields : List Field) (known : List ℤ) (go : List ℤ → Reader) (place : ℕ) (left : List ℕ) (end : ℕ) (rest : List ℕ) → AreDomains fields
    → read_fields seed (length s.nodes) fields known go (with_look m s parent (look_with look known)) place left ≡ Reads t end rest → Fields-went m s t parent look fields known go end rest
fields_went listed m seed s t parent look [] known go place left end rest domains e = record {
  values = [];
  zip = tt;
  place = place;
  left = left;
  reads = ap (λ ks. go ks (with_look m s parent (look_with look ks)) place left) (append-nil known) ∙ e;
}
fields_went listed m seed s t parent look (field ∷ fields) known go place left end rest domains e =
    let n = length s.nodes in
    let at = with_look m s parent (look_with look known) in
    let next : ℕ → Reader = λ x read. read_fields seed n fields (known ++ value_number field x ∷ []) go (put_value read n (value_number field x)) in
    let w = place_went (start_of seed place (size_of field.domain)) (size_of field.domain) next at t place left end rest e in
    let v = value_number field w.k in
    let more = fields_went listed m seed s t parent look fields (known ++ v ∷ []) go (place + 1) w.left end rest domains.1
    (ap (λ u. read_fields seed n fields (known ++ v ∷ []) go u (place + 1) w.left) (sym (put_look m s parent look known v)) ∙ w.reads) in
    record {
      values = v ∷ more.values;
      zip = (value_of listed field w.k domains.0 w.below, more.zip);
      place = more.place;
      left = more.left;
      reads = ap (λ ks. go ks (with_look m s parent (look_with look ks)) more.place more.left) (sym (append_assoc known (v ∷ []) more.values)) ∙ more.reads;
    }

-- each way of the menu has fields with domains
abbrev pub HasDomains : Menu → Type 0
HasDomains (Way look fields below) = AreDomains fields
HasDomains (Place n after) = (k : ℕ) → HasDomains (after k)
HasDomains (Weighted weights after) = (k : ℕ) → HasDomains (after k)
HasDomains Closed = Unit {0}

-- the way with which a menu's reading went on
pub record Menu-went (m : ModelTree) (x : Menu) (one : Piece → Option ℕ → Reader) (parent : Option ℕ) (s t : Scenario) (end : ℕ) (rest : List ℕ) : Type 0 where
  pub look : Look
  pub below : List Piece
  pub leads : LeadsTo x look below
  pub place : ℕ
  pub left : List ℕ
  pub reads : read_pieces one below (length s.nodes) (with_look m s parent look) place left ≡ Reads t end rest

within_went : (b : Bool) (r : Reading) (t : Scenario) (end : ℕ) (rest : List ℕ) → (if b then r else Stops) ≡ Reads t end rest → r ≡ Reads t end rest
within_went true r t end rest e = e
within_went false r t end rest e = absurd (no_stops t end rest e)

pub menu_went : DomainsListValues → (m : ModelTree) (seed : ℕ) (x : Menu) (one : Piece → Option ℕ → Reader) (parent : Option ℕ) (s t : Scenario) (place : ℕ) (left : List ℕ) (end : ℕ) (rest : List ℕ) → HasDomains x
    → read_menu seed x (read_way m seed one parent) s place left ≡ Reads t end rest → Menu-went m x one parent s t end rest
menu_went listed m seed (Way look fields below) one parent s t place left end rest domains e =
    let go : List ℤ → Reader = λ vs. read_pieces one (below vs) (length s.nodes) in
    let read = within_went (is_within (with_look m s parent look)) (read_fields seed (length s.nodes) fields [] go (with_look m s parent look) place left) t end rest e in
    let w = fields_went listed m seed s t parent look fields [] go place left end rest domains
    (ap (λ l. read_fields seed (length s.nodes) fields [] go (with_look m s parent l) place left) (look_none look) ∙ read) in
    record { look = look_with look w.values; below = below w.values; leads = (w.values, w.zip, refl, refl); place = w.place; left = w.left; reads = w.reads }
menu_went listed m seed (Place n after) one parent s t place left end rest domains e =
    let w = place_went (start_of seed place n) n (λ k. read_menu seed (after k) (read_way m seed one parent)) s t place left end rest e in
    let x = menu_went listed m seed (after w.k) one parent s t (place + 1) w.left end rest (domains w.k) w.reads in
    record { look = x.look; below = x.below; leads = (w.k, w.below, x.leads); place = x.place; left = x.left; reads = x.reads }
menu_went listed m seed (Weighted weights after) one parent s t place left end rest domains e =
    let w = place_went (weighted_start_of seed place weights) (length weights) (λ k. read_menu seed (after k) (read_way m seed one parent)) s t place left end rest e in
    let x = menu_went listed m seed (after w.k) one parent s t (place + 1) w.left end rest (domains w.k) w.reads in
    record { look = x.look; below = x.below; leads = (w.k, w.below, x.leads); place = x.place; left = x.left; reads = x.reads }
menu_went listed m seed Closed one parent s t place left end rest domains e = absurd (no_stops t end rest e)

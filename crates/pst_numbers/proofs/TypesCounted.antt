-- Types are numbered as they are declared.
use Rattle.std.proofs.Common.{◌≡◌, ℕ, ◌+◌, ◌<◌, Bool, List, [], ◌∷◌, ◌++◌, length, take, get_or, sym, ap, ◌∙◌, Option, arith}
use Rattle.std.specs.Prelude.{position}
use Rattle.std.proofs.lemmas.List.{take_more, length-take-le}
use Rattle.pst_base.specs.declared.position.Place.{Place}
use Rattle.pst_ast.specs.declared.entry.TypeEntry.{TypeEntry}
use Rattle.pst_ast.specs.Sorts.{same_place}
use Rattle.pst_numbers.specs.declared.keys.PlaceKey.{PlaceKey}
use Rattle.pst_numbers.specs.NumberKeys.{place_key, same_place_key}
use Rattle.pst_numbers.specs.Ranked.{or_new}
use Rattle.pst_numbers.proofs.Counting.{turned}
use Rattle.pst_numbers.proofs.Positions.{position_more}

-- the number of a type by its place, among some entries
abbrev pub number_at : List TypeEntry → Place → Option ℕ
number_at entries place = position (λ e. same_place e.place place) entries

one_more : (entries : List TypeEntry) (entry : TypeEntry) (place : Place) → or_new (number_at entries place) (same_place place entry.place) (length entries) ≡ number_at (entries ++ entry ∷ []) place
one_more entries entry place =
    ap (λ (b : Bool). or_new (number_at entries place) b (length entries)) (turned place entry.place)
    ∙ sym (position_more (λ e. same_place e.place place) entries entry)

-- one entry more has been numbered
pub numbered_on : (entries : List TypeEntry) (i : ℕ) (d : TypeEntry) (found more : PlaceKey → Option ℕ) (number : ℕ)
    → i < length entries → number ≡ i
    → ((place : Place) → found (place_key place) ≡ number_at (take i entries) place)
    → ((q : PlaceKey) → more q ≡ or_new (found q) (same_place_key q (place_key (get_or entries i d).place)) number)
    → (place : Place) → more (place_key place) ≡ number_at (take (i + 1) entries) place
numbered_on entries i d found more number lt same so_far step place =
    let entry : TypeEntry = get_or entries i d in
    step (place_key place)
    ∙ ap (λ (known : Option ℕ). or_new known (same_place place entry.place) number) (so_far place)
    ∙ ap (λ (n : ℕ). or_new (number_at (take i entries) place) (same_place place entry.place) n) (same ∙ sym (length-take-le i entries (omega (arith, lt))))
    ∙ one_more (take i entries) entry place
    ∙ ap (λ (es : List TypeEntry). number_at es place) (sym (take_more entries i d lt))

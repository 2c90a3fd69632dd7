-- How often each type stands among the first actions, counted one action at a time.
use Rattle.std.proofs.Common.{◌≡◌, ◌≢◌, ◌≤◌, ◌<◌, ◌+◌, ◌^◌, ◌∙◌, ℕ, List, true, false, ⊎_elim, length, get_or, take, nat_eq, rules, sym, ap, subst, arith}
use Rattle.std.specs.Prelude.{count_by}
use Rattle.std.proofs.lemmas.Bool.{cases_eq}
use Rattle.std.proofs.lemmas.Bool.Decides.{nat_tests}
use Rattle.std.proofs.lemmas.List.Sums.{count_by_more_no, count_by_more_yes, count_by-le-length}
use Rattle.pst_scen.specs.declared.act.Act.{Act}
use Rattle.pst_sweep_table.specs.Counts.{is_of, AreCountsOf}

-- no type has more actions than there are
pub room_left : (acts : List Act) (i type : ℕ) → i < length acts → length acts < 2 ^ 32 → count_by (is_of type) (take i acts) + 1 < 2 ^ 32
room_left acts i type inside few =
    let most = count_by-le-length (is_of type) (take i acts) in
    let short : length (take i acts) ≤ i = search rules in
    omega (arith, most, short, inside, few)

-- one more action raises the count of its type alone
pub counted_on : (acts : List Act) (i types : ℕ) (act : Act) (old new : List ℕ) → i < length acts → act ≡ get_or acts i act → AreCountsOf (take i acts) types old → length new ≡ length old
    → get_or new act.action 0 ≡ get_or old act.action 0 + 1 → ((m : ℕ) → m ≢ act.action → get_or new m 0 ≡ get_or old m 0) → AreCountsOf (take (i + 1) acts) types new
counted_on acts i types act old new inside is counts long here others =
    let each : (type : ℕ) → type < types → get_or new type 0 ≡ count_by (is_of type) (take (i + 1) acts) =
    λ type below. ⊎_elim (
    λ same.
    let yes : nat_eq type act.action ≡ true = grind (arith, nat_tests, same) in
    subst (λ g. get_or new g 0 ≡ get_or old g 0 + 1) (sym same) here ∙ ap (λ c. c + 1) (counts.each type below) ∙ sym (count_by_more_yes (is_of type) acts i act inside (subst (λ (a : Act). nat_eq type a.action ≡ true) is yes))
    ) (
    λ other.
    let no : nat_eq type act.action ≡ false = grind (arith, nat_tests, other) in
    others type other ∙ counts.each type below ∙ sym (count_by_more_no (is_of type) acts i act inside (subst (λ (a : Act). nat_eq type a.action ≡ false) is no))
    ) (cases_eq type act.action) in
    record { many = long ∙ counts.many; each = each }

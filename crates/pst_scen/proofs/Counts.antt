-- How often each number stands in a list, counted one element at a time.
use Rattle.std.proofs.Common.{◌≡◌, ◌≢◌, ◌≤◌, ◌<◌, ◌+◌, ◌^◌, ◌∙◌, ℕ, List, true, false, ⊎_elim, length, get_or, take, nat_eq, rules, sym, ap, subst, arith}
use Rattle.std.proofs.lemmas.Bool.{cases_eq}
use Rattle.std.proofs.lemmas.Bool.Decides.{nat_tests}
use Rattle.std.proofs.lemmas.List.Sums.{count_by_more_no, count_by_more_yes, count_by-le-length}
use Rattle.pst_scen.specs.Plan.{AreCounts, member_count}

-- no number stands more often in a list than the list is long
pub room_left : (groups : List ℕ) (i group : ℕ) → i < length groups → length groups < 2 ^ 32 → member_count (take i groups) group + 1 < 2 ^ 32
room_left groups i group i_in few =
    let most = count_by-le-length (nat_eq group) (take i groups) in
    let short : length (take i groups) ≤ i = search rules in
    omega (arith, most, short, i_in, few)

-- one more element raises its own count alone
pub counted_on : (groups : List ℕ) (i size : ℕ) (old new : List ℕ) → i < length groups → AreCounts (take i groups) size old → length new ≡ length old → get_or new (get_or groups i 0) 0 ≡ get_or old (get_or groups i 0) 0 + 1 → ((m : ℕ) → m ≢ get_or groups i 0 → get_or new m 0 ≡ get_or old m 0) → AreCounts (take (i + 1) groups) size new
counted_on groups i size old new i_in counts long here others =
    let each : (group : ℕ) → group < size → get_or new group 0 ≡ member_count (take (i + 1) groups) group =
    λ group below. ⊎_elim (
    λ same.
    let yes : nat_eq group (get_or groups i 0) ≡ true = grind (arith, nat_tests, same) in
    subst (λ g. get_or new g 0 ≡ get_or old g 0 + 1) (sym same) here ∙ ap (λ c. c + 1) (counts.each group below) ∙ sym (count_by_more_yes (nat_eq group) groups i 0 i_in yes)
    ) (
    λ other.
    let no : nat_eq group (get_or groups i 0) ≡ false = grind (arith, nat_tests, other) in
    others group other ∙ counts.each group below ∙ sym (count_by_more_no (nat_eq group) groups i 0 i_in no)
    ) (cases_eq group (get_or groups i 0)) in
    record { many = long ∙ counts.many; each = each }

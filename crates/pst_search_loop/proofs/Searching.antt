-- The live lists of a level so far.
use Rattle.std.proofs.Common.{◌≡◌, ℕ, ◌+◌, ◌-◌, ◌<◌, List, [], ◌∷◌, ◌++◌, length, refl, sym, ap, ◌∙◌, subst, arith, length-append}
use Rattle.std.specs.Prelude.{None, Some}
use Rattle.pst_scen.specs.declared.scenario.Scenario.{Scenario}
use Rattle.pst_legal.specs.First.{IsBefore, ReadsLegal, IsLive, NoneBefore, last_of}
use Rattle.pst_list_order.specs.Laws.{LiveListsRise}
use Rattle.pst_search_loop.specs.declared.conflict.Conflict.{Conflict}
use Rattle.pst_search_loop.specs.declared.frame.Frame.{Frame}
use Rattle.pst_search_loop.specs.declared.walker.Look.{Look}
use Rattle.pst_search_loop.specs.declared.walker.Look.TheVariants as look
use Rattle.pst_search_loop.specs.declared.level.Found.{Found}
use Rattle.pst_search_loop.specs.declared.level.Found.TheVariants as found
use Rattle.pst_search_loop.specs.Kept.{Kept, Sought, Shows, FactsHold, SameKept}
use Rattle.pst_search_loop.specs.Stack.{Stands}
use Rattle.pst_search_loop.specs.Search.{Further, Says, IsLeast, AreCounted, IsSpent, IsEmpty, EndsAt, Ends}
use Rattle.pst_search_loop.proofs.Conflicts.{same_self, same_then}
use Rattle.pst_search_loop.proofs.Stack.{stands_first, none_before_here}

-- so many live lists so far, the last of them here
pub record Searching (k l : Kept) (frames : List Frame) (shown : Look) (n : ℕ) : Type 0 where
  pub same : SameKept k l
  pub stands : Stands l frames
  pub shows : Shows l shown
  pub lists : List (List ℕ)
  pub counted : AreCounted k lists n
  pub here : l.choices ≡ last_of [] lists

pub searching_first : (k : Kept) (shown : Look) → k.choices ≡ [] → Shows k shown → Searching k k [] shown 0
searching_first k shown start shows = record {
  same = same_self k;
  stands = stands_first k start;
  shows = shows;
  lists = [];
  counted = record {
    live = record { live = λ i d l. let bad : ⊥ = omega (arith, l) in absurd bad; rising = λ i j d l m. let bad : ⊥ = omega (arith, m) in absurd bad };
    many = refl;
  };
  here = start;
}

last_more : (first : List ℕ) (lists : List (List ℕ)) (x : List ℕ) → last_of first (lists ++ x ∷ []) ≡ x
last_more first [] x = refl
last_more first (list ∷ lists) x = last_more list lists x

live_same : (k l : Kept) (ds : List ℕ) → SameKept k l → IsLive l.model l.root l.seed l.level ds → IsLive k.model k.root k.seed k.level ds
live_same k l ds same live =
    subst (λ m. IsLive m k.root k.seed k.level ds) same.model (subst (λ r. IsLive l.model r k.seed k.level ds) same.root
    (subst (λ x. IsLive l.model l.root x k.level ds) same.seed (subst (λ x. IsLive l.model l.root l.seed x ds) same.level live)))

none_before_same : (k l : Kept) (ds : List ℕ) → SameKept k l → NoneBefore l.model l.root l.seed l.level ds → NoneBefore k.model k.root k.seed k.level ds
none_before_same k l ds same none =
    subst (λ m. NoneBefore m k.root k.seed k.level ds) same.model (subst (λ r. NoneBefore l.model r k.seed k.level ds) same.root
    (subst (λ x. NoneBefore l.model l.root x k.level ds) same.seed (subst (λ x. NoneBefore l.model l.root l.seed x ds) same.level none)))

sought_same : (k l : Kept) (level : ℕ) (ds : List ℕ) → SameKept k l → Sought k level ds → Sought l level ds
sought_same k l level ds same sought =
    subst (λ m. (s : Scenario) × ReadsLegal m l.root l.seed level ds s) (sym same.model) (subst (λ r. (s : Scenario) × ReadsLegal k.model r l.seed level ds s) (sym same.root)
    (subst (λ x. (s : Scenario) × ReadsLegal k.model k.root x level ds s) (sym same.seed) sought))

facts_same : (k l : Kept) → SameKept k l → FactsHold k.facts → FactsHold l.facts
facts_same k l same facts = subst FactsHold (sym same.facts) facts

-- the next live list
-- Looking changes nothing.
pub searching_begun : (k l : Kept) (shown : Look) → l ≡ k → k.choices ≡ [] → Shows k shown → Searching k l [] shown 0
searching_begun k l shown same start shows = subst (λ (x : Kept). Searching k x [] shown 0) (sym same) (searching_first k shown start shows)

pub searching_on : LiveListsRise → (k l n : Kept) (frames later : List Frame) (shown next : Look) (count : ℕ) → Searching k l frames shown count → Further l n later next → Searching k n later next (count + 1)
searching_on rise k l n frames later shown next count s f =
    let same = same_then k l n s.same f.same in
    record {
      same = same;
      stands = f.stands;
      shows = f.shows;
      lists = s.lists ++ n.choices ∷ [];
      counted = record {
        live = rise k.model k.root k.seed k.level s.lists n.choices s.counted.live (subst (λ xs. IsBefore xs n.choices) s.here f.before) (live_same k n n.choices same f.live);
        many = length-append s.lists (n.choices ∷ []) ∙ ap (λ x. x + 1) s.counted.many;
      };
      here = sym (last_more [] s.lists n.choices);
    }

pub says_further : (l n : Kept) (frames : List Frame) (shown : Look) → ((d : Conflict) → shown ≡ look.Closed d → ⊥) → Says (Some shown) l n frames → Further l n frames shown
says_further l n frames (look.Options x) not_ h = h
says_further l n frames look.Whole not_ h = h
says_further l n frames (look.Closed d) not_ h = absurd (not_ d refl)

pub searching_here : (k l n : Kept) (frames later : List Frame) (shown : Look) (count : ℕ) → FactsHold k.facts → Searching k l frames shown count → Says None l n later → IsLeast k n
searching_here k l n frames later shown count facts s here =
    let same = same_then k l n s.same here.same in
    record { same = same; before = none_before_here n later (facts_same k n same facts) here.stands; sought = here.sought }

pub searching_empty : (k l n : Kept) (frames later : List Frame) (shown : Look) (c : Conflict) (used budget : ℕ) → Searching k l frames shown used → used < budget → Says (Some (look.Closed c)) l n later
    → SameKept k n × IsEmpty k c.on_level budget (budget - used)
searching_empty k l n frames later shown c used budget s less says =
    let same = same_then k l n s.same says.0 in (
      same,
      record {
        none = λ level other on sought. says.1.none level other (record {
          same_level = λ e. on e ∙ sym same.level;
          facts = λ p h. let w : p < length n.choices = says.1.within p h in let z : length n.choices ≡ 0 = says.2 in let bad : ⊥ = omega (arith, w, z) in absurd bad;
        }) (sought_same k n level other same sought);
        lists = s.lists;
        used = used;
        counted = s.counted;
        sum = omega (arith, less);
        more = omega (arith, less);
      },
    )

pub searching_spent : (k l : Kept) (frames : List Frame) (shown : Look) (budget : ℕ) → FactsHold k.facts → Searching k l frames shown budget → SameKept k l × IsSpent k budget
searching_spent k l frames shown budget facts s = (
  s.same,
  record {
    lists = s.lists;
    counted = s.counted;
    before = subst (NoneBefore k.model k.root k.seed k.level) s.here (none_before_same k l l.choices s.same (none_before_here l frames (facts_same k l s.same facts) s.stands));
  },
)

-- at the last live list that the budget allows
pub searching_ends : (k l : Kept) (frames : List Frame) (shown : Look) (budget : ℕ) → FactsHold k.facts → Searching k l frames shown budget → (f : Found) → EndsAt f l → Ends f k l budget
searching_ends k l frames shown budget facts s found.Here h =
    record { same = s.same; before = none_before_here l frames (facts_same k l s.same facts) s.stands; sought = h }
searching_ends k l frames shown budget facts s (found.Nothing on_level left) h = absurd h
searching_ends k l frames shown budget facts s found.Spent h = searching_spent k l frames shown budget facts s

-- The turns of a search: back, and on to the next option.
use Rattle.std.proofs.Common.{◌≡◌, ◌≢◌, ℕ, ◌+◌, ◌^◌, ◌<◌, ◌≤◌, List, [], ◌∷◌, ◌++◌, length, refl, sym, ap, ◌∙◌, subst, inl, inr, ⊎_elim, arith}
use Rattle.std.specs.Prelude.{Some}
use Rattle.pst_scen.specs.declared.scenario.Scenario.{Scenario}
use Rattle.pst_legal.specs.ValueReading.{Options}
use Rattle.pst_legal.specs.First.{IsBefore, IsLiveAnswer}
use Rattle.pst_list_order.specs.Passed.{IsPassed}
use Rattle.pst_search_loop.specs.declared.conflict.Conflict.{Conflict}
use Rattle.pst_search_loop.specs.declared.frame.Frame.{Frame}
use Rattle.pst_search_loop.specs.declared.walker.Look.{Look}
use Rattle.pst_search_loop.specs.declared.walker.Look.TheVariants as look
use Rattle.pst_search_loop.specs.Conflicts.{Has, IsJoined}
use Rattle.pst_search_loop.specs.Kept.{Kept, at_list, answer, Shows, IsConflict, Rests, HasOptions, SameKept}
use Rattle.pst_search_loop.specs.Stack.{ArePassed, Stands}
use Rattle.pst_search_loop.specs.Search.{IsLiveAt, rank, GoneOn, Closes, IsClosed, Took, Went, Turns, Leaves, Further, Says}
use Rattle.pst_search_loop.proofs.Lists.{passed_next, passed_up, passed_self, before_longer, before_passed, length_next, rank_up, rank_next}
use Rattle.pst_search_loop.proofs.Conflicts.{same_self, same_then, same_on, at_same, at_own, shorter, one_more_passed, all_passed}
use Rattle.pst_search_loop.proofs.Stack.{IsPopped}

nonempty : (xs ys : List ℕ) (d : ℕ) → xs ≡ ys ++ d ∷ [] → xs ≢ []
nonempty xs ys d e n =
    let a : length xs ≡ length ys + 1 = ap length e ∙ length_next ys d in
    let b : length xs ≡ length {A = ℕ} [] = ap length n in
    let bad : ⊥ = omega (arith, a, b) in bad

live_options : (k : Kept) (n : ℕ) → k.choices ≢ [] → Shows k (look.Options n) → IsLiveAt k
live_options k n some shows = record { some = some; live = subst (IsLiveAnswer k.model) (sym shows.1) shows.2 }

live_whole : (k : Kept) → k.choices ≢ [] → Shows k look.Whole → IsLiveAt k
live_whole k some shows = record { some = some; live = subst (IsLiveAnswer k.model) (sym shows.1) shows.2 }

-- ---- back

-- the conflict, of the list with its last choice apart
conflict_apart : (k l : Kept) (frames : List Frame) (f : Frame) (c : Conflict) → IsPopped k l frames f → IsConflict k c → IsConflict (at_list l (l.choices ++ f.digit ∷ [])) c
conflict_apart k l frames f c popped is =
    subst (λ x. IsConflict x c) (sym (at_own k (l.choices ++ f.digit ∷ []) popped.is) ∙ at_same k l (l.choices ++ f.digit ∷ []) popped.same) is

passed_back : (k l : Kept) (frames : List Frame) (f : Frame) → IsPopped k l frames f → (other : List ℕ) → IsPassed k.choices other → IsPassed (l.choices ++ f.digit ∷ []) other
passed_back k l frames f popped other p = subst (λ xs. IsPassed xs other) popped.is p

pub backs_out : (k l : Kept) (frames : List Frame) (f : Frame) (c : Conflict) → IsPopped k l frames f → IsConflict k c → ((p : ℕ) → Has c p → p < length l.choices) → Closes k l frames (look.Closed c)
backs_out k l frames f c popped is before = record {
  same = popped.same;
  stands = popped.stands;
  keeps = λ other p. passed_up l.choices other f.digit (passed_back k l frames f popped other p);
  shows = subst (λ x. IsConflict x c) (at_own l l.choices refl) (shorter l l.choices f.digit c before (conflict_apart k l frames f c popped is));
}

pub rank_back : (k l : Kept) (frames : List Frame) (f : Frame) → IsPopped k l frames f → f.digit < 2 ^ 64 → rank l.choices < rank k.choices
rank_back k l frames f popped small = subst (λ xs. rank l.choices < rank xs) (sym popped.is) (rank_up l.choices f.digit small)

pub one_more : (k l : Kept) (frames : List Frame) (f : Frame) (c r : Conflict) → IsPopped k l frames f → IsConflict k c → IsJoined f.reasons c (length l.choices) r → ArePassed l r (f.digit + 1)
one_more k l frames f c r popped is joined =
    let own = at_own l l.choices refl in
    subst (λ x. ArePassed x r (f.digit + 1)) own
    (one_more_passed l l.choices f.reasons c r f.digit (subst (λ x. ArePassed x f.reasons f.digit) (sym own) popped.right.passed) (conflict_apart k l frames f c popped is) joined)

-- ---- on

-- a place is the same where a walker keeps the same
pub options_same : (k l : Kept) (s : Scenario) (n m : ℕ) → l ≡ k → m ≡ n → answer k ≡ Options s n → answer l ≡ Options s m
options_same k l s n m same count is = ap answer same ∙ is ∙ ap (Options s) (sym count)

pub has_options : (k l : Kept) (s : Scenario) (n m : ℕ) → l ≡ k → m ≡ n → answer k ≡ Options s n → HasOptions (answer l) m
has_options k l s n m same count is = subst (λ a. HasOptions a m) (sym (options_same k l s n m same count is)) refl

-- one of the options from there on
pub went_on : (k l n : Kept) (frames : List Frame) (from digit : ℕ) (shown : Look) → l ≡ k → from ≤ digit → Took l n frames digit → Shows n shown → Went k n frames from shown
went_on k l n frames from digit shown same least took shows = record {
  stands = took.stands;
  shows = shows;
  how = inl (digit, least, subst (λ x. Took x n frames digit) same took);
}

-- none of them
pub went_out : (k l : Kept) (frames : List Frame) (f : Frame) (b r : Conflict) (from : ℕ) → l ≡ k → Stands k frames → ArePassed k f.reasons f.count → Rests l f.count b → IsJoined f.reasons b (length k.choices) r → Went k l frames from (look.Closed r)
went_out k l frames f b r from same stands passed rests joined = record {
  stands = subst (λ x. Stands x frames) (sym same) stands;
  shows = subst (λ x. IsConflict x r) (sym same) (all_passed k k.choices f.reasons b r f.count passed (subst (λ x. Rests x f.count b) same rests) joined);
  how = inr (same, tt);
}

took_rises : (k l n : Kept) (frames later : List Frame) (f : Frame) (d : ℕ) → IsPopped k l frames f → f.digit < d → Took l n later d → (other : List ℕ) → IsPassed k.choices other → IsBefore other n.choices
took_rises k l n frames later f d popped less took other p =
    subst (IsBefore other) (sym (ap (λ (x : Kept). x.choices) took.is)) (passed_next l.choices other f.digit d less (passed_back k l frames f popped other p))

took_same : (k l n : Kept) (frames later : List Frame) (f : Frame) (d : ℕ) → IsPopped k l frames f → Took l n later d → SameKept k n
took_same k l n frames later f d popped took = same_then k l n popped.same (same_on l n d took.is)

took_on : (k l n : Kept) (frames later : List Frame) (f : Frame) (d : ℕ) (shown : Look) → IsPopped k l frames f → f.digit < d → Took l n later d → IsLiveAt n → Shows n shown → GoneOn k n later shown
took_on k l n frames later f d shown popped less took live shows = record {
  same = took_same k l n frames later f d popped took;
  stands = took.stands;
  rises = took_rises k l n frames later f d popped less took;
  live = live;
  shows = shows;
}

took_some : (l n : Kept) (later : List Frame) (d : ℕ) → Took l n later d → n.choices ≢ []
took_some l n later d took = nonempty n.choices l.choices d (ap (λ (x : Kept). x.choices) took.is)

took_turns : (k l n : Kept) (frames later : List Frame) (f : Frame) (d : ℕ) (shown : Look) → IsPopped k l frames f → f.digit < d → Took l n later d → Shows n shown → Turns shown k n later
took_turns k l n frames later f d (look.Options x) popped less took shows =
    took_on k l n frames later f d (look.Options x) popped less took (live_options n x (took_some l n later d took) shows) shows
took_turns k l n frames later f d look.Whole popped less took shows =
    took_on k l n frames later f d look.Whole popped less took (live_whole n (took_some l n later d took) shows) shows
took_turns k l n frames later f d (look.Closed c) popped less took shows = (
  record {
    same = took_same k l n frames later f d popped took;
    stands = took.stands;
    keeps = λ other p. before_passed other n.choices (took_rises k l n frames later f d popped less took other p);
    shows = shows;
  },
  subst (λ xs. rank xs < rank k.choices) (sym (ap (λ (x : Kept). x.choices) took.is))
      (subst (λ xs. rank (l.choices ++ d ∷ []) < rank xs) (sym popped.is) (rank_next l.choices f.digit d less took.small)),
)

out_turns : (k l n : Kept) (frames later : List Frame) (f : Frame) (shown : Look) → IsPopped k l frames f → f.digit < 2 ^ 64 → (n ≡ l) × IsClosed shown → Stands n later → Shows n shown → Turns shown k n later
out_turns k l n frames later f (look.Options x) popped small out stands shows = absurd out.1
out_turns k l n frames later f look.Whole popped small out stands shows = absurd out.1
out_turns k l n frames later f (look.Closed c) popped small out stands shows = (
  record {
    same = subst (SameKept k) (sym out.0) popped.same;
    stands = stands;
    keeps = λ other p. subst (λ (x : Kept). IsPassed x.choices other) (sym out.0) (passed_up l.choices other f.digit (passed_back k l frames f popped other p));
    shows = shows;
  },
  subst (λ (x : Kept). rank x.choices < rank k.choices) (sym out.0) (rank_back k l frames f popped small),
)

pub went_turns : (k l n : Kept) (frames later : List Frame) (f : Frame) (shown : Look) → IsPopped k l frames f → f.digit < 2 ^ 64 → Went l n later (f.digit + 1) shown → Turns shown k n later
went_turns k l n frames later f shown popped small went = ⊎_elim
    (λ (t : (d : ℕ) × (f.digit + 1 ≤ d) × Took l n later d). let least : f.digit + 1 ≤ t.0 = t.1 in took_turns k l n frames later f t.0 shown popped (omega (arith, least)) t.2 went.shows)
    (λ out. out_turns k l n frames later f shown popped small out went.stands went.shows)
    went.how

-- ---- several turns

pub closes_first : (k : Kept) (frames : List Frame) (c : Conflict) → Stands k frames → IsConflict k c → Closes k k frames (look.Closed c)
closes_first k frames c stands is = record { same = same_self k; stands = stands; keeps = λ other p. p; shows = is }

pub closes_then : (k l n : Kept) (frames later : List Frame) (c d : Conflict) → Closes k l frames (look.Closed c) → Closes l n later (look.Closed d) → Closes k n later (look.Closed d)
closes_then k l n frames later c d a b = record { same = same_then k l n a.same b.same; stands = b.stands; keeps = λ other p. b.keeps other (a.keeps other p); shows = b.shows }

gone_then : (k l n : Kept) (frames later : List Frame) (c : Conflict) (shown : Look) → Closes k l frames (look.Closed c) → GoneOn l n later shown → GoneOn k n later shown
gone_then k l n frames later c shown a b = record { same = same_then k l n a.same b.same; stands = b.stands; rises = λ other p. b.rises other (a.keeps other p); live = b.live; shows = b.shows }

pub turns_leave : (k l n : Kept) (frames later : List Frame) (c : Conflict) (shown : Look) → Closes k l frames (look.Closed c) → ((d : Conflict) → shown ≡ look.Closed d → ⊥) → Turns shown l n later → Leaves shown k n later
turns_leave k l n frames later c (look.Options x) a not_ b = gone_then k l n frames later c (look.Options x) a b
turns_leave k l n frames later c look.Whole a not_ b = gone_then k l n frames later c look.Whole a b
turns_leave k l n frames later c (look.Closed d) a not_ b = absurd (not_ d refl)

-- ---- what a step says

further : (k n : Kept) (frames : List Frame) (shown : Look) → GoneOn k n frames shown → Further k n frames shown
further k n frames shown gone = record { same = gone.same; stands = gone.stands; before = gone.rises k.choices (passed_self k.choices); live = gone.live; shows = gone.shows }

pub says_left : (k n : Kept) (frames : List Frame) (shown : Look) → Leaves shown k n frames → Says (Some shown) k n frames
says_left k n frames (look.Options x) h = further k n frames (look.Options x) h
says_left k n frames look.Whole h = further k n frames look.Whole h
says_left k n frames (look.Closed c) h = (h.0.same, h.0.shows, h.1)

longer_passed : (k l : Kept) (frames : List Frame) (d : ℕ) → Took k l frames d → IsPassed l.choices k.choices
longer_passed k l frames d took = subst (λ (x : Kept). IsPassed x.choices k.choices) (sym took.is) (before_passed k.choices (k.choices ++ d ∷ []) (before_longer k.choices d))

down_further : (k l n : Kept) (frames later : List Frame) (d : ℕ) (shown : Look) → Took k l frames d → GoneOn l n later shown → Further k n later shown
down_further k l n frames later d shown took gone = record {
  same = same_then k l n (same_on k l d took.is) gone.same;
  stands = gone.stands;
  before = gone.rises k.choices (longer_passed k l frames d took);
  live = gone.live;
  shows = gone.shows;
}

took_down : (k l n : Kept) (frames later : List Frame) (d : ℕ) (shown : Look) → Took k l frames d → Leaves shown l n later → Says (Some shown) k n later
took_down k l n frames later d (look.Options x) took h = down_further k l n frames later d (look.Options x) took h
took_down k l n frames later d look.Whole took h = down_further k l n frames later d look.Whole took h
took_down k l n frames later d (look.Closed c) took h = (same_then k l n (same_on k l d took.is) h.0.same, h.0.shows, h.1)

-- where that comes to a conflict, and then goes back and on
pub says_down : (k l n : Kept) (frames later : List Frame) (was shown : Look) → Went k l frames 0 was → Leaves shown l n later → Says (Some shown) k n later
says_down k l n frames later was shown went h = ⊎_elim
    (λ (t : (d : ℕ) × (0 ≤ d) × Took k l frames d). took_down k l n frames later t.0 shown t.2 h)
    (λ out. says_left k n later shown (subst (λ x. Leaves shown x n later) out.0 h))
    went.how

down_here : (k l : Kept) (frames : List Frame) (d : ℕ) (shown : Look) → Took k l frames d → IsLiveAt l → Shows l shown → Further k l frames shown
down_here k l frames d shown took live shows = record {
  same = same_on k l d took.is;
  stands = took.stands;
  before = subst (λ (x : Kept). IsBefore k.choices x.choices) (sym took.is) (before_longer k.choices d);
  live = live;
  shows = shows;
}

pub says_here : (k l : Kept) (frames : List Frame) (shown : Look) → Went k l frames 0 shown → ((d : Conflict) → shown ≡ look.Closed d → ⊥) → Says (Some shown) k l frames
says_here k l frames (look.Options x) went not_ = ⊎_elim
    (λ (t : (d : ℕ) × (0 ≤ d) × Took k l frames d). down_here k l frames t.0 (look.Options x) t.2 (live_options l x (took_some k l frames t.0 t.2) went.shows) went.shows)
    (λ out. absurd out.1)
    went.how
says_here k l frames look.Whole went not_ = ⊎_elim
    (λ (t : (d : ℕ) × (0 ≤ d) × Took k l frames d). down_here k l frames t.0 look.Whole t.2 (live_whole l (took_some k l frames t.0 t.2) went.shows) went.shows)
    (λ out. absurd out.1)
    went.how
says_here k l frames (look.Closed d) went not_ = absurd (not_ d refl)

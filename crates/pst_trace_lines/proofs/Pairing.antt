-- Lines of starts.
use Rattle.std.proofs.Common.{◌≡◌, ◌∙◌, ◌^◌, ℕ, zero, suc, ◌<◌, ◌≤◌, List, [], ◌∷◌, ◌++◌, Bool, true, false, ap, sym, subst, refl, inl, inr, ⊎_elim, ◌⊎◌, append_assoc, append-nil, decimal, arith}
use Rattle.std.specs.Prelude.{Contains, codes, Result, Ok, Err, IfOk, MatchBool}
use Rattle.std.proofs.lemmas.List.{append_cancel_left}
use Rattle.std.proofs.lemmas.List.Elements.{Contains-append_right, Contains-append_cases}
use Rattle.std.proofs.lemmas.Fmt.{decimal_injective}
use Rattle.pst_scen.specs.declared.event.Event.{Event}
use Rattle.pst_scen.specs.declared.event.Event.TheVariants.{Start, End}
use Rattle.pst_trace_texts.specs.Lines.{line}
use Rattle.pst_trace_texts.specs.Texts.{event_text, events_text}
use Rattle.pst_trace_lines.specs.Forms.{IsNumber, IsEnd}
use Rattle.pst_trace_lines.specs.Blocks.{AreStarts, IsOneBlock, OfStarts, OfEnd, IsBlockLine, pairs_text, ArePairs, IsPair, IsStartLine}
use Rattle.pst_trace_lines.proofs.Cutting.{first_in, first_cut, no_byte, wide}
use Rattle.pst_trace_lines.proofs.Lasts.{drop_last}

-- ---- pairs

-- the parts of a pair
pub pair_parts : (text p q : List ℕ) (act lane : ℕ) → text ≡ p ++ 58 ∷ q → (Contains p 58 → ⊥) → IsPair text act lane → IsNumber p act × IsNumber q lane × (lane ≤ 15)
pair_parts text p q act lane are none pair =
    let low = pair.of_lane in
    let cut = first_cut 58 p q (decimal act) (decimal lane) (sym are ∙ pair.is) none (no_byte 58 act refl (wide act pair.of_act)) in
    (record { small = pair.of_act; is = cut.0 }, record { small = omega (arith, low); is = cut.1 }, low)

pub pair_whole : (text p q : List ℕ) (act lane : ℕ) → text ≡ p ++ 58 ∷ q → IsNumber p act → IsNumber q lane → lane ≤ 15 → IsPair text act lane
pair_whole text p q act lane are first second low = record {
  of_act = first.small;
  of_lane = low;
  is = are ∙ ap (λ (t : List ℕ). t ++ 58 ∷ q) first.is ∙ ap (λ (t : List ℕ). decimal act ++ 58 ∷ t) second.is;
}

-- a text is that of one pair alone
pub pair_same : (text : List ℕ) (a l b k : ℕ) → IsPair text a l → IsPair text b k → (a ≡ b) × (l ≡ k)
pair_same text a l b k one other =
    let low = one.of_lane in
    let under = other.of_lane in
    let cut = first_cut 58 (decimal a) (decimal l) (decimal b) (decimal k) (sym one.is ∙ other.is) (no_byte 58 a refl (wide a one.of_act)) (no_byte 58 b refl (wide b other.of_act)) in
    (decimal_injective a b (wide a one.of_act) (wide b other.of_act) cut.0, decimal_injective l k (omega (arith, low)) (omega (arith, under)) cut.1)

colon : Contains {X = ℕ} (58 ∷ []) 32 → ⊥
colon (zero, below, is) = absurd (omega (arith, is))
colon (suc k, below, is) = absurd (omega (arith, below))

no_blank_in : (a l : ℕ) → a < 2 ^ 32 → l ≤ 15 → Contains (decimal a ++ 58 ∷ decimal l) 32 → ⊥
no_blank_in a l small low h =
    ⊎_elim (no_byte 32 a refl (wide a small)) (λ own. behind (Contains-append_cases (58 ∷ []) (decimal l) 32 own)) (Contains-append_cases (decimal a) (58 ∷ decimal l) 32 h)
  where
    behind : Contains {X = ℕ} (58 ∷ []) 32 ⊎ Contains (decimal l) 32 → ⊥
    behind (inl own) = absurd (colon own)
    behind (inr own) = no_byte 32 l refl (omega (arith, low)) own

-- the pairs of a text: one, or one before a blank and more
pub data Split (text : List ℕ) (events : List Event) : Type 0 where
  One : (a l : ℕ) → events ≡ Start a l false ∷ [] → IsPair text a l → Split text events
  More : (a l : ℕ) (others : List Event) (first rest : List ℕ) → events ≡ Start a l true ∷ others → text ≡ first ++ 32 ∷ rest → IsPair first a l → ArePairs rest others → Split text events

pub split : (text : List ℕ) (events : List Event) → ArePairs text events → Split text events
split text [] pairs = absurd pairs.starts
split text (End act ∷ events) pairs = absurd pairs.starts
split text (Start a l false ∷ []) pairs = One a l refl (record { of_act = pairs.starts.0; of_lane = pairs.starts.1; is = pairs.are })
split text (Start a l false ∷ event ∷ events) pairs = absurd pairs.starts
split text (Start a l true ∷ events) pairs =
    More a l events (decimal a ++ 58 ∷ decimal l) (pairs_text events) refl (pairs.are ∙ sym (append_assoc (decimal a) (58 ∷ decimal l) (32 ∷ pairs_text events)))
    (record { of_act = pairs.starts.0; of_lane = pairs.starts.1; is = refl }) (record { starts = pairs.starts.2; are = refl })

-- ---- pairs, one after another

-- These starts were read, and the pairs of the whole text are they and those of the rest.
pub record Going (text rest : List ℕ) (own : List Event) : Type 0 where
  pub onto : (events : List Event) → ArePairs rest events → ArePairs text (own ++ events)
  pub back : (events : List Event) → ArePairs text events → (others : List Event) × (events ≡ own ++ others) × ArePairs rest others

pub going_first : (text : List ℕ) → Going text text []
going_first text = record { onto = λ events pairs. pairs; back = λ events pairs. (events, refl, pairs) }

no_more : (text first rest : List ℕ) (a l : ℕ) → text ≡ first ++ 32 ∷ rest → IsPair text a l → ⊥
no_more text first rest a l are pair =
    no_blank_in a l pair.of_act pair.of_lane
    (subst (λ (t : List ℕ). Contains t 32) pair.is (subst (λ (t : List ℕ). Contains t 32) (sym are) (Contains-append_right first (32 ∷ rest) 32 (first_in 32 rest))))

-- one pair in front of a text
one_more : (text first rest : List ℕ) (a l : ℕ) (events : List Event) → text ≡ first ++ 32 ∷ rest → IsPair first a l → ArePairs rest events → ArePairs text (Start a l true ∷ events)
one_more text first rest a l events are pair pairs = record {
  starts = (pair.of_act, pair.of_lane, pairs.starts);
  are = are ∙ ap (λ (t : List ℕ). t ++ 32 ∷ rest) pair.is ∙ append_assoc (decimal a) (58 ∷ decimal l) (32 ∷ rest)
      ∙ ap (λ (t : List ℕ). decimal a ++ 58 ∷ (decimal l ++ 32 ∷ t)) pairs.are;
}

-- what stands behind the pair in front
behind_first : (text first rest : List ℕ) (a l : ℕ) (events : List Event) → text ≡ first ++ 32 ∷ rest → (Contains first 32 → ⊥) → IsPair first a l → Split text events
    → (others : List Event) × (events ≡ Start a l true ∷ others) × ArePairs rest others
behind_first text first rest a l events are none pair (One b k is own) = absurd (no_more text first rest b k are own)
behind_first text first rest a l events are none pair (More b k others front more is cuts own pairs) =
    let cut = first_cut 32 first rest front more (sym are ∙ cuts) none (λ h. no_blank_in b k own.of_act own.of_lane (subst (λ (t : List ℕ). Contains t 32) own.is h)) in
    let same = pair_same first a l b k pair (subst (λ (t : List ℕ). IsPair t b k) (sym cut.0) own) in
    (others, is ∙ ap (λ (n : ℕ). Start n k true ∷ others) (sym same.0) ∙ ap (λ (n : ℕ). Start a n true ∷ others) (sym same.1), subst (λ (t : List ℕ). ArePairs t others) (sym cut.1) pairs)

pub going_next : (text rest first more : List ℕ) (own : List Event) (a l : ℕ) → Going text rest own → rest ≡ first ++ 32 ∷ more → (Contains first 32 → ⊥) → IsPair first a l
    → Going text more (own ++ Start a l true ∷ [])
going_next text rest first more own a l g are none pair = record {
  onto = λ events pairs. subst (λ (es : List Event). ArePairs text es) (sym (append_assoc own (Start a l true ∷ []) events)) (g.onto (Start a l true ∷ events) (one_more rest first more a l events are pair pairs));
  back = λ events pairs.
      let (others, is, rests) = g.back events pairs in
      let (last, same, behind) = behind_first rest first more a l others are none pair (split rest others rests) in
      (last, is ∙ ap (λ (es : List Event). own ++ es) same ∙ sym (append_assoc own (Start a l true ∷ []) last), behind);
}

-- where the first pair is none there are no pairs
pub going_bad : (text rest first more : List ℕ) (own : List Event) → Going text rest own → rest ≡ first ++ 32 ∷ more → (Contains first 32 → ⊥) → ((a l : ℕ) → IsPair first a l → ⊥)
    → (events : List Event) → ArePairs text events → ⊥
going_bad text rest first more own g are none bad events pairs =
    let (others, is, rests) = g.back events pairs in by others (split rest others rests)
  where
    by : (others : List Event) → Split rest others → ⊥
    by others (One b k is own_pair) = no_more rest first more b k are own_pair
    by others (More b k last front behind is cuts own_pair left) =
        let cut = first_cut 32 first more front behind (sym are ∙ cuts) none (λ h. no_blank_in b k own_pair.of_act own_pair.of_lane (subst (λ (t : List ℕ). Contains t 32) own_pair.is h)) in
        bad b k (subst (λ (t : List ℕ). IsPair t b k) (sym cut.0) own_pair)

-- the last pair
pub going_last : (text rest : List ℕ) (own : List Event) (a l : ℕ) → Going text rest own → IsPair rest a l → ArePairs text (own ++ Start a l false ∷ [])
going_last text rest own a l g pair = g.onto (Start a l false ∷ []) (record { starts = (pair.of_act, pair.of_lane); are = pair.is })

pub going_none : (text rest : List ℕ) (own : List Event) → Going text rest own → ((a b : List ℕ) → rest ≡ a ++ 32 ∷ b → ⊥) → ((a l : ℕ) → IsPair rest a l → ⊥) → (events : List Event) → ArePairs text events → ⊥
going_none text rest own g whole bad events pairs =
    let (others, is, rests) = g.back events pairs in by others (split rest others rests)
  where
    by : (others : List Event) → Split rest others → ⊥
    by others (One b k is own_pair) = bad b k own_pair
    by others (More b k last front behind is cuts own_pair left) = whole front behind cuts

-- ---- lines of blocks

-- the text of a start that has more behind it, and of one that hasn't, behind others of its block or at its head
on_text : (a l : ℕ) (t : List ℕ) → event_text true (Start a l true) ++ t ≡ 32 ∷ (decimal a ++ 58 ∷ (decimal l ++ t))
on_text a l t = simp append_assoc

head_text : (a l : ℕ) (t : List ℕ) → event_text false (Start a l true) ++ t ≡ codes "start " ++ (decimal a ++ 58 ∷ (decimal l ++ t))
head_text a l t = simp append_assoc

last_text : (a l : ℕ) → event_text true (Start a l false) ++ [] ≡ 32 ∷ (decimal a ++ 58 ∷ (decimal l ++ 10 ∷ []))
last_text a l = append-nil (event_text true (Start a l false)) ∙ simp append_assoc

only_text : (a l : ℕ) → event_text false (Start a l false) ++ [] ≡ codes "start " ++ (decimal a ++ 58 ∷ (decimal l ++ 10 ∷ []))
only_text a l = append-nil (event_text false (Start a l false)) ∙ simp append_assoc

pair_end : (a l : ℕ) (t : List ℕ) → (decimal a ++ 58 ∷ decimal l) ++ t ≡ decimal a ++ 58 ∷ (decimal l ++ t)
pair_end a l t = append_assoc (decimal a) (58 ∷ decimal l) t

pair_on : (a l : ℕ) (p t : List ℕ) → (decimal a ++ 58 ∷ (decimal l ++ 32 ∷ p)) ++ t ≡ decimal a ++ 58 ∷ (decimal l ++ 32 ∷ (p ++ t))
pair_on a l p t = append_assoc (decimal a) (58 ∷ (decimal l ++ 32 ∷ p)) t ∙ ap (λ (u : List ℕ). decimal a ++ 58 ∷ u) (append_assoc (decimal l) (32 ∷ p) t)

starts_on : (events : List Event) → AreStarts events → 32 ∷ (pairs_text events ++ 10 ∷ []) ≡ events_text true events
starts_on [] starts = absurd starts
starts_on (End act ∷ events) starts = absurd starts
starts_on (Start a l false ∷ []) starts = ap (λ (t : List ℕ). 32 ∷ t) (pair_end a l (10 ∷ [])) ∙ sym (last_text a l)
starts_on (Start a l false ∷ e ∷ events) starts = absurd starts
starts_on (Start a l true ∷ events) starts =
    ap (λ (t : List ℕ). 32 ∷ t) (pair_on a l (pairs_text events) (10 ∷ []) ∙ ap (λ (t : List ℕ). decimal a ++ 58 ∷ (decimal l ++ t)) (starts_on events starts.2))
    ∙ sym (on_text a l (events_text true events))

-- the line of starts
starts_text : (events : List Event) → AreStarts events → line (codes "start " ++ pairs_text events) ≡ events_text false events
starts_text [] starts = absurd starts
starts_text (End act ∷ events) starts = absurd starts
starts_text (Start a l false ∷ []) starts = ap (λ (t : List ℕ). codes "start " ++ t) (pair_end a l (10 ∷ [])) ∙ sym (only_text a l)
starts_text (Start a l false ∷ e ∷ events) starts = absurd starts
starts_text (Start a l true ∷ events) starts =
    ap (λ (t : List ℕ). codes "start " ++ t) (pair_on a l (pairs_text events) (10 ∷ []) ∙ ap (λ (t : List ℕ). decimal a ++ 58 ∷ (decimal l ++ t)) (starts_on events starts.2))
    ∙ sym (head_text a l (events_text true events))

pub starts_line : (text : List ℕ) (events : List Event) → IsStartLine text events → IsBlockLine text events
starts_line text events s = record {
  block = OfStarts events s.pairs.starts;
  is = ap line (s.begins ∙ ap (λ (t : List ℕ). codes "start " ++ t) s.pairs.are) ∙ starts_text events s.pairs.starts;
}

pub end_line : (text : List ℕ) (act : ℕ) → IsEnd text act → IsBlockLine text (End act ∷ [])
end_line text act e = record { block = OfEnd act e.small; is = e.is ∙ sym (append-nil (event_text false (End act))) }

-- a line of a block is that of an end or of starts
pub block_cases : (text : List ℕ) (events : List Event) → IsBlockLine text events → ((act : ℕ) × (events ≡ End act ∷ []) × IsEnd text act) ⊎ IsStartLine text events
block_cases text events b = by events b.block b.is
  where
    by : (es : List Event) → IsOneBlock es → line text ≡ events_text false es → ((act : ℕ) × (es ≡ End act ∷ []) × IsEnd text act) ⊎ IsStartLine text es
    by es (OfStarts _ starts) is =
        inr (record { rest = pairs_text es; begins = drop_last text (codes "start " ++ pairs_text es) 10 (is ∙ sym (starts_text es starts)); pairs = record { starts = starts; are = refl } })
    by _ (OfEnd act small) is = inl (act, refl, record { small = small; is = is ∙ append-nil (event_text false (End act)) })

pub pairs_behind : (text rest : List ℕ) (events : List Event) → text ≡ codes "start " ++ rest → IsStartLine text events → ArePairs rest events
pairs_behind text rest events is s =
    let same = append_cancel_left (codes "start ") rest s.rest (sym is ∙ s.begins) in
    subst (λ (t : List ℕ). ArePairs t events) (sym same) s.pairs

-- what is read of the starts of a line that is no end is what is read of its block
pub block_of : {N : Type 0} (r : Result Bool N) (text : List ℕ) (old new : List Event) → ((act : ℕ) → IsEnd text act → ⊥)
    → IfOk r (λ good. MatchBool good ((own : List Event) × (new ≡ old ++ own) × IsStartLine text own) ((own : List Event) → IsStartLine text own → ⊥))
    → IfOk r (λ good. MatchBool good ((own : List Event) × (new ≡ old ++ own) × IsBlockLine text own) ((own : List Event) → IsBlockLine text own → ⊥))
block_of (Ok true) text old new none (own, are, starts) = (own, are, starts_line text own starts)
block_of (Ok false) text old new none never = λ own block. ⊎_elim (λ e. none e.0 e.2) (λ starts. never own starts) (block_cases text own block)
block_of (Err e) text old new none given = given

-- ---- a line is that of one block

pairs_one : (es fs : List Event) (text : List ℕ) → ArePairs text es → ArePairs text fs → es ≡ fs
pairs_one [] fs text p q = absurd p.starts
pairs_one (End act ∷ es) fs text p q = absurd p.starts
pairs_one (Start a l false ∷ e ∷ es) fs text p q = absurd p.starts
pairs_one (Start a l false ∷ []) fs text p q = by (split text fs q)
  where
    own : IsPair text a l
    own = record { of_act = p.starts.0; of_lane = p.starts.1; is = p.are }

    by : Split text fs → Start a l false ∷ [] ≡ fs
    by (One b k is other) = let same = pair_same text a l b k own other in ap (λ (n : ℕ). Start n l false ∷ []) same.0 ∙ ap (λ (n : ℕ). Start b n false ∷ []) same.1 ∙ sym is
    by (More b k others front rest is cuts other pairs) = absurd (no_more text front rest a l cuts own)
pairs_one (Start a l true ∷ es) fs text p q = by (λ others pairs. pairs_one es others (pairs_text es) (record { starts = p.starts.2; are = refl }) pairs) (split text fs q)
  where
    first : List ℕ
    first = decimal a ++ 58 ∷ decimal l

    cuts_own : text ≡ first ++ 32 ∷ pairs_text es
    cuts_own = p.are ∙ sym (append_assoc (decimal a) (58 ∷ decimal l) (32 ∷ pairs_text es))

    own : IsPair first a l
    own = record { of_act = p.starts.0; of_lane = p.starts.1; is = refl }

    by : ((others : List Event) → ArePairs (pairs_text es) others → es ≡ others) → Split text fs → Start a l true ∷ es ≡ fs
    by each (One b k is other) = absurd (no_more text first (pairs_text es) b k cuts_own other)
    by each (More b k others front rest is cuts other pairs) =
        let cut = first_cut 32 first (pairs_text es) front rest (sym cuts_own ∙ cuts) (no_blank_in a l own.of_act own.of_lane)
        (λ h. no_blank_in b k other.of_act other.of_lane (subst (λ (t : List ℕ). Contains t 32) other.is h)) in
        let same = pair_same first a l b k own (subst (λ (t : List ℕ). IsPair t b k) (sym cut.0) other) in
        let behind = each others (subst (λ (t : List ℕ). ArePairs t others) (sym cut.1) pairs) in
        ap (λ (n : ℕ). Start n l true ∷ es) same.0 ∙ ap (λ (n : ℕ). Start b n true ∷ es) same.1 ∙ ap (λ (r : List Event). Start b k true ∷ r) behind ∙ sym is

end_one : (text : List ℕ) (a b : ℕ) → IsEnd text a → IsEnd text b → a ≡ b
end_one text a b one other =
    let whole : codes "end " ++ decimal a ≡ codes "end " ++ decimal b = drop_last (codes "end " ++ decimal a) (codes "end " ++ decimal b) 10 (sym one.is ∙ other.is) in
    decimal_injective a b (wide a one.small) (wide b other.small) (append_cancel_left (codes "end ") (decimal a) (decimal b) whole)

no_start : (text rest : List ℕ) (act : ℕ) → text ≡ codes "start " ++ rest → IsEnd text act → ⊥
no_start text rest act is e =
    let same : 115 ∷ 116 ∷ 97 ∷ 114 ∷ 116 ∷ 32 ∷ (rest ++ 10 ∷ []) ≡ line (codes "end " ++ decimal act) = ap line (sym is) ∙ e.is in
    heads 115 101 _ _ (λ same. absurd (omega (arith, same))) same
  where
    heads : (x y : ℕ) (xs ys : List ℕ) → (x ≡ y → ⊥) → x ∷ xs ≡ y ∷ ys → ⊥
    heads x y xs ys apart same = apart cc

pub block_one : (text : List ℕ) (own other : List Event) → IsBlockLine text own → IsBlockLine text other → own ≡ other
block_one text own other p q = by (block_cases text own p) (block_cases text other q)
  where
    by : ((act : ℕ) × (own ≡ End act ∷ []) × IsEnd text act) ⊎ IsStartLine text own → ((act : ℕ) × (other ≡ End act ∷ []) × IsEnd text act) ⊎ IsStartLine text other → own ≡ other
    by (inl (a, is, one)) (inl (b, are, two)) = is ∙ ap (λ (n : ℕ). End n ∷ []) (end_one text a b one two) ∙ sym are
    by (inl (a, is, one)) (inr starts) = absurd (no_start text starts.rest a starts.begins one)
    by (inr starts) (inl (b, are, two)) = absurd (no_start text starts.rest b starts.begins two)
    by (inr starts) (inr others) = pairs_one own other starts.rest starts.pairs (pairs_behind text starts.rest other starts.begins others)

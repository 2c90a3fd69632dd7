-- Reading ends at one file.
use Rattle.std.proofs.Common.{◌≡◌, ◌∙◌, ℕ, ◌+◌, ◌-◌, ◌<◌, inl, inr, List, length, refl, ap, sym, arith}
use Rattle.std.specs.Prelude.{Option, Some, None}
use Rattle.std.specs.List.{sum_by}
use Rattle.pst_base.specs.Fault.{HasRisen, last_count}
use Rattle.pst_io.specs.Shelf.{Files}
use Rattle.pst_files_read.specs.Limits.{most_bytes, most_trace}
use Rattle.pst_files_read.specs.Files.{AreRead, IsReached, IsTraceWord, IsTraceRead, sources_in}
use Rattle.pst_outcome.specs.declared.answer.Answer.{Answer}
use Rattle.pst_outcome.specs.declared.answer.Answer.TheVariants.{NoFile, Large}
use Rattle.pst_outcome.specs.declared.answer.What.TheVariants as what
use Rattle.pst_outcome.specs.Texts.{no_file_text, large_text}
use Rattle.pst_outcome.specs.Outcome.{ASource, TheTrace, OfFiles, IsNoFile, IsUnread, HasManyBytes, HasLongTrace}
use Rattle.pst_outcome.proofs.OneReading.{one_stop, not_all_read, one_trace, trace_not_read, NotThere, TooLong}

-- a file that ends the reading, by what stands behind it: no file, too many bytes, or a trace file that is too long
pub data Stop (f : Files) (arguments : List (List ℕ)) : Answer → List ℕ → Type 0 where
  Gone : (word : ℕ) (name : List ℕ) (texts : List (List ℕ)) → IsReached (Some f) arguments word name texts → f name ≡ None → Stop f arguments (NoFile word) (no_file_text name)
  Big : (word : ℕ) (name : List ℕ) (texts : List (List ℕ)) (text : List ℕ) → IsReached (Some f) arguments word name texts → f name ≡ Some text → most_bytes - sum_by length texts < length text
      → Stop f arguments (Large what.Bytes (most_bytes + 1)) (large_text what.Bytes (most_bytes + 1))
  TraceGone : (word : ℕ) (name : List ℕ) (texts : List (List ℕ)) → AreRead (Some f) (sources_in arguments) texts → IsTraceWord arguments word name → f name ≡ None → Stop f arguments (NoFile word) (no_file_text name)
  TraceBig : (word : ℕ) (name : List ℕ) (texts : List (List ℕ)) (text : List ℕ) → AreRead (Some f) (sources_in arguments) texts → IsTraceWord arguments word name → f name ≡ Some text → most_trace < length text
      → Stop f arguments (Large what.Trace (most_trace + 1)) (large_text what.Trace (most_trace + 1))

apart : {X : Type 0} {o : Option X} {x : X} → o ≡ None → o ≡ Some x → ⊥
apart none some = let both = sym none ∙ some in cc

-- a line has one file that ends the reading
pub one_stop_answer : (f : Files) (arguments : List (List ℕ)) (a b : Answer) (s t : List ℕ) → Stop f arguments a s → Stop f arguments b t → (a ≡ b) × (s ≡ t)
one_stop_answer f arguments _ _ _ _ (Gone v m xs h x) (Gone w n ys k y) =
    let same = one_stop f arguments v w m n xs ys h k (NotThere x) (NotThere y) in (ap NoFile same.0, ap no_file_text same.1)
one_stop_answer f arguments _ _ _ _ (Gone v m xs h x) (Big w n ys text k y long) =
    let same = (one_stop f arguments v w m n xs ys h k (NotThere x) (TooLong text y long)).1 in absurd (apart x (ap f same ∙ y))
one_stop_answer f arguments _ _ _ _ (Gone v m xs h x) (TraceGone w n ys k is y) = absurd (not_all_read f arguments v m xs ys h (NotThere x) k)
one_stop_answer f arguments _ _ _ _ (Gone v m xs h x) (TraceBig w n ys text k is y long) = absurd (not_all_read f arguments v m xs ys h (NotThere x) k)
one_stop_answer f arguments _ _ _ _ (Big v m xs text h x long) (Gone w n ys k y) =
    let same = (one_stop f arguments w v n m ys xs k h (NotThere y) (TooLong text x long)).1 in absurd (apart y (ap f same ∙ x))
one_stop_answer f arguments _ _ _ _ (Big v m xs text h x long) (Big w n ys other k y longer) = (refl, refl)
one_stop_answer f arguments _ _ _ _ (Big v m xs text h x long) (TraceGone w n ys k is y) = absurd (not_all_read f arguments v m xs ys h (TooLong text x long) k)
one_stop_answer f arguments _ _ _ _ (Big v m xs text h x long) (TraceBig w n ys other k is y longer) = absurd (not_all_read f arguments v m xs ys h (TooLong text x long) k)
one_stop_answer f arguments _ _ _ _ (TraceGone v m xs h is x) (Gone w n ys k y) = absurd (not_all_read f arguments w n ys xs k (NotThere y) h)
one_stop_answer f arguments _ _ _ _ (TraceGone v m xs h is x) (Big w n ys text k y long) = absurd (not_all_read f arguments w n ys xs k (TooLong text y long) h)
one_stop_answer f arguments _ _ _ _ (TraceGone v m xs h is x) (TraceGone w n ys k is_too y) =
    let same = one_trace arguments v w m n is is_too in (ap NoFile same.0, ap no_file_text same.1)
one_stop_answer f arguments _ _ _ _ (TraceGone v m xs h is x) (TraceBig w n ys text k is_too y long) = absurd (apart x (ap f (one_trace arguments v w m n is is_too).1 ∙ y))
one_stop_answer f arguments _ _ _ _ (TraceBig v m xs text h is x long) (Gone w n ys k y) = absurd (not_all_read f arguments w n ys xs k (NotThere y) h)
one_stop_answer f arguments _ _ _ _ (TraceBig v m xs text h is x long) (Big w n ys other k y longer) = absurd (not_all_read f arguments w n ys xs k (TooLong other y longer) h)
one_stop_answer f arguments _ _ _ _ (TraceBig v m xs text h is x long) (TraceGone w n ys k is_too y) = absurd (apart y (ap f (one_trace arguments w v n m is_too is).1 ∙ x))
one_stop_answer f arguments _ _ _ _ (TraceBig v m xs text h is x long) (TraceBig w n ys other k is_too y longer) = (refl, refl)

-- reading that stops has no texts
pub not_read : (f : Files) (arguments : List (List ℕ)) (a : Answer) (s : List ℕ) (texts : List (List ℕ)) (trace : Option (List ℕ)) → Stop f arguments a s → AreRead (Some f) (sources_in arguments) texts
    → IsTraceRead (Some f) arguments trace → ⊥
not_read f arguments _ _ texts trace (Gone v m xs h x) read traced = not_all_read f arguments v m xs texts h (NotThere x) read
not_read f arguments _ _ texts trace (Big v m xs text h x long) read traced = not_all_read f arguments v m xs texts h (TooLong text x long) read
not_read f arguments _ _ texts trace (TraceGone v m xs h is x) read traced = trace_not_read f arguments v m trace is (inl x) traced
not_read f arguments _ _ texts trace (TraceBig v m xs text h is x long) read traced = trace_not_read f arguments v m trace is (inr (text, x, long)) traced

not_risen : (faults : ℕ) → faults < last_count → HasRisen faults faults → ⊥
not_risen faults below (_, inl more) = omega (arith, more)
not_risen faults below (_, inr last) = omega (arith, last, below)

-- where no call failed, a file ends the reading
pub stop_of : (f : Files) (faults : ℕ) (arguments : List (List ℕ)) (a : Answer) (s : List ℕ) → faults < last_count → OfFiles (Some f) faults faults arguments a s → Stop f arguments a s
stop_of f faults arguments _ _ below (IsNoFile word name _ (ASource texts reached) gone) = Gone word name texts reached (gone f refl)
stop_of f faults arguments _ _ below (IsNoFile word name _ (TheTrace texts read is) gone) = TraceGone word name texts read is (gone f refl)
stop_of f faults arguments _ _ below (IsUnread word name risen _) = absurd (not_risen faults below risen)
stop_of f faults arguments _ _ below (HasManyBytes word name texts _ reached long) = let l = long f refl in Big word name texts l.0 reached l.1 l.2
stop_of f faults arguments _ _ below (HasLongTrace word name texts _ read is long) = let l = long f refl in TraceBig word name texts l.0 read is l.1 l.2

-- The first bytes of lines tell their sorts apart.
use Rattle.std.proofs.Common.{◌≡◌, ◌∙◌, ℕ, List, [], ◌∷◌, get_or, false, refl, sym, ap, inl, inr, ◌⊎◌, arith}
use Rattle.pst_scen.specs.declared.event.Event.{Event}
use Rattle.pst_scen.specs.declared.event.Event.TheVariants.{Start, End}
use Rattle.pst_trace_texts.specs.Lines.{line}
use Rattle.pst_trace_texts.specs.Texts.{events_text}
use Rattle.pst_trace_lines.specs.declared.header.HeaderLine.{HeaderLine}
use Rattle.pst_trace_lines.specs.declared.header.HeaderLine.TheVariants.{Initial, Compound, Join, Action}
use Rattle.pst_trace_lines.specs.declared.last.LastLine.{LastLine}
use Rattle.pst_trace_lines.specs.declared.last.LastLine.TheVariants.{Done, Fault, Trap}
use Rattle.pst_trace_lines.specs.Last.{IsLastLine}
use Rattle.pst_trace_lines.specs.Blocks.{IsOneBlock, OfStarts, OfEnd, IsBlockLine}
use Rattle.pst_trace_lines.specs.Headers.{IsHeaderLine}

-- the first byte
abbrev head : List ℕ → ℕ
head text = get_or text 0 0

head_is : (text : List ℕ) (c : ℕ) (more : List ℕ) → line text ≡ c ∷ more → (c ≡ 10 → ⊥) → head text ≡ c
head_is [] c more is other = let same : 10 ≡ c = cc in absurd (other (sym same))
head_is (x ∷ text) c more is other = cc

-- the first byte of the words of each sort
abbrev code : HeaderLine → ℕ
code Initial = 105
code Compound = 99
code Join = 106
code Action = 97

head_of_header : (sort : HeaderLine) (text : List ℕ) → IsHeaderLine sort text → head text ≡ code sort
head_of_header Initial text h = ap head h.begins
head_of_header Compound text h = ap head h.begins
head_of_header Join text h = ap head h.begins
head_of_header Action text h = ap head h.begins

code_one : (s t : HeaderLine) → code s ≡ code t → s ≡ t
code_one Initial Initial e = refl
code_one Compound Compound e = refl
code_one Join Join e = refl
code_one Action Action e = refl
code_one Initial Compound e = absurd (omega (arith, e))
code_one Initial Join e = absurd (omega (arith, e))
code_one Initial Action e = absurd (omega (arith, e))
code_one Compound Initial e = absurd (omega (arith, e))
code_one Compound Join e = absurd (omega (arith, e))
code_one Compound Action e = absurd (omega (arith, e))
code_one Join Initial e = absurd (omega (arith, e))
code_one Join Compound e = absurd (omega (arith, e))
code_one Join Action e = absurd (omega (arith, e))
code_one Action Initial e = absurd (omega (arith, e))
code_one Action Compound e = absurd (omega (arith, e))
code_one Action Join e = absurd (omega (arith, e))

pub sort_one : (s t : HeaderLine) (text : List ℕ) → IsHeaderLine s text → IsHeaderLine t text → s ≡ t
sort_one s t text one other = code_one s t (sym (head_of_header s text one) ∙ head_of_header t text other)

head_of_block : (text : List ℕ) (own : List Event) → IsBlockLine text own → (head text ≡ 115) ⊎ (head text ≡ 101)
head_of_block text own b = by own b.block b.is
  where
    by : (es : List Event) → IsOneBlock es → line text ≡ events_text false es → (head text ≡ 115) ⊎ (head text ≡ 101)
    by [] (OfStarts _ starts) is = absurd starts
    by (Start a l more ∷ es) (OfStarts _ starts) is = inl (head_is text 115 _ is (λ same. absurd (omega (arith, same))))
    by (End a ∷ es) (OfStarts _ starts) is = absurd starts
    by _ (OfEnd act small) is = inr (head_is text 101 _ is (λ same. absurd (omega (arith, same))))

head_of_last : (text : List ℕ) (last : LastLine) → IsLastLine text last → (head text ≡ 100) ⊎ ((head text ≡ 102) ⊎ (head text ≡ 116))
head_of_last text (Done actions) h = inl (head_is text 100 _ h.is (λ same. absurd (omega (arith, same))))
head_of_last text (Fault lane action call) h = inr (inl (head_is text 102 _ h.is (λ same. absurd (omega (arith, same)))))
head_of_last text (Trap lane action kind) h = inr (inr (head_is text 116 _ h.is (λ same. absurd (omega (arith, same)))))

-- ---- a line is of one sort

code_not_block : (sort : HeaderLine) (n : ℕ) → n ≡ code sort → (n ≡ 115) ⊎ (n ≡ 101) → ⊥
code_not_block Initial n e (inl f) = absurd (omega (arith, e, f))
code_not_block Initial n e (inr f) = absurd (omega (arith, e, f))
code_not_block Compound n e (inl f) = absurd (omega (arith, e, f))
code_not_block Compound n e (inr f) = absurd (omega (arith, e, f))
code_not_block Join n e (inl f) = absurd (omega (arith, e, f))
code_not_block Join n e (inr f) = absurd (omega (arith, e, f))
code_not_block Action n e (inl f) = absurd (omega (arith, e, f))
code_not_block Action n e (inr f) = absurd (omega (arith, e, f))

code_not_last : (sort : HeaderLine) (n : ℕ) → n ≡ code sort → (n ≡ 100) ⊎ ((n ≡ 102) ⊎ (n ≡ 116)) → ⊥
code_not_last Initial n e (inl f) = absurd (omega (arith, e, f))
code_not_last Initial n e (inr (inl f)) = absurd (omega (arith, e, f))
code_not_last Initial n e (inr (inr f)) = absurd (omega (arith, e, f))
code_not_last Compound n e (inl f) = absurd (omega (arith, e, f))
code_not_last Compound n e (inr (inl f)) = absurd (omega (arith, e, f))
code_not_last Compound n e (inr (inr f)) = absurd (omega (arith, e, f))
code_not_last Join n e (inl f) = absurd (omega (arith, e, f))
code_not_last Join n e (inr (inl f)) = absurd (omega (arith, e, f))
code_not_last Join n e (inr (inr f)) = absurd (omega (arith, e, f))
code_not_last Action n e (inl f) = absurd (omega (arith, e, f))
code_not_last Action n e (inr (inl f)) = absurd (omega (arith, e, f))
code_not_last Action n e (inr (inr f)) = absurd (omega (arith, e, f))

pub header_not_block : (sort : HeaderLine) (text : List ℕ) (own : List Event) → IsHeaderLine sort text → IsBlockLine text own → ⊥
header_not_block sort text own h b = code_not_block sort (head text) (head_of_header sort text h) (head_of_block text own b)

pub header_not_last : (sort : HeaderLine) (text : List ℕ) (last : LastLine) → IsHeaderLine sort text → IsLastLine text last → ⊥
header_not_last sort text last h l = code_not_last sort (head text) (head_of_header sort text h) (head_of_last text last l)

pub block_not_last : (text : List ℕ) (own : List Event) (last : LastLine) → IsBlockLine text own → IsLastLine text last → ⊥
block_not_last text own last b l = by (head text) (head_of_block text own b) (head_of_last text last l)
  where
    by : (n : ℕ) → (n ≡ 115) ⊎ (n ≡ 101) → (n ≡ 100) ⊎ ((n ≡ 102) ⊎ (n ≡ 116)) → ⊥
    by n (inl e) (inl f) = absurd (omega (arith, e, f))
    by n (inl e) (inr (inl f)) = absurd (omega (arith, e, f))
    by n (inl e) (inr (inr f)) = absurd (omega (arith, e, f))
    by n (inr e) (inl f) = absurd (omega (arith, e, f))
    by n (inr e) (inr (inl f)) = absurd (omega (arith, e, f))
    by n (inr e) (inr (inr f)) = absurd (omega (arith, e, f))

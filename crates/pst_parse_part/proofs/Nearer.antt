-- What a part gives from a later place on is what the whole gives, where nothing else is left of it.
use Rattle.std.proofs.Common.{ℕ, ◌+◌, ◌≤◌, List, drop, arith, Ok, Err, Result}
use Rattle.pst_token.specs.declared.token.Token.{Token}
use Rattle.pst_ast.specs.declared.fault.SyntaxFault.{SyntaxFault}
use Rattle.pst_reading.specs.Parser.{Took}
use Rattle.pst_reading.specs.Gives.{Family}
use Rattle.pst_reading.specs.Reads.{Reads}
use Rattle.pst_reading.proofs.Giving.{later, later_fault}
use Rattle.pst_reading.proofs.Reaching.{Reaches, settles, falls}

pub reads_later : {X A : Type 0} (whole : Family A) (tokens : List Token) (at : ℕ) (view : X → A) (p : Family A) (place least more : ℕ) (x : Result (X × ℕ) SyntaxFault) → at ≤ place → at + least ≤ place + more → Reads view p tokens place place more x → Reaches whole tokens at at p place → Reads view whole tokens at at least x
reads_later whole tokens at view p place least more (Ok x) low le h r = record { settles = settles whole tokens at at p place (Took (view x.0) (drop x.1 tokens)) (later tokens at p place (Took (view x.0) (drop x.1 tokens)) low h.settles) r; after = omega (arith, h.after, le); inside = h.inside }
reads_later whole tokens at view p place least more (Err e) low le h r = falls whole tokens at at p place e (later_fault tokens at p place e low h) r

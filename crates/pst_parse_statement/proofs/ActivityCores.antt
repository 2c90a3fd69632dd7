-- Which rule a statement without its label is read by: the next token decides, one reserved word or mark after another.
use Rattle.std.proofs.Common.{◌≡◌, ℕ, true, false, List, drop}
use Rattle.pst_token.specs.declared.kind.Kind.{Kind}
use Rattle.pst_token.specs.declared.kind.Kind.TheVariants as kind
use Rattle.pst_token.specs.declared.token.Token.{Token}
use Rattle.pst_ast.specs.declared.activity.TogetherWord.TheVariants as the_together_word
use Rattle.pst_ast.specs.ActivityTree.{CoreTree}
use Rattle.pst_reading.specs.Gives.{Family}
use Rattle.pst_reading.specs.Kinds.{is_mark, next_is}
use Rattle.pst_reading.specs.Parser.{if_mark, next}
use Rattle.pst_reading.proofs.Reaching.{Reaches, begin, choose}
use Rattle.pst_parse_step.specs.ActivityPartFamilies.{do_family, handle_family, bound_family}
use Rattle.pst_parse_statement.specs.ActivityFamilies.{sequence_family, together_family, select_family, repeated_family, if_family, match_family, core_family}

-- what is left of the choice where it begins with a word
abbrev from_bind : ℕ → Family CoreTree
from_bind d m n = if_mark kind.Bind (bound_family d m n) (handle_family d m n)

abbrev from_match : ℕ → Family CoreTree
from_match d m n = if_mark kind.Match (match_family d m n) (from_bind d m n)

abbrev from_if : ℕ → Family CoreTree
from_if d m n = if_mark kind.If (if_family d m n) (from_match d m n)

abbrev from_repeat : ℕ → Family CoreTree
from_repeat d m n = if_mark kind.Repeat (repeated_family d m n) (from_if d m n)

abbrev from_select : ℕ → Family CoreTree
from_select d m n = if_mark kind.Select (select_family d m n) (from_repeat d m n)

abbrev from_schedule : ℕ → Family CoreTree
from_schedule d m n = if_mark kind.Schedule (together_family the_together_word.Schedule d m n) (from_select d m n)

abbrev from_parallel : ℕ → Family CoreTree
from_parallel d m n = if_mark kind.Parallel (together_family the_together_word.Parallel d m n) (from_schedule d m n)

abbrev from_sequence : ℕ → Family CoreTree
from_sequence d m n = if_mark kind.Sequence (sequence_family d m n) (from_parallel d m n)

abbrev from_brace : ℕ → Family CoreTree
from_brace d m n = if_mark kind.LeftBrace (sequence_family d m n) (from_sequence d m n)

module _ (tokens : List Token) (at d : ℕ) where
  -- the next token is this mark or reserved word, or not
  abbrev Here : Kind → Type 0
  Here k = next_is (is_mark k) (next (drop at tokens)) ≡ true

  abbrev Absent : Kind → Type 0
  Absent k = next_is (is_mark k) (next (drop at tokens)) ≡ false

  -- what is left of the choice of a core at its place
  abbrev Left : Family CoreTree → Type 0
  Left rest = Reaches (core_family d) tokens at at rest at

  pub do_here : Here kind.Do → Left (do_family d)
  do_here e = choose (core_family d) tokens at at kind.Do (do_family d) (from_brace d) at true e (begin (core_family d) tokens at at)

  module _ (no_do : Absent kind.Do) where
    behind_do : Left (from_brace d)
    behind_do = choose (core_family d) tokens at at kind.Do (do_family d) (from_brace d) at false no_do (begin (core_family d) tokens at at)

    pub brace_here : Here kind.LeftBrace → Left (sequence_family d)
    brace_here e = choose (core_family d) tokens at at kind.LeftBrace (sequence_family d) (from_sequence d) at true e behind_do

    module _ (no_brace : Absent kind.LeftBrace) where
      behind_brace : Left (from_sequence d)
      behind_brace = choose (core_family d) tokens at at kind.LeftBrace (sequence_family d) (from_sequence d) at false no_brace behind_do

      pub sequence_here : Here kind.Sequence → Left (sequence_family d)
      sequence_here e = choose (core_family d) tokens at at kind.Sequence (sequence_family d) (from_parallel d) at true e behind_brace

      module _ (no_sequence : Absent kind.Sequence) where
        behind_sequence : Left (from_parallel d)
        behind_sequence = choose (core_family d) tokens at at kind.Sequence (sequence_family d) (from_parallel d) at false no_sequence behind_brace

        pub parallel_here : Here kind.Parallel → Left (together_family the_together_word.Parallel d)
        parallel_here e = choose (core_family d) tokens at at kind.Parallel (together_family the_together_word.Parallel d) (from_schedule d) at true e behind_sequence

        module _ (no_parallel : Absent kind.Parallel) where
          behind_parallel : Left (from_schedule d)
          behind_parallel = choose (core_family d) tokens at at kind.Parallel (together_family the_together_word.Parallel d) (from_schedule d) at false no_parallel behind_sequence

          pub schedule_here : Here kind.Schedule → Left (together_family the_together_word.Schedule d)
          schedule_here e = choose (core_family d) tokens at at kind.Schedule (together_family the_together_word.Schedule d) (from_select d) at true e behind_parallel

          module _ (no_schedule : Absent kind.Schedule) where
            behind_schedule : Left (from_select d)
            behind_schedule = choose (core_family d) tokens at at kind.Schedule (together_family the_together_word.Schedule d) (from_select d) at false no_schedule behind_parallel

            pub select_here : Here kind.Select → Left (select_family d)
            select_here e = choose (core_family d) tokens at at kind.Select (select_family d) (from_repeat d) at true e behind_schedule

            module _ (no_select : Absent kind.Select) where
              behind_select : Left (from_repeat d)
              behind_select = choose (core_family d) tokens at at kind.Select (select_family d) (from_repeat d) at false no_select behind_schedule

              pub repeat_here : Here kind.Repeat → Left (repeated_family d)
              repeat_here e = choose (core_family d) tokens at at kind.Repeat (repeated_family d) (from_if d) at true e behind_select

              module _ (no_repeat : Absent kind.Repeat) where
                behind_repeat : Left (from_if d)
                behind_repeat = choose (core_family d) tokens at at kind.Repeat (repeated_family d) (from_if d) at false no_repeat behind_select

                pub if_here : Here kind.If → Left (if_family d)
                if_here e = choose (core_family d) tokens at at kind.If (if_family d) (from_match d) at true e behind_repeat

                module _ (no_if : Absent kind.If) where
                  behind_if : Left (from_match d)
                  behind_if = choose (core_family d) tokens at at kind.If (if_family d) (from_match d) at false no_if behind_repeat

                  pub match_here : Here kind.Match → Left (match_family d)
                  match_here e = choose (core_family d) tokens at at kind.Match (match_family d) (from_bind d) at true e behind_if

                  module _ (no_match : Absent kind.Match) where
                    behind_match : Left (from_bind d)
                    behind_match = choose (core_family d) tokens at at kind.Match (match_family d) (from_bind d) at false no_match behind_if

                    pub bind_here : Here kind.Bind → Left (bound_family d)
                    bind_here e = choose (core_family d) tokens at at kind.Bind (bound_family d) (handle_family d) at true e behind_match

                    pub handle_here : Absent kind.Bind → Left (handle_family d)
                    handle_here e = choose (core_family d) tokens at at kind.Bind (bound_family d) (handle_family d) at false e behind_match

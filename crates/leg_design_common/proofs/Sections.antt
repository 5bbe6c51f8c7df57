-- Sections take words.
use Rattle.std.proofs.Common.{ℕ, List, length, arith}
use Rattle.leg_lex.specs.Words.{Words}
use Rattle.leg_lex.specs.Statements.{at_end}
use Rattle.leg_lex.proofs.Until.{Below, Shortens, below_some, below_bind, below_more, until_below}
use Rattle.leg_lex.proofs.Shorter.{keyword_below, mark_below, whole_below, end_below}
use Rattle.std.specs.Prelude.{Option}
use Rattle.leg_grammar.specs.Def.Section.{section_start, section_at}

pub section_start_below : (keyword : List ℕ) (words : Words) → Below (length words) (section_start keyword words)
unfolding section_start
section_start_below keyword words =
    below_bind (omega arith) (keyword_below keyword words) (λ start l.
    below_bind (omega arith) (whole_below start.1) (λ count m. below_more (omega arith) (mark_below 59 count.1)))

-- a section whose entries each take a word
pub section_below : {S : Type 0} (keyword : List ℕ) (entry : S → Words → Option (S × Words)) → Shortens entry → (made : S) (words : Words)
    → Below (length words) (section_at keyword entry made words)
unfolding section_at
section_below keyword entry shortens made words =
    below_bind (omega arith) (section_start_below keyword words) (λ start l.
    below_bind (omega arith) (until_below at_end entry shortens made start.1) (λ entries m.
    below_bind (omega arith) (end_below keyword entries.1) (λ end n. below_some entries.0 end.1 n)))

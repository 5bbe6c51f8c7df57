-- The forms before the sections take words.
use Rattle.std.proofs.Common.{ℕ, pos, List, length, codes, ◌&&◌, int_lt, nat_le, unsigned_abs, arith}
use Rattle.leg_lex.specs.declared.limits.TheConstants.{UNITS_LIMIT}
use Rattle.leg_lex.specs.Words.{Words}
use Rattle.leg_lex.proofs.Shorter.{keyword_below, mark_below, name_below, word_below, whole_below}
use Rattle.leg_lex.proofs.Until.{Below, below_none, below_some, below_bind, below_if, below_more}
use Rattle.leg_grammar.specs.Def.Header.{word_after, design_name_at, microns_at, units_after, units_at}

pub word_after_below : (keyword : List ℕ) (words : Words) → Below (length words) (word_after keyword words)
unfolding word_after
word_after_below keyword words =
    below_bind (omega arith) (keyword_below keyword words) (λ start less.
    below_bind (omega arith) (word_below start.1) (λ word fewer.
    below_bind (omega arith) (mark_below 59 word.1) (λ end last.
    below_some word.0 end.1 last)))

pub design_name_below : (words : Words) → Below (length words) (design_name_at words)
unfolding design_name_at
design_name_below words =
    below_bind (omega arith) (keyword_below (codes "DESIGN") words) (λ start less.
    below_bind (omega arith) (name_below start.1) (λ name fewer.
    below_bind (omega arith) (mark_below 59 name.1) (λ end last.
    below_some name.0 end.1 last)))

microns_below : (words : Words) → Below (length words) (microns_at words)
unfolding microns_at
microns_below words =
    below_bind (omega arith) (keyword_below (codes "UNITS") words) (λ units less.
    below_bind (omega arith) (keyword_below (codes "DISTANCE") units.1) (λ distance fewer.
    below_more (omega arith) (keyword_below (codes "MICRONS") distance.1)))

units_after_below : (words : Words) → Below (length words) (units_after words)
unfolding units_after
units_after_below words =
    below_bind (omega arith) (whole_below words) (λ n less.
    below_bind (omega arith) (mark_below 59 n.1) (λ end last.
    below_if (int_lt (pos 0) n.0 && nat_le (unsigned_abs n.0) UNITS_LIMIT)
    (below_some (unsigned_abs n.0) end.1 last)
    (below_none (length words))))

pub units_below : (words : Words) → Below (length words) (units_at words)
unfolding units_at
units_below words =
    below_bind (omega arith) (microns_below words) (λ start less. below_more (omega arith) (units_after_below start.1))

-- Points take words.
use Rattle.std.proofs.Common.{length, arith}
use Rattle.leg_lex.specs.Words.{Words}
use Rattle.leg_lex.proofs.Shorter.{mark_below, whole_below}
use Rattle.leg_lex.proofs.Until.{Below, below_some, below_bind}
use Rattle.leg_grammar.specs.Def.Placement.{spot_at}

pub spot_below : (words : Words) → Below (length words) (spot_at words)
unfolding spot_at
spot_below words =
    below_bind (omega arith) (mark_below 40 words) (λ start less.
    below_bind (omega arith) (whole_below start.1) (λ x fewer.
    below_bind (omega arith) (whole_below x.1) (λ y shorter.
    below_bind (omega arith) (mark_below 41 y.1) (λ close last.
    below_some (record { x = x.0; y = y.0 }) close.1 last))))

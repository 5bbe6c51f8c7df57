-- A mask leaves fewer words.
use Rattle.std.proofs.Common.{suc, length, codes, arith}
use Rattle.leg_lex.specs.Words.{Words}
use Rattle.leg_lex.proofs.Shorter.{keyword_below, whole_below}
use Rattle.leg_lex.proofs.Until.{Below, below_some, below_bind}
use Rattle.leg_grammar.specs.Mask.{mask_at}

pub mask_below : (words : Words) → Below (suc (length words)) (mask_at words)
unfolding mask_at
mask_below words =
    below_bind (omega arith) (keyword_below (codes "MASK") words) (λ start less.
    below_bind (omega arith) (whole_below start.1) (λ number fewer. below_some tt number.1 fewer))

use Rattle.std.proofs.Common.{◌≤◌, ◌-◌, length}
use Rattle.leg_lex.proofs.Quotes.{EscapedBelow}
use Rattle.leg_lex.proofs.pieces.quoted_len.Given as goal

abbrev pub invariant-quotes : goal.invariant-quotes
invariant-quotes l = record { low : 1 ≤ l.from; high : l.from ≤ length l.text; escaped : EscapedBelow l.from l.text }

abbrev pub decreases-quotes : goal.decreases-quotes
decreases-quotes l = length l.text - l.from

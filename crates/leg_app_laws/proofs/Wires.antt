-- The text of a design with lines on its added wires after it says what the text of the design says.
use Rattle.std.proofs.Common.{ℕ, ◌≤◌, List, [], ◌∷◌, ◌++◌, length, length-append, Option, codes, decimal, refl, arith}
use Rattle.leg_lex.specs.declared.limits.TheConstants.{TEXT_LIMIT}
use Rattle.leg_lex.specs.Words.{Words}
use Rattle.leg_lex.specs.Denotes.{Denotes}
use Rattle.leg_print_words.proofs.Lines.{Lines, lines_append}
use Rattle.leg_design_records.specs.Records.{DesignModel}
use Rattle.leg_output.specs.Text.Whole.{design_text}
use Rattle.leg_output.specs.Commands.Finish.{number_line, wire_lines, finished_text}
use Rattle.leg_app_laws.proofs.NoFeeds.{HasNoFeed, feed_append, decimal_feed}
use Rattle.leg_app_laws.proofs.Comments.{comment_line, says_before}
use Rattle.leg_app_laws.proofs.Moves.{text_ends}

-- The lines of the length and of the vias are comments.
number_comment : (bytes : List ℕ) (n : ℕ) → HasNoFeed bytes → Lines (number_line (35 ∷ bytes) n) []
number_comment bytes n none = comment_line (bytes ++ decimal n) (feed_append bytes (decimal n) none (decimal_feed n))

wire_comments : (length vias : ℕ) → Lines (wire_lines length vias) []
wire_comments length vias = lines_append (number_comment (codes " length ") length refl) (number_comment (codes " vias ") vias refl)

-- the text of the design is no longer than that with lines after it
pub finished_fits : (design : DesignModel) (long vias : ℕ) → length (finished_text design long vias) ≤ TEXT_LIMIT → length (design_text design) ≤ TEXT_LIMIT
finished_fits design long vias fits = omega (arith, length-append (design_text design) (wire_lines long vias))

pub says_with_wires : {Said : Type 0} (reading : Words → Option Said) (said : Said) (design : DesignModel) (long vias : ℕ)
    → length (finished_text design long vias) ≤ TEXT_LIMIT → Denotes reading (design_text design) said → Denotes reading (finished_text design long vias) said
says_with_wires reading said design long vias fits says =
    says_before reading (design_text design) (wire_lines long vias) said (text_ends design) (wire_comments long vias) fits says

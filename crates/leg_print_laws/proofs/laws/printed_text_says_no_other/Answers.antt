use Rattle.std.proofs.Common.{ap}
use Rattle.leg_output.specs.Text.Whole.{design_text}
use Rattle.leg_print_laws.proofs.Whole.{text_says_only}
use Rattle.leg_print_laws.proofs.laws.printed_text_says_no_other.Goals as goal

pub returns-clause-same : goal.returns-clause-same
returns-clause-same c = λ profile design other sound well one fits says.
    text_says_only profile design other sound well one fits (c.one_cut.ensures (design_text design)) says

pub returns-clause-bytes : goal.returns-clause-bytes
returns-clause-bytes c = λ profile design other sound well one fits says.
    ap design_text (text_says_only profile design other sound well one fits (c.one_cut.ensures (design_text design)) says)

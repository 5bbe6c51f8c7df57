use Rattle.std.proofs.Common.{ap}
use Rattle.leg_app_laws.proofs.ComparisonLines.{wires_answered}
use Rattle.leg_app_laws.proofs.PrintedDifferences.{said_well_formed, said_under}
use Rattle.leg_app_laws.proofs.laws.finished_text_differs_in_wires.Goals as goal

pub returns : goal.returns
returns c = λ profile lefs def text library design say printed one fits.
    let after = printed.finished in
    let same = ap (λ d. d.library) printed.finishes.same.rest in
    let again = c.printed_texts_say_their_designs.ensures.finished profile lefs def text library design say printed one fits in
    wires_answered c.texts_say_one_design.ensures profile lefs def text library design after say
    (said_under profile lefs def library design say text after same again)
    (c.routed_design_differs_in_wires.ensures design after (said_well_formed profile lefs def library design say) printed.finishes.same)

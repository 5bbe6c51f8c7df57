use Rattle.std.proofs.Common.{ap}
use Rattle.leg_app_laws.proofs.ComparisonLines.{places_answered}
use Rattle.leg_app_laws.proofs.PrintedDifferences.{said_well_formed, said_under}
use Rattle.leg_app_laws.proofs.laws.legalised_text_differs_in_places.Goals as goal

pub returns : goal.returns
returns c = λ profile lefs def text library design say printed one fits.
    let after = printed.legalised in
    let same = ap (λ d. d.library) printed.legalises.same.rest in
    let again = c.printed_texts_say_their_designs.ensures.legalised profile lefs def text library design say printed one fits in
    places_answered c.texts_say_one_design.ensures profile lefs def text library design after say
    (said_under profile lefs def library design say text after same again)
    (c.legalised_design_differs_in_places.ensures design after (said_well_formed profile lefs def library design say) printed.legalises.same)

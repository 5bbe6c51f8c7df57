use Rattle.leg_app_laws.proofs.Legal.{legalised_placed}
use Rattle.leg_app_laws.proofs.laws.legalised_text_is_legally_placed.Goals as goal

pub returns : goal.returns
returns c = λ profile lefs def text library design say printed one fits.
    legalised_placed c.printed_text_says_its_design.ensures.design c.printed_text_says_its_design.ensures.units profile lefs def text library design say
    c.command_has_one_answer.ensures printed one fits

use Rattle.leg_app_laws.proofs.Legal.{routed_legal}
use Rattle.leg_app_laws.proofs.laws.routed_text_is_legal.Goals as goal

pub returns : goal.returns
returns c = λ profile lefs def text library design say printed one fits.
    routed_legal c.printed_text_says_its_design.ensures.design c.printed_text_says_its_design.ensures.units profile lefs def text library design say
    c.command_has_one_answer.ensures printed one fits

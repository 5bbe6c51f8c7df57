use Rattle.leg_app_laws.proofs.Legal.{routed_said, legalised_said, flow_said, finished_said, design_said}
use Rattle.leg_app_laws.proofs.laws.printed_texts_say_their_designs.Goals as goal

pub returns-clause-routed : goal.returns-clause-routed
returns-clause-routed c = λ profile lefs def text library design say.
    routed_said c.printed_text_says_its_design.ensures.design c.printed_text_says_its_design.ensures.units profile lefs def text library design say

pub returns-clause-legalised : goal.returns-clause-legalised
returns-clause-legalised c = λ profile lefs def text library design say.
    legalised_said c.printed_text_says_its_design.ensures.design c.printed_text_says_its_design.ensures.units profile lefs def text library design say

pub returns-clause-flow : goal.returns-clause-flow
returns-clause-flow c = λ profile lefs def text library design say.
    flow_said c.printed_text_says_its_design.ensures.design c.printed_text_says_its_design.ensures.units profile lefs def text library design say

pub returns-clause-finished : goal.returns-clause-finished
returns-clause-finished c = λ profile lefs def text library design say.
    finished_said c.printed_text_says_its_design.ensures.design c.printed_text_says_its_design.ensures.units profile lefs def text library design say

pub returns-clause-printed : goal.returns-clause-printed
returns-clause-printed c = λ profile lefs def text library design say.
    design_said c.printed_text_says_its_design.ensures.design c.printed_text_says_its_design.ensures.units profile lefs def text library design say

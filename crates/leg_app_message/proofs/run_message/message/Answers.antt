use Rattle.leg_app_message.proofs.run_message.message.Goals as goal

pub returns-in-TooMany : goal.returns-in-TooMany
returns-in-TooMany g c = rw c.in-TooMany.is (rw c.in-TooMany.is at c.advice_message.ensures)

pub returns-in-FixedIllegal : goal.returns-in-FixedIllegal
returns-in-FixedIllegal g c = rw c.in-FixedIllegal.is (rw c.in-FixedIllegal.is at c.advice_message-in-FixedIllegal.ensures)

pub returns-in-GridTooLarge : goal.returns-in-GridTooLarge
returns-in-GridTooLarge g c = rw c.in-GridTooLarge.is (rw c.in-GridTooLarge.is at c.advice_message-in-GridTooLarge.ensures)

pub returns-in-Unfinished : goal.returns-in-Unfinished
returns-in-Unfinished g c = rw c.in-Unfinished.is (rw c.in-Unfinished.is at c.advice_message-in-Unfinished.ensures)

use Rattle.leg_drc_rules.proofs.Memories.{kept_behind, none_kept}
use Rattle.leg_drc_rules.proofs.deck.word_form.Goals as goal

pub returns-in_ok-grid-clause-kept : goal.returns-in_ok-grid-clause-kept
returns-in_ok-grid-clause-kept g c = rw c.again.ensures (none_kept c.amount.new.words)

pub returns-else-is_first_grid-clause-kept : goal.returns-else-is_first_grid-clause-kept
returns-else-is_first_grid-clause-kept g c = rw c.skip.ensures (kept_behind c.args.words.now c.args.behind.now c.requires.kept)

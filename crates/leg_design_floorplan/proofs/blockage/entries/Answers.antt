use Rattle.std.proofs.Common.{◌≡◌, ◌∙◌, false, sym}
use Rattle.leg_lex.specs.Statements.{at_end}
use Rattle.leg_lex.proofs.Until.{goes_on}
use Rattle.leg_grammar.specs.Def.Blockage.{blockage_entry}
use Rattle.leg_design_floorplan.proofs.Blockages.{entry_shortens, entry_shorter}
use Rattle.leg_design_floorplan.proofs.blockage.entries.Goals as goal

pub entries-smaller : goal.entries-smaller
entries-smaller g c =
    entry_shorter c.args.profile c.args.library.now c.entries.blockages c.entry.new.blockages c.entries.words c.entry.new.words c.in_ok-entry.ensures

pub entries-preserved : goal.entries-preserved
entries-preserved g c =
    let more : at_end c.entries.words ≡ false = sym c.is_at.ensures ∙ c.entries-test.true in
    sym (goes_on at_end (blockage_entry c.args.profile c.args.library.now) (entry_shortens c.args.profile c.args.library.now) c.entries.blockages
    c.entry.new.blockages c.entries.words c.entry.new.words more c.in_ok-entry.ensures) ∙ c.entries.invariant

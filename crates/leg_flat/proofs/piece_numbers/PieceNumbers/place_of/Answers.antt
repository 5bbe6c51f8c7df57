use Rattle.std.proofs.Common.{sym, ◌∙◌}
use Rattle.leg_design_records.proofs.SameTerminal.{terminal_eq_is}
use Rattle.leg_flat.proofs.PieceTables.{place_by}
use Rattle.leg_flat.proofs.piece_numbers.PieceNumbers.place_of.Goals as goal

pub returns : goal.returns
returns g c =
    rw (← c.self.view_is) (c.copied.ensures ∙ c.get.ensures.value ∙ sym (place_by _ terminal_eq_is c.self.inside.places c.args.terminal.now))

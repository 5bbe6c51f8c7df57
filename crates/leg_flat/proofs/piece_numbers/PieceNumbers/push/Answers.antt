use Rattle.leg_design_records.proofs.SameTerminal.{terminal_eq_is}
use Rattle.leg_flat.proofs.PieceTables.{placed_by}
use Rattle.leg_flat.proofs.piece_numbers.PieceNumbers.push.Goals as goal

pub returns : goal.returns
returns g c = λ other.
    rw (← c.self.view_is) (placed_by _ terminal_eq_is c.self.inside.places c.insert.new.self c.args.terminal
    (c.args.net, c.args.piece) c.in_ok-insert.ensures.updates.0 other)

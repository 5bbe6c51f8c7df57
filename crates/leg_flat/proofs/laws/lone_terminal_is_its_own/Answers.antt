use Rattle.leg_flat.proofs.LoneTerminals.{lone_owned, lone_piece}
use Rattle.leg_flat.proofs.laws.lone_terminal_is_its_own.Goals as goal

pub returns : goal.returns
returns c = record { owner = lone_owned; piece = lone_piece }

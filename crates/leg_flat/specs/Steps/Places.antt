-- What is found of the nets of a design: the pieces of each, where each terminal is, and the numbers of the entries of
-- SPECIALNETS (lefdef's own rules).
use Rattle.std.specs.Prelude.{◌≡◌, ℕ, ◌+◌, List, length, map, Option, None, Some, slice_get}
use Rattle.std.specs.List.{range_with_len}
use Rattle.std.specs.Map.{lookup}
use Rattle.leg_design_records.specs.declared.records.Terminal.{Terminal}
use Rattle.leg_design_records.specs.Terminals.{is_same_terminal}
use Rattle.leg_design_records.specs.Records.{DesignModel, NetModel}
use Rattle.leg_rules.specs.declared.piece.Piece.{Piece}
use Rattle.leg_rules.specs.Metal.Nets.{number_of_special, terminals_of, pieces_of}
use Rattle.leg_rules.specs.Metal.Owner.{net_of, piece_of}

-- where a terminal is by this list of terminals and their places
abbrev pub place_in : List (Terminal × (ℕ × ℕ)) → Terminal → Option (ℕ × ℕ)
place_in placed terminal = lookup (is_same_terminal terminal) placed

-- the pieces of each net by its number and how many of them are terminals, the net of each terminal in one and which
-- piece of it the terminal is, and the net of each entry of SPECIALNETS
pub record NetsModel : Type 0 where
  pub pieces : List (List Piece)
  pub counts : List ℕ
  pub placed : List (Terminal × (ℕ × ℕ))
  pub special : List ℕ

-- as many numbers as there are nets: those of the entries of NETS and of SPECIALNETS together
abbrev pub net_numbers : DesignModel → List ℕ
net_numbers design = range_with_len 0 (length design.nets + length design.special)

-- the terminal is in this net, as this piece of it, or in none
abbrev pub IsPlaceOf : DesignModel → Terminal → Option (ℕ × ℕ) → Type 0
IsPlaceOf design terminal None = net_of design terminal ≡ None
IsPlaceOf design terminal (Some place) = (net_of design terminal ≡ Some place.0) × (piece_of design terminal ≡ Some place.1)

-- the numbers of the nets that the entries of SPECIALNETS are of
pub record AreSpecialNumbers (design : DesignModel) (numbers : List ℕ) : Type 0 where
  pub count : length numbers ≡ length design.special
  pub each : (k : ℕ) (net : NetModel) → slice_get design.special k ≡ Some net → slice_get numbers k ≡ Some (number_of_special design k net)

-- These are the nets of the design.
pub record AreNetsOf (design : DesignModel) (nets : NetsModel) : Type 0 where
  pub pieces : nets.pieces ≡ map (pieces_of design) (net_numbers design)
  pub counts : nets.counts ≡ map (λ n. length (terminals_of design n)) (net_numbers design)
  pub place : (terminal : Terminal) → IsPlaceOf design terminal (place_in nets.placed terminal)
  pub special : AreSpecialNumbers design nets.special

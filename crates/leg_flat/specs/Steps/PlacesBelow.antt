-- Where terminals are in the nets below a number, as they are found net by net.
use Rattle.std.specs.Prelude.{◌≡◌, ℕ, zero, suc, ◌+◌, List, ◌++◌, length, map, filter, Option, None, Some, is_none, option_map}
use Rattle.leg_design_records.specs.declared.records.Terminal.{Terminal}
use Rattle.leg_design_records.specs.Records.{DesignModel}
use Rattle.leg_rules.specs.declared.piece.Piece.{Piece}
use Rattle.leg_rules.specs.declared.piece.Piece.TheVariants.{Term}
use Rattle.leg_rules.specs.Metal.Nets.{terminals_of}
use Rattle.leg_rules.specs.Metal.Owner.{place_among}
use Rattle.leg_flat.specs.Steps.Places.{place_in}

-- the one, or else the other
abbrev pub or_else : {X : Type 0} → Option X → Option X → Option X
or_else None other = other
or_else (Some x) other = Some x

-- what is known of a terminal once these are the pieces of a net from a number on
abbrev pub with_pieces : Option (ℕ × ℕ) → ℕ → ℕ → List Terminal → Terminal → Option (ℕ × ℕ)
with_pieces known net from terminals terminal =
    or_else known (option_map (λ k. (net, from + k)) (place_among terminal terminals))

-- those of the terminals that aren't in a net yet
abbrev pub new_among : List (Terminal × (ℕ × ℕ)) → List Terminal → List Terminal
new_among placed terminals = filter (λ t. is_none (place_in placed t)) terminals

-- those of the terminals that weren't in a net before came after the pieces of this net, and are known as such
pub record ArePiecesAdded (net : ℕ) (terminals : List Terminal) (before : List (Terminal × (ℕ × ℕ))) (pieces : List Piece) (after : List (Terminal × (ℕ × ℕ)))
    (more : List Piece) : Type 0 where
  pub grown : more ≡ pieces ++ map Term (new_among before terminals)
  pub places : (terminal : Terminal) → place_in after terminal ≡ with_pieces (place_in before terminal) net (length pieces)
      (new_among before terminals) terminal

-- the first net below n that has the terminal, and which piece of it the terminal is
unfoldable pub place_below : DesignModel → ℕ → Terminal → Option (ℕ × ℕ)
place_below design zero terminal = None
place_below design (suc n) terminal =
    with_pieces (place_below design n terminal) n 0 (terminals_of design n) terminal

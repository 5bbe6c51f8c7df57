-- The nets of a design by their numbers, and the pieces of each (lefdef's own rules; LEF/DEF 5.8, "Nets", "Special Nets"). An entry
-- of NETS and one of SPECIALNETS of the same name are one net.
use Rattle.std.specs.Prelude.{ℕ, ◌+◌, ◌-◌, not, List, [], ◌++◌, length, map, filter, Option, None, Some, is_some, unwrap_or, if◌then◌else◌, slice_get}
use Rattle.std.specs.List.{range_with_len}
use Rattle.leg_lex.specs.Words.{◌>>=◌}
use Rattle.leg_lex.specs.NameLookup.{place_of}
use Rattle.leg_design_records.specs.declared.records.Terminal.{Terminal}
use Rattle.leg_design_records.specs.declared.records.Wire as design
use Rattle.leg_design_records.specs.Terminals.{is_among}
use Rattle.leg_design_records.specs.Records.{DesignModel, NetModel, net_names}
use Rattle.leg_rules.specs.declared.piece.Piece.{Piece}
use Rattle.leg_rules.specs.declared.piece.Piece.TheVariants.{Term, Wire}

-- A net's number is the place of its entry of NETS. A net that is in SPECIALNETS alone has the number of entries of
-- NETS and its place in SPECIALNETS together.
abbrev pub number_of_special : DesignModel → ℕ → NetModel → ℕ
number_of_special design k net = unwrap_or (place_of net.name (net_names design.nets)) (length design.nets + k)

-- the entry of SPECIALNETS of this name
abbrev pub special_named : DesignModel → List ℕ → Option NetModel
special_named design name = place_of name (net_names design.special) >>= λ k. slice_get design.special k

-- the entry of SPECIALNETS of this number, where no entry of NETS has its name
abbrev pub special_alone : DesignModel → ℕ → Option NetModel
special_alone design k =
    slice_get design.special k >>= λ net. if is_some (place_of net.name (net_names design.nets)) then None else Some net

-- the entry of NETS of the net of this number
abbrev pub regular_entry : DesignModel → ℕ → Option NetModel
regular_entry design n = slice_get design.nets n

-- the entry of SPECIALNETS of the net of this number
abbrev pub special_entry : DesignModel → ℕ → Option NetModel
special_entry design n = beside (slice_get design.nets n) where
  beside : Option NetModel → Option NetModel
  beside None = special_alone design (n - length design.nets)
  beside (Some net) = special_named design net.name

abbrev pub entry_terminals : Option NetModel → List Terminal
entry_terminals None = []
entry_terminals (Some net) = net.terminals

abbrev pub entry_wires : Option NetModel → List design.Wire
entry_wires None = []
entry_wires (Some net) = net.wires

-- the terminals of a net: those of its entry of NETS, and then those of its entry of SPECIALNETS that aren't among them
unfoldable pub terminals_of : DesignModel → ℕ → List Terminal
terminals_of design n =
    entry_terminals (regular_entry design n)
    ++ filter (λ t. not (is_among t (entry_terminals (regular_entry design n)))) (entry_terminals (special_entry design n))

-- the wires of a net: those of its entry of NETS, and then those of its entry of SPECIALNETS
unfoldable pub wires_of : DesignModel → ℕ → List design.Wire
wires_of design n = entry_wires (regular_entry design n) ++ entry_wires (special_entry design n)

-- The pieces of a net: its terminals, each with all its rectangles, and then its wires.
unfoldable pub pieces_of : DesignModel → ℕ → List Piece
pieces_of design n = map Term (terminals_of design n) ++ map Wire (range_with_len 0 (length (wires_of design n)))

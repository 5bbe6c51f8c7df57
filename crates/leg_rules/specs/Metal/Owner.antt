-- Whose metal a shape is (lefdef's own rules): a net's, that of a terminal in no net, the power's or the ground's, that of a
-- component's obstructions, or that of a blockage.
use Rattle.std.specs.Prelude.{ℕ, suc, if◌then◌else◌, List, [], ◌∷◌, Option, None, Some, option_map, slice_get}
use Rattle.leg_lex.specs.Words.{◌>>=◌}
use Rattle.leg_lib_records.specs.declared.records.Supply.{Supply}
use Rattle.leg_lib_records.specs.declared.records.Supply.TheVariants.{NoSupply, Power, Ground}
use Rattle.leg_lib_records.specs.Records as library
use Rattle.leg_design_records.specs.declared.records.Terminal.{Terminal}
use Rattle.leg_design_records.specs.declared.records.Terminal.TheVariants.{Comp, Pin}
use Rattle.leg_design_records.specs.Terminals.{is_same_terminal, is_among}
use Rattle.leg_design_records.specs.Records.{DesignModel, NetModel}
use Rattle.leg_design_records.specs.Names.{master_pin}
use Rattle.leg_rules.specs.declared.owner.Owner.{Owner}
use Rattle.leg_rules.specs.declared.owner.Owner.TheVariants as owners
use Rattle.leg_rules.specs.Metal.Nets.{number_of_special, terminals_of}

-- the obstructions of a component, and the rectangles of a blockage
abbrev pub IsObstruction : Owner → Type 0
IsObstruction (owners.Obs c) = Unit {0}
IsObstruction (owners.Blocking k) = Unit {0}
IsObstruction other = ⊥

-- the place of the first entry that lists the terminal
abbrev pub listing_place : Terminal → List NetModel → Option ℕ
listing_place terminal [] = None
listing_place terminal (net ∷ nets) =
    if is_among terminal net.terminals then Some 0 else option_map suc (listing_place terminal nets)

-- the net that lists the terminal, by its number: of a well-formed design there is one at most
unfoldable pub net_of : DesignModel → Terminal → Option ℕ
net_of design terminal = first (listing_place terminal design.nets) where
  first : Option ℕ → Option ℕ
  first (Some n) = Some n
  first None = do
    k ← listing_place terminal design.special
    net ← slice_get design.special k
    Some (number_of_special design k net)

-- the place of the terminal among these
abbrev pub place_among : Terminal → List Terminal → Option ℕ
place_among terminal [] = None
place_among terminal (first ∷ terminals) =
    if is_same_terminal terminal first then Some 0 else option_map suc (place_among terminal terminals)

-- what a pin of no net supplies: lone pins of components are shared by their USE
abbrev pub owner_by_use : Terminal → Option library.MasterPinModel → Owner
owner_by_use terminal None = owners.Lone terminal
owner_by_use terminal (Some pin) = by pin.supply where
  by : Supply → Owner
  by NoSupply = owners.Lone terminal
  by Power = owners.Power
  by Ground = owners.Ground

-- the owner of a terminal in no net
abbrev pub lone_owner : DesignModel → Terminal → Owner
lone_owner design (Comp c k) = owner_by_use (Comp c k) (master_pin design c k)
lone_owner design (Pin p) = owners.Lone (Pin p)

-- the owner of a terminal's metal
unfoldable pub owner_of : DesignModel → Terminal → Owner
owner_of design terminal = by (net_of design terminal) where
  by : Option ℕ → Owner
  by None = lone_owner design terminal
  by (Some n) = owners.Net n

-- which piece of its net a terminal is
unfoldable pub piece_of : DesignModel → Terminal → Option ℕ
piece_of design terminal = net_of design terminal >>= λ n. place_among terminal (terminals_of design n)

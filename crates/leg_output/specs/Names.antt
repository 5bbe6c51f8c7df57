-- How lines name what they speak of. A number that nothing has names nothing.
use Rattle.std.specs.Prelude.{ℕ, suc, List, ◌++◌, codes, decimal, slice_get}
use Rattle.leg_lib_records.specs.Records as library
use Rattle.leg_lib_records.specs.declared.records.Layer.{Layer}
use Rattle.leg_lib_records.specs.declared.records.Site.{Site}
use Rattle.leg_design_records.specs.declared.records.Terminal.{Terminal}
use Rattle.leg_design_records.specs.Records.{DesignModel}
use Rattle.leg_design_records.specs.Names.{name_by, component_name, terminal_names, net_name}
use Rattle.leg_rules.specs.declared.owner.Owner.{Owner}
use Rattle.leg_rules.specs.declared.owner.Owner.TheVariants.{Net, Lone, Power, Ground, Obs, Blocking}
use Rattle.leg_rules.specs.declared.piece.Piece.{Piece}
use Rattle.leg_rules.specs.declared.piece.Piece.TheVariants.{Term, Wire}

abbrev pub layer_name : DesignModel → ℕ → List ℕ
layer_name design layer = name_by (λ (l : Layer). l.name) (slice_get design.library.layers layer)

abbrev pub site_name : DesignModel → ℕ → List ℕ
site_name design site = name_by (λ (s : Site). s.name) (slice_get design.library.sites site)

abbrev pub master_name : DesignModel → ℕ → List ℕ
master_name design master = name_by (λ (m : library.MasterModel). m.name) (slice_get design.library.masters master)

-- a pin of a component, or PIN and a pin of the design
abbrev pub terminal_text : DesignModel → Terminal → List ℕ
terminal_text design terminal = (terminal_names design terminal).0 ++ codes " " ++ (terminal_names design terminal).1

-- blockages are counted from 1
abbrev pub owner_text : DesignModel → Owner → List ℕ
owner_text design (Net n) = codes "NET " ++ net_name design n
owner_text design (Lone terminal) = codes "TERM " ++ terminal_text design terminal
owner_text design Power = codes "POWER"
owner_text design Ground = codes "GROUND"
owner_text design (Obs c) = codes "OBS " ++ component_name design c
owner_text design (Blocking k) = codes "BLOCKAGE " ++ decimal (suc k)

-- wires are counted from 1
abbrev pub piece_text : DesignModel → Piece → List ℕ
piece_text design (Term terminal) = terminal_text design terminal
piece_text design (Wire k) = codes "WIRE " ++ decimal (suc k)

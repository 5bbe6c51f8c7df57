-- Sections of a design whose entries have names, no two of one name (LEF/DEF 5.8, "Vias", "Components", "Pins", "Special Nets",
-- "Nets").
use Rattle.std.specs.Prelude.{◌≡◌, ℕ, List, [], ◌<◌, length, get_or, None, Some}
use Rattle.leg_lex.specs.NameLookup.{place_of}
use Rattle.leg_design_records.specs.Records.{DesignModel, design_via_names, component_names, pin_names, net_names}
use Rattle.leg_rules.specs.declared.difference.Section.{Section}
use Rattle.leg_rules.specs.declared.difference.Section.TheVariants.{Vias, Components, Pins, SpecialNets, Nets}

-- the names of the entries, in file order
abbrev pub names_of : Section → DesignModel → List (List ℕ)
names_of Vias design = design_via_names design.vias
names_of Components design = component_names design.components
names_of Pins design = pin_names design.pins
names_of SpecialNets design = net_names design.special
names_of Nets design = net_names design.nets

-- the first design has an entry of this number, and the second has none of its name
pub record IsMissing (section : Section) (first second : DesignModel) (number : ℕ) : Type 0 where
  pub there : number < length (names_of section first)
  pub gone : place_of (get_or (names_of section first) number []) (names_of section second) ≡ None

-- entry i of the first design and entry j of the second have one name
pub record AreOfOneName (section : Section) (first second : DesignModel) (i j : ℕ) : Type 0 where
  pub there : i < length (names_of section first)
  pub found : place_of (get_or (names_of section first) i []) (names_of section second) ≡ Some j

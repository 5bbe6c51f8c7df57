-- In which order the entries of two designs stand (lefdef's own rule). No difference hangs on it, but a legaliser breaks ties by the order
-- of COMPONENTS, and a router takes nets in the order of NETS.
use Rattle.std.specs.Prelude.{◌≢◌}
use Rattle.leg_design_records.specs.Records.{DesignModel}
use Rattle.leg_rules.specs.declared.difference.Section.{Section}
use Rattle.leg_rules.specs.Compare.Sections.{names_of}

-- The names of the section, in file order, are not one list. Where nothing differs they are the same names, in another order.
abbrev pub HaveOtherOrder : Section → DesignModel → DesignModel → Type 0
HaveOtherOrder section first second = names_of section first ≢ names_of section second

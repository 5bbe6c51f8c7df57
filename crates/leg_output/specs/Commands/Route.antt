-- What `route` prints (lefdef's own rules): the text of the routed design, or why there is none.
use Rattle.std.specs.Prelude.{ℕ, List, ◌++◌, length, Some, codes, decimal}
use Rattle.leg_design_records.specs.Records.{DesignModel}
use Rattle.leg_design_records.specs.declared.fault.Fault.{Fault}
use Rattle.leg_rules.specs.Metal.Flat.{FlatModel}
use Rattle.leg_design_records.specs.Names.{net_name}
use Rattle.leg_output.specs.Lines.{violations_text}

-- the violations of all kinds but Open, whose lines name shapes of this flat, and their number
abbrev pub not_clean_text : DesignModel → FlatModel → List Fault → List ℕ
not_clean_text design flat violations =
    violations_text design (Some flat) violations ++ codes "NOTCLEAN " ++ decimal (length violations) ++ codes "\n"

-- too many tracks, or too large a grid of them
abbrev pub grid_too_large_text : List ℕ
grid_too_large_text = codes "GRIDTOOLARGE\n"

-- a net that no open walk leads on
abbrev pub unroutable_text : DesignModel → ℕ → List ℕ
unroutable_text design net = codes "UNROUTABLE " ++ net_name design net ++ codes "\n"

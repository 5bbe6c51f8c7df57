-- The entry of a component (LEF/DEF 5.8, "Components").
use Rattle.std.specs.Prelude.{[], ◌∷◌, ◌++◌, codes}
use Rattle.leg_lex.specs.Words.{Words}
use Rattle.leg_design_records.specs.declared.records.Component.{Component}
use Rattle.leg_design_records.specs.Records.{DesignModel}
use Rattle.leg_output.specs.Names.{master_name}
use Rattle.leg_output.specs.Text.Clauses.{placement_clause}

-- - name macro + PLACED ( x y ) orientation, or FIXED or COVER; or - name macro + UNPLACED
abbrev pub component_said : DesignModel → Component → Words
component_said design component =
    codes "-" ∷ component.name ∷ master_name design component.master
    ∷ codes "+" ∷ placement_clause component.status component.place

-- the same with its semicolon
abbrev pub component_words : DesignModel → Component → Words
component_words design component = component_said design component ++ codes ";" ∷ []

-- Where words turn no vias, they add none to what was read so far.
use Rattle.std.proofs.Common.{◌≡◌, List, Option, None, Some, sym, ap, ◌∙◌}
use Rattle.leg_lex.specs.Words.{Words, ◌>>=◌}
use Rattle.leg_lib_records.specs.Records.{ViaModel}
use Rattle.leg_grammar.specs.declared.turned_via.TurnedVia.{TurnedVia}
use Rattle.leg_grammar.specs.Def.TurnedVia.{TurnedVias, turned_vias_at}
use Rattle.leg_grammar.specs.Def.Parts.{DesignParts, with_vias, with_turned_vias}

pub not_turned : (parts : DesignParts) (vias : List ViaModel) (turned : List TurnedVia) (words : Words) → vias ≡ parts.design.vias → turned ≡ parts.turned
    → turned_vias_at parts.design.library (record { vias = vias; turned = turned }) words ≡ None → with_turned_vias parts words ≡ None
unfolding with_turned_vias
not_turned parts vias turned words same alike none =
    ap (λ (said : Option (TurnedVias × Words)). said >>= λ made. Some (with_vias made.0 parts))
    (ap (λ (v : List ViaModel). turned_vias_at parts.design.library (record { vias = v; turned = parts.turned }) words) (sym same)
    ∙ ap (λ (t : List TurnedVia). turned_vias_at parts.design.library (record { vias = vias; turned = t }) words) (sym alike)
    ∙ none)

use Rattle.std.proofs.Common.{[], ◌∷◌, codes, rules}
use Rattle.std.proofs.lemmas.Result.{on_ok_weaker}
use Rattle.leg_output.specs.Names.{master_name}
use Rattle.leg_output.specs.Text.Clauses.{placement_clause}
use Rattle.leg_print.proofs.Appends.{entry_pushed}
use Rattle.leg_print.proofs.components.push_component.Goals as goal

pub returns : goal.returns
returns g c =
    let component = c.args.component.now in
    on_ok_weaker c.push_end.result (λ last.
    entry_pushed _ c.push_start.new.text.items c.push_placement.new.text.items _ (codes "-")
    (component.name ∷ master_name c.args.design.now component.master ∷ [])
    (codes "+" ∷ placement_clause component.status component.place)
    (search rules) (search rules) last) c.push_end.ensures

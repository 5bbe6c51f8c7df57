use Rattle.std.proofs.Common.{[], ◌∷◌, codes, map, rules}
use Rattle.std.proofs.lemmas.Result.{on_ok_weaker}
use Rattle.leg_output.specs.Text.Clauses.{clause_words, shape_clause}
use Rattle.leg_print.proofs.Appends.{entry_pushed}
use Rattle.leg_print.proofs.vias.push_via.Goals as goal

pub returns : goal.returns
returns g c =
    let via = c.args.via.now in
    on_ok_weaker c.push_end.result (λ last.
    entry_pushed _ c.push_start.new.text.items c.push_shapes.new.text.items _ (codes "-") (via.name ∷ [])
    (clause_words (map (shape_clause (codes "RECT") c.args.design.now) via.shapes))
    (search rules) (search rules) last) c.push_end.ensures

use Rattle.std.proofs.Common.{[], ◌∷◌, codes, rules}
use Rattle.std.specs.Fmt.{signed_decimal}
use Rattle.std.proofs.lemmas.Result.{on_ok_weaker}
use Rattle.leg_output.specs.Names.{site_name}
use Rattle.leg_output.specs.Text.Points.{orient_word}
use Rattle.leg_output.specs.Text.Rows.{width_of_site}
use Rattle.leg_print.proofs.Appends.{entry_pushed}
use Rattle.leg_print.proofs.rows.push_row.Goals as goal

pub returns : goal.returns
returns g c =
    let design = c.args.design.now in
    let row = c.args.row.now in
    on_ok_weaker c.push_end.result (λ last.
    entry_pushed _ c.push_start.new.text.items c.push_words.new.text.items _ (codes "ROW") (row.name ∷ site_name design row.site ∷ [])
    (signed_decimal row.at.x ∷ signed_decimal row.at.y ∷ orient_word row.orient ∷ codes "DO" ∷ signed_decimal
    row.count ∷ codes "BY" ∷ codes "1" ∷ codes "STEP" ∷ signed_decimal (width_of_site design row.site) ∷ codes "0" ∷ [])
    (search rules) (search rules) last) c.push_end.ensures

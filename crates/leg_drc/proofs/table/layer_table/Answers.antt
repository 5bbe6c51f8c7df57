-- The table that is found keeps the limit.
use Rattle.std.proofs.Common.{◌≡◌, option_map, Bor}
use Rattle.leg_drc_rules.specs.Records.{TableModel}
use Rattle.leg_drc.specs.Table.{layer_table}
use Rattle.leg_drc.proofs.TableLimit.{got_within}
use Rattle.leg_drc.proofs.table.layer_table.Goals as goal

pub returns : goal.returns
returns g c =
    let deck = c.args.deck.now in
    let is : option_map (λ (table : Bor TableModel). table.now) c.table_among.result ≡ layer_table deck c.args.layer =
    rw c.layers.ensures.is at c.table_among.ensures in
    record { is = is; within = got_within deck c.args.layer c.table_among.result c.layers.ensures.within is }

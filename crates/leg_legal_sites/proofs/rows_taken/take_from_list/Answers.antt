-- The list loses the sites that the rectangle meets.
use Rattle.std.proofs.lemmas.Result.{on_ok_weaker}
use Rattle.leg_legal_sites.proofs.TakenRows.{loses_from_sites}
use Rattle.leg_legal_sites.proofs.rows_taken.take_from_list.Goals as goal

pub returns-in-Some-clause-taken : goal.returns-in-Some-clause-taken
returns-in-Some-clause-taken g c =
    rw c.in-Some.is (on_ok_weaker c.take.result (loses_from_sites c.args.rect.now c.args.row.now c.args.size.now c.in-Some.sites c.take.new.self
    c.sites_met-met.result c.sites_met-met.ensures) c.take.ensures)

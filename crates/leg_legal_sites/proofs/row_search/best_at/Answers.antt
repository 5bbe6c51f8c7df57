-- None in the row is better, or its leaf has its best position.
use Rattle.std.proofs.Common.{◌≡◌, ◌+◌, Some, length, get_or, slice_get, pos, arith}
use Rattle.std.proofs.lemmas.Option.{slice_get-get_or}
use Rattle.leg_legal_sites.specs.declared.bounds.Bounds.{Bounds}
use Rattle.leg_legal_sites.specs.Steps.FreeListSharing.{row_lists}
use Rattle.leg_legal_sites.proofs.BestBeneath.{best_kept}
use Rattle.leg_legal_sites.proofs.row_search.best_at.Goals as goal

pub returns-then-are_no_better : goal.returns-then-are_no_better
returns-then-are_no_better g c =
    let order = c.args.order.now in
    let nodes = c.args.nodes.now in
    let leaf = length order + c.args.place in
    let bounds : Bounds = get_or nodes leaf nothing in
    let count = c.requires.rows.nodes.count in
    let place = c.requires.there in
    let there : slice_get nodes leaf ≡ Some bounds = slice_get-get_or nodes leaf nothing (omega (arith, count, place)) in
    best_kept c.args.design.now c.rows-rows.ensures.proper.rows (row_lists order c.args.lists.now) order c.args.wanted.now c.requires.ready c.requires.sized
    leaf bounds c.args.best (λ key below. c.requires.rows.nodes.fit leaf bounds key (omega (arith, place)) there below)
    (c.are_no_better.ensures c.if-are_no_better.true) where
      nothing : Bounds
      nothing =
          record {
            least_row = 0;
            least_site = 0;
            most_site = 0;
            low = pos 0;
            high = pos 0;
            top = pos 0;
            left = pos 0;
            right = pos 0;
            corner = pos 0;
            longest = 0;
          }

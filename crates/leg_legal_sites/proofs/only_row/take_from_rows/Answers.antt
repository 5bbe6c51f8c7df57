-- The box is taken from the only row that it meets, or from the rows beneath the first node.
use Rattle.leg_legal_sites.specs.Steps.FreeListSharing.{row_lists}
use Rattle.leg_legal_sites.specs.Steps.OnlyRow.{IsOnlyMet}
use Rattle.leg_legal_sites.proofs.MetSites.{coordinate_passed}
use Rattle.leg_legal_sites.proofs.OnlyRow.{only_taken}
use Rattle.leg_legal_sites.proofs.only_row.take_from_rows.Goals as goal

pub returns-then-not-is_bounded_otherwise : goal.returns-then-not-is_bounded_otherwise
returns-then-not-is_bounded_otherwise g c =
    let design = c.args.design.now in
    let order = c.args.order.now in
    let lists = c.take_at.new.lists in
    let height = c.in-Some.height in
    let only : IsOnlyMet c.args.rect.now order height c.in-Some-only_met.place =
    rw (coordinate_passed height c.in-Some.ensures.within) at c.in-Some-only_met.ensures in
    record {
      shared = c.in_ok-is_bounded_otherwise.ensures.shared;
      rows = c.in_ok-is_bounded_otherwise.ensures.rows;
      taken = only_taken design c.args.rect.now order height c.in-Some-only_met.place (row_lists order c.args.lists.now)
          (row_lists order lists) c.requires.rows.order c.in-Some.ensures only c.in_ok-is_bounded_otherwise.ensures.taken;
      none = c.in_ok-is_bounded_otherwise.ensures.before c.args.highest c.requires.none;
    }

pub returns : goal.returns
returns g c =
    let design = c.args.design.now in
    let order = c.args.order.now in
    let lists = c.take_at.new.lists in
    let height = c.in-Some.height in
    let only : IsOnlyMet c.args.rect.now order height c.in-Some-only_met.place =
    rw (coordinate_passed height c.in-Some.ensures.within) at c.in-Some-only_met.ensures in
    record {
      shared = c.in_ok-is_bounded_otherwise.ensures.shared;
      rows = c.join_above.ensures design (row_lists order lists) c.in_ok-is_bounded_otherwise.ensures.rows;
      taken = only_taken design c.args.rect.now order height c.in-Some-only_met.place (row_lists order c.args.lists.now)
          (row_lists order lists) c.requires.rows.order c.in-Some.ensures only c.in_ok-is_bounded_otherwise.ensures.taken;
      none = c.in_ok-is_bounded_otherwise.ensures.before c.args.highest c.requires.none;
    }

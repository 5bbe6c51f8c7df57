-- The leaf has the row's best position.
use Rattle.std.proofs.Common.{◌≡◌, ◌+◌, ◌<◌, [], None, Some, length, get_or, slice_get, refl, sym, ap, ◌∙◌, arith}
use Rattle.std.specs.Prelude.{unwrap_or}
use Rattle.std.proofs.lemmas.Option.{slice_get-get_or, slice_get_read}
use Rattle.leg_design_records.specs.declared.records.Row.{Row}
use Rattle.leg_legal_sites.specs.declared.row_keys.RowKey.{RowKey}
use Rattle.leg_legal_sites.specs.Steps.FreeListSharing.{row_lists}
use Rattle.leg_legal_sites.proofs.TakenRows.{nowhere, key_within}
use Rattle.leg_legal_sites.proofs.SharedLists.{node_read}
use Rattle.leg_legal_sites.proofs.RowCandidates.{begin_within}
use Rattle.leg_legal_sites.proofs.Branches.{leaf_list}
use Rattle.leg_legal_sites.proofs.BestBeneath.{best_at_leaf}
use Rattle.leg_legal_sites.proofs.row_search.best_at_leaf.Goals as goal

pub bounds-rows-number : goal.bounds-rows-number
bounds-rows-number g c = rw c.rows.ensures.is (key_within c.args.design.now.rows c.args.order.now c.args.place c.requires.order c.requires.there)

pub offset_bounds-rows-number : goal.offset_bounds-rows-number
offset_bounds-rows-number g c =
    let below : (get_or c.args.order.now c.args.place nowhere).row < length c.rows.result.now =
    rw c.rows.ensures.is (key_within c.args.design.now.rows c.args.order.now c.args.place c.requires.order c.requires.there) in
    omega (arith, below)

pub best_of_row-found-requires-clause-within : goal.best_of_row-found-requires-clause-within
best_of_row-found-requires-clause-within g c same =
    let design = c.args.design.now in
    let order = c.args.order.now in
    let lists = c.args.lists.now in
    let place = c.args.place in
    let key : RowKey = get_or order place nowhere in
    let there : slice_get order place ≡ Some key = slice_get-get_or order place nowhere c.requires.there in
    let row : Row = c.index-rows-number.result in
    let below = key_within design.rows order place c.requires.order c.requires.there in
    let at : slice_get design.rows key.row ≡ Some row =
    rw (← c.rows.ensures.is) (slice_get_read c.rows.result.now _ key.row row refl (rw c.rows.ensures.is below) c.index-rows-number.is) in
    let known = leaf_list design order lists c.requires.order c.requires.ready.lists place key there ∙ ap (λ o. Some (unwrap_or o [])) (sym c.requires.owner) in
    let begin =
    begin_within design.rows (row_lists order lists) c.args.wanted.now key.row row
    (unwrap_or (get_or lists c.args.owner None) []) at known c.requires.ready same in
    let read : get_or lists c.args.owner None ≡ c.index-lists-owner.result =
    node_read lists c.args.owner c.requires.within c.index-lists-owner.result c.index-lists-owner.is in
    rw read at begin

pub returns : goal.returns
returns g c =
    let design = c.args.design.now in
    let order = c.args.order.now in
    let lists = c.args.lists.now in
    let place = c.args.place in
    let key : RowKey = get_or order place nowhere in
    let there : slice_get order place ≡ Some key = slice_get-get_or order place nowhere c.requires.there in
    let row : Row = c.index-rows-number.result in
    let below = key_within design.rows order place c.requires.order c.requires.there in
    let at : slice_get design.rows key.row ≡ Some row =
    rw (← c.rows.ensures.is) (slice_get_read c.rows.result.now _ key.row row refl (rw c.rows.ensures.is below) c.index-rows-number.is) in
    let known = leaf_list design order lists c.requires.order c.requires.ready.lists place key there ∙ ap (λ o. Some (unwrap_or o [])) (sym c.requires.owner) in
    let read : get_or lists c.args.owner None ≡ c.index-lists-owner.result =
    node_read lists c.args.owner c.requires.within c.index-lists-owner.result c.index-lists-owner.is in
    best_at_leaf design c.rows.ensures.proper.rows (row_lists order lists) order c.args.wanted.now c.requires.ready c.requires.sized
    (length order + place) place key c.args.best c.best_of_row-found.result c.better.result (omega arith) refl there
    (c.best_of_row-found.ensures design.rows (row_lists order lists) at (known ∙ ap (λ o. Some (unwrap_or o [])) read)) c.better.ensures

use Rattle.std.proofs.Common.{◌≡◌, ◌<◌, Bool, List, [], Some, slice_get, get_or, length, arith}
use Rattle.std.proofs.lemmas.Option.{slice_get-get_or}
use Rattle.leg_route_grid.proofs.GridSlots.{column_within, row_within, upright_by_mark, level_by_mark}
use Rattle.leg_route_grid.proofs.grid.Grid.has_node.Goals as goal

pub has_mark-requires-clause-there : goal.has_mark-requires-clause-there
has_mark-requires-clause-there g c = let count = c.layer_at.ensures.proper.tracks_are.count in omega (arith, count, c.requires.layer)

pub has_mark-requires-clause-within : goal.has_mark-requires-clause-within
has_mark-requires-clause-within g c marks at_k =
    column_within c.args.self.now c.layer_at.ensures.proper c.args.slot.layer c.args.slot.column c.layer_at.result marks c.layer_at.ensures.is at_k
    c.in-Vertical.is c.requires.column

pub has_mark-requires-in-Horizontal-clause-there : goal.has_mark-requires-in-Horizontal-clause-there
has_mark-requires-in-Horizontal-clause-there g c = let count = c.layer_at.ensures.proper.tracks_are.count in omega (arith, count, c.requires.layer)

pub has_mark-requires-in-Horizontal-clause-within : goal.has_mark-requires-in-Horizontal-clause-within
has_mark-requires-in-Horizontal-clause-within g c marks at_k =
    row_within c.args.self.now c.layer_at.ensures.proper c.args.slot.layer c.args.slot.row c.layer_at.result marks c.layer_at.ensures.is at_k
    c.in-Horizontal.is c.requires.row

pub returns-in-Vertical : goal.returns-in-Vertical
returns-in-Vertical g c node lies =
    let within : c.args.slot.layer < length c.args.self.now.tracks = let count = c.layer_at.ensures.proper.tracks_are.count in
    omega (arith, count, c.requires.layer) in
    let marks : List Bool = get_or c.args.self.now.tracks c.args.slot.layer [] in
    let at_k : slice_get c.args.self.now.tracks c.args.slot.layer ≡ Some marks = slice_get-get_or c.args.self.now.tracks c.args.slot.layer [] within in
    upright_by_mark c.args.self.now c.layer_at.ensures.proper c.args.slot.layer c.args.slot.row c.args.slot.column c.layer_at.result marks
    c.has_mark.result node
    c.layer_at.ensures.is at_k lies c.in-Vertical.is (c.has_mark.ensures marks at_k)

pub returns-in-Horizontal : goal.returns-in-Horizontal
returns-in-Horizontal g c node lies =
    let within : c.args.slot.layer < length c.args.self.now.tracks = let count = c.layer_at.ensures.proper.tracks_are.count in
    omega (arith, count, c.requires.layer) in
    let marks : List Bool = get_or c.args.self.now.tracks c.args.slot.layer [] in
    let at_k : slice_get c.args.self.now.tracks c.args.slot.layer ≡ Some marks = slice_get-get_or c.args.self.now.tracks c.args.slot.layer [] within in
    level_by_mark c.args.self.now c.layer_at.ensures.proper c.args.slot.layer c.args.slot.row c.args.slot.column c.layer_at.result marks
    c.has_mark-in-Horizontal.result node
    c.layer_at.ensures.is at_k lies c.in-Horizontal.is (c.has_mark-in-Horizontal.ensures marks at_k)

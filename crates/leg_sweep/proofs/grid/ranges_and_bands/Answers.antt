use Rattle.std.proofs.lemmas.List.{get_or_default}
use Rattle.leg_sweep.specs.Steps.Grid.{no_span}
use Rattle.leg_sweep.proofs.GridPlaces.{all_begin, few_entries}
use Rattle.leg_sweep.proofs.GridRanges.{bands_by_layer, bands_are_ranges}
use Rattle.leg_sweep.proofs.grid.ranges_and_bands.Goals as goal

pub layer_bands-requires-clause-small : goal.layer_bands-requires-clause-small
layer_bands-requires-clause-small g c =
    let spans = c.in_ok-spans.spans.items in
    let are_spans = c.in_ok-spans.ensures in
    rw c.deref.ensures.value (λ layer d within. rw (get_or_default spans layer d no_span within) (are_spans.each layer (rw are_spans.many at within)).small)

pub item_ranges-requires-clause-begin : goal.item_ranges-requires-clause-begin
item_ranges-requires-clause-begin g c =
    let fixed = g.R.PairRule.fixed c.args.rule.now in
    let layered = g.R.LayeredRule in
    let are_spans = c.in_ok-spans.ensures in
    let is_grid = rw (c.deref.ensures.value, are_spans.many) at c.in_ok-grid.ensures in
    rw c.deref-2.ensures.value
    (all_begin (g.R.PairRule.rect_of fixed) (layered.layer_of fixed) (layered.layer_reach_of fixed)
    (layered.layers_of fixed) c.args.items.now c.in_ok-spans.spans.items c.in_ok-grid.grid.items
    are_spans is_grid c.requires.few)

pub returns-clause-ranges : goal.returns-clause-ranges
returns-clause-ranges g c =
    let fixed = g.R.PairRule.fixed c.args.rule.now in
    let layered = g.R.LayeredRule in
    let are_spans = c.in_ok-spans.ensures in
    let is_grid = rw (c.deref.ensures.value, are_spans.many) at c.in_ok-grid.ensures in
    let are_ranges = rw c.deref-2.ensures.value at c.in_ok-ranges.ensures in
    let are_bands = rw (c.deref-3.ensures.value, is_grid.many) at c.in_ok-bands.ensures in
    bands_are_ranges (g.R.PairRule.rect_of fixed) (layered.layer_of fixed) (layered.layer_reach_of fixed)
    (layered.layers_of fixed) c.args.items.now c.in_ok-spans.spans.items c.in_ok-grid.grid.items
    are_spans is_grid c.requires.few c.in_ok-ranges.ranges.items are_ranges c.in_ok-bands.bands.items are_bands
    (g.R.PairRule.Holds fixed) (g.met.R.LayeredRule.layered fixed) (g.met.R.LayeredRule.near_on_layer fixed)

pub returns-clause-entries : goal.returns-clause-entries
returns-clause-entries g c =
    let fixed = g.R.PairRule.fixed c.args.rule.now in
    let layered = g.R.LayeredRule in
    let are_spans = c.in_ok-spans.ensures in
    let is_grid = rw (c.deref.ensures.value, are_spans.many) at c.in_ok-grid.ensures in
    let are_ranges = rw c.deref-2.ensures.value at c.in_ok-ranges.ensures in
    few_entries (g.R.PairRule.rect_of fixed) (layered.layer_of fixed) (layered.layer_reach_of fixed)
    (layered.layers_of fixed) c.args.items.now c.in_ok-spans.spans.items c.in_ok-grid.grid.items
    are_spans is_grid c.requires.few c.in_ok-ranges.ranges.items are_ranges

pub returns-clause-layers : goal.returns-clause-layers
returns-clause-layers g c =
    let fixed = g.R.PairRule.fixed c.args.rule.now in
    let layered = g.R.LayeredRule in
    let are_spans = c.in_ok-spans.ensures in
    let is_grid = rw (c.deref.ensures.value, are_spans.many) at c.in_ok-grid.ensures in
    let are_ranges = rw c.deref-2.ensures.value at c.in_ok-ranges.ensures in
    let are_bands = rw (c.deref-3.ensures.value, is_grid.many) at c.in_ok-bands.ensures in
    bands_by_layer (g.R.PairRule.rect_of fixed) (layered.layer_of fixed) (layered.layer_reach_of fixed)
    (layered.layers_of fixed) c.args.items.now c.in_ok-spans.spans.items c.in_ok-grid.grid.items
    are_spans is_grid c.requires.few c.in_ok-ranges.ranges.items are_ranges c.in_ok-bands.bands.items are_bands

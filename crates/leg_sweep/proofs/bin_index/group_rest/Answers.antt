use Rattle.std.proofs.Common.{◌≡◌, ℕ, ◌++◌, ◌∷◌, [], take, length, rules}
use Rattle.leg_sweep.specs.declared.bin_index.Cut.{Cut}
use Rattle.leg_sweep.proofs.IndexCuts.{index_grouped}
use Rattle.leg_sweep.proofs.bin_index.group_rest.Goals as goal

pub returns : goal.returns
returns g c =
    let rects = c.args.rects.now in
    let nodes = c.args.nodes.now.items in
    let cuts = c.args.cuts.now.items in
    let kept : ℕ = c.kept_cuts-kept.result in
    let cut : Cut = c.index-cut.result.now in
    let fresh = c.in_ok-grouped.grouped.items in
    let new_nodes : c.append.new.self.items ≡ take cut.nodes nodes ++ fresh = search rules in
    let count : c.len-2.result ≡ length c.append.new.self.items = search rules in
    let new_cuts : c.push_reserved.new.self.items ≡ take kept cuts ++ (record { rects = length rects; nodes = c.len-2.result }) ∷ [] = search rules in
    let some = c.kept_cuts-kept.ensures.some in
    let within = rw c.deref.ensures.value at c.kept_cuts-kept.ensures.few in
    rw (new_cuts, count, new_nodes)
    (index_grouped rects nodes cuts kept cut fresh c.requires some within c.index-cut.ensures c.in_ok-grouped.ensures)

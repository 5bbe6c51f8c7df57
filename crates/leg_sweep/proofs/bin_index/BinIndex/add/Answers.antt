use Rattle.std.proofs.Common.{◌≡◌, ◌<◌, ◌-◌, ◌^◌, ◌++◌, ◌∷◌, [], length, rules}
use Rattle.leg_sweep.specs.declared.node.Content.TheVariants.{Rect}
use Rattle.leg_sweep.proofs.IndexCuts.{index_grown}
use Rattle.leg_sweep.proofs.bin_index.BinIndex.add.Goals as goal

pub invariant_of-self-2 : goal.invariant_of-self-2
invariant_of-self-2 g c =
    let rects = c.self.inside.rects.items in
    let nodes = c.self.inside.nodes.items in
    let cuts = c.self.inside.cuts.items in
    let count : c.len-number.result ≡ length rects = search rules in
    let new_rects : c.push_reserved.new.self.items ≡ rects ++ c.args.rect ∷ [] = search rules in
    let new_nodes : c.push_reserved-2.new.self.items ≡ nodes ++ (record { bounds = c.around-bounds.result; content = Rect c.len-number.result }) ∷ [] =
    search rules in
    let room : length rects < 2 ^ 32 - 1 = rw (c.self.view_is, c.group_if_loose.ensures) c.requires in
    rw (new_rects, new_nodes, count) (index_grown rects nodes cuts c.args.rect c.around-bounds.result c.self.invariant room c.around-bounds.ensures.is
    c.around-bounds.ensures.proper)

-- One more rectangle.
use Rattle.std.proofs.Common.{◌≡◌, ℕ, ◌<◌, ◌++◌, ◌∷◌, [], length, take, get_or, refl, arith, rules}
use Rattle.std.proofs.lemmas.List.{map-append, take_more}
use Rattle.std.proofs.lemmas.Option.{slice_get_read}
use Rattle.leg_sweep.specs.declared.node.Content.TheVariants.{Rect}
use Rattle.leg_sweep.specs.declared.node.Node.{Node}
use Rattle.leg_sweep.specs.Steps.Nodes.{HasBoundsOf}
use Rattle.leg_sweep.proofs.NodeGroups.{grouped_one, grouped_both}
use Rattle.leg_sweep.proofs.groups.push_rects.Goals as goal

pub loop-key-preserved : goal.loop-key-preserved
loop-key-preserved g c =
    let rects = c.args.rects.now in
    let keys = c.args.keys.now in
    let i : ℕ = c.loop-key.key-index in
    let key : ℕ × ℕ = get_or keys i (0, 0) in
    let within : i < length keys = omega (arith, c.loop-key-test.true) in
    let below : key.1 < length rects = c.requires i (0, 0) within in
    let bounds = c.around.result in
    let has : HasBoundsOf rects key.1 bounds = record {
      rect = c.index-rects-key.result;
      there = slice_get_read rects (length rects) key.1 _ refl below c.index-rects-key.is;
      proper = c.around.ensures.proper;
      are = c.around.ensures.is;
    } in
    let before = c.loop-key.nodes.items in
    let node : Node = record { bounds = bounds; content = Rect key.1 } in
    let pushed : c.push.new.self.items ≡ before ++ node ∷ [] = search rules in
    rw (pushed, take_more keys i (0, 0) within, map-append (λ (k : ℕ × ℕ). k.1) (take i keys) (key ∷ []))
    (grouped_both rects c.loop-key.bounds bounds c.joined-bounds.result _ (key.1 ∷ []) c.args.nodes.now.items before (before ++ node ∷ [])
    c.loop-key.invariant (grouped_one rects bounds key.1 before has) c.joined-bounds.ensures.first c.joined-bounds.ensures.second)

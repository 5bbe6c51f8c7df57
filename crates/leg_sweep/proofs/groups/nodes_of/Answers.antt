use Rattle.std.proofs.Common.{ℕ, ◌<◌, length}
use Rattle.std.proofs.lemmas.List.Sorted.{All-permutation}
use Rattle.leg_sweep.proofs.NodeGroups.{nodes_are}
use Rattle.leg_sweep.proofs.groups.nodes_of.Goals as goal

pub push_group-requires : goal.push_group-requires
push_group-requires g c =
    rw (c.deref.ensures.value)
    (All-permutation (λ (key : ℕ × ℕ). key.1 < length c.args.rects.now) c.args.keys.items c.sort_unstable.new.self.items c.sort_unstable.ensures.permutation
    c.requires)

pub returns : goal.returns
returns g c =
    let grouped = rw (c.deref.ensures.value, c.in_ok-nodes.ensures.items) at c.in_ok-push_group.ensures in
    nodes_are c.args.rects.now c.args.keys.items c.sort_unstable.new.self.items c.in_ok-push_group.field-0 c.push_group.new.nodes.items
    c.sort_unstable.ensures.permutation grouped

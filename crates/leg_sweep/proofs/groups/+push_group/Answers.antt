use Rattle.std.proofs.Common.{◌≡◌, ℕ, ◌<◌, ◌≤◌, List, [], ◌∷◌, ◌++◌, length, drop, map, ap, length-append, arith, rules}
use Rattle.std.proofs.lemmas.List.{take_at, map-append}
use Rattle.leg_geom.specs.Plane.{RectModel}
use Rattle.leg_sweep.specs.declared.node.Node.{Node}
use Rattle.leg_sweep.specs.declared.bounds.Bounds.{Bounds}
use Rattle.leg_sweep.specs.Steps.Nodes.{AreGrouped}
use Rattle.leg_sweep.proofs.NodeGroups.{grouped_both, grouped_closed, members_within}
use Rattle.leg_sweep.proofs.groups.+push_group.Goals as goal

longer : (rects : List RectModel) (numbers : List ℕ) (bounds : Bounds) (before after : List Node) → AreGrouped rects numbers bounds before after
    → length before ≤ length after
longer rects numbers bounds before after group = let is = group.are in omega (arith, ap length is, length-append before group.nodes)

in_front : (before after : List Node) (node : Node) → length (before ++ node ∷ []) ≤ length after → length before < length after
in_front before after node more = omega (arith, length-append before (node ∷ []))

through : (a b n : ℕ) → a ≤ b → b ≤ n → a ≤ n
through a b n first second = omega arith

pub returns-then-keys-le-LEAST_GROUP : goal.returns-then-keys-le-LEAST_GROUP
returns-then-keys-le-LEAST_GROUP g t c =
    let rects = c.args.rects.now in
    let before = c.args.nodes.now.items in
    let between = c.push_rects.new.nodes.items in
    let after = c.close_group.new.nodes in
    let numbers = map (λ (k : ℕ × ℕ). k.1) c.args.keys.now in
    let pushed : c.push.new.self.items ≡ before ++ c.empty_group.result ∷ [] = search rules in
    let count : length after ≡ c.push_rects.new.nodes.len = omega arith in
    let whole = take_at after (drop (length after) between) c.push_rects.new.nodes.len count in
    let members : AreGrouped rects numbers c.in_ok-bounds.bounds (before ++ c.empty_group.result ∷ []) between = rw pushed at c.in_ok-bounds.ensures in
    let at : c.len-at.result ≡ length before = search rules in
    let closed = rw (c.deref_mut.ensures.value, at) at c.close_group.ensures in
    rw whole (grouped_closed rects numbers c.in_ok-bounds.bounds before c.empty_group.result between after members closed)

pub close_group-requires-2-clause-within : goal.close_group-requires-2-clause-within
close_group-requires-2-clause-within g t c =
    let rects = c.args.rects.now in
    let before = c.args.nodes.now.items in
    let first = c.push_group.new.nodes.items in
    let second = c.push_group-2.new.nodes.items in
    let bounds = c.joined-bounds.result in
    let pushed : c.push.new.self.items ≡ before ++ c.empty_group.result ∷ [] = search rules in
    let at : c.len-at.result ≡ length before = search rules in
    let opened = before ++ c.empty_group.result ∷ [] in
    let front : AreGrouped rects (map (λ (k : ℕ × ℕ). k.1) c.split_at.result.0.now) c.in_ok-first.first opened first = rw pushed at c.in_ok-first.ensures in
    let both =
    grouped_both rects c.in_ok-first.first c.in_ok-second.second bounds _ _ opened first second front c.in_ok-second.ensures c.joined-bounds.ensures.first
    c.joined-bounds.ensures.second in
    rw (c.deref_mut-2.ensures.value, at) (members_within rects _ bounds before c.empty_group.result second both)

pub returns : goal.returns
returns g t c =
    let rects = c.args.rects.now in
    let keys = c.args.keys.now in
    let before = c.args.nodes.now.items in
    let first = c.push_group.new.nodes.items in
    let second = c.push_group-2.new.nodes.items in
    let after = c.close_group-2.new.nodes in
    let bounds = c.joined-bounds.result in
    let pushed : c.push.new.self.items ≡ before ++ c.empty_group.result ∷ [] = search rules in
    let at : c.len-at.result ≡ length before = search rules in
    let opened = before ++ c.empty_group.result ∷ [] in
    let front : AreGrouped rects (map (λ (k : ℕ × ℕ). k.1) c.split_at.result.0.now) c.in_ok-first.first opened first = rw pushed at c.in_ok-first.ensures in
    let both =
    grouped_both rects c.in_ok-first.first c.in_ok-second.second bounds _ _ opened first second front c.in_ok-second.ensures c.joined-bounds.ensures.first
    c.joined-bounds.ensures.second in
    let whole_keys : keys ≡ c.split_at.result.0.now ++ c.split_at.result.1.now = c.split_at.ensures.by_index.0 in
    let numbers : AreGrouped rects (map (λ (k : ℕ × ℕ). k.1) keys) bounds opened second =
    rw (whole_keys, map-append (λ (k : ℕ × ℕ). k.1) c.split_at.result.0.now c.split_at.result.1.now) both in
    let count : length after ≡ c.push_group-2.new.nodes.len = omega arith in
    let whole = take_at after (drop (length after) second) c.push_group-2.new.nodes.len count in
    let closed = rw (c.deref_mut-2.ensures.value, at) at c.close_group-2.ensures in
    rw whole (grouped_closed rects _ bounds before c.empty_group.result second after numbers closed)

pub close_group-requires-clause-there : goal.close_group-requires-clause-there
close_group-requires-clause-there g t c =
    let rects = c.args.rects.now in
    let before = c.args.nodes.now.items in
    let between = c.push_rects.new.nodes.items in
    let numbers = map (λ (k : ℕ × ℕ). k.1) c.args.keys.now in
    let bounds = c.in_ok-bounds.bounds in
    let pushed : c.push.new.self.items ≡ before ++ c.empty_group.result ∷ [] = search rules in
    let at : c.len-at.result ≡ length before = search rules in
    let opened = before ++ c.empty_group.result ∷ [] in
    let members : AreGrouped rects numbers bounds opened between = rw pushed at c.in_ok-bounds.ensures in
    rw (c.deref_mut.ensures.value, at) (in_front before between c.empty_group.result (longer rects numbers bounds opened between members))

pub close_group-requires-clause-within : goal.close_group-requires-clause-within
close_group-requires-clause-within g t c =
    let rects = c.args.rects.now in
    let before = c.args.nodes.now.items in
    let between = c.push_rects.new.nodes.items in
    let numbers = map (λ (k : ℕ × ℕ). k.1) c.args.keys.now in
    let bounds = c.in_ok-bounds.bounds in
    let pushed : c.push.new.self.items ≡ before ++ c.empty_group.result ∷ [] = search rules in
    let at : c.len-at.result ≡ length before = search rules in
    let opened = before ++ c.empty_group.result ∷ [] in
    let members : AreGrouped rects numbers bounds opened between = rw pushed at c.in_ok-bounds.ensures in
    rw (c.deref_mut.ensures.value, at) (members_within rects numbers bounds before c.empty_group.result between members)

pub close_group-requires-2-clause-there : goal.close_group-requires-2-clause-there
close_group-requires-2-clause-there g t c =
    let rects = c.args.rects.now in
    let before = c.args.nodes.now.items in
    let first = c.push_group.new.nodes.items in
    let second = c.push_group-2.new.nodes.items in
    let pushed : c.push.new.self.items ≡ before ++ c.empty_group.result ∷ [] = search rules in
    let at : c.len-at.result ≡ length before = search rules in
    let opened = before ++ c.empty_group.result ∷ [] in
    let front : AreGrouped rects (map (λ (k : ℕ × ℕ). k.1) c.split_at.result.0.now) c.in_ok-first.first opened first = rw pushed at c.in_ok-first.ensures in
    let grown =
    through (length opened) (length first) (length second) (longer rects _ _ opened first front) (longer rects _ _ first second c.in_ok-second.ensures) in
    rw (c.deref_mut-2.ensures.value, at) (in_front before second c.empty_group.result grown)

use Rattle.std.proofs.Common.{IsTrue, refl}
use Rattle.leg_wire.specs.PieceMarks.{AreFirsts}
use Rattle.leg_rules.specs.Joins.Touch.{piece_count, AreJoined}
use Rattle.leg_finish.proofs.OpenNets.{open_by_firsts, firsts_by_open, open_skip, open_more}
use Rattle.leg_finish.proofs.groups.push_if_open.Goals as goal

pub returns-then-not-is_open : goal.returns-then-not-is_open
returns-then-not-is_open g c = λ design entry are.
    let both = c.joined_both_ways.ensures in
    let flat = c.args.flat.now in
    let firsts = c.in_ok-firsts.firsts.items in
    let firsts_are : AreFirsts (AreJoined flat c.args.net) (piece_count flat c.args.net) firsts = c.in_ok-firsts.ensures in
    open_skip c.args.net design flat c.args.found.now.items are
    (λ is_open.
    let any = firsts_by_open both design flat c.args.net firsts firsts_are is_open in
    let yes : IsTrue c.is_open.result = c.is_open.ensures.1 (rw c.deref.ensures.value any) in
    absurd (let e : ⊥ = cc in e))

pub returns : goal.returns
returns g c = λ design entry are.
    let both = c.joined_both_ways.ensures in
    let flat = c.args.flat.now in
    let firsts = c.in_ok-firsts.firsts.items in
    let firsts_are : AreFirsts (AreJoined flat c.args.net) (piece_count flat c.args.net) firsts = c.in_ok-firsts.ensures in
    let yes : IsTrue c.is_open.result = cc in
    let any = rw c.deref.ensures.value at (c.is_open.ensures.0 yes) in
    rw c.in_ok-push.ensures.items
    (open_more c.args.net design flat c.args.found.now.items are _ refl
    (record {
      is_open = open_by_firsts both design flat c.args.net firsts firsts_are entry any;
      shapes = c.requires.shapes;
      firsts = rw c.from_vec.ensures firsts_are;
    }))

-- One new shape more.
use Rattle.std.proofs.Common.{◌≡◌, ◌∙◌, [], get_or, length, refl, arith}
use Rattle.leg_wire.proofs.MergedLists.{HasGrown-same, HasGrown-onward}
use Rattle.leg_wire.proofs.NewPairs.{new_none, new_more}
use Rattle.leg_wire.proofs.net_joins.join_new.Goals as goal

pub loop-number-init : goal.loop-number-init
loop-number-init g c =
    let is = c.len-number.ensures.is in
    let few = c.requires.few in
    record {
      begun = omega (arith, is);
      within = omega (arith, is, few);
      taken = rw is (new_none c.args.metal.now (length c.args.index.now) (length c.args.index.now) c.args.groups.now.sets c.new-corners.result);
      count = refl;
      listed = c.requires.listed;
      grown = HasGrown-same (get_or c.args.groups.now.members.items 0 []);
    }

pub join_near-requires-clause-places : goal.join_near-requires-clause-places
join_near-requires-clause-places g c = rw c.loop-number.invariant.count c.requires.places

pub returns-in_err-join_near-clause-count : goal.returns-in_err-join_near-clause-count
returns-in_err-join_near-clause-count g c = c.in_err-join_near.ensures.count ∙ c.loop-number.invariant.count

pub loop-number-preserved : goal.loop-number-preserved
loop-number-preserved g c =
    let begun = c.loop-number.invariant.begun in
    let below = c.loop-number-test.true in
    record {
      begun = omega (arith, begun);
      within = omega (arith, below);
      taken =
          new_more c.args.metal.now (length c.args.index.now)
          (length c.args.index.now) c.loop-number.number c.args.groups.now.sets c.loop-number.groups.sets c.join_near.new.groups.sets c.new-corners.result
          c.loop-number.corners c.join_near.new.corners c.loop-number.invariant.taken c.in_ok-join_near.ensures.takes;
      count = c.in_ok-join_near.ensures.count ∙ c.loop-number.invariant.count;
      listed = c.in_ok-join_near.ensures.listed;
      grown =
          HasGrown-onward (get_or c.args.groups.now.members.items 0 []) (get_or c.loop-number.groups.members.items 0 [])
          (get_or c.join_near.new.groups.members.items 0 []) c.loop-number.invariant.grown
          c.in_ok-join_near.ensures.grown;
    }

pub returns-clause-joins : goal.returns-clause-joins
returns-clause-joins g c =
    let within = c.loop-number.invariant.within in
    let over = c.loop-number-test.false in
    let all : c.loop-number.number ≡ length c.args.metal.now = omega (arith, within, over) in
    record {
      seen = c.new-corners.result;
      seen_after = c.loop-number.corners;
      unseen = c.new-corners.ensures;
      takes = rw (← all) c.loop-number.invariant.taken;
    }

pub returns-clause-count : goal.returns-clause-count
returns-clause-count g c = c.loop-number.invariant.count

pub join_near-requires-clause-listed : goal.join_near-requires-clause-listed
join_near-requires-clause-listed g c = c.loop-number.invariant.listed

pub returns-clause-listed : goal.returns-clause-listed
returns-clause-listed g c = c.loop-number.invariant.listed

pub returns-clause-grown : goal.returns-clause-grown
returns-clause-grown g c = c.loop-number.invariant.grown

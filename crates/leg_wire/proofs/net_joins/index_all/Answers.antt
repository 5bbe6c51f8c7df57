-- One rectangle more is that of the next shape.
use Rattle.std.proofs.Common.{◌≡◌, ◌++◌, ◌∷◌, [], ◌∙◌, length, ap, sym, arith}
use Rattle.std.proofs.lemmas.List.{length_push}
use Rattle.leg_wire.proofs.NewPairs.{rects_more}
use Rattle.leg_wire.proofs.net_joins.index_all.Goals as goal

pub loop-number-init : goal.loop-number-init
loop-number-init g c =
    let is = c.len-number.ensures.is in
    let within = c.requires.within in
    record { count = sym is; within = omega (arith, is, within); first = rw is c.requires.first }

pub add-requires : goal.add-requires
add-requires g c =
    let count = c.loop-number.invariant.count in
    let within = c.loop-number.invariant.within in
    let few = c.requires.few in
    omega (arith, count, within, few)

pub loop-number-preserved : goal.loop-number-preserved
loop-number-preserved g c =
    let metal = c.args.metal.now in
    let n = c.loop-number.number in
    let shape = c.index-metal-number.result in
    let below = c.loop-number-test.true in
    let added : c.add.new.self ≡ c.loop-number.index ++ shape.rect ∷ [] = rw c.index-metal-number.is c.in_ok-add.ensures.added in
    let more = length_push c.loop-number.index shape.rect in
    let count = c.loop-number.invariant.count in
    record {
      count = ap length added ∙ (omega (arith, more, count));
      within = omega (arith, below);
      first = added ∙ ap (λ rects. rects ++ shape.rect ∷ []) c.loop-number.invariant.first ∙ rects_more metal n shape below c.index-metal-number.is;
    }

pub returns : goal.returns
returns g c =
    let within = c.loop-number.invariant.within in
    let over = c.loop-number-test.false in
    let all : c.loop-number.number ≡ length c.args.metal.now = omega (arith, within, over) in
    rw (← all) c.loop-number.invariant.first

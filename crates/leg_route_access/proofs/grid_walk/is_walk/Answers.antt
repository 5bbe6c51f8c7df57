use Rattle.std.proofs.Common.{◌≡◌, ◌-◌, ◌<◌, ◌≤◌, length, get_or, true≢false, refl, sym, arith}
use Rattle.std.proofs.lemmas.Bool.Decides.{nat_tests}
use Rattle.std.proofs.lemmas.Option.{slice_get-get_or}
use Rattle.leg_route_access.proofs.GridWalks.{walk_begun, walk_on, upto_within, upto_within_at, upto_walks, walk_by_numbers, upto_of, step_of, some_of}
use Rattle.leg_route_access.proofs.grid_walk.is_walk.Goals.{then-is_empty-via-then-is_empty, then-is_empty-via-else-is_empty+then-not-has_node_of}
use Rattle.leg_route_access.proofs.grid_walk.is_walk.Goals as goal

pub returns-then-is_empty-clause-is : goal.returns-then-is_empty-clause-is
returns-then-is_empty-clause-is g c = (
  λ is. absurd (true≢false (sym is)),
  λ walk.
      let some : 0 < length c.args.numbers.now = some_of c.args.grid.now c.args.numbers.now walk in
      elim c.then-is_empty.branch [
        | then-is_empty-via-then-is_empty w ↦
            absurd (let none : length c.args.numbers.now ≡ 0 = grind (arith, nat_tests, c.is_empty.ensures, w.if-is_empty.true) in omega (arith, some, none))
        | then-is_empty-via-else-is_empty+then-not-has_node_of w ↦
            w.if-not-has_node_of.ensures.is.1 ((upto_of c.args.grid.now c.args.numbers.now walk).each 0 (get_or c.args.numbers.now 0 0) some
            (slice_get-get_or c.args.numbers.now 0 0 some))
      ],
)

pub loop-k-init : goal.loop-k-init
loop-k-init g c =
    let some : 0 < length c.args.numbers.now = grind (arith, nat_tests, c.is_empty.ensures, c.if-is_empty.false) in
    walk_begun c.args.grid.now c.args.numbers.now (get_or c.args.numbers.now 0 0) (slice_get-get_or c.args.numbers.now 0 0 some)
    (c.if-not-has_node_of.ensures.is.0 refl)

pub are_beside-requires : goal.are_beside-requires
are_beside-requires g c =
    let k = c.loop-k.k in
    let some : 1 ≤ k = c.loop-k.auto.k in
    let below : k < length c.args.numbers.now = c.loop-k-test.true in
    upto_within_at c.args.grid.now c.args.numbers.now k (k - 1) (get_or c.args.numbers.now (k - 1) 0) c.loop-k.invariant (omega (arith, some))
    (slice_get-get_or c.args.numbers.now (k - 1) 0 (omega (arith, some, below)))

pub returns-then-not-are_beside-clause-is : goal.returns-then-not-are_beside-clause-is
returns-then-not-are_beside-clause-is g c =
    let k = c.loop-k.k in
    let some : 1 ≤ k = c.loop-k.auto.k in
    let below : k < length c.args.numbers.now = c.loop-k-test.true in (
      λ is. absurd (true≢false (sym is)),
      λ walk.
          c.if-not-are_beside.ensures.1
          (step_of c.args.grid.now c.args.numbers.now k (get_or c.args.numbers.now (k - 1) 0) (get_or c.args.numbers.now k 0) (omega (arith, some)) below
          (slice_get-get_or c.args.numbers.now (k - 1) 0 (omega (arith, some, below))) (slice_get-get_or c.args.numbers.now k 0 below) walk),
    )

pub loop-k-preserved : goal.loop-k-preserved
loop-k-preserved g c =
    let k = c.loop-k.k in
    let some : 1 ≤ k = c.loop-k.auto.k in
    let below : k < length c.args.numbers.now = c.loop-k-test.true in
    walk_on c.args.grid.now c.args.numbers.now k (get_or c.args.numbers.now (k - 1) 0) (get_or c.args.numbers.now k 0) (omega (arith, some))
    (slice_get-get_or c.args.numbers.now (k - 1) 0 (omega (arith, some, below)))
    (slice_get-get_or c.args.numbers.now k 0 below) (c.if-not-are_beside.ensures.0 refl) c.loop-k.invariant

pub returns-clause-is : goal.returns-clause-is
returns-clause-is g c = (
  λ is.
      let some : 0 < length c.args.numbers.now = grind (arith, nat_tests, c.is_empty.ensures, c.if-is_empty.false) in
      walk_by_numbers c.args.grid.now c.args.numbers.now c.has_node_of.ensures.proper some c.loop-k.k c.loop-k-test.false c.loop-k.invariant,
  λ walk. refl,
)

pub returns-clause-walk : goal.returns-clause-walk
returns-clause-walk g c is =
    let some : 0 < length c.args.numbers.now = grind (arith, nat_tests, c.is_empty.ensures, c.if-is_empty.false) in
    upto_walks c.args.grid.now c.args.numbers.now c.has_node_of.ensures.proper some c.loop-k.k c.loop-k-test.false c.loop-k.invariant

pub returns-clause-within : goal.returns-clause-within
returns-clause-within g c is = upto_within c.args.grid.now c.args.numbers.now c.loop-k.k c.loop-k-test.false c.loop-k.invariant

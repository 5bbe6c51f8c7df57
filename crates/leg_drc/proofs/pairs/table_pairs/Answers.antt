-- The pairs of candidates give all pairs, and there are none where no layer has a reach.
use Rattle.std.proofs.Common.{◌≡◌, length, map}
use Rattle.std.proofs.lemmas.Result.{IfOk-weaker}
use Rattle.leg_sweep.specs.Pairs.{ArePairs}
use Rattle.leg_drc.specs.Table.{AreNearerThanTable}
use Rattle.leg_drc.specs.declared.candidate.Candidate.{Candidate}
use Rattle.leg_drc.specs.declared.candidate.Owners.TheVariants.{Each}
use Rattle.leg_drc.specs.Steps.NearRule.{greatest}
use Rattle.leg_drc.specs.Steps.Candidates.{AreCandidates, numbers_in}
use Rattle.leg_drc.proofs.RulePairs.{first_within, second_within, no_table_pairs, table_pairs_of}
use Rattle.leg_drc.proofs.pairs.table_pairs.Goals as goal

pub returns-then-greatest-eq0 : goal.returns-then-greatest-eq0
returns-then-greatest-eq0 g c =
    let reaches = c.in_ok-reaches.reaches.items in
    let none : greatest reaches ≡ 0 = rw (← c.deref.ensures.value, ← c.greatest.ensures) c.if-greatest-eq0.true in
    rw c.new.ensures.items (no_table_pairs c.args.library.now c.args.deck.now reaches c.args.flat.now.shapes c.in_ok-reaches.ensures none)

pub shape_numbers-requires-clause-first : goal.shape_numbers-requires-clause-first
shape_numbers-requires-clause-first g c =
    let met : ArePairs (λ (a b : Candidate). AreNearerThanTable c.new-rule.result.library.now c.new-rule.result.deck.now a.shape b.shape)
    c.deref-4.result.now c.in_ok-pairs.pairs.items =
    c.in_ok-pairs.ensures.pairs in
    let are : ArePairs (λ (a b : Candidate). AreNearerThanTable c.args.library.now c.args.deck.now a.shape b.shape) c.in_ok-shapes.shapes.items
    c.in_ok-pairs.pairs.items = rw (c.deref-4.ensures.value, c.new-rule.ensures.library, c.new-rule.ensures.deck) at met in
    rw (c.deref-5.ensures.value, c.deref-6.ensures.value) (first_within _ _ _ are)

pub shape_numbers-requires-clause-second : goal.shape_numbers-requires-clause-second
shape_numbers-requires-clause-second g c =
    let met : ArePairs (λ (a b : Candidate). AreNearerThanTable c.new-rule.result.library.now c.new-rule.result.deck.now a.shape b.shape)
    c.deref-4.result.now c.in_ok-pairs.pairs.items =
    c.in_ok-pairs.ensures.pairs in
    let are : ArePairs (λ (a b : Candidate). AreNearerThanTable c.args.library.now c.args.deck.now a.shape b.shape) c.in_ok-shapes.shapes.items
    c.in_ok-pairs.pairs.items = rw (c.deref-4.ensures.value, c.new-rule.ensures.library, c.new-rule.ensures.deck) at met in
    rw (c.deref-5.ensures.value, c.deref-6.ensures.value) (second_within _ _ _ are)

pub returns : goal.returns
returns g c =
    let reaches = c.in_ok-reaches.reaches.items in
    let shapes = c.args.flat.now.shapes in
    let candidates = c.in_ok-shapes.shapes.items in
    let pairs = c.in_ok-pairs.pairs.items in
    let are : AreCandidates Each reaches shapes (length shapes) candidates = rw (c.deref-2.ensures.value, c.shapes.ensures.is) at c.in_ok-shapes.ensures in
    let met : ArePairs (λ (a b : Candidate). AreNearerThanTable c.new-rule.result.library.now c.new-rule.result.deck.now a.shape b.shape)
    c.deref-4.result.now c.in_ok-pairs.pairs.items =
    c.in_ok-pairs.ensures.pairs in
    let of : ArePairs (λ (a b : Candidate). AreNearerThanTable c.args.library.now c.args.deck.now a.shape b.shape) candidates pairs = rw
    (c.deref-4.ensures.value, c.new-rule.ensures.library, c.new-rule.ensures.deck) at met in
    let all : ArePairs (AreNearerThanTable c.args.library.now c.args.deck.now) shapes (map (numbers_in candidates) pairs) =
    table_pairs_of c.args.library.now c.args.deck.now reaches shapes c.in_ok-reaches.ensures candidates are pairs of in
    IfOk-weaker c.shape_numbers.result _ _ (λ numbers is. rw is all) (rw (c.deref-5.ensures.value, c.deref-6.ensures.value) at c.shape_numbers.ensures)

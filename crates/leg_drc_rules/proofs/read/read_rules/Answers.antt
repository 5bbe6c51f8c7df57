use Rattle.std.proofs.Common.{add-one}
use Rattle.std.proofs.lemmas.Result.{err_from_is_err_and}
use Rattle.leg_drc_rules.specs.Deck.{no_deck}
use Rattle.leg_drc_rules.proofs.Readings.{extend_more, rest_more, rest_none, rest_all, refused_there}
use Rattle.leg_drc_rules.proofs.read.read_rules.Goals as goal

pub returns-in_err-add_lef-clause-none : goal.returns-in_err-add_lef-clause-none
returns-in_err-add_lef-clause-none g c =
    let p = err_from_is_err_and c.from_residual-in_err-add_lef.result c.from_residual-in_err-add_lef.ensures.1 in
    rw (p.1, p.2) (λ not_memory said all. rest_none c.args.library.now (λ t. t.now) c.args.lefs.now c.lefs.number _ c.lefs.deck said c.lefs-test.true
    (c.in_err-add_lef.ensures.none not_memory) (c.lefs.invariant.rest said all))

pub returns-in_err-add_lef-clause-texts_are_read : goal.returns-in_err-add_lef-clause-texts_are_read
returns-in_err-add_lef-clause-texts_are_read g c =
    let p = err_from_is_err_and c.from_residual-in_err-add_lef.result c.from_residual-in_err-add_lef.ensures.1 in
    rw (p.1, p.2) (refused_there (λ t. t.now) _ c.args.lefs.now c.lefs.number _ c.lefs-test.true c.in_err-add_lef.ensures.refused)

pub lefs-preserved : goal.lefs-preserved
lefs-preserved g c = record {
  so_far = rw add-one (extend_more c.args.library.now (λ t. t.now) c.args.lefs.now c.lefs.number _ (no_deck c.args.library.now) c.lefs.deck c.add_lef.new.deck
      c.lefs-test.true c.lefs.invariant.so_far c.in_ok-add_lef.ensures.found);
  rest = λ said all. rw add-one (rest_more c.args.library.now (λ t. t.now) c.args.lefs.now c.lefs.number _ c.lefs.deck c.add_lef.new.deck said
      c.lefs-test.true c.in_ok-add_lef.ensures.only (c.lefs.invariant.rest said all));
}

pub returns-clause-only : goal.returns-clause-only
returns-clause-only g c = λ said all.
    rest_all c.args.library.now (λ t. t.now) c.args.lefs.now c.lefs.number c.lefs.deck said c.lefs-test.false (c.lefs.invariant.rest said all)

use Rattle.std.proofs.Common.{add-one}
use Rattle.std.proofs.lemmas.Result.{err_from_is_err_and}
use Rattle.leg_grammar.specs.Lef.Form.{no_lef_parts}
use Rattle.leg_lib.proofs.Readings.{extend_more, rest_more, rest_none}
use Rattle.leg_lib.proofs.read.all_lefs.Goals as goal

pub returns-in_err-add_lef-clause-none : goal.returns-in_err-add_lef-clause-none
returns-in_err-add_lef-clause-none g c =
    let p = err_from_is_err_and c.from_residual.result c.from_residual.ensures.1 in
    rw (p.1, p.2) (λ not_memory said all. rest_none (λ t. t.now) c.args.lefs.now c.lefs.number _ c.lefs.parts said c.lefs-test.true
    (c.in_err-add_lef.ensures.none not_memory) (c.lefs.invariant.rest said all))

pub lefs-preserved : goal.lefs-preserved
lefs-preserved g c = record {
  so_far = rw add-one (extend_more (λ t. t.now) c.args.lefs.now c.lefs.number _ (no_lef_parts c.args.profile) c.lefs.parts c.add_lef.new.parts c.lefs-test.true
      c.lefs.invariant.so_far c.in_ok-add_lef.ensures.found);
  rest = λ said all. rw add-one (rest_more (λ t. t.now) c.args.lefs.now c.lefs.number _ c.lefs.parts c.add_lef.new.parts said c.lefs-test.true
      c.in_ok-add_lef.ensures.only (c.lefs.invariant.rest said all));
}

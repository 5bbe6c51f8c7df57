use Rattle.std.proofs.Common.{◌≤◌, length, refl, sym, arith}
use Rattle.std.proofs.lemmas.List.{length-take-le, take_all}
use Rattle.leg_app_message.proofs.text_line.front.Goals as goal

pub slice_bounds-result-end : goal.slice_bounds-result-end
slice_bounds-result-end c = let long : c.args.most ≤ length c.args.bytes.now = omega (arith, c.if-bytes-most.true) in rw length-take-le refl

pub returns-else-bytes-most : goal.returns-else-bytes-most
returns-else-bytes-most c = sym (take_all c.args.most c.args.bytes.now (omega (arith, c.if-bytes-most.false)))

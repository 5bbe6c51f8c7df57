use Rattle.std.proofs.Common.{take, ◌∙◌, ◌≤◌, length, sym, take-append-drop, arith}
use Rattle.std.proofs.lemmas.List.{length-take-le}
use Rattle.leg_app_input.specs.Stream.{end_library}
use Rattle.leg_app_input.proofs.SplitLemmas.{front_from_occurs, stands_nowhere, stands_no_earlier}
use Rattle.leg_app_input.proofs.stream.split_stream.Goals as goal

pub returns-in_err-at-clause-none : goal.returns-in_err-at-clause-none
returns-in_err-at-clause-none c =
    rw c.from_residual.ensures (λ has. stands_nowhere c.args.stream.now end_library c.in_err-at.ensures has.0 has.1.0 has.1.1)

pub returns-clause-found : goal.returns-clause-found
returns-clause-found c =
    let stream = c.args.stream.now in
    let at = c.in_ok-at.at in
    let first = c.in_ok-at.ensures in
    let long : at ≤ length stream = omega (arith, first.1.fits) in
    record {
      whole = rw (c.split_at.ensures.front, c.split_at.ensures.back) (sym (take-append-drop _ stream));
      text = take at stream;
      ends = c.split_at.ensures.front ∙ front_from_occurs stream end_library at first.1;
      first = λ before stands. rw length-take-le (stands_no_earlier stream end_library at first.0 before stands.0 stands.1);
    }

use Rattle.std.proofs.Common.{◌≡◌, ◌<◌, length, inl, inr, arith}
use Rattle.std.proofs.lemmas.Bool.{cases_eq}
use Rattle.std.proofs.lemmas.Bool.Decides.{nat_tests}
use Rattle.leg_finish.proofs.Judgement.{no_fault, some_fault, none_open, some_open}
use Rattle.leg_finish.proofs.judge.is_finished.Goals as goal

pub returns-then-not-is_empty-clause-is : goal.returns-then-not-is_empty-clause-is
returns-then-not-is_empty-clause-is g c =
    let faults = c.in_ok-faults.faults in
    let some : 0 < length faults.items = grind (arith, nat_tests, c.is_empty.ensures, c.if-not-is_empty.true, faults.ok.0) in (
      λ no. absurd (let e : ⊥ = cc in e),
      λ none. absurd
          (some_fault c.args.design.now.library c.args.flat.now faults.items (rw c.library.ensures.is at c.in_ok-faults.ensures) some none.spacing),
    )

pub returns-clause-is : goal.returns-clause-is
returns-clause-is g c =
    let design = c.args.design.now in
    let flat = c.args.flat.now in
    let faults = c.in_ok-faults.faults in
    let found = c.in_ok-found.found in
    let zero : length faults.items ≡ 0 = grind (arith, nat_tests, c.is_empty.ensures, c.if-not-is_empty.false, faults.ok.0) in (
      λ yes.
          let none : length found.items ≡ 0 = grind (arith, nat_tests, c.is_empty-2.ensures, yes, found.ok.0) in
          record {
            spacing = no_fault design.library flat faults.items (rw c.library.ensures.is at c.in_ok-faults.ensures) zero;
            joined = none_open design flat found.items c.in_ok-found.ensures.are none;
          },
      λ no_fault. elim (cases_eq (length found.items) 0) [
        | inl none ↦ grind (arith, nat_tests, c.is_empty-2.ensures, none, found.ok.0)
        | inr some ↦ absurd (some_open design flat found.items c.in_ok-found.ensures.are (omega (arith, some)) no_fault.joined)
      ],
    )

use Rattle.std.proofs.Common.{◌≡◌, ℕ, List, ◌++◌, length, codes, refl, sym, ap, ◌∙◌, append_assoc}
use Rattle.std.specs.Prelude.{decimal}
use Rattle.std.specs.List.{flat_map}
use Rattle.leg_flat.proofs.OneFlat.{one_flat}
use Rattle.leg_output.specs.Commands.Finish.{unfinished_line}
use Rattle.leg_app.specs.FinishResult.ReportsNotFinished.{not_clean, grid_too_large, unreachable, unfinished, too_many}
use Rattle.leg_app.proofs.finish_answer.not_finished.Goals as goal

in_one_row : (lines word digits end : List ℕ) → lines ++ (word ++ digits ++ end) ≡ lines ++ word ++ digits ++ end
in_one_row lines word digits end = sym (append_assoc lines (word ++ digits) end) ∙ ap (λ l. l ++ end) (sym (append_assoc lines word digits))

pub not_clean_text-requires : goal.not_clean_text-requires
not_clean_text-requires g c = (let why = rw c.in-NotClean.is at c.requires in why.1.few)

pub returns-in_ok-text-in-NotClean-clause-tells : goal.returns-in_ok-text-in-NotClean-clause-tells
returns-in_ok-text-in-NotClean-clause-tells g c =
    let why = rw c.in-NotClean.is at c.requires in
    rw c.unsolved.ensures (not_clean why.1 why.2 ((rw c.as_slice.ensures at c.in_ok-text-in-NotClean.ensures) why.0 why.1.is_flat))

pub returns-in_ok-text-in-GridTooLarge-clause-tells : goal.returns-in_ok-text-in-GridTooLarge-clause-tells
returns-in_ok-text-in-GridTooLarge-clause-tells g c =
    let why = rw c.in-GridTooLarge.is at c.requires in
    rw c.unsolved-in-GridTooLarge.ensures (grid_too_large why.0.1 why.1 c.in_ok-text-in-GridTooLarge.ensures.items)

pub returns-in_ok-text-in-Unreachable-clause-tells : goal.returns-in_ok-text-in-Unreachable-clause-tells
returns-in_ok-text-in-Unreachable-clause-tells g c =
    let why = rw c.in-Unreachable.is at c.requires in
    let flat = c.in_ok-flat-in-Unreachable.flat in
    let same : why.0 ≡ flat = one_flat c.args.design.now why.0 flat why.1.clean.judged.is_flat c.in_ok-flat-in-Unreachable.ensures in
    let told = rw (
      c.as_slice-in-Unreachable.ensures,
      c.as_slice-in-Unreachable-2.ensures,
      c.in_ok-net-in-Unreachable.ensures,
      c.net_name.ensures,
      c.in_ok-piece-in-Unreachable.ensures,
      ← same,
    ) at c.in_ok-text-in-Unreachable.ensures in
    rw c.unsolved-in-Unreachable.ensures (unreachable why.1 why.2 told)

pub returns-in_ok-text-in-Unreachable-clause-explains : goal.returns-in_ok-text-in-Unreachable-clause-explains
returns-in_ok-text-in-Unreachable-clause-explains g c =
    let why = rw c.in-Unreachable.is at c.requires in
    let flat = c.in_ok-flat-in-Unreachable.flat in
    let same : why.0 ≡ flat = one_flat c.args.design.now why.0 flat why.1.clean.judged.is_flat c.in_ok-flat-in-Unreachable.ensures in
    let told = rw (c.as_slice-in-Unreachable.ensures, c.as_slice-in-Unreachable-2.ensures) at c.in_ok-text-in-Unreachable.ensures in
    rw c.unsolved-in-Unreachable.ensures (
      tt,
      told,
      (
        c.args.design.now,
        refl,
        record {
          net = _;
          number = _;
          flat = why.0;
          comes = why.1;
          is_first = why.2;
          named = c.in_ok-net-in-Unreachable.ensures ∙ c.net_name.ensures;
          is = rw (← same) at c.in_ok-piece-in-Unreachable.ensures;
        },
      ),
    )

pub returns-in_ok-text-in-Unfinished-clause-tells : goal.returns-in_ok-text-in-Unfinished-clause-tells
returns-in_ok-text-in-Unfinished-clause-tells g c =
    let why = rw c.in-Unfinished.is at c.requires in
    rw c.unsolved-in-Unfinished.ensures (unfinished why.1 why.2 (rw c.as_slice-in-Unfinished.ensures at c.in_ok-text-in-Unfinished.ensures))

pub returns-in_ok-text-in-Unfinished-clause-explains : goal.returns-in_ok-text-in-Unfinished-clause-explains
returns-in_ok-text-in-Unfinished-clause-explains g c =
    let nets = c.as_slice-in-Unfinished.result.now in
    let lines = flat_map (unfinished_line c.args.design.now) nets in
    rw c.unsolved-in-Unfinished.ensures (
      tt,
      (
        lines,
        length nets,
        c.in_ok-text-in-Unfinished.ensures
            ∙ in_one_row lines (codes "unfinished ") (decimal (length nets)) (codes "\n"),
      ),
      tt,
    )

pub returns-in_ok-text-in-TooMany-clause-tells : goal.returns-in_ok-text-in-TooMany-clause-tells
returns-in_ok-text-in-TooMany-clause-tells g c =
    let why = rw c.in-TooMany.is at c.requires in
    rw c.unsolved-in-TooMany.ensures (too_many why c.in_ok-text-in-TooMany.ensures.items)

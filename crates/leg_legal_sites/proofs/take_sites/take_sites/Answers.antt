-- What stays of the first and the last stretch that are met comes in the place of those that are.
use Rattle.std.proofs.Common.{◌≡◌, ◌+◌, ◌-◌, ◌<◌, true, length, Some, slice_get, refl, sym, ◌∙◌, arith}
use Rattle.std.specs.Prelude.{nat_lt}
use Rattle.std.proofs.lemmas.Option.{slice_get_read}
use Rattle.std.proofs.lemmas.Result.{on_ok_weaker}
use Rattle.leg_legal_sites.specs.Steps.TakeSites.{IsCutAt}
use Rattle.leg_legal_sites.proofs.TakenSites.{without_unmet, without_met, without_both}
use Rattle.leg_legal_sites.proofs.take_sites.take_sites.Goals as goal

pub returns-then-last-first-clause-ok : goal.returns-then-last-first-clause-ok
returns-then-last-first-clause-ok g c =
    let free = c.args.stretches.now.items in
    let cut : IsCutAt free c.args.from c.args.end c.args.first c.cut_end-last.result =
    rw c.as_slice.ensures.value at c.cut_end-last.ensures.cut in
    without_unmet free c.args.from c.args.end _ _ c.requires.stretches cut c.if-last-first.true

pub returns-then-has_sites-2-clause-ok : goal.returns-then-has_sites-2-clause-ok
returns-then-has_sites-2-clause-ok g c =
    let free = c.args.stretches.now.items in
    let first = c.args.first in
    let last = c.cut_end-last.result in
    let a = c.index.result.now in
    let b = c.index-2.result.now in
    let cut : IsCutAt free c.args.from c.args.end first last = rw c.as_slice.ensures.value at c.cut_end-last.ensures.cut in
    let met : first < last = c.if-last-first.false in
    let same : length c.as_slice.result.now ≡ length free = rw c.as_slice.ensures.value refl in
    let within = c.cut_end-last.ensures.within in
    let at_a : slice_get free first ≡ Some a = slice_get_read free _ first a refl (omega arith) c.index.ensures in
    let at_b : slice_get free (last - 1) ≡ Some b = slice_get_read free _ (last - 1) b refl (omega arith) c.index-2.ensures in
    let one : first + 1 ≡ last = c.if-first-last.true in
    let l : nat_lt a.from c.args.from ≡ true = sym c.has_sites.ensures ∙ c.if-has_sites.true in
    let r : nat_lt c.args.end b.end ≡ true = sym c.has_sites-then-has_sites.ensures ∙ c.if-has_sites-2.true in
    on_ok_weaker c.split.result (without_both free c.args.from c.args.end first last c.requires.stretches cut c.if-end-from.false met a b at_a at_b one l r
    c.split.new.stretches.items) c.split.ensures.ok

pub returns-else-first-last-clause-ok : goal.returns-else-first-last-clause-ok
returns-else-first-last-clause-ok g c =
    let free = c.args.stretches.now.items in
    let first = c.args.first in
    let last = c.cut_end-last.result in
    let a = c.index.result.now in
    let b = c.index-2.result.now in
    let cut : IsCutAt free c.args.from c.args.end first last = rw c.as_slice.ensures.value at c.cut_end-last.ensures.cut in
    let met : first < last = c.if-last-first.false in
    let same : length c.as_slice.result.now ≡ length free = rw c.as_slice.ensures.value refl in
    let within = c.cut_end-last.ensures.within in
    let at_a : slice_get free first ≡ Some a = slice_get_read free _ first a refl (omega arith) c.index.ensures in
    let at_b : slice_get free (last - 1) ≡ Some b = slice_get_read free _ (last - 1) b refl (omega arith) c.index-2.ensures in
    rw c.shrink.ensures (without_met free c.args.from c.args.end first last c.requires.stretches cut c.if-end-from.false met a b at_a at_b)

use Rattle.std.proofs.Common.{◌↔◌, IsTrue, map, sym}
use Rattle.leg_rules.specs.Compare.Spelling.{spelled_terminals}
use Rattle.leg_compare.specs.Steps.Words.{words_now, AreAmong}
use Rattle.leg_compare.proofs.WordSearch.{both_tell}
use Rattle.leg_compare.proofs.spelling.are_same_terminals.Goals as goal

pub returns : goal.returns
returns g c =
    let words_before = map words_now c.in_ok-before.before.items in
    let words_after = map words_now c.in_ok-after.after.items in
    let tells : IsTrue c.have_same_words.result ↔ (AreAmong words_before words_after × AreAmong words_after words_before) =
    rw (sym c.deref.ensures.value, sym c.deref-2.ensures.value) c.have_same_words.ensures in
    both_tell (spelled_terminals c.args.first.now c.args.a.now) (spelled_terminals c.args.second.now c.args.b.now) words_before words_after
    c.in_ok-before.ensures.all c.in_ok-after.ensures.all c.have_same_words.result tells

use Rattle.std.proofs.Common.{◌≡◌, map, IsPermutation, ap, ◌∙◌, subst, arith}
use Rattle.std.proofs.lemmas.List.{take_all}
use Rattle.std.proofs.lemmas.List.Sorted.{IsPermutation-map}
use Rattle.leg_rules.specs.Compare.Spelling.{spelled_terminals}
use Rattle.leg_compare.specs.Steps.Words.{words_now}
use Rattle.leg_compare.proofs.spelling.sorted_words.Goals as goal

pub returns-clause-all : goal.returns-clause-all
returns-clause-all g c =
    let all : map words_now c.loop-number.words.items ≡ spelled_terminals c.args.design.now c.args.terminals.now =
    c.loop-number.invariant ∙ ap (spelled_terminals c.args.design.now) (take_all c.loop-number.number c.args.terminals.now (omega arith)) in
    subst (λ l. IsPermutation l (map words_now c.sort_unstable.new.self.items)) all
    (IsPermutation-map words_now c.loop-number.words.items c.sort_unstable.new.self.items c.sort_unstable.ensures.permutation)

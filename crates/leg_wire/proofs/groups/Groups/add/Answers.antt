-- The number is the only one in its list.
use Rattle.std.proofs.Common.{◌≡◌, ℕ, [], ◌∷◌, ◌++◌, ◌∙◌, ap, length}
use Rattle.leg_wire.proofs.MergedLists.{groups_more, first_grown_more}
use Rattle.leg_wire.proofs.groups.Groups.add.Goals as goal

pub returns-clause-listed : goal.returns-clause-listed
returns-clause-listed g c =
    let sets = c.args.self.now.sets in
    let lists = c.args.self.now.members.items in
    let own : c.from_vec.result ≡ length sets ∷ [] = c.from_vec.ensures ∙ c.in_ok-own.ensures.items ∙ ap (λ (n : ℕ). n ∷ []) c.in_ok-number.ensures.number in
    let pushed : c.push.new.self.items ≡ lists ++ (length sets ∷ []) ∷ [] = c.in_ok-push.ensures.items ∙ ap (λ list. lists ++ list ∷ []) own in
    rw (pushed, c.in_ok-number.ensures.is) (groups_more sets lists c.in_ok-number.ensures.low c.requires.listed)

pub returns-clause-grown : goal.returns-clause-grown
returns-clause-grown g c =
    let sets = c.args.self.now.sets in
    let lists = c.args.self.now.members.items in
    let own : c.from_vec.result ≡ length sets ∷ [] = c.from_vec.ensures ∙ c.in_ok-own.ensures.items ∙ ap (λ (n : ℕ). n ∷ []) c.in_ok-number.ensures.number in
    let pushed : c.push.new.self.items ≡ lists ++ (length sets ∷ []) ∷ [] = c.in_ok-push.ensures.items ∙ ap (λ list. lists ++ list ∷ []) own in
    rw pushed (first_grown_more sets lists c.in_ok-number.ensures.low c.requires.listed)

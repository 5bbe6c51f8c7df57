use Rattle.std.proofs.Common.{◌≡◌, ◌++◌, ◌∷◌, [], ℕ, ◌<◌, List, length, get_or, slice_set, None, Some, sym, ap, ◌∙◌, arith}
use Rattle.std.proofs.lemmas.Grind.{common_steps}
use Rattle.leg_lex.specs.NameLookup.{place_of}
use Rattle.leg_lex.proofs.NameLookup.{place_stands}
use Rattle.leg_design_nets.proofs.NamedNumbers.{added_found, kept_found, written, new_name_added, new_name_kept}
use Rattle.leg_design_nets.proofs.by_name.ByName.add.Goals as goal

pub add_number-requires : goal.add_number-requires
add_number-requires g c =
    let found : place_of c.args.name.now c.self.inside.names ≡ Some c.in-Some.place = sym c.place_of.ensures ∙ c.in-Some.is in
    let within = (place_stands c.args.name.now c.self.inside.names c.in-Some.place found).within in
    let long = c.self.invariant in
    rw c.deref_mut.ensures.value (grind (arith, within, long))

pub returns-in-Some-clause-added : goal.returns-in-Some-clause-added
returns-in-Some-clause-added g c =
    let names = c.self.inside.names in
    let lists = c.self.inside.lists.items in
    let found : place_of c.args.name.now names ≡ Some c.in-Some.place = sym c.place_of.ensures ∙ c.in-Some.is in
    let within = (place_stands c.args.name.now names c.in-Some.place found).within in
    let less : c.in-Some.place < length lists = let long = c.self.invariant in grind (arith, within, long) in
    let size : c.self.inside.lists.len ≡ length lists = grind (arith, common_steps) in
    let put =
    c.in_ok-add_number.ensures.added
    ∙ ap (λ (xs : List (List ℕ)). slice_set xs c.in-Some.place (get_or xs c.in-Some.place [] ++ c.args.number ∷ [])) c.deref_mut.ensures.value in
    added_found lists c.in-Some.place c.args.number less names c.args.name.now _ found
    (written lists c.in-Some.place c.args.number less c.add_number.new.lists c.self.inside.lists.len put size)

pub returns-in-Some-clause-kept : goal.returns-in-Some-clause-kept
returns-in-Some-clause-kept g c = λ other n is.
    let names = c.self.inside.names in
    let lists = c.self.inside.lists.items in
    let found : place_of c.args.name.now names ≡ Some c.in-Some.place = sym c.place_of.ensures ∙ c.in-Some.is in
    let within = (place_stands c.args.name.now names c.in-Some.place found).within in
    let less : c.in-Some.place < length lists = let long = c.self.invariant in grind (arith, within, long) in
    let size : c.self.inside.lists.len ≡ length lists = grind (arith, common_steps) in
    let put =
    c.in_ok-add_number.ensures.added
    ∙ ap (λ (xs : List (List ℕ)). slice_set xs c.in-Some.place (get_or xs c.in-Some.place [] ++ c.args.number ∷ [])) c.deref_mut.ensures.value in
    kept_found lists c.in-Some.place c.args.number less names _
    (written lists c.in-Some.place c.args.number less c.add_number.new.lists c.self.inside.lists.len put size) other n (rw (← c.self.view_is) at is)

pub returns-clause-added : goal.returns-clause-added
returns-clause-added g c =
    let names = c.self.inside.names in
    let lists = c.self.inside.lists.items in
    let none : place_of c.args.name.now names ≡ None = sym c.place_of.ensures ∙ c.in_default.is in
    let named : c.push-2.new.self ≡ names ++ c.args.name.now ∷ [] = grind (arith, common_steps) in
    let put : c.push-3.new.self.items ≡ lists ++ (c.args.number ∷ []) ∷ [] = grind (arith, common_steps) in
    new_name_added names lists c.args.name.now c.args.number c.self.invariant none c.push-2.new.self c.push-3.new.self.items named put

pub returns-clause-kept : goal.returns-clause-kept
returns-clause-kept g c = λ other n is.
    let names = c.self.inside.names in
    let lists = c.self.inside.lists.items in
    let none : place_of c.args.name.now names ≡ None = sym c.place_of.ensures ∙ c.in_default.is in
    let named : c.push-2.new.self ≡ names ++ c.args.name.now ∷ [] = grind (arith, common_steps) in
    let put : c.push-3.new.self.items ≡ lists ++ (c.args.number ∷ []) ∷ [] = grind (arith, common_steps) in
    new_name_kept names lists c.args.name.now c.args.number c.self.invariant none c.push-2.new.self c.push-3.new.self.items named put other n
    (rw (← c.self.view_is) at is)

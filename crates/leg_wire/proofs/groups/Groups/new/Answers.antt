-- The members of each set are the numbers that have its root.
use Rattle.std.proofs.Common.{◌≡◌, ◌<◌, Some, slice_get, get_or, length, ◌∙◌, ap, arith}
use Rattle.std.proofs.lemmas.Option.{slice_get-get_or}
use Rattle.leg_wire.proofs.groups.Groups.new.Goals as goal

pub members_of-requires-clause-within : goal.members_of-requires-clause-within
members_of-requires-clause-within g c k d low =
    let roots = c.in_ok-roots.roots.items in
    let below : k < length roots = rw (← c.deref.ensures.value) low in
    let is = (c.in_ok-roots.ensures.firsts.each k (get_or roots k d) (slice_get-get_or roots k d below)).within in
    rw c.deref.ensures.value (omega (arith, is, c.requires))

pub returns-clause-listed : goal.returns-clause-listed
returns-clause-listed g c =
    let sets = c.args.sets in
    let is : c.deref.result.now ≡ sets = c.deref.ensures.value ∙ c.in_ok-roots.ensures.are in
    record {
      members = rw (is, c.requires) at c.in_ok-members.ensures;
      begins = λ some.
          let at : slice_get sets 0 ≡ Some (get_or sets 0 0) = slice_get-get_or sets 0 0 some in
          let firsts = rw c.in_ok-roots.ensures.are at c.in_ok-roots.ensures.firsts in
          let low = (firsts.each 0 (get_or sets 0 0) at).least 0 some (record { least = get_or sets 0 0; of_a = at; of_b = at }) in
          let zero : get_or sets 0 0 ≡ 0 = omega (arith, low) in
          at ∙ ap Some zero;
    }

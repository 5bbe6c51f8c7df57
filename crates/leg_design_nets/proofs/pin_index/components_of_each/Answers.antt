-- One more component.
use Rattle.std.proofs.Common.{◌≡◌, ℕ, ◌<◌, ◌++◌, ◌∷◌, [], List, length, get_or, slice_set, ap, ◌∙◌, arith}
use Rattle.std.proofs.lemmas.Grind.{common_steps}
use Rattle.leg_design_nets.proofs.NamedNumbers.{written}
use Rattle.leg_design_nets.proofs.PinTables.{length_longer, listed_longer, listed_past}
use Rattle.leg_design_nets.proofs.pin_index.components_of_each.Goals as goal
use Rattle.leg_design_nets.proofs.pin_index.components_of_each.Goals.{then-component-len+in_ok-add_number, else-component-len}

pub loop-c-preserved : goal.loop-c-preserved
loop-c-preserved g c =
    let components = c.args.components.now in
    let lists = c.loop-c.lists.items in
    let i : ℕ = c.loop-c.c in
    let x = c.index-components-c.result in
    let less : i < length components = omega arith in
    let size : c.loop-c.lists.len ≡ length lists = grind (arith, common_steps) in
    let count = c.len.ensures in
    elim c.if-component-len.branch [
      | then-component-len+in_ok-add_number w ↦
          let test = w.if-component-len.true in
          let within : x.master < length lists = grind (arith, test, count, size) in
          let put =
          w.in_ok-add_number.ensures.added ∙ ap (λ (xs : List (List ℕ)). slice_set xs x.master (get_or xs x.master [] ++ i ∷ [])) w.deref_mut.ensures.value in
          let whole = written lists x.master i within w.add_number.new.lists c.loop-c.lists.len put size in
          rw w.lists-is (record {
            long = length_longer lists _ x.master i whole ∙ c.loop-c.invariant.long;
            listed = listed_longer components lists _ i x less c.index-components-c.is c.loop-c.invariant.listed within whole;
          })
      | else-component-len w ↦
          let test = w.if-component-len.false in
          rw w.lists-is (record {
            long = c.loop-c.invariant.long;
            listed = listed_past components lists i x less c.index-components-c.is c.loop-c.invariant.listed (omega (arith, test, count, size));
          })
    ]

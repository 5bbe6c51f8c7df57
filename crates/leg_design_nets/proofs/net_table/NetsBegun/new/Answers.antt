use Rattle.std.proofs.Common.{◌≡◌, [], ◌∷◌, ℕ, zero, suc, get_or, List, refl}
use Rattle.leg_design_records.specs.declared.records.Terminal.{Terminal}
use Rattle.leg_design_nets.specs.Steps.Index.{number_of}
use Rattle.leg_design_nets.proofs.TerminalLists.{no_index}
use Rattle.leg_design_nets.proofs.net_table.NetsBegun.new.Goals as goal

one_empty : (k : ℕ) → get_or {A = List Terminal} ([] ∷ []) k [] ≡ []
one_empty zero = refl
one_empty (suc k) = refl

pub invariant_of-result : goal.invariant_of-result
invariant_of-result g c =
    rw (c.new.ensures.items, c.new-4.ensures.items) (record {
      named = c.new-2.ensures;
      indexed = no_index (number_of c.new-3.result.numbers) ([] ∷ []) c.new-3.ensures one_empty;
      listed = refl;
      wired = refl;
    })

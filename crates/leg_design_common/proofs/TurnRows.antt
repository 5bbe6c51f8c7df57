-- The numbers of turned vias in a table.
use Rattle.std.proofs.Common.{◌≡◌, ℕ, Bool, true, false, if◌then◌else◌, cond, nat_eq, List, ◌∷◌, Some, refl, ap, ◌∙◌, arith}
use Rattle.std.specs.HashMap.{HashMap, get_by}
use Rattle.std.proofs.lemmas.Bool.Decides.{nat_tests}
use Rattle.leg_geom.specs.declared.orient.Orient.{Orient}
use Rattle.leg_geom.specs.declared.orient.Orient.TheVariants.{N, S, W, E, FN, FS, FW, FE}
use Rattle.leg_grammar.specs.declared.turned_via.TurnedVia.{TurnedVia}
use Rattle.leg_grammar.specs.Def.Turns.{is_same_orient, turn_number}
use Rattle.leg_design_common.specs.declared.turn_table.TurnRow.{TurnRow}
use Rattle.leg_design_common.specs.Steps.TurnRow.{number_in, row_with, row_or_none, number_by}

number_with : (row : TurnRow) (orient other : Orient) (n : ℕ)
    → number_in (row_with row orient n) other ≡ (if is_same_orient orient other then Some n else number_in row other)
number_with row N N n = refl
number_with row S S n = refl
number_with row W W n = refl
number_with row E E n = refl
number_with row FN FN n = refl
number_with row FS FS n = refl
number_with row FW FW n = refl
number_with row FE FE n = refl
number_with row orient other n = refl

module _ {S : Type 0} (m n : HashMap ℕ TurnRow S) (turns : List TurnedVia) (turned : TurnedVia) where
  abbrev row : TurnRow
  row = row_with (row_or_none (get_by (nat_eq turned.via) m)) turned.orient turned.number

  -- A table that has the number of each via has it after one more.
  pub number_more : ((via : ℕ) (orient : Orient) → number_by m via orient ≡ turn_number turns via orient)
      → ((q : ℕ) → get_by (nat_eq q) n ≡ cond (nat_eq turned.via q) (Some row) (get_by (nat_eq q) m))
      → (via : ℕ) (orient : Orient) → number_by n via orient ≡ turn_number (turned ∷ turns) via orient
  number_more before updates via orient = by (nat_eq turned.via via) refl where
    by : (same : Bool) → nat_eq turned.via via ≡ same → number_by n via orient ≡ turn_number (turned ∷ turns) via orient
    by true same =
        let it : turned.via ≡ via = grind (arith, nat_tests, same) in
        ap (λ found. number_in (row_or_none found) orient) (updates via)
        ∙ rw same (number_with (row_or_none (get_by (nat_eq turned.via) m)) turned.orient orient turned.number
        ∙ ap (λ later. if is_same_orient turned.orient orient then Some turned.number else later)
        (ap (λ v. number_by m v orient) it ∙ before via orient))
    by false other =
        ap (λ found. number_in (row_or_none found) orient) (updates via) ∙ rw other (before via orient)

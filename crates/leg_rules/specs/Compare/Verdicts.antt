-- What all differences of two designs are together (lefdef's own rules): those that a legaliser makes, those that a router makes, or
-- others too.
use Rattle.std.specs.Prelude.{◌≡◌, ℕ, suc, ◌⊎◌, ◌<◌, List, [], ◌∷◌, length, All}
use Rattle.leg_design_records.specs.Movable.{IsMovable}
use Rattle.leg_design_records.specs.Records.{DesignModel}
use Rattle.leg_rules.specs.declared.difference.Section.TheVariants.{Components, Nets}
use Rattle.leg_rules.specs.declared.difference.Change.TheVariants.{Place, MoreWires}
use Rattle.leg_rules.specs.declared.difference.Difference.{Difference}
use Rattle.leg_rules.specs.declared.difference.Difference.TheVariants.{Changed}
use Rattle.leg_rules.specs.declared.difference.Verdict.{Verdict}
use Rattle.leg_rules.specs.declared.difference.Verdict.TheVariants.{Same, Places, Wires, PlacesAndWires, Differs}

-- a movable component of the first design has another place in the second
pub record IsMove (first : DesignModel) (d : Difference) : Type 0 where
  pub i : ℕ
  pub is : d ≡ Changed Components Place i
  pub movable : IsMovable first i

-- an entry of NETS has more wires in the second design
pub record IsGrowth (d : Difference) : Type 0 where
  pub i : ℕ
  pub is : d ≡ Changed Nets MoreWires i

-- so many elements of the list have the property
abbrev pub HasSoMany : {X : Type 0} → (X → Type 0) → List X → ℕ → Type 0
HasSoMany P [] n = n ≡ 0
HasSoMany P (x ∷ xs) n = (P x × ((m : ℕ) × (n ≡ suc m) × HasSoMany P xs m)) ⊎ ((¬ P x) × HasSoMany P xs n)

-- so many differences are moves, so many are growths, and there are no others
pub record AreMovesAndGrowths (first : DesignModel) (list : List Difference) (moves growths : ℕ) : Type 0 where
  pub moves_ : HasSoMany (IsMove first) list moves
  pub growths_ : HasSoMany IsGrowth list growths
  pub each : All (λ d. IsMove first d ⊎ IsGrowth d) list

-- the verdict on this list of all differences
abbrev pub IsVerdict : DesignModel → List Difference → Verdict → Type 0
IsVerdict first list Same = list ≡ []
IsVerdict first list (Places moves) = (0 < moves) × AreMovesAndGrowths first list moves 0
IsVerdict first list (Wires growths) = (0 < growths) × AreMovesAndGrowths first list 0 growths
IsVerdict first list (PlacesAndWires moves growths) = (0 < moves) × (0 < growths) × AreMovesAndGrowths first list moves growths
IsVerdict first list (Differs count) = (length list ≡ count) × (¬ All (λ d. IsMove first d ⊎ IsGrowth d) list)

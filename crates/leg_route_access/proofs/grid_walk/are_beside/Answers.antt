use Rattle.std.proofs.Common.{◌≡◌, ℕ, ◌↔◌, ◌⊎◌, inl, inr, IsTrue, Bool, true, false, true≢false, sym, ◌∙◌}
use Rattle.leg_rules.specs.declared.side.Side.{Side}
use Rattle.leg_rules.specs.declared.side.Side.TheVariants.{West, East, South, North, Below, Above}
use Rattle.leg_route_grid.specs.Steps.Grid.{GridModel}
use Rattle.leg_route_grid.specs.Steps.NodeNumbers.{IsNeighbourAt}
use Rattle.leg_route_access.proofs.grid_walk.are_beside.Goals.{then-is_to, else-is_to, then-is_to-2, else-is_to-2, then-is_to-3, else-is_to-3, then-is_to-4, else-is_to-4}
use Rattle.leg_route_access.proofs.grid_walk.are_beside.Goals as goal

-- one of two, where the second is not looked at once the first is found
first_found : (P Q : Type 0) (first value : Bool) → (IsTrue first ↔ P) → first ≡ true → value ≡ first → IsTrue value ↔ (P ⊎ Q)
first_found P Q first value on found is = (λ any. inl (on.0 found), λ any. is ∙ found)

second_found : (P Q : Type 0) (first second value : Bool) → (IsTrue first ↔ P) → first ≡ false → (IsTrue second ↔ Q) → value ≡ second → IsTrue value ↔ (P ⊎ Q)
second_found P Q first second value on missed other is = (λ any. inr (other.0 (sym is ∙ any)), back) where
  back : P ⊎ Q → IsTrue value
  back (inl p) = absurd (true≢false (sym (on.1 p) ∙ missed))
  back (inr q) = is ∙ other.1 q

-- on one of the first sides
abbrev Two : GridModel → ℕ → ℕ → Type 0
Two grid n to = IsNeighbourAt grid West n to ⊎ IsNeighbourAt grid East n to

abbrev Three : GridModel → ℕ → ℕ → Type 0
Three grid n to = Two grid n to ⊎ IsNeighbourAt grid South n to

abbrev Four : GridModel → ℕ → ℕ → Type 0
Four grid n to = Three grid n to ⊎ IsNeighbourAt grid North n to

abbrev Five : GridModel → ℕ → ℕ → Type 0
Five grid n to = Four grid n to ⊎ IsNeighbourAt grid Below n to

on_five : (grid : GridModel) (n to : ℕ) → Five grid n to → (side : Side) × IsNeighbourAt grid side n to
on_five grid n to (inl (inl (inl (inl step)))) = (West, step)
on_five grid n to (inl (inl (inl (inr step)))) = (East, step)
on_five grid n to (inl (inl (inr step))) = (South, step)
on_five grid n to (inl (inr step)) = (North, step)
on_five grid n to (inr step) = (Below, step)

one_of_six : (grid : GridModel) (n to : ℕ) (side : Side) → IsNeighbourAt grid side n to → Five grid n to ⊎ IsNeighbourAt grid Above n to
one_of_six grid n to West step = inl (inl (inl (inl (inl step))))
one_of_six grid n to East step = inl (inl (inl (inl (inr step))))
one_of_six grid n to South step = inl (inl (inl (inr step)))
one_of_six grid n to North step = inl (inl (inr step))
one_of_six grid n to Below step = inl (inr step)
one_of_six grid n to Above step = inr step

pub returns-then-is_to-5 : goal.returns-then-is_to-5
returns-then-is_to-5 g c =
    let grid = c.args.grid.now in
    let n = c.args.number in
    let to = c.args.to in
    let two : IsTrue c.if-is_to.value ↔ Two grid n to = elim c.if-is_to.branch [
      | then-is_to w ↦
          first_found (IsNeighbourAt grid West n to) (IsNeighbourAt grid East n to) c.is_to.result c.if-is_to.value c.is_to.ensures w.if-is_to.true w.value-is
      | else-is_to w ↦
          second_found (IsNeighbourAt grid West n to)
          (IsNeighbourAt grid East n to) c.is_to.result w.is_to-else-is_to.result c.if-is_to.value c.is_to.ensures w.if-is_to.false
          w.is_to-else-is_to.ensures w.value-is
    ] in
    let three : IsTrue c.if-is_to-2.value ↔ Three grid n to = elim c.if-is_to-2.branch [
      | then-is_to-2 w ↦ first_found (Two grid n to) (IsNeighbourAt grid South n to) c.if-is_to.value c.if-is_to-2.value two w.if-is_to-2.true w.value-is
      | else-is_to-2 w ↦
          second_found (Two grid n to) (IsNeighbourAt grid South n to) c.if-is_to.value w.is_to-else-is_to-2.result c.if-is_to-2.value two w.if-is_to-2.false
          w.is_to-else-is_to-2.ensures w.value-is
    ] in
    let four : IsTrue c.if-is_to-3.value ↔ Four grid n to = elim c.if-is_to-3.branch [
      | then-is_to-3 w ↦ first_found (Three grid n to) (IsNeighbourAt grid North n to) c.if-is_to-2.value c.if-is_to-3.value three w.if-is_to-3.true w.value-is
      | else-is_to-3 w ↦
          second_found (Three grid n to) (IsNeighbourAt grid North n to) c.if-is_to-2.value w.is_to-else-is_to-3.result c.if-is_to-3.value three
          w.if-is_to-3.false w.is_to-else-is_to-3.ensures w.value-is
    ] in
    let five : IsTrue c.if-is_to-4.value ↔ Five grid n to = elim c.if-is_to-4.branch [
      | then-is_to-4 w ↦ first_found (Four grid n to) (IsNeighbourAt grid Below n to) c.if-is_to-3.value c.if-is_to-4.value four w.if-is_to-4.true w.value-is
      | else-is_to-4 w ↦
          second_found (Four grid n to) (IsNeighbourAt grid Below n to) c.if-is_to-3.value w.is_to-else-is_to-4.result c.if-is_to-4.value four
          w.if-is_to-4.false w.is_to-else-is_to-4.ensures w.value-is
    ] in
    (λ is. on_five grid n to (five.0 is), λ any. c.if-is_to-5.true)

pub returns-else-is_to-5 : goal.returns-else-is_to-5
returns-else-is_to-5 g c =
    let grid = c.args.grid.now in
    let n = c.args.number in
    let to = c.args.to in
    let two : IsTrue c.if-is_to.value ↔ Two grid n to = elim c.if-is_to.branch [
      | then-is_to w ↦
          first_found (IsNeighbourAt grid West n to) (IsNeighbourAt grid East n to) c.is_to.result c.if-is_to.value c.is_to.ensures w.if-is_to.true w.value-is
      | else-is_to w ↦
          second_found (IsNeighbourAt grid West n to)
          (IsNeighbourAt grid East n to) c.is_to.result w.is_to-else-is_to.result c.if-is_to.value c.is_to.ensures w.if-is_to.false
          w.is_to-else-is_to.ensures w.value-is
    ] in
    let three : IsTrue c.if-is_to-2.value ↔ Three grid n to = elim c.if-is_to-2.branch [
      | then-is_to-2 w ↦ first_found (Two grid n to) (IsNeighbourAt grid South n to) c.if-is_to.value c.if-is_to-2.value two w.if-is_to-2.true w.value-is
      | else-is_to-2 w ↦
          second_found (Two grid n to) (IsNeighbourAt grid South n to) c.if-is_to.value w.is_to-else-is_to-2.result c.if-is_to-2.value two w.if-is_to-2.false
          w.is_to-else-is_to-2.ensures w.value-is
    ] in
    let four : IsTrue c.if-is_to-3.value ↔ Four grid n to = elim c.if-is_to-3.branch [
      | then-is_to-3 w ↦ first_found (Three grid n to) (IsNeighbourAt grid North n to) c.if-is_to-2.value c.if-is_to-3.value three w.if-is_to-3.true w.value-is
      | else-is_to-3 w ↦
          second_found (Three grid n to) (IsNeighbourAt grid North n to) c.if-is_to-2.value w.is_to-else-is_to-3.result c.if-is_to-3.value three
          w.if-is_to-3.false w.is_to-else-is_to-3.ensures w.value-is
    ] in
    let five : IsTrue c.if-is_to-4.value ↔ Five grid n to = elim c.if-is_to-4.branch [
      | then-is_to-4 w ↦ first_found (Four grid n to) (IsNeighbourAt grid Below n to) c.if-is_to-3.value c.if-is_to-4.value four w.if-is_to-4.true w.value-is
      | else-is_to-4 w ↦
          second_found (Four grid n to) (IsNeighbourAt grid Below n to) c.if-is_to-3.value w.is_to-else-is_to-4.result c.if-is_to-4.value four
          w.if-is_to-4.false w.is_to-else-is_to-4.ensures w.value-is
    ] in (
      λ is. (Above, c.is_to-else-is_to-5.ensures.0 is),
      λ any. elim (one_of_six grid n to any.0 any.1) [
        | inl first ↦ absurd (true≢false (sym (five.1 first) ∙ c.if-is_to-5.false))
        | inr above ↦ c.is_to-else-is_to-5.ensures.1 above
      ],
    )

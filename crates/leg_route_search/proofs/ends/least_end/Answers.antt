use Rattle.std.proofs.Common.{ℕ, ◌+◌, ◌<◌, ◌≤◌, List, length, get_or, take, Option, Some, None, Contains, MatchOption, inl, inr, sym, ◌∙◌, arith}
use Rattle.std.proofs.lemmas.Bool.{false≢true}
use Rattle.std.proofs.lemmas.List.{take_all}
use Rattle.std.proofs.lemmas.List.Elements.{Contains-get_or}
use Rattle.std.proofs.lemmas.Option.{MatchOption-at_some}
use Rattle.leg_route_search.specs.declared.mark.Mark.{Mark}
use Rattle.leg_route_search.specs.Steps.Marks.{IsAt}
use Rattle.leg_route_search.proofs.Sides.{contains_more_cases}
use Rattle.leg_route_search.proofs.ends.least_end.Goals as goal
use Rattle.leg_route_search.proofs.ends.least_end.Goals.{then-is_reached, else-is_reached}

abbrev IsLeast : List ℕ → List Mark → ℕ → ℕ → Option ℕ → Type 0
IsLeast ends marks level i least =
    MatchOption least ((a : ℕ) → Contains (take i ends) a → IsAt marks a level → ⊥) (λ end. Contains ends end × IsAt marks end level)

-- one more end that is not reached
least_more : (ends : List ℕ) (marks : List Mark) (level i : ℕ) (least : Option ℕ) → i < length ends → (IsAt marks (get_or ends i 0) level → ⊥)
    → IsLeast ends marks level i least → IsLeast ends marks level (i + 1) least
least_more ends marks level i None within not_at none =
    λ a there is. elim (contains_more_cases ends i a within there) [ inl old ↦ none a old is | inr same ↦ not_at (rw same at is) ]
least_more ends marks level i (Some end) within not_at found = found

-- all ends
least_all : (ends : List ℕ) (marks : List Mark) (level i : ℕ) (least : Option ℕ) → length ends ≤ i → IsLeast ends marks level i least
    → MatchOption least ((a : ℕ) → Contains ends a → IsAt marks a level → ⊥) (λ end. Contains ends end × IsAt marks end level)
least_all ends marks level i None all none = λ a there is. none a (rw (take_all i ends all) there) is
least_all ends marks level i (Some end) all found = found

pub loop-end-preserved : goal.loop-end-preserved
loop-end-preserved g c =
    let ends = c.args.ends.now in
    let marks = c.args.marks.now in
    let i : ℕ = c.loop-end.end-index in
    let within : i < length ends = omega arith in
    elim c.if-is_reached.branch [
      | then-is_reached w ↦ rw w.least-is (elim w.lesser.ensures [
        | inl same ↦ rw same (Contains-get_or ends i 0 within, c.is_reached.ensures.0 w.if-is_reached.true)
        | inr was ↦
            MatchOption-at_some ((a : ℕ) → Contains (take i ends) a → IsAt marks a c.args.level → ⊥) (λ end. Contains ends end × IsAt marks end c.args.level)
            w.lesser.result was c.loop-end.invariant
      ])
      | else-is_reached w ↦
          rw w.least-is (least_more ends marks c.args.level i c.loop-end.least within
          (λ is. absurd (false≢true (sym w.if-is_reached.false ∙ c.is_reached.ensures.1 is))) c.loop-end.invariant)
    ]

pub returns : goal.returns
returns g c = least_all c.args.ends.now c.args.marks.now c.args.level c.loop-end.end-index c.loop-end.least (omega arith) c.loop-end.invariant

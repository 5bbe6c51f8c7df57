-- The first wire of a walk.
use Rattle.std.proofs.Common.{◌≡◌, ℕ, suc, zero, ◌+◌, ◌<◌, ◌≤◌, List, [], ◌∷◌, ◌++◌, length, drop, Some, slice_get, refl, sym, ap, subst, ◌∙◌, append_assoc, arith}
use Rattle.std.proofs.lemmas.List.{length-drop}
use Rattle.std.proofs.lemmas.Option.{same_Some}
use Rattle.leg_design_records.specs.declared.records.Wire.{Wire}
use Rattle.leg_design_records.specs.Records.{DesignModel}
use Rattle.leg_rules.specs.declared.side.Side.{Side}
use Rattle.leg_rules.specs.declared.node.Node.{Node}
use Rattle.leg_rules.specs.Route.Neighbours.{IsNeighbour}
use Rattle.leg_rules.specs.Route.StepWires.{IsLine, IsViaStep}
use Rattle.leg_rules.specs.Route.GridWalk.{IsGridWalk}
use Rattle.leg_rules.specs.Route.Spelling.{IsOnLayer, IsStraight, one, more, EndsOrTurns, Spells, done, through, along, AreWiresOf, goes}
use Rattle.leg_route_access.specs.Steps.Towards.{LiesDue, IsRunTowards}
use Rattle.leg_route_access.specs.Steps.FirstWire.{SpellsAll, BeginsWithWire}
use Rattle.leg_route_access.proofs.NodeSides.{due, due_on, due_towards, one_side}

pub get_drop : {A : Type 0} (n : ℕ) (xs : List A) (k : ℕ) → slice_get (drop n xs) k ≡ slice_get xs (n + k)
get_drop zero xs k = let e : 0 + k ≡ k = omega arith in rw e refl
get_drop (suc n) [] k = refl
get_drop (suc n) (x ∷ xs) k = let e : suc n + k ≡ suc (n + k) = omega arith in rw e (get_drop n xs k)

one_before : (b : Node) (nodes run rest : List Node) → nodes ≡ run ++ rest → b ∷ nodes ≡ (b ∷ run) ++ rest
one_before b nodes run rest is = ap (λ l. b ∷ l) is

module _ (design : DesignModel) where
  -- what is left of a walk is one
  pub rest_walks : (nodes : List Node) (n : ℕ) → n < length nodes → IsGridWalk design nodes → IsGridWalk design (drop n nodes)
  rest_walks nodes n within walk = record {
    some = omega (arith, length-drop n nodes);
    each = λ k a at_k. walk.each (n + k) a (sym (get_drop n nodes k) ∙ at_k);
    beside = λ k a b at_k at_next. walk.beside (n + k) a b (sym (get_drop n nodes k) ∙ at_k)
        (let e : n + k + 1 ≡ n + (k + 1) = omega arith in rw e (sym (get_drop n nodes (k + 1)) ∙ at_next));
  }

  module _ (side : Side) where
    -- from the first node over those of the run to the last one, behind which the rest stands
    record Front (a : Node) (nodes : List Node) (n : ℕ) : Type 0 where
      pub run : List Node
      pub rest : List Node
      pub last : Node
      pub is : nodes ≡ run ++ rest
      pub straight : IsStraight design side a run last
      pub last_is : slice_get (a ∷ nodes) n ≡ Some last
      pub rest_is : drop n (a ∷ nodes) ≡ last ∷ rest

    front : (n : ℕ) (a : Node) (nodes : List Node) → n < length nodes
        → ((k : ℕ) (x y : Node) → k < suc n → slice_get (a ∷ nodes) k ≡ Some x → slice_get nodes k ≡ Some y → IsNeighbour design side x y)
        → Front a nodes (suc n)
    front n a [] within steps = absurd (let e : n < 0 = within in omega (arith, e))
    front zero a (b ∷ nodes) within steps = record {
      run = b ∷ [];
      rest = nodes;
      last = b;
      is = refl;
      straight = one (steps 0 a b (omega arith) refl refl);
      last_is = refl;
      rest_is = refl;
    }
    front (suc n) a (b ∷ nodes) within steps =
        let further =
        front n b nodes (let e : suc n < suc (length nodes) = omega (arith, within) in omega (arith, e))
        (λ k x y below at_x at_y. steps (suc k) x y (omega (arith, below)) at_x at_y) in
        record {
          run = b ∷ further.run;
          rest = further.rest;
          last = further.last;
          is = one_before b nodes further.run further.rest further.is;
          straight = more (steps 0 a b (omega arith) refl refl) further.straight;
          last_is = further.last_is;
          rest_is = further.rest_is;
        }

    pub far : {a b : Node} {run : List Node} → IsStraight design side a run b → LiesDue side a b
    far {a} {b} (one is) = due design side a b is
    far {a} (more {b = b} {c = c} is rest) = due_on side a b c (due design side a b is) (far rest)

    -- the steps of a run all go to the side of the first
    goes_on : (nodes : List Node) (n : ℕ) → IsGridWalk design nodes → IsRunTowards side nodes n
        → ((a b : Node) → slice_get nodes 0 ≡ Some a → slice_get nodes 1 ≡ Some b → IsNeighbour design side a b)
        → (k : ℕ) (x y : Node) → k < n → slice_get nodes k ≡ Some x → slice_get nodes (suc k) ≡ Some y → IsNeighbour design side x y
    goes_on nodes n walk run first zero x y below at_x at_y = first x y at_x at_y
    goes_on nodes n walk run first (suc k) x y below at_x at_y =
        let next : slice_get nodes (suc k + 1) ≡ Some y = let e : suc k + 1 ≡ suc (suc k) = omega arith in rw e at_y in
        let beside = walk.beside (suc k) x y at_x next in
        let same : beside.0 ≡ side = one_side side beside.0 x y (due design beside.0 x y beside.1) (run.straight (suc k) x y (omega arith) below at_x next) in
        rw same at beside.1

    turns : (nodes : List Node) (n : ℕ) (last : Node) (rest : List Node) → IsRunTowards side nodes n → slice_get nodes n ≡ Some last
        → drop n nodes ≡ last ∷ rest → EndsOrTurns design side last rest
    turns nodes n last [] run at_last left = tt
    turns nodes n last (c ∷ rest) run at_last left = λ is.
        run.ends last c at_last (sym (get_drop n nodes 1) ∙ ap (λ l. slice_get l 1) left) (due_towards side last c (due design side last c is))

    -- what is known of a run: the wire along it begins those of the walk, and it ends straight to its side
    pub record Along (a b : Node) (nodes : List Node) (n : ℕ) : Type 0 where
      pub due_is : LiesDue side a b
      pub begins : (wire : Wire) → IsLine design a b wire → BeginsWithWire design nodes wire n

    begin : (a : Node) (nodes : List Node) (n : ℕ) (b : Node) → IsOnLayer side → IsRunTowards side (a ∷ nodes) n → slice_get (a ∷ nodes) n ≡ Some b
        → Front a nodes n → Along a b (a ∷ nodes) n
    begin a nodes n b on run at_b front =
        let same : front.last ≡ b = same_Some front.last b (sym front.last_is ∙ at_b) in
        let straight : IsStraight design side a front.run b = rw same at front.straight in
        let rest_is : drop n (a ∷ nodes) ≡ b ∷ front.rest = rw same at front.rest_is in
        let end = turns (a ∷ nodes) n b front.rest run at_b rest_is in
        record {
          due_is = far straight;
          begins = λ wire line wires left.
              let Left : List Node → Type 0 = λ l. SpellsAll design l wires in
              let further : Spells design b front.rest wires = subst Left rest_is left in
              let Whole : List Node → Type 0 = λ l. Spells design a l (wire ∷ wires) in
              subst Whole (sym front.is) (along side front.run on straight end line further);
        }

    -- a run of so many steps from the first node to another one
    pub record IsRunFromTo (nodes : List Node) (n : ℕ) (a b : Node) : Type 0 where
      pub some : 0 < n
      pub within : n < length nodes
      pub run : IsRunTowards side nodes n
      pub begins : slice_get nodes 0 ≡ Some a
      pub ends : slice_get nodes n ≡ Some b

    pub along_run : (nodes : List Node) (n : ℕ) (a b : Node) → IsOnLayer side → IsGridWalk design nodes
        → ((x y : Node) → slice_get nodes 0 ≡ Some x → slice_get nodes 1 ≡ Some y → IsNeighbour design side x y)
        → IsRunFromTo nodes n a b → Along a b nodes n
    along_run [] n a b on walk first is = absurd (let within = is.within in omega (arith, within))
    along_run (x ∷ nodes) zero a b on walk first is = absurd (let some = is.some in omega (arith, some))
    along_run (x ∷ nodes) (suc n) a b on walk first is =
        let same : x ≡ a = same_Some x a is.begins in
        let found =
        begin x nodes (suc n) b on is.run is.ends (front n x nodes (let e : suc n < suc (length nodes) = is.within in omega (arith, e))
        (goes_on (x ∷ nodes) (suc n) walk is.run first)) in
        let From : Node → Type 0 = λ z. Along z b (x ∷ nodes) (suc n) in
        subst From same found

  -- a step by a via
  pub through_step : (nodes : List Node) (a b : Node) (wire : Wire) → slice_get nodes 0 ≡ Some a → slice_get nodes 1 ≡ Some b → IsViaStep design a b wire
      → BeginsWithWire design nodes wire 1
  through_step [] a b wire at_a at_b step = absurd (let e : ⊥ = cc at_a in e)
  through_step (x ∷ []) a b wire at_a at_b step = absurd (let e : ⊥ = cc at_b in e)
  through_step (x ∷ y ∷ nodes) a b wire at_a at_b step = λ wires left.
      let a_is : a ≡ x = sym (same_Some x a at_a) in
      let b_is : b ≡ y = sym (same_Some y b at_b) in
      let step' : IsViaStep design x y wire = rw (a_is, b_is) at step in
      rw step'.is (through step'.via step'.over left)

  -- a walk of a step or more
  pub all_goes : (nodes : List Node) (wires : List Wire) → 1 < length nodes → SpellsAll design nodes wires → AreWiresOf design nodes wires
  all_goes [] wires many is = absurd is
  all_goes (a ∷ []) wires many is = absurd (omega (arith, many))
  all_goes (a ∷ b ∷ nodes) wires many is = goes is

  pub nothing_left : (nodes : List Node) → 0 < length nodes → length nodes ≤ 1 → SpellsAll design nodes []
  nothing_left [] some few = absurd (omega (arith, some))
  nothing_left (a ∷ []) some few = done
  nothing_left (a ∷ b ∷ nodes) some few = absurd (let e : suc (suc (length nodes)) ≤ 1 = few in omega (arith, e))

  -- the wires so far and the next one begin those of the whole walk
  pub begun_more : (nodes rest : List Node) (wires longer : List Wire) (wire : Wire) (steps : ℕ) → longer ≡ wires ++ wire ∷ []
      → ((further : List Wire) → SpellsAll design rest further → SpellsAll design nodes (wires ++ further)) → BeginsWithWire design rest wire steps
      → (further : List Wire) → SpellsAll design (drop steps rest) further → SpellsAll design nodes (longer ++ further)
  begun_more nodes rest wires longer wire steps is begun first further left =
      let e : longer ++ further ≡ wires ++ (wire ∷ further) = ap (λ l. l ++ further) is ∙ append_assoc wires (wire ∷ []) further in
      let Whole : List Wire → Type 0 = λ l. SpellsAll design nodes l in
      subst Whole (sym e) (begun (wire ∷ further) (first further left))

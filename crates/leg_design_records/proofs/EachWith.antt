-- Lists whose elements change one by one.
use Rattle.std.proofs.Common.{◌≡◌, ℕ, suc, ◌<◌, List, [], ◌∷◌, ◌++◌, length, take, map, set, get_or, ap, refl, ◌∙◌, arith}
use Rattle.std.proofs.lemmas.List.{set-get_or}
use Rattle.std.proofs.Math.Seq.{take-length, take-append_seam}
use Rattle.leg_design_records.specs.Records.{NetModel}
use Rattle.leg_design_records.specs.declared.records.Wire.{Wire}
use Rattle.leg_design_records.specs.MoreWires.{each_with, with_more_wires}
use Rattle.leg_design_records.specs.Steps.FirstWires.{with_first_wires}

pub each_with_none : {X Y : Type 0} (f : X → Y → X) (xs : List X) → each_with f xs [] ≡ xs
unfolding each_with
each_with_none f [] = refl
each_with_none f (x ∷ xs) = refl

pub each_with_length : {X Y : Type 0} (f : X → Y → X) (xs : List X) (ys : List Y) → length (each_with f xs ys) ≡ length xs
unfolding each_with
each_with_length f [] ys = refl
each_with_length f (x ∷ xs) [] = refl
each_with_length f (x ∷ xs) (y ∷ ys) = ap suc (each_with_length f xs ys)

-- one element more
pub each_with_push : {X Y : Type 0} (f : X → Y → X) (xs : List X) (ys : List Y) (y : Y) (d : X) → length ys < length xs
    → each_with f xs (ys ++ y ∷ []) ≡ set (each_with f xs ys) (length ys) (f (get_or (each_with f xs ys) (length ys) d) y)
unfolding each_with
each_with_push f [] ys y d within = absurd (omega (arith, within))
each_with_push f (x ∷ xs) [] y d within = ap (λ rest. f x y ∷ rest) (each_with_none f xs)
each_with_push f (x ∷ xs) (z ∷ ys) y d within =
    ap (λ rest. f x z ∷ rest) (each_with_push f xs ys y d (omega (arith, within)))

-- what no change touches stays
pub each_with_map : {X Y Z : Type 0} (f : X → Y → X) (g : X → Z) → ((x : X) (y : Y) → g (f x y) ≡ g x) → (xs : List X) (ys : List Y)
    → map g (each_with f xs ys) ≡ map g xs
unfolding each_with
each_with_map f g same [] ys = refl
each_with_map f g same (x ∷ xs) [] = refl
each_with_map f g same (x ∷ xs) (y ∷ ys) = rw (same x y, each_with_map f g same xs ys) refl

-- entries that got wires, and then keep as many as they had
pub first_wires_back : (nets : List NetModel) (lists : List (List Wire))
    → with_first_wires (with_more_wires nets lists) (map (λ (net : NetModel). length net.wires) nets) ≡ nets
unfolding each_with
first_wires_back [] lists = refl
first_wires_back (net ∷ nets) [] =
    rw (take-length net.wires, first_wires_back_none nets) refl
  where
    first_wires_back_none : (nets : List NetModel) → with_first_wires nets (map (λ (net : NetModel). length net.wires) nets) ≡ nets
    first_wires_back_none [] = refl
    first_wires_back_none (net ∷ nets) = rw (take-length net.wires, first_wires_back_none nets) refl
first_wires_back (net ∷ nets) (wires ∷ lists) = rw (take-append_seam net.wires wires, first_wires_back nets lists) refl

-- an entry more has its wires
pub one_more_list : (old now : List NetModel) (lists : List (List Wire)) (n : ℕ) (net changed : NetModel) (wires : List Wire)
    → now ≡ with_more_wires old lists → n ≡ length lists → n < length old → net ≡ get_or now n net → changed ≡ record net { wires = net.wires ++ wires }
    → set now n changed ≡ with_more_wires old (lists ++ wires ∷ [])
one_more_list old now lists n net changed wires is so_many within there same =
    rw (
      same,
      there,
      is,
      so_many,
      each_with_push (λ (net : NetModel) (more : List Wire). record net { wires = net.wires ++ more }) old lists wires net
          (rw so_many at within),
    ) refl

-- an entry that keeps its wires is as it was
pub same_entry : (now : List NetModel) (n : ℕ) (net changed : NetModel) → net ≡ get_or now n net → changed ≡ net → set now n changed ≡ now
same_entry now n net changed there same = rw same (ap (set now n) there ∙ set-get_or now n net)

-- an entry more has so many wires
pub one_more_count : (old now : List NetModel) (counts : List ℕ) (n : ℕ) (net changed : NetModel) (count : ℕ)
    → now ≡ with_first_wires old counts → n ≡ length counts → n < length old → net ≡ get_or now n net → changed ≡ record net { wires = take count net.wires }
    → set now n changed ≡ with_first_wires old (counts ++ count ∷ [])
one_more_count old now counts n net changed count is so_many within there same =
    rw (
      same,
      there,
      is,
      so_many,
      each_with_push (λ (net : NetModel) (many : ℕ). record net { wires = take many net.wires }) old counts count net
          (rw so_many at within),
    ) refl

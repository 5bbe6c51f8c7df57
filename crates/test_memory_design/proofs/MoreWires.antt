-- Wires of all nets of one design that another may get.
use Rattle.std.proofs.Common.{◌≡◌, ◌+◌, ◌<◌, ◌≤◌, List, [], ◌∷◌, length, map, All, arith}
use Rattle.std.proofs.lemmas.List.{length-append, length-map, get_or-map}
use Rattle.std.proofs.lemmas.List.Elements.{All-map}
use Rattle.leg_design_records.specs.declared.records.Wire.{Wire}
use Rattle.leg_design_records.specs.MoreWires.{each_with, with_more_wires}
use Rattle.leg_design_records.specs.Records.{NetModel, wire_count}

-- Where each net gets the wires of one of others, there are at most the wires of both after that.
pub wire_count_more : (nets others : List NetModel)
    → wire_count (with_more_wires nets (map (λ (net : NetModel). net.wires) others)) ≤ wire_count nets + wire_count others
unfolding each_with
wire_count_more [] others = omega arith
wire_count_more (net ∷ nets) [] = omega arith
wire_count_more (net ∷ nets) (other ∷ others) = omega (arith, length-append net.wires other.wires, wire_count_more nets others)

-- What holds of each wire of nets holds of each wire in their lists.
pub all_listed : {V : Type 0} (items : V → List Wire) (P : Wire → Type 0) (lists : List V) (nets : List NetModel)
    → map items lists ≡ map (λ (net : NetModel). net.wires) nets → All (λ (net : NetModel). All P net.wires) nets → All (λ list. All P (items list)) lists
all_listed items P lists nets same each k d less =
    let whole : All (All P) (map items lists) = rw same (All-map (All P) (λ (net : NetModel). net.wires) nets each) in
    let within : k < length (map items lists) = rw (length-map lists items) less in
    rw (get_or-map items lists k d (items d) less) at (whole k (items d) within)

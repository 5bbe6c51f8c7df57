-- What to do where a command stops without a design.
use Rattle.std.specs.Prelude.{ℕ, List, [], ◌++◌, None, Some, map, codes, decimal}
use Rattle.leg_app_reason.specs.declared.reason.Stage.TheVariants.{Given, Legalised}
use Rattle.leg_app_reason.specs.declared.reason.Reason.{Reason}
use Rattle.leg_app_reason.specs.declared.reason.Reason.TheVariants.{TooMany, FixedIllegal, NoSite, NoRoom, NotClean, GridTooLarge, Unroutable, Unreachable, Unfinished}
use Rattle.leg_app_message.specs.TextLine.{shown_byte}

-- what is said first
abbrev pub front_of : {A : Type 0} → Reason A → List ℕ
front_of TooMany = codes "the block has, or would get, more than 4,000,000 shapes: take out what need not be judged, such as fillers (tools/drop-fillers), or take a part of it"
front_of FixedIllegal = codes "components that are not moved (FIXED, COVER, or of a macro without a SITE) are not legally placed: move those that are listed above, or make them PLACED; what fits no row needs a macro without a SITE (docs/RECIPES.md)"
front_of (NoSite component) = codes "component "
front_of (NoRoom component) = codes "component "
front_of (NotClean Given) = codes "only a block whose only violations are open nets is routed: repair those that are listed above, and run it again"
front_of (NotClean Legalised) = codes "only a block whose only violations are open nets is routed, and those that are listed above are of the legalised block: repair them in what legalise prints, and route that"
front_of (GridTooLarge limit) = codes "the grid of TRACKS is too large: all together may have "
front_of (Unroutable net None) = codes "net "
front_of (Unroutable net (Some piece)) = codes "net "
front_of (Unreachable net piece) = codes "net "
front_of Unfinished = codes "no legal wires were found that join these nets: they may be in one another's way, or a net may lie in parts that no way joins. Give the block more room (rows, tracks or layers), or another placement, or look for obstructions, blockages and wires of the block between the pieces of a net"
front_of reason = []

-- the component or the net that is named then
abbrev pub name_of : {A : Type 0} → Reason A → List ℕ
name_of (NoSite component) = component
name_of (NoRoom component) = component
name_of (Unroutable net None) = net
name_of (Unroutable net (Some piece)) = net
name_of (Unreachable net piece) = net
name_of reason = []

-- what is said of it
abbrev pub middle_of : {A : Type 0} → Reason A → List ℕ
middle_of (NoSite component) = codes " fits no row: its macro has to be exactly as high as its SITE and a whole number of sites wide, and a ROW has to have that site. FIXED, it would be OFFSITE. Give a cell of several rows' height a SITE of its own, with rows of it, or its macro no SITE, so that it stays where it is (docs/RECIPES.md)"
middle_of (NoRoom component) = codes ": no free stretch of sites was long enough for it at its turn: take out fillers (tools/drop-fillers) or placement blockages, give the block more rows, or lower the utilisation"
middle_of (Unroutable net None) = codes ": no way on the tracks was left at its turn, though with no other net routed a way leads from each of its pieces to another one. If wires that were laid before are in its way, try the command finish, which lays them again, or a lower density, or what tools/ease-routing makes of the block, with --first and the name of this net (docs/RECIPES.md). If it lies in parts that no way joins, look for obstructions, blockages and wires of the block between its pieces"
middle_of (Unroutable net (Some piece)) = codes ": nothing leads from "
middle_of (Unreachable net piece) = codes ": nothing leads from "
middle_of reason = []

-- the limit that is told then, if one is
abbrev pub limit_text : {A : Type 0} → Reason A → List ℕ
limit_text (GridTooLarge limit) = decimal limit
limit_text reason = []

-- the piece of a net that is named then
abbrev pub piece_of : {A : Type 0} → Reason A → List ℕ
piece_of (Unroutable net (Some piece)) = piece
piece_of (Unreachable net piece) = piece
piece_of reason = []

-- what is said last
abbrev pub end_of : {A : Type 0} → Reason A → List ℕ
end_of (GridTooLarge limit) = codes " tracks, and as many slots, one for each routing layer, x value and y value: use coarser tracks, or take a part of the block"
end_of (Unroutable net (Some piece)) = codes " to the rest of it, even with no other net routed: it may be unplaced or off the tracks, or have obstructions, blockages or wires of the block around it. Give the block tracks through it, or try what tools/ease-routing makes of the block (docs/RECIPES.md)"
end_of (Unreachable net piece) = codes " to another piece of it, whatever other nets do: look for obstructions, blockages and wires around it, give the block tracks through its pin, or try finish on what tools/ease-routing makes of the block (docs/RECIPES.md)"
end_of reason = []

-- what to do about the reason; nothing where a text is refused
abbrev pub advice_of : {A : Type 0} → Reason A → List ℕ
advice_of reason =
    front_of reason ++ map shown_byte (name_of reason) ++ middle_of reason ++ limit_text reason
    ++ map shown_byte (piece_of reason) ++ end_of reason

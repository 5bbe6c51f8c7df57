-- Kinds of violations, and the components that they name.
use Rattle.std.specs.Prelude.{ℕ, Bool, false, ◌||◌, ◌==◌, List, codes, bytes_eq}
use Rattle.leg_design_records.specs.declared.fault.Fault.{Fault}
use Rattle.leg_design_records.specs.declared.fault.Fault.TheVariants.{Unplaced, Outside, OffSite, Overlap, Blocked, Short, TooNear, OpenNet}

-- the kind of a violation: the first word of its line
abbrev pub kind_of : Fault → List ℕ
kind_of (Unplaced c) = codes "UNPLACED"
kind_of (Outside c) = codes "OUTSIDE"
kind_of (OffSite c) = codes "OFFSITE"
kind_of (Overlap a b) = codes "OVERLAP"
kind_of (Blocked c) = codes "BLOCKED"
kind_of (Short i j) = codes "SHORT"
kind_of (TooNear i j) = codes "TOONEAR"
kind_of (OpenNet n k) = codes "OPEN"

-- the violation is of this kind
abbrev pub is_of : List ℕ → Fault → Bool
is_of kind violation = bytes_eq (kind_of violation) kind

-- the violation is one of placement, and names this component
abbrev pub names : ℕ → Fault → Bool
names c (Unplaced a) = c == a
names c (Outside a) = c == a
names c (OffSite a) = c == a
names c (Overlap a b) = (c == a) || (c == b)
names c (Blocked a) = c == a
names c (Short i j) = false
names c (TooNear i j) = false
names c (OpenNet n k) = false

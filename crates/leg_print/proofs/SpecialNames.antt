-- The terminals of the entry of SPECIALNETS that has a name.
use Rattle.std.proofs.Common.{◌≡◌, ℕ, List, [], None, Some, slice_get, refl}
use Rattle.leg_lex.specs.NameLookup.{place_of}
use Rattle.leg_design_records.specs.Records.{DesignModel, NetModel, net_names}
use Rattle.leg_rules.specs.Metal.Nets.{special_named, entry_terminals}

-- those of the entry that is found
pub terminals_found : (design : DesignModel) (name : List ℕ) (i : ℕ) (net : NetModel) → place_of name (net_names design.special) ≡ Some i
    → slice_get design.special i ≡ Some net → entry_terminals (special_named design name) ≡ net.terminals
terminals_found design name i net found there = rw (found, there) refl

-- and where there is none
pub nothing_there : (design : DesignModel) (name : List ℕ) (i : ℕ) → place_of name (net_names design.special) ≡ Some i → slice_get design.special i ≡ None
    → entry_terminals (special_named design name) ≡ []
nothing_there design name i found there = rw (found, there) refl

pub nothing_named : (design : DesignModel) (name : List ℕ) → place_of name (net_names design.special) ≡ None → entry_terminals (special_named design name) ≡ []
nothing_named design name found = rw found refl

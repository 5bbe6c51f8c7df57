-- The design that the forms of a text make, once the lone pins are added.
use Rattle.std.proofs.Common.{◌≡◌, ℕ, ◌+◌, ◌≤◌, arith, nat_lt, ◌&&◌, Bool, true, false, Option, Some, None, refl, sym, subst}
use Rattle.std.specs.List.{list_any}
use Rattle.std.proofs.lemmas.Bool.Decides.{nat_tests}
use Rattle.leg_design_records.specs.declared.limits.TheConstants.{PART_LIMIT}
use Rattle.leg_design_records.specs.Records.{DesignModel, terminal_count}
use Rattle.leg_design_nets.proofs.LonePins.{no_fewer}
use Rattle.leg_grammar.specs.Def.Guard.{unless}
use Rattle.leg_grammar.specs.Def.DroppedRow.{have_site}
use Rattle.leg_grammar.specs.Def.Parts.{DesignParts}
use Rattle.leg_grammar.specs.Def.Form.{all_nets, with_all_nets, design_of}

-- the terminals of all nets, with the lone pins too
abbrev pub all_terminals : DesignModel → ℕ
all_terminals design = terminal_count (all_nets design).nets + terminal_count (all_nets design).special

-- DESIGN, UNITS and DIEAREA have appeared
abbrev pub is_whole : DesignParts → Bool
is_whole parts = parts.has.name && parts.has.units && parts.has.die

-- no component's macro has the site of a row that was dropped
abbrev pub unused : DesignParts → Option (Unit {0})
unused parts = unless (list_any (have_site parts.design.library parts.design.components) parts.dropped)

-- one of them hasn't appeared
pub not_whole : (parts : DesignParts) → is_whole parts ≡ false → design_of parts ≡ None
unfolding design_of
not_whole parts lacks = rw (lacks) refl

-- a component's macro has such a site
pub site_is_used : (parts : DesignParts) → is_whole parts ≡ true → unused parts ≡ None → design_of parts ≡ None
unfolding design_of
site_is_used parts whole used = rw (whole, used) refl

-- without the lone pins there are too many terminals
pub too_many_before : (parts : DesignParts) → is_whole parts ≡ true → unused parts ≡ Some tt
    → nat_lt PART_LIMIT (terminal_count parts.design.nets + terminal_count parts.design.special) ≡ true → design_of parts ≡ None
unfolding design_of
too_many_before parts whole free many =
    let more : terminal_count parts.design.nets + terminal_count parts.design.special ≤ all_terminals parts.design =
    no_fewer (record { nets = parts.design.nets; special = parts.design.special }) 0 parts.design.pins in
    let still : nat_lt PART_LIMIT (all_terminals parts.design) ≡ true = grind (arith, nat_tests, more, many) in
    rw (whole, free, still) refl

-- with the lone pins there are too many terminals
pub too_many : (parts after : DesignParts) → after ≡ record parts { design = with_all_nets parts.design } → is_whole parts ≡ true → unused parts ≡ Some tt
    → nat_lt PART_LIMIT (terminal_count after.design.nets + terminal_count after.design.special) ≡ true → design_of parts ≡ None
unfolding design_of
too_many parts after is whole free =
    subst (λ (a : DesignParts). nat_lt PART_LIMIT (terminal_count a.design.nets + terminal_count a.design.special) ≡ true → design_of parts ≡ None) (sym is)
    (λ many. rw (whole, free, many) refl)

-- the design with its lone pins
pub design_made : (parts after : DesignParts) → after ≡ record parts { design = with_all_nets parts.design } → is_whole parts ≡ true → unused parts ≡ Some tt
    → nat_lt PART_LIMIT (terminal_count after.design.nets + terminal_count after.design.special) ≡ false → design_of parts ≡ Some after.design
unfolding design_of
design_made parts after is whole free =
    subst (λ (a : DesignParts). nat_lt PART_LIMIT (terminal_count a.design.nets + terminal_count a.design.special) ≡ false → design_of parts ≡ Some a.design)
    (sym is) (λ few. rw (whole, free, few) refl)

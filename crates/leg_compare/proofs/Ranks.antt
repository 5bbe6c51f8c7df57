-- Ranks of differences, and what stands between two of them.
use Rattle.std.proofs.Common.{◌≡◌, ◌≢◌, ℕ, List, [], ◌∷◌, get_or, ◌+◌, ◌<◌, ◌≤◌, ◌⊎◌, inl, inr, refl, sym, ap, ◌∙◌, arith}
use Rattle.std.proofs.lemmas.Bool.{cases_lt}
use Rattle.leg_rules.specs.declared.difference.Part.{Part}
use Rattle.leg_rules.specs.declared.difference.Part.TheVariants.{Name, Divider, BusBits, Die, Rows, Tracks, Blockages}
use Rattle.leg_rules.specs.declared.difference.Section.{Section}
use Rattle.leg_rules.specs.declared.difference.Section.TheVariants.{Vias, Components, Pins, SpecialNets, Nets}
use Rattle.leg_rules.specs.declared.difference.Change.{Change}
use Rattle.leg_rules.specs.declared.difference.Change.TheVariants.{Shapes, Macro, Place, Status, NetName, Direction, Usage, Ports, Terminals, LostWires, MoreWires}
use Rattle.leg_rules.specs.declared.difference.Difference.{Difference}
use Rattle.leg_rules.specs.declared.difference.Difference.TheVariants.{Whole, Gone, Changed, Added}
use Rattle.leg_rules.specs.Compare.Order.{part_number, section_number, change_number, Rank, rank, IsBelow}
use Rattle.leg_compare.specs.Steps.Listing.{at}

-- a part, a section and a change are known by their numbers
parts : List Part
parts = Name ∷ Divider ∷ BusBits ∷ Die ∷ Rows ∷ Tracks ∷ Blockages ∷ []

part_there : (part : Part) → get_or parts (part_number part) Name ≡ part
unfolding parts
part_there Name = refl
part_there Divider = refl
part_there BusBits = refl
part_there Die = refl
part_there Rows = refl
part_there Tracks = refl
part_there Blockages = refl

sections : List Section
sections = Vias ∷ Vias ∷ Vias ∷ Components ∷ Components ∷ Pins ∷ Pins ∷ SpecialNets ∷ SpecialNets ∷ Nets ∷ []

section_there : (section : Section) → get_or sections (section_number section) Vias ≡ section
unfolding sections
section_there Vias = refl
section_there Components = refl
section_there Pins = refl
section_there SpecialNets = refl
section_there Nets = refl

changes : List Change
changes = Shapes ∷ Shapes ∷ Macro ∷ Status ∷ Place ∷ NetName ∷ Direction ∷ Usage ∷ Ports ∷ Terminals ∷ LostWires ∷ MoreWires ∷ []

change_there : (change : Change) → get_or changes (change_number change) Shapes ≡ change
unfolding changes
change_there Shapes = refl
change_there Macro = refl
change_there Status = refl
change_there Place = refl
change_there NetName = refl
change_there Direction = refl
change_there Usage = refl
change_there Ports = refl
change_there Terminals = refl
change_there LostWires = refl
change_there MoreWires = refl

pub same_part : (p q : Part) → part_number p ≡ part_number q → p ≡ q
same_part p q same = sym (part_there p) ∙ ap (λ n. get_or parts n Name) same ∙ part_there q

pub same_section : (s t : Section) → section_number s ≡ section_number t → s ≡ t
same_section s t same = sym (section_there s) ∙ ap (λ n. get_or sections n Vias) same ∙ section_there t

pub same_change : (c e : Change) → change_number c ≡ change_number e → c ≡ e
same_change c e same = sym (change_there c) ∙ ap (λ n. get_or changes n Shapes) same ∙ change_there e

-- numbers of parts are below 7, those of sections are odd and below 10, and those of changes are from 1 to 11
pub part_low : (part : Part) → part_number part < 7
part_low Name = omega arith
part_low Divider = omega arith
part_low BusBits = omega arith
part_low Die = omega arith
part_low Rows = omega arith
part_low Tracks = omega arith
part_low Blockages = omega arith

half : Section → ℕ
half Vias = 0
half Components = 1
half Pins = 2
half SpecialNets = 3
half Nets = 4

odd : (section : Section) → section_number section ≡ half section + half section + 1
unfolding half
odd Vias = refl
odd Components = refl
odd Pins = refl
odd SpecialNets = refl
odd Nets = refl

pub section_some : (section : Section) → 1 ≤ section_number section
section_some Vias = omega arith
section_some Components = omega arith
section_some Pins = omega arith
section_some SpecialNets = omega arith
section_some Nets = omega arith

pub section_low : (section : Section) → section_number section < 10
section_low Vias = omega arith
section_low Components = omega arith
section_low Pins = omega arith
section_low SpecialNets = omega arith
section_low Nets = omega arith

pub apart : (s t : Section) → section_number s ≢ section_number t + 1
apart s t same = omega (arith, odd s, odd t)

pub change_low : (change : Change) → change_number change < 12
change_low Shapes = omega arith
change_low Macro = omega arith
change_low Status = omega arith
change_low Place = omega arith
change_low NetName = omega arith
change_low Direction = omega arith
change_low Usage = omega arith
change_low Ports = omega arith
change_low Terminals = omega arith
change_low LostWires = omega arith
change_low MoreWires = omega arith

pub change_some : (change : Change) → 1 ≤ change_number change
change_some Shapes = omega arith
change_some Macro = omega arith
change_some Status = omega arith
change_some Place = omega arith
change_some NetName = omega arith
change_some Direction = omega arith
change_some Usage = omega arith
change_some Ports = omega arith
change_some Terminals = omega arith
change_some LostWires = omega arith
change_some MoreWires = omega arith

pub same_rank : (d e : Difference) → rank d ≡ rank e → d ≡ e
same_rank (Whole p) (Whole q) same = ap Whole (same_part p q (ap (λ (r : Rank). r.entry) same))
same_rank (Whole p) (Gone t j) same = absurd (omega (arith, odd t, ap (λ (r : Rank). r.stage) same))
same_rank (Whole p) (Changed t c j) same = absurd (omega (arith, odd t, ap (λ (r : Rank). r.stage) same))
same_rank (Whole p) (Added t j) same = absurd (omega (arith, ap (λ (r : Rank). r.stage) same))
same_rank (Gone s i) (Whole q) same = absurd (omega (arith, odd s, ap (λ (r : Rank). r.stage) same))
same_rank (Gone s i) (Gone t j) same =
    let section = same_section s t (ap (λ (r : Rank). r.stage) same) in
    let entry = ap (λ (r : Rank). r.entry) same in
    λ k. Gone (section k) (entry k)
same_rank (Gone s i) (Changed t c j) same = absurd (omega (arith, change_some c, ap (λ (r : Rank). r.change) same))
same_rank (Gone s i) (Added t j) same = absurd (apart s t (ap (λ (r : Rank). r.stage) same))
same_rank (Changed s b i) (Whole q) same = absurd (omega (arith, odd s, ap (λ (r : Rank). r.stage) same))
same_rank (Changed s b i) (Gone t j) same = absurd (omega (arith, change_some b, ap (λ (r : Rank). r.change) same))
same_rank (Changed s b i) (Changed t c j) same =
    let section = same_section s t (ap (λ (r : Rank). r.stage) same) in
    let change = same_change b c (ap (λ (r : Rank). r.change) same) in
    let entry = ap (λ (r : Rank). r.entry) same in
    λ k. Changed (section k) (change k) (entry k)
same_rank (Changed s b i) (Added t j) same = absurd (apart s t (ap (λ (r : Rank). r.stage) same))
same_rank (Added s i) (Whole q) same = absurd (omega (arith, ap (λ (r : Rank). r.stage) same))
same_rank (Added s i) (Gone t j) same = absurd (apart t s (sym (ap (λ (r : Rank). r.stage) same)))
same_rank (Added s i) (Changed t c j) same = absurd (apart t s (sym (ap (λ (r : Rank). r.stage) same)))
same_rank (Added s i) (Added t j) same =
    let section = same_section s t (omega (arith, ap (λ (r : Rank). r.stage) same)) in
    let entry = ap (λ (r : Rank). r.entry) same in
    λ k. Added (section k) (entry k)

-- the next rank of one entry
abbrev pub after : Rank → Rank
after b = at b.stage b.entry (b.change + 1)

pub below_after : (r b : Rank) → IsBelow r b → IsBelow r (after b)
below_after r b h = record {
  stage = h.stage;
  entry = h.entry;
  change = λ s e. omega (arith, h.change s e);
}

pub itself_before_after : (b : Rank) → IsBelow b (after b)
itself_before_after b = record {
  stage = omega arith;
  entry = λ s. omega arith;
  change = λ s e. omega arith;
}

-- what is below the next rank is below this one, or of this one
pub below_or_at : (r b : Rank) → IsBelow r (after b) → IsBelow r b ⊎ (r ≡ b)
below_or_at r b h =
    elim (cases_lt r.stage b.stage) [
      | inl less ↦ inl (record { stage = omega arith; entry = λ s. absurd (omega (arith, s)); change = λ s e. absurd (omega (arith, s)) })
      | inr more ↦ stage_is (omega (arith, h.stage))
    ] where
      change_is : r.stage ≡ b.stage → r.entry ≡ b.entry → IsBelow r b ⊎ (r ≡ b)
      change_is s e =
          elim (cases_lt r.change b.change) [
            | inl less ↦ inl (record { stage = omega (arith, s); entry = λ _. omega (arith, e); change = λ _ _. less })
            | inr more ↦ inr (let c : r.change ≡ b.change = omega (arith, h.change s e) in λ k. record { stage = s k; entry = e k; change = c k })
          ]

      stage_is : r.stage ≡ b.stage → IsBelow r b ⊎ (r ≡ b)
      stage_is s =
          elim (cases_lt r.entry b.entry) [
            | inl less ↦ inl (record { stage = omega (arith, s); entry = λ _. omega arith; change = λ _ e. absurd (omega (arith, e)) })
            | inr more ↦ change_is s (omega (arith, h.entry s))
          ]

-- What to do about a form that is not supported, and about a macro or a rule that is not known, by the profile in which the texts are read.
use Rattle.std.specs.Prelude.{Bool, ℕ, List, [], ◌||◌, if◌then◌else◌, codes}
use Rattle.leg_lex.specs.declared.read_fault.FaultKind.{FaultKind}
use Rattle.leg_lex.specs.declared.read_fault.FaultKind.TheVariants as kinds
use Rattle.leg_lex.specs.declared.read_fault.NameKind.TheVariants as names
use Rattle.leg_lex.specs.declared.read_fault.Need.{Need}
use Rattle.leg_lex.specs.declared.read_fault.Need.TheVariants as needs
use Rattle.leg_lex.specs.Words.{is_keyword}
use Rattle.leg_grammar.specs.declared.profile.Masks.{Masks}
use Rattle.leg_grammar.specs.declared.profile.Masks.TheVariants as masks
use Rattle.leg_grammar.specs.declared.profile.Soft.{Soft}
use Rattle.leg_grammar.specs.declared.profile.Soft.TheVariants as soft
use Rattle.leg_grammar.specs.declared.profile.Profile.{Profile}
use Rattle.leg_grammar.specs.declared.profile.Profile.TheVariants.{Narrow, Wide}

-- an orientation other than N
abbrev pub is_turn : List ℕ → Bool
is_turn word =
    is_keyword (codes "S") word || is_keyword (codes "W") word || is_keyword (codes "E") word || is_keyword (codes "FN") word
    || is_keyword (codes "FS") word || is_keyword (codes "FW") word || is_keyword (codes "FE") word

-- a placement blockage that is read by an option alone
abbrev pub is_soft : List ℕ → Bool
is_soft word = is_keyword (codes "SOFT") word || is_keyword (codes "PARTIAL") word

-- the option that reads a form of a DEF in the narrow profile, by the word at fault
abbrev pub def_option : List ℕ → List ℕ
def_option word =
    if is_keyword (codes "VIARULE") word then codes ": with --wide before the command such a via is read"
    else (if is_keyword (codes "DO") word then codes ": with --wide before the command an array of vias is read in SPECIALNETS"
    else (if is_keyword (codes "RECT") word || is_keyword (codes "VIA") word then codes ": with --wide before the command it is read in SPECIALNETS and PINS"
    else (if is_keyword (codes "VIRTUAL") word then codes ": with --wide before the command it is read in NETS"
    else (if is_keyword (codes "COMPONENT") word || is_keyword (codes "SLOTS") word || is_keyword (codes "FILLS") word then codes ": with --wide before the command it is read"
    else (if is_keyword (codes "MASK") word then codes ": with --wide --masks drop before the command it is read past"
    else (if is_soft word then codes ": with --wide --soft drop before the command such a blockage is taken out, and with --wide --soft hard it is one as any other"
    else (if is_keyword (codes "NONDEFAULTRULE") word || is_keyword (codes "TAPERRULE") word then codes ": with --wide before the command it is read in NETS"
    else (if is_keyword (codes "POLYGON") word then codes ": with --wide before the command it is read in PINS, BLOCKAGES and SPECIALNETS, if its sides are horizontal and vertical"
    else (if is_turn word then codes ": with --wide before the command a via that is turned is read"
    else [])))))))))

-- the same of a LEF
abbrev pub lef_option : List ℕ → List ℕ
lef_option word =
    if is_keyword (codes "POLYGON") word then codes ": with --wide before the command it is read, if its sides are horizontal and vertical"
    else (if is_keyword (codes "ITERATE") word then codes ": with --wide before the command each copy is read"
    else (if is_keyword (codes "EXCEPTPGNET") word then codes ": with --wide before the command it is read past"
    else (if is_keyword (codes "MASK") word then codes ": with --wide --masks drop before the command it is read past"
    else (if is_keyword (codes "VIA") word then codes ": with --wide before the command it is read"
    else (if is_keyword (codes "PATH") word then codes ": with --wide before the command it is read, if its lines are horizontal or vertical and its width is even"
    else [])))))

-- in the wide profile, where masks are refused
abbrev pub masks_option : Masks → List ℕ
masks_option masks.Refused = codes ": with --masks drop behind --wide it is read past"
masks_option masks.Dropped = []

-- in the wide profile, where soft blockages are refused
abbrev pub soft_option : Soft → List ℕ
soft_option soft.Refused = codes ": with --soft drop behind --wide such a blockage is taken out, and with --soft hard it is one as any other"
soft_option soft.Dropped = []
soft_option soft.Hard = []

-- what to do about a form of a DEF in the wide profile with these options, by the word at fault
abbrev pub further_option : Masks → Soft → List ℕ → List ℕ
further_option mask blockage word =
    if is_keyword (codes "MASK") word then masks_option mask
    else (if is_soft word then soft_option blockage
    else (if is_keyword (codes "POLYGON") word then codes ": it is read in PINS, BLOCKAGES and SPECIALNETS, if its sides are horizontal and vertical, in SPECIALNETS without a part that is one square unit"
    else []))

-- what to do about a form that is not supported, in a LEF or else in a DEF
abbrev pub remedy : Profile → Bool → List ℕ → List ℕ
remedy Narrow is_lef word = if is_lef then lef_option word else def_option word
remedy (Wide mask blockage) is_lef word = if is_lef then [] else further_option mask blockage word

-- a macro that is not known may be one that is left out
abbrev pub left_out_text : Profile → List ℕ
left_out_text Narrow = []
left_out_text (Wide masks.Refused blockage) = codes "; with --wide a macro that has a form which is not read is left out, and one with a MASK is read with --masks drop (docs/FORMATS.md)"
left_out_text (Wide masks.Dropped blockage) = codes "; with --wide a macro that has a form which is not read is left out (docs/FORMATS.md)"

-- a rule of the DEF that is not known may be one that cannot be read
abbrev pub unread_rule_text : List ℕ
unread_rule_text = codes "; an entry of NONDEFAULTRULES that cannot be read is none (docs/FORMATS.md)"

-- about a name that is not known
abbrev pub unknown_advice : Profile → Need → List ℕ
unknown_advice profile (needs.Known names.Macro) = left_out_text profile
unknown_advice profile (needs.Known names.Rule) = unread_rule_text
unknown_advice profile need = []

-- what to do about a fault of this kind, by what is needed and the word at fault, in a LEF or else in a DEF
abbrev pub advice_on : Profile → FaultKind → Need → Bool → List ℕ → List ℕ
advice_on profile kinds.Unsupported need is_lef word = remedy profile is_lef word
advice_on profile kinds.UnknownName need is_lef word = unknown_advice profile need
advice_on profile kind need is_lef word = []

-- The options before a command (lefdef's own rules): --wide, and with it --masks drop, and --soft drop or --soft hard; each stands once at
-- most, in any order.
use Rattle.std.specs.Prelude.{ℕ, Bool, true, false, not, ◌&&◌, ◌||◌, if◌then◌else◌, List, [], ◌∷◌, Option, None, Some, is_some, unwrap_or, codes}
use Rattle.std.specs.Str.{bytes_eq}
use Rattle.leg_grammar.specs.declared.profile.Masks.{Masks}
use Rattle.leg_grammar.specs.declared.profile.Masks.TheVariants as masks
use Rattle.leg_grammar.specs.declared.profile.Soft.{Soft}
use Rattle.leg_grammar.specs.declared.profile.Soft.TheVariants as soft
use Rattle.leg_grammar.specs.declared.profile.Profile.{Profile}
use Rattle.leg_grammar.specs.declared.profile.Profile.TheVariants.{Narrow, Wide}
use Rattle.leg_app_input.specs.declared.options.Options.{Options}

abbrev pub no_options : Options
no_options = record { wide = false; masks = None; soft = None }

-- what the word after --masks asks for, and the words behind it
abbrev pub masks_at : List (List ℕ) → Option (Masks × List (List ℕ))
masks_at [] = None
masks_at (word ∷ words) = if bytes_eq word (codes "drop") then Some (masks.Dropped, words) else None

-- what the word after --soft asks for, and the words behind it
abbrev pub soft_at : List (List ℕ) → Option (Soft × List (List ℕ))
soft_at [] = None
soft_at (word ∷ words) =
    if bytes_eq word (codes "drop") then Some (soft.Dropped, words)
    else (if bytes_eq word (codes "hard") then Some (soft.Hard, words) else None)

-- --masks with its word, once: else all of these words are left
abbrev pub with_masks : Options → List (List ℕ) → Option (Masks × List (List ℕ)) → Options × List (List ℕ)
with_masks options words None = (options, words)
with_masks options words (Some taken) = if is_some options.masks then (options, words) else (record options { masks = Some taken.0 }, taken.1)

-- --soft with its word, once
abbrev pub with_soft : Options → List (List ℕ) → Option (Soft × List (List ℕ)) → Options × List (List ℕ)
with_soft options words None = (options, words)
with_soft options words (Some taken) = if is_some options.soft then (options, words) else (record options { soft = Some taken.0 }, taken.1)

-- the option that stands first, if one does that may, and the words behind it
abbrev pub after_option : Options → List (List ℕ) → Options × List (List ℕ)
after_option options [] = (options, [])
after_option options (word ∷ words) =
    if bytes_eq word (codes "--wide") && not options.wide then (record options { wide = true }, words)
    else (if bytes_eq word (codes "--masks") then with_masks options (word ∷ words) (masks_at words)
    else (if bytes_eq word (codes "--soft") then with_soft options (word ∷ words) (soft_at words) else (options, word ∷ words)))

-- all options, of which there are three at most, and the words behind them
abbrev pub after_options : List (List ℕ) → Options × List (List ℕ)
after_options words =
    let first = after_option no_options words in
    let second = after_option first.0 first.1 in
    after_option second.0 second.1

-- the profile that options ask for; none where one stands without --wide
abbrev pub profile_of : Options → Option Profile
profile_of options =
    if options.wide then Some (Wide (unwrap_or options.masks masks.Refused) (unwrap_or options.soft soft.Refused))
    else (if is_some options.masks || is_some options.soft then None else Some Narrow)

-- a word that names an option
abbrev pub names_option : List ℕ → Bool
names_option word = bytes_eq word (codes "--wide") || bytes_eq word (codes "--masks") || bytes_eq word (codes "--soft")

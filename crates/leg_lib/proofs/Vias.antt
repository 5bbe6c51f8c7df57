-- Vias: a via takes a word, and what the loop over its statements keeps.
use Rattle.std.proofs.Common.{◌≡◌, ℕ, ◌+◌, ◌<◌, ◌≤◌, Bool, true, false, not, ◌&&◌, List, [], ◌∷◌, ◌++◌, length, get_or, drop, Option, None, Some, is_none, if◌then◌else◌, codes, refl, arith, length-drop}
use Rattle.leg_lex.specs.Words.{Words, ◌>>=◌, is_at}
use Rattle.leg_lex.specs.Until.{over}
use Rattle.leg_lex.specs.NameLookup.{place_of}
use Rattle.leg_lex.proofs.Until.{Below, below_none, below_some, below_bind, below_ask, below_if}
use Rattle.leg_lex.proofs.EachElement.{over_ends, over_goes_on, over_fails}
use Rattle.leg_lex.proofs.Shorter.{keyword_below, name_below, end_of_below}
use Rattle.leg_lex.proofs.Statements.{statements_below}
use Rattle.leg_lib_records.specs.Records.{RawLibraryModel, raw_via_names}
use Rattle.leg_grammar.specs.declared.profile.Profile.{Profile}
use Rattle.leg_grammar.specs.Lef.Via.{Flags, no_flags, flag_at, flags_at, ViaParts, via_part, via_parts_in, is_good, kept, via_at, with_via}

-- where the last step says nothing, neither do the steps before it
pub nothing_said : {X Y : Type 0} (said : Option X) (last : Option Y) → last ≡ None → (said >>= λ x. last) ≡ None
nothing_said None last none = refl
nothing_said (Some x) last none = none

drop_no_longer : (words : Words) → length (drop 1 words) ≤ length words
drop_no_longer words = let left = length-drop 1 words in omega arith

either_no_longer : (n : ℕ) (test : Bool) (a b : Flags × Words) → length a.1 ≤ n → length b.1 ≤ n → length (if test then a else b).1 ≤ n
either_no_longer n true a b one other = one
either_no_longer n false a b one other = other

flag_no_longer : (flags : Flags) (words : Words) → length (flag_at flags words).1 ≤ length words
unfolding flag_at
flag_no_longer flags words =
    let less = drop_no_longer words in
    either_no_longer (length words) (is_at (codes "DEFAULT") words && not flags.is_default) (record flags { is_default = true }, drop 1 words) _ less
    (either_no_longer (length words) (is_at (codes "TOPOFSTACKONLY") words && not flags.is_top_only) (record flags { is_top_only = true }, drop 1 words) _ less
    (either_no_longer (length words) (is_at (codes "GENERATED") words && not flags.is_generated) (record flags { is_generated = true }, drop 1 words)
    (flags, words) less (omega arith)))

flags_no_longer : (words : Words) → length (flags_at words).1 ≤ length words
unfolding flags_at
flags_no_longer words =
    let first = flag_at no_flags words in
    let second = flag_at first.0 first.1 in
    let a = flag_no_longer no_flags words in
    let b = flag_no_longer first.0 first.1 in
    let c = flag_no_longer second.0 second.1 in
    omega arith

pub via_below : (profile : Profile) (library : RawLibraryModel) (words : Words) → Below (length words) (via_at profile library words)
unfolding via_at
via_below profile library words =
    below_bind (omega arith) (keyword_below (codes "VIA") words) (λ start less.
    below_bind (omega arith) (name_below start.1) (λ name fewer.
    let no_more = flags_no_longer name.1 in
    below_bind (omega arith) (statements_below (flags_at name.1).1) (λ body shorter.
    below_ask (via_parts_in profile library body.0) (λ parts.
    below_bind (omega arith) (end_of_below name.0 body.1) (λ end last.
    below_some (record {
      name = name.0;
      default_via = (flags_at name.1).0.is_default;
      good = is_good library name.0 parts;
      shapes = kept (is_good library name.0 parts) parts.drawn.shapes;
    }) end.1 last)))))

pub with_via_below : (profile : Profile) (library : RawLibraryModel) (words : Words) → Below (length words) (with_via profile library words)
unfolding with_via
with_via_below profile library words =
    below_bind (omega arith) (via_below profile library words) (λ via less.
    below_if (is_none (place_of via.0.name (raw_via_names library)))
    (below_some (record library { vias = library.vias ++ via.0 ∷ [] }) via.1 less)
    (below_none (length words)))

-- the loop over a via's statements
pub parts_on : (profile : Profile) (library : RawLibraryModel) (before next : ViaParts) (statements : List Words) (i : ℕ) (x : Words) → i < length statements
    → x ≡ get_or statements i x → via_part profile library before x ≡ Some next
    → over (via_part profile library) before (drop i statements) ≡ over (via_part profile library) next (drop (i + 1) statements)
parts_on profile library before next statements i x less is said =
    over_goes_on (via_part profile library) before next statements i x less is said

pub parts_fail : (profile : Profile) (library : RawLibraryModel) (before : ViaParts) (statements : List Words) (i : ℕ) (x : Words) → i < length statements
    → x ≡ get_or statements i x → via_part profile library before x ≡ None → over (via_part profile library) before (drop i statements) ≡ None
parts_fail profile library before statements i x less is said =
    over_fails (via_part profile library) before statements i x less is said

pub parts_end : (profile : Profile) (library : RawLibraryModel) (before : ViaParts) (statements : List Words) (i : ℕ) → length statements ≤ i
    → over (via_part profile library) before (drop i statements) ≡ Some before
parts_end profile library before statements i past = over_ends (via_part profile library) before statements i past

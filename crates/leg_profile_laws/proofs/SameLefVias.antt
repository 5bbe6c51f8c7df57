-- What vias of a LEF say in the narrow profile they say in each, where none is of a rule or has a polygon, and no rectangle has a mask.
use Rattle.std.proofs.Common.{◌≡◌, ℕ, Bool, true, false, not, ◌&&◌, ◌||◌, List, [], ◌∷◌, All, drop, Option, None, Some, codes, if◌then◌else◌, refl}
use Rattle.std.proofs.lemmas.Bool.{or_parts}
use Rattle.std.proofs.lemmas.List.Elements.{All-head, All-filter}
use Rattle.std.specs.List.{list_any}
use Rattle.leg_lex.specs.Words.{Words, ◌>>=◌, is_at, is_keyword, is_word, next_at, word_at, keyword_at, name_at, end_of, nothing_at}
use Rattle.leg_lex.specs.Until.{over}
use Rattle.leg_lex.specs.Statements.{statements_at, those, at_most_one, only, the}
use Rattle.leg_lex.proofs.Gives.{Gives, gives_none, gives_some, gives_bind, gives_skip, gives_if}
use Rattle.leg_lex.proofs.GivesAll.{over_gives}
use Rattle.leg_lib_records.specs.declared.raw.RawShape.{RawShape}
use Rattle.leg_lib_records.specs.Records.{RawLibraryModel}
use Rattle.leg_grammar.specs.declared.profile.Profile.{Profile}
use Rattle.leg_grammar.specs.declared.profile.Profile.TheVariants.{Narrow, Wide}
use Rattle.leg_grammar.specs.declared.profile.Masks.{Masks}
use Rattle.leg_grammar.specs.declared.profile.Masks.TheVariants.{Refused, Dropped}
use Rattle.leg_grammar.specs.declared.profile.Soft.{Soft}
use Rattle.leg_grammar.specs.Mask.{drops_masks}
use Rattle.leg_grammar.specs.Def.Guard.{unless}
use Rattle.leg_grammar.specs.Def.GeneratedVia.{is_generated, is_drawn, after_keyword, rule_in}
use Rattle.leg_grammar.specs.Lef.Geometry.{on_layer, drawn_rect}
use Rattle.leg_grammar.specs.Lef.GeneratedVia.{raw_generated_in, raw_generated_shapes}
use Rattle.leg_grammar.specs.Lef.Via.{Flags, no_flags, flag_at, flags_at, ViaParts, no_via_parts, layer_of_via, spoils, via_part, generated_parts, via_parts_in, is_good, kept, via_at, with_via}
use Rattle.leg_profile_laws.specs.WiderForms.{is_wider_word}
use Rattle.leg_profile_laws.proofs.Keeps.{Keeps, keeps_none, keeps_itself, keeps_bind, keeps_if, keeps_known, over_keeps_all}
use Rattle.leg_profile_laws.proofs.Follows.{Finds}
use Rattle.leg_profile_laws.proofs.PlainWords.{ArePlain, IsPlain, is_one_more, later_plain, keyword_plain, name_plain, statements_plain}
use Rattle.leg_profile_laws.proofs.SameGeometry.{drawn_rect_keeps}

-- what a plain statement is not
record IsNone (masks : Masks) (soft : Soft) (statement : Words) : Type 0 where
  polygon : is_at (codes "POLYGON") statement ≡ false
  rule : (is_at (codes "VIARULE") statement && is_one_more (drop 1 statement)) ≡ false
  mask : (drops_masks (Wide masks soft) && is_at (codes "RECT") statement && is_at (codes "MASK") (drop 1 statement)) ≡ false

nothing_masked : (masks : Masks) (soft : Soft) → (drops_masks (Wide masks soft) && false && false) ≡ false
nothing_masked Refused soft = refl
nothing_masked Dropped soft = refl

is_none : (masks : Masks) (soft : Soft) (statement : Words) → IsPlain (Wide masks soft) statement → IsNone masks soft statement
is_none masks soft [] plain = record { polygon = refl; rule = refl; mask = nothing_masked masks soft }
is_none masks soft (word ∷ words) plain =
    let mask : Bool = drops_masks (Wide masks soft) && is_keyword (codes "RECT") word && is_at (codes "MASK") words in
    let rule : Bool = is_keyword (codes "VIARULE") word && is_one_more words in
    let two = or_parts (is_wider_word word || rule) mask plain in
    let one = or_parts (is_wider_word word) rule two.0 in
    let word_is = or_parts (is_keyword (codes "POLYGON") word) (is_keyword (codes "NONDEFAULTRULE") word) one.0 in
    record { polygon = word_is.0; rule = one.1; mask = two.1 }

spoils_same : (masks : Masks) (soft : Soft) (statement : Words) → IsNone masks soft statement → spoils Narrow statement ≡ spoils (Wide masks soft) statement
spoils_same Refused soft statement is = rw (is.polygon) refl
spoils_same Dropped soft statement is =
    let unmasked : (is_at (codes "RECT") statement && is_at (codes "MASK") (drop 1 statement)) ≡ false = is.mask in
    rw (is.polygon, unmasked) refl

same_if : {Y : Type 0} (test other : Bool) {a b c d : Option Y} → test ≡ other → Keeps a c → Keeps b d → Keeps (if test then a else b) (if other then c else d)
same_if true other same first second = rw (← same) first
same_if false other same first second = rw (← same) second

-- behind a word that may be there the words are plain too
drop_plain : {profile : Profile} (words : Words) → ArePlain profile words → ArePlain profile (drop 1 words)
drop_plain [] plain = plain
drop_plain (word ∷ words) plain = later_plain word words plain

choice_plain : {profile : Profile} (test : Bool) (a b : Flags × Words) → ArePlain profile a.1 → ArePlain profile b.1
    → ArePlain profile (if test then a else b).1
choice_plain true a b first second = first
choice_plain false a b first second = second

flag_plain : {profile : Profile} (flags : Flags) (words : Words) → ArePlain profile words → ArePlain profile (flag_at flags words).1
unfolding flag_at
flag_plain flags words plain =
    choice_plain (is_at (codes "DEFAULT") words && not flags.is_default) _ _ (drop_plain words plain)
    (choice_plain (is_at (codes "TOPOFSTACKONLY") words && not flags.is_top_only) _ _ (drop_plain words plain)
    (choice_plain (is_at (codes "GENERATED") words && not flags.is_generated) _ _ (drop_plain words plain) plain))

-- Behind the words between a via's name and its statements.
pub flags_plain : {profile : Profile} (words : Words) → ArePlain profile words → ArePlain profile (flags_at words).1
unfolding flags_at
flags_plain words plain =
    let first = flag_at no_flags words in
    let second = flag_at first.0 first.1 in
    flag_plain second.0 second.1 (flag_plain first.0 first.1 (flag_plain no_flags words plain))

-- one word more isn't all that is said
not_one_more : (words : Words) → is_one_more words ≡ false → (word_at words >>= λ rule. nothing_at rule.1) ≡ None
unfolding word_at next_at nothing_at
not_one_more [] other = refl
not_one_more (word ∷ []) other = absurd (let e : ⊥ = cc in e)
not_one_more (word ∷ next ∷ words) other = by (is_word word) where
  by : (test : Bool) → ◌>>=◌ {A = List ℕ × Words} (if test then Some (word, next ∷ words) else None) (λ rule. nothing_at rule.1) ≡ None
  by true = refl
  by false = refl

-- the one element, if there is no second
one_gives : {X : Type 0} (P : X → Type 0) (xs : List X) → All P xs → Gives P (at_most_one xs >>= λ found. found)
one_gives P [] all = gives_none
one_gives P (x ∷ []) all = gives_some x (All-head P x [] all)
one_gives P (x ∷ y ∷ xs) all = gives_none

skip_none : {X Y : Type 0} (said : Option X) (last : Option Y) → last ≡ None → (said >>= λ x. last) ≡ None
skip_none None last none = refl
skip_none (Some x) last none = none

module _ (masks : Masks) (soft : Soft) where
  abbrev wide : Profile
  wide = Wide masks soft

  rule_of : (statement : Words) → IsPlain wide statement
      → (keyword_at (codes "VIARULE") statement >>= λ start. word_at start.1 >>= λ rule. nothing_at rule.1) ≡ None
  unfolding keyword_at next_at
  rule_of [] plain = refl
  rule_of (word ∷ words) plain = by (is_keyword (codes "VIARULE") word) refl where
    by : (test : Bool) → is_keyword (codes "VIARULE") word ≡ test
        → ◌>>=◌ {A = Unit {0} × Words} (if test then Some (tt, words) else None) (λ start. word_at start.1 >>= λ rule. nothing_at rule.1) ≡ None
    by false is = refl
    by true is = not_one_more words (rw is at (is_none masks soft (word ∷ words) plain).rule)

  rule_after : (found : Option Words) → Gives (IsPlain wide) found
      → ((found >>= λ clause. keyword_at (codes "VIARULE") clause >>= λ start. Some start.1) >>= λ words. word_at words >>= λ rule. nothing_at rule.1) ≡ None
  rule_after None known = refl
  rule_after (Some statement) known = by (keyword_at (codes "VIARULE") statement) (rule_of statement (known.given statement refl)) where
    by : (start : Option (Unit {0} × Words)) → (start >>= λ s. word_at s.1 >>= λ rule. nothing_at rule.1) ≡ None
        → ((start >>= λ s. Some s.1) >>= λ words. word_at words >>= λ rule. nothing_at rule.1) ≡ None
    by None none = refl
    by (Some start) none = none

  no_rule : (statements : List Words) → All (IsPlain wide) statements → rule_in statements ≡ None
  unfolding rule_in after_keyword the only
  no_rule statements all =
      rule_after (at_most_one (those (codes "VIARULE") statements) >>= λ found. found)
      (one_gives (IsPlain wide) (those (codes "VIARULE") statements) (All-filter (is_at (codes "VIARULE")) (IsPlain wide) statements all))

  not_generated : (library : RawLibraryModel) (statements : List Words) → All (IsPlain wide) statements → raw_generated_shapes library statements ≡ None
  unfolding raw_generated_shapes raw_generated_in
  not_generated library statements all =
      skip_none (unless (list_any is_drawn statements)) _ (rw (no_rule statements all) refl)

-- a via that is spoilt stays so
module _ (library : RawLibraryModel) where
  abbrev Spoilt : ViaParts → Type 0
  Spoilt parts = parts.is_spoilt ≡ true

  stays_spoilt : (parts : ViaParts) (statement : Words) → Spoilt parts → Gives Spoilt (via_part Narrow library parts statement)
  unfolding via_part
  stays_spoilt parts statement is =
      gives_if (spoils Narrow statement) (gives_some _ refl)
      (gives_if (is_at (codes "LAYER") statement) (gives_skip (layer_of_via library statement) (λ number. gives_some _ is))
      (gives_if (is_at (codes "RECT") statement) (gives_skip (drawn_rect Narrow library parts.drawn statement) (λ drawn. gives_some _ is))
      (gives_some parts is)))

  rule_spoils : (parts : ViaParts) (statement : Words) → is_at (codes "VIARULE") statement ≡ true → Gives Spoilt (via_part Narrow library parts statement)
  unfolding via_part
  rule_spoils parts statement there = rw there (gives_some _ refl)

  -- a via with a rule is spoilt
  rule_is_spoilt : (statements : List Words) (parts : ViaParts) → is_generated statements ≡ true
      → Gives Spoilt (over (via_part Narrow library) parts statements)
  unfolding over
  rule_is_spoilt [] parts there = absurd (let e : ⊥ = cc in e)
  rule_is_spoilt (statement ∷ statements) parts there =
      by (is_at (codes "VIARULE") statement) refl (λ next later. rule_is_spoilt statements next later) where
        by : (test : Bool) → is_at (codes "VIARULE") statement ≡ test
            → ((next : ViaParts) → is_generated statements ≡ true → Gives Spoilt (over (via_part Narrow library) next statements))
            → Gives Spoilt (via_part Narrow library parts statement >>= λ next. over (via_part Narrow library) next statements)
        by true is more =
            gives_bind (rule_spoils parts statement is) (λ next spoilt.
            over_gives Spoilt (via_part Narrow library) stays_spoilt next statements spoilt)
        by false is more =
            let later : is_generated statements ≡ true = rw is at there in
            gives_skip (via_part Narrow library parts statement) (λ next. more next later)

-- the same via is made of both
record MakeSame (library : RawLibraryModel) (narrow parts : ViaParts) : Type 0 where
  good : (name : List ℕ) → is_good library name narrow ≡ is_good library name parts
  shapes : (name : List ℕ) → kept (is_good library name narrow) narrow.drawn.shapes ≡ kept (is_good library name parts) parts.drawn.shapes

both_spoilt : (library : RawLibraryModel) (narrow parts : ViaParts) → narrow.is_spoilt ≡ true → parts.is_spoilt ≡ true → MakeSame library narrow parts
both_spoilt library narrow parts is other = record { good = λ name. rw (is, other) refl; shapes = λ name. rw (is, other) refl }

-- what comes after both
keeps_found : {X Y : Type 0} {R : X → X → Type 0} {said other : Option X} {next after : X → Option Y} → Finds R said other
    → ((x y : X) → R x y → Keeps (next x) (after y)) → Keeps (said >>= next) (other >>= after)
keeps_found {said = None} {other = other} {after = after} first more = keeps_none (other >>= after)
keeps_found {said = Some x} first more =
    let beside = first.found x refl in
    rw (beside.2) (more x beside.0 beside.1)

same_via : {Y : Type 0} (make : Bool → List RawShape → Y) (good other : Bool) (shapes more : List RawShape) → good ≡ other → shapes ≡ more
    → Keeps (Some (make good shapes)) (Some (make other more))
same_via make good other shapes more a b = rw (a, b) (keeps_itself (Some (make other more)))

module _ (masks : Masks) (soft : Soft) (library : RawLibraryModel) where
  part_same : (parts : ViaParts) (statement : Words) → IsPlain (wide masks soft) statement
      → Keeps (via_part Narrow library parts statement) (via_part (wide masks soft) library parts statement)
  unfolding via_part
  part_same parts statement plain =
      let is = is_none masks soft statement plain in
      same_if (spoils Narrow statement) (spoils (wide masks soft) statement) (spoils_same masks soft statement is)
      (keeps_itself (Some (record parts { is_spoilt = true })))
      (keeps_if (is_at (codes "LAYER") statement)
      (keeps_itself (layer_of_via library statement >>= λ number. Some (record parts { drawn = on_layer parts.drawn number })))
      (keeps_if (is_at (codes "RECT") statement)
      (keeps_bind (drawn_rect_keeps (wide masks soft) library parts.drawn statement) (λ drawn. keeps_itself (Some (record parts { drawn = drawn }))))
      (rw (is.polygon) (keeps_itself (Some parts)))))

  parts_same : (statements : List Words) → All (IsPlain (wide masks soft)) statements
      → Finds (MakeSame library) (via_parts_in Narrow library statements) (via_parts_in (wide masks soft) library statements)
  unfolding via_parts_in
  parts_same statements all = by (is_generated statements) refl where
    keeps : Keeps (over (via_part Narrow library) no_via_parts statements) (over (via_part (wide masks soft) library) no_via_parts statements)
    keeps = over_keeps_all (IsPlain (wide masks soft)) (via_part Narrow library) (via_part (wide masks soft) library) part_same no_via_parts statements all

    by : (test : Bool) → is_generated statements ≡ test
        → Finds (MakeSame library) (over (via_part Narrow library) no_via_parts statements)
        (if test then Some (generated_parts (raw_generated_shapes library statements)) else over (via_part (wide masks soft) library) no_via_parts statements)
    by true is = record {
      found = λ parts said.
          let none = not_generated masks soft library statements all in (
            generated_parts None,
            both_spoilt library parts (generated_parts None) ((rule_is_spoilt library statements no_via_parts is).given parts said) refl,
            rw none refl,
          );
    }
    by false is = record { found = λ parts said. (parts, record { good = λ name. refl; shapes = λ name. refl }, keeps.kept parts said) }

  via_same : (words : Words) → ArePlain (wide masks soft) words → Keeps (via_at Narrow library words) (via_at (wide masks soft) library words)
  unfolding via_at
  via_same words plain =
      keeps_known (keeps_itself (keyword_at (codes "VIA") words)) (keyword_plain (codes "VIA") words plain) (λ start left.
      keeps_known (keeps_itself (name_at start.1)) (name_plain start.1 left) (λ name after.
      keeps_known (keeps_itself (statements_at (flags_at name.1).1)) (statements_plain (flags_at name.1).1 (flags_plain name.1 after)) (λ body cut.
      keeps_found (parts_same body.0 cut.each) (λ narrow parts same.
      keeps_bind (keeps_itself (end_of name.0 body.1)) (λ end.
      same_via (λ good shapes. (record { name = name.0; default_via = (flags_at name.1).0.is_default; good = good; shapes = shapes }, end.1))
      (is_good library name.0 narrow) (is_good library name.0 parts) _ _ (same.good name.0) (same.shapes name.0))))))

-- A via.
pub lef_via_keeps : (profile : Profile) (library : RawLibraryModel) (words : Words) → ArePlain profile words
    → Keeps (with_via Narrow library words) (with_via profile library words)
unfolding with_via
lef_via_keeps Narrow library words plain = keeps_itself (with_via Narrow library words)
lef_via_keeps (Wide masks soft) library words plain = keeps_bind (via_same masks soft library words plain) (λ via. keeps_itself _)

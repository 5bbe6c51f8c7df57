-- Words without forms of which the wide profile makes more: what is left of them, and their statements, have none either.
use Rattle.std.proofs.Common.{◌≡◌, ℕ, zero, suc, Bool, true, false, ◌&&◌, ◌||◌, if◌then◌else◌, List, [], ◌∷◌, ◌++◌, All, Option, None, Some, codes, refl, ap}
use Rattle.std.proofs.lemmas.Bool.{or_parts, or_from, and_right}
use Rattle.std.proofs.lemmas.List.Elements.{All-push, All-nil}
use Rattle.std.specs.Option.{option_or}
use Rattle.std.specs.Str.{bytes_eq}
use Rattle.leg_lex.specs.Words.{Words, ◌>>=◌, is_at, is_keyword, is_name, next_at, keyword_at, name_at, end_at, end_of}
use Rattle.leg_lex.specs.Until.{steps}
use Rattle.leg_lex.specs.Statements.{is_semicolon, up_to, statement_at, one_statement, at_end, statements_at}
use Rattle.leg_lex.specs.Past.{past, past_extension}
use Rattle.leg_lex.proofs.Gives.{Gives, gives_none, gives_some, gives_bind, gives_if, gives_less}
use Rattle.leg_grammar.specs.declared.profile.Masks.{Masks}
use Rattle.leg_grammar.specs.declared.profile.Soft.{Soft}
use Rattle.leg_grammar.specs.declared.profile.Profile.{Profile}
use Rattle.leg_grammar.specs.declared.profile.Profile.TheVariants.{Narrow, Wide}
use Rattle.leg_grammar.specs.Mask.{drops_masks}
use Rattle.leg_grammar.specs.Lef.Rule.{is_at_rule}
use Rattle.leg_profile_laws.specs.WiderForms.{is_wider_word, is_one_word, begins_wider, has_wider}

-- none of these words begins a form of which the profile makes more than the narrow one
pub record ArePlain (profile : Profile) (words : Words) : Type 0 where
  pub none : has_wider profile words ≡ false

-- the words that are left are plain
abbrev pub Leaves : {Y : Type 0} → Profile → Option (Y × Words) → Type 0
Leaves profile said = Gives (λ x. ArePlain profile x.1) said

-- a statement is one word more
abbrev pub is_one_more : Words → Bool
is_one_more [] = false
is_one_more (word ∷ []) = true
is_one_more (word ∷ next ∷ words) = false

-- a statement is such a form
abbrev pub is_wider : Profile → Words → Bool
is_wider profile [] = false
is_wider Narrow (word ∷ words) = false
is_wider (Wide masks soft) (word ∷ words) =
    is_wider_word word || (is_keyword (codes "VIARULE") word && is_one_more words)
    || (drops_masks (Wide masks soft) && is_keyword (codes "RECT") word && is_at (codes "MASK") words)

-- a statement that is none of them
abbrev pub IsPlain : Profile → Words → Type 0
IsPlain profile statement = is_wider profile statement ≡ false

-- the words are those that were cut off, the word that ends them, and those that are left
record IsCutFrom (words : Words) (cut : Words × Words) : Type 0 where
  last : List ℕ
  ends : is_semicolon last ≡ true
  joined : words ≡ cut.0 ++ last ∷ cut.1

-- the statements are plain, and so is what is left
pub record ArePlainParts (profile : Profile) (statements : List Words) (words : Words) : Type 0 where
  pub each : All (IsPlain profile) statements
  pub left : ArePlain profile words

-- Forms one after the other, each of which keeps what is known of its state and of the words that it leaves.
pub steps_give : {S : Type 0} (Q : S → Words → Type 0) (stop : Words → Bool) (form : S → Words → Option (S × Words))
    → ((made : S) (words : Words) → Q made words → Gives (λ x. Q x.0 x.1) (form made words)) → (n : ℕ) (made : S) (words : Words) → Q made words
    → Gives (λ x. Q x.0 x.1) (steps stop form n made words)
unfolding steps
steps_give Q stop form each zero made words holds = gives_none
steps_give Q stop form each (suc n) made words holds =
    gives_if (stop words) (gives_some (made, words) holds)
    (gives_bind (each made words holds) (λ next kept. steps_give Q stop form each n next.0 next.1 kept))

-- none of the three forms begins with a word and those behind it
record BeginsNone (masks : Masks) (soft : Soft) (word : List ℕ) (words : Words) : Type 0 where
  first : is_wider_word word ≡ false
  rule : (is_keyword (codes "VIARULE") word && is_one_word words) ≡ false
  mask : (drops_masks (Wide masks soft) && is_keyword (codes "RECT") word && is_at (codes "MASK") words) ≡ false

begins_none : (masks : Masks) (soft : Soft) (word : List ℕ) (words : Words) → begins_wider (Wide masks soft) word words ≡ false
    → BeginsNone masks soft word words
begins_none masks soft word words none =
    let mask : Bool = drops_masks (Wide masks soft) && is_keyword (codes "RECT") word && is_at (codes "MASK") words in
    let rule : Bool = is_keyword (codes "VIARULE") word && is_one_word words in
    let two = or_parts (is_wider_word word || rule) mask none in
    let one = or_parts (is_wider_word word) rule two.0 in
    record { first = one.0; rule = one.1; mask = two.1 }

-- no nondefault rule begins at plain words
pub no_rule_at : (profile : Profile) (words : Words) → ArePlain profile words → is_at_rule profile words ≡ false
no_rule_at Narrow words plain = refl
no_rule_at (Wide masks soft) [] plain = refl
no_rule_at (Wide masks soft) (word ∷ words) plain =
    let here = begins_none masks soft word words (or_parts (begins_wider (Wide masks soft) word words) (has_wider (Wide masks soft) words) plain.none).0 in
    (or_parts (is_keyword (codes "POLYGON") word) (is_keyword (codes "NONDEFAULTRULE") word) here.first).1

plain_from : (masks : Masks) (soft : Soft) (word : List ℕ) (statement : Words) → is_wider_word word ≡ false
    → (is_keyword (codes "VIARULE") word && is_one_more statement) ≡ false
    → (drops_masks (Wide masks soft) && is_keyword (codes "RECT") word && is_at (codes "MASK") statement) ≡ false
    → IsPlain (Wide masks soft) (word ∷ statement)
plain_from masks soft word statement first rule mask =
    or_from (is_wider_word word || (is_keyword (codes "VIARULE") word && is_one_more statement)) _ (or_from (is_wider_word word) _ first rule) mask

-- a statement that was cut off begins no such form
statement_is : (profile : Profile) (statement words : Words) (last : List ℕ) → is_semicolon last ≡ true
    → has_wider profile (statement ++ last ∷ words) ≡ false → IsPlain profile statement
statement_is Narrow [] words last ends none = refl
statement_is (Wide masks soft) [] words last ends none = refl
statement_is Narrow (word ∷ statement) words last ends none = refl
statement_is (Wide masks soft) (word ∷ []) words last ends none =
    let here = begins_none masks soft word (last ∷ words) (or_parts (begins_wider (Wide masks soft) word (last ∷ words)) _ none).0 in
    plain_from masks soft word [] here.first (and_right (is_keyword (codes "VIARULE") word) false refl)
    (and_right (drops_masks (Wide masks soft) && is_keyword (codes "RECT") word) false refl)
statement_is (Wide masks soft) (word ∷ next ∷ []) words last ends none =
    let here = begins_none masks soft word (next ∷ last ∷ words) (or_parts (begins_wider (Wide masks soft) word (next ∷ last ∷ words)) _ none).0 in
    plain_from masks soft word (next ∷ []) here.first (rw ends at (here.rule)) here.mask
statement_is (Wide masks soft) (word ∷ next ∷ more ∷ statement) words last ends none =
    let behind = next ∷ more ∷ (statement ++ last ∷ words) in
    let here = begins_none masks soft word behind (or_parts (begins_wider (Wide masks soft) word behind) _ none).0 in
    plain_from masks soft word (next ∷ more ∷ statement) here.first (and_right (is_keyword (codes "VIARULE") word) false refl) here.mask

cut_from : (words : Words) → Gives (IsCutFrom words) (up_to is_semicolon words)
unfolding up_to
cut_from [] = gives_none
cut_from (word ∷ words) = by (is_semicolon word) refl (cut_from words) where
  by : (test : Bool) → is_semicolon word ≡ test → Gives (IsCutFrom words) (up_to is_semicolon words) → Gives (IsCutFrom (word ∷ words))
      (if test then Some ([], words) else (up_to is_semicolon words >>= λ others. Some (word ∷ others.0, others.1)))
  by true is more = gives_some ([], words) (record { last = word; ends = is; joined = refl })
  by false is more =
      gives_bind more (λ cut from.
      gives_some (word ∷ cut.0, cut.1) (record { last = from.last; ends = from.ends; joined = ap (λ ws. word ∷ ws) from.joined }))

module _ {profile : Profile} where
  pub later_plain : (word : List ℕ) (words : Words) → ArePlain profile (word ∷ words) → ArePlain profile words
  later_plain word words plain = record { none = (or_parts (begins_wider profile word words) (has_wider profile words) plain.none).1 }

  pub next_plain : (words : Words) → ArePlain profile words → Leaves profile (next_at words)
  unfolding next_at
  next_plain [] plain = gives_none
  next_plain (word ∷ words) plain = gives_some (word, words) (later_plain word words plain)

  pub keyword_plain : (keyword : List ℕ) (words : Words) → ArePlain profile words → Leaves profile (keyword_at keyword words)
  unfolding keyword_at
  keyword_plain keyword words plain =
      gives_bind (next_plain words plain) (λ next left. gives_if (is_keyword keyword next.0) (gives_some (tt, next.1) left) gives_none)

  pub name_plain : (words : Words) → ArePlain profile words → Leaves profile (name_at words)
  unfolding name_at
  name_plain words plain =
      gives_bind (next_plain words plain) (λ next left. gives_if (is_name next.0) (gives_some (next.0, next.1) left) gives_none)

  pub end_at_plain : (keyword : List ℕ) (words : Words) → ArePlain profile words → Leaves profile (end_at keyword words)
  unfolding end_at
  end_at_plain keyword words plain = gives_bind (keyword_plain (codes "END") words plain) (λ end left. keyword_plain keyword end.1 left)

  pub end_of_plain : (name : List ℕ) (words : Words) → ArePlain profile words → Leaves profile (end_of name words)
  unfolding end_of
  end_of_plain name words plain =
      gives_bind (keyword_plain (codes "END") words plain) (λ end left.
      gives_bind (name_plain end.1 left) (λ named after.
      gives_if (bytes_eq named.0 name) (gives_some (tt, named.1) after) gives_none))

  behind_plain : (statement words : Words) (last : List ℕ) → ArePlain profile (statement ++ last ∷ words) → ArePlain profile words
  behind_plain [] words last plain = later_plain last words plain
  behind_plain (word ∷ statement) words last plain =
      behind_plain statement words last (later_plain word (statement ++ last ∷ words) plain)

  cut_plain : (words : Words) (cut : Words × Words) → ArePlain profile words → IsCutFrom words cut → IsPlain profile cut.0 × ArePlain profile cut.1
  cut_plain words cut plain from =
      let all : ArePlain profile (cut.0 ++ from.last ∷ cut.1) = rw (from.joined) at plain in
      (statement_is profile cut.0 cut.1 from.last from.ends all.none, behind_plain cut.0 cut.1 from.last all)

  -- A statement, and what is left.
  pub statement_plain : (words : Words) → ArePlain profile words → Gives (λ x. IsPlain profile x.0 × ArePlain profile x.1) (statement_at words)
  unfolding statement_at
  statement_plain words plain = gives_less (cut_from words) (λ cut from. cut_plain words cut plain from)

  pub past_plain : {Y : Type 0} (form : Words → Option (Y × Words)) → ((words : Words) → ArePlain profile words → Leaves profile (form words)) → (words : Words)
      → ArePlain profile words → Leaves profile (past form words)
  unfolding past
  past_plain {Y = Y} form each [] plain = each [] plain
  past_plain {Y = Y} form each (word ∷ words) plain =
      by (past form words) (past_plain form each words (later_plain word words plain)) (form (word ∷ words)) (each (word ∷ words) plain) where
        by : (later : Option (Y × Words)) → Leaves profile later → (here : Option (Y × Words)) → Leaves profile here → Leaves profile (option_or here later)
        by later rest None here = rest
        by later rest (Some x) here = here

  pub extension_plain : (words : Words) → ArePlain profile words → Leaves profile (past_extension words)
  unfolding past_extension
  extension_plain words plain =
      gives_bind (keyword_plain (codes "BEGINEXT") words plain) (λ start left.
      past_plain (keyword_at (codes "ENDEXT")) (keyword_plain (codes "ENDEXT")) start.1 left)

  -- The statements of a block.
  pub statements_plain : (words : Words) → ArePlain profile words → Gives (λ x. ArePlainParts profile x.0 x.1) (statements_at words)
  unfolding statements_at one_statement
  statements_plain words plain =
      steps_give (ArePlainParts profile) at_end one_statement (λ made words holds.
      gives_bind (statement_plain words holds.left) (λ next cut.
      gives_some (made ++ next.0 ∷ [], next.1) (record { each = All-push (IsPlain profile) made next.0 holds.each cut.0; left = cut.1 }))) _ [] words
      (record { each = All-nil (IsPlain profile); left = plain })

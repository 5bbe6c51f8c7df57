-- The words behind an END that was looked for.
use Rattle.std.proofs.Common.{◌≡◌, ℕ, zero, suc, ◌+◌, ◌-◌, ◌<◌, ◌≤◌, Bool, true, false, List, [], ◌∷◌, length, drop, take, Some, codes, refl, sym, arith}
use Rattle.std.proofs.lemmas.List.{length-drop, drop-drop}
use Rattle.std.specs.List.{position_or_len, after_first}
use Rattle.std.specs.Str.{bytes_eq}
use Rattle.leg_lex.specs.Words.{Words, is_keyword, is_name, next_at, keyword_at, name_at}
use Rattle.leg_lex.proofs.Parts.{rest_is}
use Rattle.leg_drc_rules.specs.Section.{is_end, at_semicolon, section_at}
use Rattle.leg_drc_rules.specs.Steps.Memory.{AreBehindEnd}

dropped_less : (n : ℕ) (words : Words) → length (drop n words) ≤ length words
dropped_less n words = omega (arith, length-drop {A = List ℕ})

again_by : (n : ℕ) (word : List ℕ) (words : Words) (end : Bool) → is_end word ≡ end → (AreBehindEnd words (after_first is_end words))
    → length (after_first is_end (word ∷ words)) < length (drop (suc n) (word ∷ words))
    → after_first is_end (drop (suc n) (word ∷ words)) ≡ after_first is_end (word ∷ words)
again_by n word words true is before more =
    let less = dropped_less n words in
    absurd (omega (arith, rw is at more))
again_by n word words false is before more =
    let place = position_or_len is_end words in
    let next : (1 + place) + 1 ≡ suc (place + 1) = omega arith in
    rw (is, next) (before n (rw (is, next) at more))

-- after they are looked for
pub look_again : (words : Words) → AreBehindEnd words (after_first is_end words)
look_again [] zero more = refl
look_again [] (suc n) more = refl
look_again (word ∷ words) zero more = refl
look_again (word ∷ words) (suc n) more = again_by n word words (is_end word) refl (look_again words) more

-- while they are there
pub looked_before : (words behind : Words) → AreBehindEnd words behind → length behind < length words → behind ≡ after_first is_end words
looked_before words behind kept more = sym (kept 0 more)

-- behind one word more
pub kept_behind : (words behind : Words) → AreBehindEnd (drop 2 words) behind → AreBehindEnd (drop 2 (drop 1 words)) behind
kept_behind words behind kept n more =
    let e : drop n (drop 2 (drop 1 words)) ≡ drop (suc n) (drop 2 words) =
    rw (drop-drop n 2 (drop 1 words), drop-drop (2 + n) 1 words, drop-drop (suc n) 2 words)
    (let same : 1 + (2 + n) ≡ 2 + suc n = omega arith in rw same refl) in
    rw e (kept (suc n) (rw e at more))

-- where nothing is kept
pub none_kept : (words : Words) → AreBehindEnd (drop 2 words) words
none_kept words n more =
    let first = dropped_less n (drop 2 words) in
    let second = dropped_less 2 words in
    absurd (omega arith)

name_rest_by : (b name : List ℕ) (words rest : Words) (named : Bool) → is_name b ≡ named → name_at (b ∷ words) ≡ Some (name, rest) → rest ≡ words
unfolding name_at next_at
name_rest_by b name words rest true is said = sym (rest_is b name words rest (rw is at said))
name_rest_by b name words rest false is said = absurd (let e : ⊥ = cc (rw is at said) in e)

name_rest : (name : List ℕ) (words rest : Words) → name_at words ≡ Some (name, rest) → rest ≡ drop 1 words
unfolding name_at next_at
name_rest name [] rest said = absurd (let e : ⊥ = cc in e)
name_rest name (b ∷ words) rest said = name_rest_by b name words rest (is_name b) refl said

keyword_rest_by : (keyword a : List ℕ) (x : Unit {0}) (words rest : Words) (there : Bool) → is_keyword keyword a ≡ there
    → keyword_at keyword (a ∷ words) ≡ Some (x, rest) → words ≡ rest
unfolding keyword_at next_at
keyword_rest_by keyword a x words rest true is said = rest_is tt x words rest (rw is at said)
keyword_rest_by keyword a x words rest false is said = absurd (let e : ⊥ = cc (rw is at said) in e)

-- LAYER and a name are two words
pub named_rest : (keyword : List ℕ) (x : Unit {0}) (name : List ℕ) (words start rest : Words) → keyword_at keyword words ≡ Some (x, start)
    → name_at start ≡ Some (name, rest) → rest ≡ drop 2 words
unfolding keyword_at next_at
named_rest keyword x name [] start rest first second = absurd (let e : ⊥ = cc in e)
named_rest keyword x name (a ∷ words) start rest first second =
    let same : words ≡ start = keyword_rest_by keyword a x words start (is_keyword keyword a) refl first in
    rw same (name_rest name start rest second)

-- the words before END are so many
before_many : (words : Words) → 0 < length (after_first is_end words) → position_or_len is_end words ≡ length words - (length (after_first is_end words) + 1)
before_many words some =
    let many = length-drop (position_or_len is_end words + 1) words in
    omega (arith, many)

some_name : (words rest : Words) (name : List ℕ) → name_at words ≡ Some (name, rest) → 0 < length words
unfolding name_at next_at
some_name [] rest name said = absurd (let e : ⊥ = cc in e)
some_name (word ∷ words) rest name said = omega arith

-- a section
pub section_there : (x : Unit {0}) (name end : List ℕ) (words start body rest : Words) (left : ℕ) → keyword_at (codes "LAYER") words ≡ Some (x, start)
    → name_at start ≡ Some (name, body) → name_at (after_first is_end body) ≡ Some (end, rest) → at_semicolon body ≡ false → bytes_eq end name ≡ true
    → left ≡ length (after_first is_end body) + 1
    → section_at words ≡ Some (record { name = name; words = take (length body - left) body }, rest)
unfolding section_at
section_there x name end words start body rest left first second third no_mark same is =
    let many = before_many body (some_name (after_first is_end body) rest end third) in
    rw (first, second, third, no_mark, same, is, ← many) refl

-- the words of a section are among those from its first one on
pub section_within : (end : List ℕ) (body rest : Words) (left : ℕ) → name_at (after_first is_end body) ≡ Some (end, rest)
    → left ≡ length (after_first is_end body) + 1 → left ≤ length body
section_within end body rest left third is =
    let some = some_name (after_first is_end body) rest end third in
    let many = length-drop (position_or_len is_end body + 1) body in
    omega (arith, many)

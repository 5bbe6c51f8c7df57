-- Each layer of tracks takes a word, and so do tracks.
use Rattle.std.proofs.Common.{◌≡◌, ℕ, ◌<◌, true, false, List, [], ◌∷◌, ◌++◌, length, map, None, Some, codes, refl, arith}
use Rattle.std.proofs.lemmas.Bool.{false≢true}
use Rattle.std.specs.Char.{to_ascii_lowercase}
use Rattle.leg_lex.proofs.NameLookup.{same_name}
use Rattle.leg_lex.specs.Words.{Words, is_at, is_keyword, keyword_at, next_at}
use Rattle.leg_lex.specs.NameLookup.{place_of}
use Rattle.leg_lex.proofs.Shorter.{name_below}
use Rattle.leg_lex.proofs.Statements.{statement_below}
use Rattle.leg_lex.proofs.Until.{Below, Shortens, below_some, below_bind, below_ask}
use Rattle.leg_lib_records.specs.Records.{LibraryModel, layer_names}
use Rattle.leg_grammar.specs.declared.profile.Profile.{Profile}
use Rattle.leg_grammar.specs.Def.Track.{one_layer, layers_in, track_in, track_at}

pub one_layer_shortens : (library : LibraryModel) → Shortens (one_layer library)
unfolding one_layer
one_layer_shortens library numbers words =
    below_bind (omega arith) (name_below words) (λ name less.
    below_ask (place_of name.0 (layer_names library)) (λ number.
    below_some (numbers ++ number ∷ []) name.1 less))

pub one_layer_shorter : (library : LibraryModel) (numbers more : List ℕ) (words rest : Words) → one_layer library numbers words ≡ Some (more, rest)
    → length rest < length words
one_layer_shorter library numbers more words rest said = (one_layer_shortens library numbers words).left more rest said

-- MASK isn't LAYER.
pub no_mask : (library : LibraryModel) (words : Words) → is_at (codes "MASK") words ≡ true → layers_in library words ≡ None
unfolding layers_in keyword_at next_at
no_mask library [] there = absurd (false≢true there)
no_mask library (word ∷ words) there =
    let same : map to_ascii_lowercase word ≡ map to_ascii_lowercase (codes "MASK") =
    same_name (map to_ascii_lowercase word) (map to_ascii_lowercase (codes "MASK")) there in
    let other : is_keyword (codes "LAYER") word ≡ false = rw same refl in
    rw other refl

pub track_below : (profile : Profile) (library : LibraryModel) (words : Words) → Below (length words) (track_at profile library words)
unfolding track_at
track_below profile library words =
    below_bind (omega arith) (statement_below words) (λ statement less.
    below_ask (track_in profile library statement.0) (λ track.
    below_some track statement.1 less))

-- Names of entries of nets.
use Rattle.std.proofs.Common.{◌≡◌, ℕ, zero, suc, ◌+◌, ◌<◌, List, [], ◌∷◌, ◌++◌, length, take, get_or, None, refl, sym, ap, ◌∙◌, add-one, arith}
use Rattle.std.proofs.lemmas.List.{get_or-map, length-map}
use Rattle.leg_lex.specs.NameLookup.{place_of, AreApart}
use Rattle.leg_lex.proofs.NameLookup.{not_yet_there}
use Rattle.leg_design_records.specs.Records.{NetModel, net_names}

-- the name of an entry isn't among those before it
pub new_name : (nets : List NetModel) (i : ℕ) (net : NetModel) (name : List ℕ) (names : List (List ℕ)) → AreApart (net_names nets) → i < length nets
    → net ≡ get_or nets i net → name ≡ net.name → names ≡ take i (net_names nets) → place_of name names ≡ None
new_name nets i net name names apart less there called so_far =
    let within : i < length (net_names nets) = omega (arith, length-map nets (λ (n : NetModel). n.name)) in
    let it : get_or (net_names nets) i [] ≡ (get_or nets i net).name = get_or-map (λ n. n.name) nets i net [] less in
    let same : name ≡ get_or (net_names nets) i [] = called ∙ ap (λ n. n.name) there ∙ sym it in
    rw (same, so_far) (not_yet_there (net_names nets) i [] apart within)

take_more : (nets : List NetModel) (i : ℕ) (d : NetModel) → i < length nets
    → take (suc i) (net_names nets) ≡ take i (net_names nets) ++ (get_or nets i d).name ∷ []
take_more [] i d less = absurd (omega arith)
take_more (net ∷ nets) zero d less = refl
take_more (net ∷ nets) (suc i) d less = ap (λ names. net.name ∷ names) (take_more nets i d (omega arith))

-- the names up to the next one
pub names_more : (nets : List NetModel) (i : ℕ) (net : NetModel) (name : List ℕ) (names : List (List ℕ)) → i < length nets → net ≡ get_or nets i net
    → name ≡ net.name → names ≡ take i (net_names nets) → names ++ name ∷ [] ≡ take (i + 1) (net_names nets)
names_more nets i net name names less there called so_far =
    let same : name ≡ (get_or nets i net).name = called ∙ ap (λ n. n.name) there in
    rw (add-one, take_more nets i net less, so_far, same) refl

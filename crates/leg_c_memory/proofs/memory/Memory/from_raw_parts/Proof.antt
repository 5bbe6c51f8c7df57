-- `from_raw_parts` takes over what the caller owns. Assumes `Logic`.
use Rattle.leg_c_memory.proofs.Steps.{◌≡◌, List, [], ◌∷◌, ◌++◌, refl, w64, Fn, Val, vint, SProp, emp, WpFn, fact, fact_i, tables, ‵, raw, ◌⊛◌, prop, ◌$◌, ◌∵◌, !, qed, by, move, keep, use0, split, regoal, fjoin, agg, no_more, and_then, returns, enter, alloc_all, pass_all, free_all, look_at, get, sets, owns, ptr_val, types_at, nothing, heard, alive, Stays, stay_dropped, walk_of, Goes-dropped, and_tt, proved_at, leaves, slot_at}
use Rattle.leg_c_memory.proofs.Values.{ptr_typed, memory_val, memory_own, memory_made}
use Rattle.leg_c_memory.specs.Sizes.{IsMemory}
use Rattle.leg_c_memory.specs.Ownership.{bytes_at}
use Rattle.leg_c_memory.specs.contracts.memory.Memory as memory
use Rattle.leg_c_memory.specs.contracts.memory.Memory.from_raw_parts.{ended, clauses}
use Rattle.leg_c_memory.specs.contracts.memory.Memory.from_raw_parts.Key.{name}
use Rattle.leg_c_memory.proofs.memory.Memory.from_raw_parts.Statement.{statement}
use Rattle.leg_c_memory.proofs.memory.Memory.from_raw_parts.Code as compiled

pub from_raw_parts_spec : {M : Type 1} → statement M
from_raw_parts_spec 𝓤 𝓛 𝓜 𝓡 wired =
    let fn : Fn = compiled.function in
    let stays : Stays ended.signature.params ended.kept =
    (stay_dropped (slot_at 0 ended.signature.params) ended.kept.0, (stay_dropped (slot_at 1 ended.signature.params) ended.kept.1.0, tt)) in
    let c = clauses 𝓛 𝓜.mem 𝓡.returns in
    let C = (tables 𝓤 𝓛.H 𝓜 𝓡 𝓡.env).C in
    let Λ = (tables 𝓤 𝓛.H 𝓜 𝓡 𝓡.env).Λ in
    proved_at 𝓛 ended stays c 𝓜 𝓡 (
      Goes-dropped 𝓛 0 (slot_at 0 ended.signature.params) ended.kept.0 (λ κs x f. refl),
      (Goes-dropped 𝓛 0 (slot_at 1 ended.signature.params) ended.kept.1.0 (λ κs x f. refl), tt),
    ) name fn (compiled.unfolded 𝓤 𝓛.H 𝓜 𝓡 wired) (λ z are.
    let Post : Val → SProp 𝓤 = (walk_of 𝓛 ended stays c).post z in
    let a = z.0.3 in
    let vss = z.0.4 in
    let p = a.0 in
    let n = a.1.0 in
    let fits = are.1.0.1 in
    let Asked : Type 0 = IsMemory p n in
    qed 𝓛 ((raw (alive 𝓛 ended.signature z.0.0 z.0.1) ⊛ ‵ (owns (types_at ended.signature.params z.0.0) a vss)) ∷ (raw (fact 𝓤 Asked) ⊛ ‵ (bytes_at p n))
    ∷ []) ∵
    move ! (1 ∷ []) $ split ! $ heard ! Asked (λ asked. move ! (1 ∷ []) $ split ! $ keep ! (2 ∷ 0 ∷ []) $
    let x : (memory.the_row).Denot = record { ptr = p; size = n; fits = asked } in
    regoal ! (λ (us : List Val). prop (WpFn 𝓤 𝓛.H C Λ fn us Post)) (λ i. are.0 i ++ (are.1.0.0 i ++ [])) refl $
    enter ! C Λ fn (ptr_val p ∷ vint w64 n ∷ []) Post $
    alloc_all ! (λ l. pass_all ! refl ((ptr_typed p), ((tt, record { fits = fits }), tt)) $
    sets ! (agg ! (and_then ! (get ! refl) (and_then ! (get ! refl) (no_more !)))) refl
    (and_tt _ ((ptr_typed p).0), ((ptr_typed p).1, (record { fits = fits }, tt))) $
    returns ! (look_at ! 0 refl) $ free_all ! refl $
    use0 𝓛 (‵ (memory_own p n (memory_val p n ∷ []))) (memory_made 𝓛 p n fits) $ fjoin ! $
    use0 𝓛 (raw (fact 𝓤 ((p ≡ p) × (n ≡ n)))) (fact_i 𝓤 ((p ≡ p) × (n ≡ n)) (emp 𝓤) (refl, refl)) $
    nothing ! $ nothing ! $ fjoin ! $ nothing ! $ fjoin ! $ move ! (3 ∷ 0 ∷ 2 ∷ 1 ∷ []) $
    by ! (leaves 𝓛 ended stays c z (memory_val p n) x (tt, (tt, tt)) (tt, (tt, tt))))))

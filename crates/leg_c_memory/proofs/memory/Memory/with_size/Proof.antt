-- `with_size` reads a field. Assumes `Logic`.
use Rattle.leg_c_memory.proofs.Steps.{◌≡◌, ◌^◌, List, [], ◌∷◌, ◌++◌, refl, w64, Fn, Val, vint, SProp, emp, ftrue, WpFn, fact, fact_i, tables, ‵, raw, ◌⊛◌, prop, ◌$◌, ◌∵◌, !, qed, by, move, drop, use0, use2, split, regoal, fsplit, fjoin, feq_i, flt_i, whole, sub, agg, stop, fld, of_opd, no_more, and_then, returns, enter, alloc_all, pass_all, free_all, look_at, get, get_in, sets, owns, usize, types_at, nothing, Tuple, alive, Stays, stay_dropped, walk_of, Goes-blank, and_tt, pair_of, pair_val, proved_at, leaves, slot_at}
use Rattle.leg_c_memory.proofs.Values.{ptr_typed, memory_val, memory_own, memory_told, memory_made}
use Rattle.leg_c_memory.specs.contracts.memory.Memory as memory
use Rattle.leg_c_memory.specs.contracts.memory.Memory.with_size.{ended, clauses}
use Rattle.leg_c_memory.specs.contracts.memory.Memory.with_size.Key.{name}
use Rattle.leg_c_memory.proofs.memory.Memory.with_size.Statement.{statement}
use Rattle.leg_c_memory.proofs.memory.Memory.with_size.Code as compiled

pub with_size_spec : {M : Type 1} → statement M
with_size_spec 𝓤 𝓛 𝓜 𝓡 wired =
    let fn : Fn = compiled.function in
    let stays : Stays ended.signature.params ended.kept = (stay_dropped (slot_at 0 ended.signature.params) ended.kept.0, tt) in
    let c = clauses 𝓛 𝓜.mem 𝓡.returns in
    let C = (tables 𝓤 𝓛.H 𝓜 𝓡 𝓡.env).C in
    let Λ = (tables 𝓤 𝓛.H 𝓜 𝓡 𝓡.env).Λ in
    proved_at 𝓛 ended stays c 𝓜 𝓡 (Goes-blank 𝓛 0 (slot_at 0 ended.signature.params) ended.kept.0 (λ κs x f. tt), tt) name fn
    (compiled.unfolded 𝓤 𝓛.H 𝓜 𝓡 wired) (λ z are.
    let Post : Val → SProp 𝓤 = (walk_of 𝓛 ended stays c).post z in
    let a = z.0.3 in
    let vss = z.0.4 in
    let x = a.0 in
    let p = x.ptr in
    let n = x.size in
    let told = memory_told p n vss.0 are.0.0 in
    let fits = told.1 in
    qed 𝓛 ((raw (alive 𝓛 ended.signature z.0.0 z.0.1) ⊛ ‵ (owns (types_at ended.signature.params z.0.0) a vss)) ∷ ‵ ftrue ∷ []) ∵ move ! (1 ∷ []) $ drop ! $
    split ! $ move ! (1 ∷ []) $
    fsplit ! $ fsplit ! $ drop ! $ move ! (1 ∷ []) $ drop ! $
    regoal ! (λ (us : List Val). prop (WpFn 𝓤 𝓛.H C Λ fn us Post)) (λ i. told.0 i ++ []) refl $
    enter ! C Λ fn (memory_val p n ∷ []) Post $
    alloc_all ! (λ l. pass_all ! refl ((and_tt _ ((ptr_typed p).0), ((ptr_typed p).1, (record { fits = fits }, tt))), tt) $
    sets ! (of_opd ! (get_in ! (fld ! refl (stop !)) (sub ! 0 refl (whole !)))) refl (ptr_typed p) $
    sets ! (of_opd ! (get_in ! (fld ! refl (stop !)) (sub ! 1 refl (whole !)))) refl (tt, record { fits = fits }) $
    sets ! (agg ! (and_then ! (get ! refl) (and_then ! (get ! refl) (no_more !)))) refl
    (and_tt _ ((ptr_typed p).0), ((ptr_typed p).1, (record { fits = fits }, tt))) $
    sets ! (agg ! (and_then ! (get ! refl) (and_then ! (get ! refl) (no_more !)))) refl
    (and_tt _ (and_tt _ ((ptr_typed p).0)), (record { fits = fits }, (((ptr_typed p).1, (record { fits = fits }, tt)), tt))) $
    returns ! (look_at ! 0 refl) $ free_all ! refl $
    use0 𝓛 (‵ (memory_own p n (memory_val p n ∷ []))) (memory_made 𝓛 p n fits) $ fjoin ! $ flt_i ! n (2 ^ 64) fits $
    feq_i ! (List Val) (vint w64 n ∷ []) (vint w64 n ∷ []) refl $ fjoin ! $
    use2 𝓛 (‵ ((Tuple (usize ∷ memory.the_row ∷ [])).own_val (n, x) (pair_val (vint w64 n) (memory_val p n) ∷ [])))
    (pair_of 𝓛 usize memory.the_row n x (vint w64 n) (memory_val p n)) $
    use0 𝓛 (raw (fact 𝓤 ((n ≡ n) × (x ≡ x)))) (fact_i 𝓤 ((n ≡ n) × (x ≡ x)) (emp 𝓤) (refl, refl)) $ nothing ! $ nothing ! $ fjoin ! $
    move ! (3 ∷ 0 ∷ 2 ∷ 1 ∷ []) $
    by ! (leaves 𝓛 ended stays c z (pair_val (vint w64 n) (memory_val p n)) (n, x) (tt, tt) (tt, tt))))

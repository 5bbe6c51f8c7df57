-- `split` cuts the units. Assumes `Logic`.
use Rattle.leg_c_memory.proofs.Steps.{◌≡◌, ◌+◌, ◌-◌, ◌^◌, ◌<◌, List, [], ◌∷◌, ◌++◌, refl, sym, ap, subst, ◌∙◌, arith, w64, Fn, Val, vint, vptr, SProp, emp, never, id⊢, Env, WpFn, fact, fact_i, tables, ‵, raw, ◌⊛◌, prop, at_ret, ◌$◌, ◌∵◌, !, qed, by, move, drop, use0, use1, use2, split, join, regoal, fsplit, fjoin, whole, sub, agg, stop, fld, bin, of_opd, no_more, and_then, first, blocks, exec, returns, enter, alloc_all, pass_all, free_all, look_at, get, get_in, sets, sets_last, is, env, owns, Ptr, block_ptr, block_of, count_of, in_a_block, types_at, nothing, heard, Tuple, alive, Stays, stay_dropped, walk_of, Goes-blank, Goes-dropped, after, pair_of, pair_val, proved_at, leaves, slot_at}
use Rattle.leg_c_memory.proofs.Units.{cuts, resized}
use Rattle.leg_c_memory.proofs.Values.{memory_val, memory_own, memory_told, memory_made}
use Rattle.leg_c_memory.specs.Sizes.{IsSize}
use Rattle.leg_c_memory.specs.Ownership.{bytes_at}
use Rattle.leg_c_memory.specs.contracts.memory.Memory as memory
use Rattle.leg_c_memory.specs.contracts.memory.Memory.split.{ended, clauses}
use Rattle.leg_c_memory.specs.contracts.memory.Memory.split.Key.{name}
use Rattle.leg_c_memory.proofs.memory.Memory.split.Statement.{statement}
use Rattle.leg_c_memory.proofs.memory.Memory.split.Code as compiled

pub split_spec : {M : Type 1} → statement M
split_spec 𝓤 𝓛 𝓜 𝓡 wired =
    let fn : Fn = compiled.function in
    let stays : Stays ended.signature.params ended.kept =
    (stay_dropped (slot_at 0 ended.signature.params) ended.kept.0, (stay_dropped (slot_at 1 ended.signature.params) ended.kept.1.0, tt)) in
    let c = clauses 𝓛 𝓜.mem 𝓡.returns in
    let C = (tables 𝓤 𝓛.H 𝓜 𝓡 𝓡.env).C in
    let Λ = (tables 𝓤 𝓛.H 𝓜 𝓡 𝓡.env).Λ in
    proved_at 𝓛 ended stays c 𝓜 𝓡 (
      Goes-blank 𝓛 0 (slot_at 0 ended.signature.params) ended.kept.0 (λ κs x f. tt),
      (Goes-dropped 𝓛 0 (slot_at 1 ended.signature.params) ended.kept.1.0 (λ κs x f. refl), tt),
    ) name fn (compiled.unfolded 𝓤 𝓛.H 𝓜 𝓡 wired) (λ z are.
    let Post : Val → SProp 𝓤 = (walk_of 𝓛 ended stays c).post z in
    let a = z.0.3 in
    let vss = z.0.4 in
    let x = a.0 in
    let p = x.ptr in
    let n = x.size in
    let f = a.1.0 in
    let told = memory_told p n vss.0 are.0.0 in
    let fits = told.1 in
    let Asked : Type 0 = IsSize f × (f < n) in
    qed 𝓛 ((raw (alive 𝓛 ended.signature z.0.0 z.0.1) ⊛ ‵ (owns (types_at ended.signature.params z.0.0) a vss)) ∷ raw (fact 𝓤 Asked) ∷ []) ∵ move ! (1 ∷ []) $
    heard ! Asked (λ asked. split ! $ move ! (1 ∷ []) $
    fsplit ! $ fsplit ! $ drop ! $ move ! (1 ∷ []) $ drop ! $ in_a_block ! p (λ q. bytes_at q n) (id⊢ 𝓤 (never 𝓤)) (λ b o at.
    let start : Ptr = block_ptr b o in
    let back : Ptr = block_ptr b (o + f) in
    let large = asked.0.0 in
    let even = asked.0.1 in
    let less = asked.1 in
    let whole' = x.fits.0.1 in
    let top : o + n < 2 ^ 63 = subst (λ (q : Ptr). count_of q + n < 2 ^ 63) at x.fits.1 in
    use1 𝓛 (‵ (bytes_at start (f + (n - f)))) (resized 𝓛 b o n (f + (n - f)) (omega arith)) $
    use1 𝓛 (‵ (bytes_at start f) ⊛ ‵ (bytes_at back (n - f))) (cuts 𝓛 b o f (n - f) even) $ split ! $
    regoal ! (λ (us : List Val). prop (WpFn 𝓤 𝓛.H C Λ fn us Post)) (λ i. (told.0 ∙ ap (λ (q : Ptr). memory_val q n ∷ []) at) i ++ (are.1.0.0 i ++ [])) refl $
    enter ! C Λ fn (memory_val start n ∷ vint w64 f ∷ []) Post $
    alloc_all ! (λ l. pass_all ! refl ((tt, (tt, (record { fits = fits }, tt))), ((tt, record { fits = are.1.0.1 }), tt)) $
    let En : Env 𝓤 𝓛.H = env fn.locals l in
    sets ! (of_opd ! (get_in ! (fld ! refl (stop !)) (sub ! 0 refl (whole !)))) refl (tt, tt) $
    sets ! (of_opd ! (get_in ! (fld ! refl (stop !)) (sub ! 1 refl (whole !)))) refl (tt, record { fits = fits }) $
    first ! $ blocks ! $
    sets ! (is ! (bin ! (get ! refl) (get ! refl) tt) (ap (vptr b) (let turned : f + o ≡ o + f = omega arith in turned))) refl (tt, tt) $
    sets ! (agg ! (and_then ! (get ! refl) (and_then ! (get ! refl) (no_more !)))) refl (tt, (tt, (record { fits = are.1.0.1 }, tt))) $
    sets ! (bin ! (get ! refl) (get ! refl) (omega arith)) refl (tt, record { fits = omega arith }) $
    sets ! (agg ! (and_then ! (get ! refl) (and_then ! (get ! refl) (no_more !)))) refl (tt, (tt, (record { fits = omega arith }, tt))) $
    sets_last ! (agg ! (and_then ! (get ! refl) (and_then ! (get ! refl) (no_more !)))) refl
    (tt, ((tt, (record { fits = are.1.0.1 }, tt)), ((tt, (record { fits = omega arith }, tt)), tt))) $
    exec ! C Λ En (after 3 fn.body) (at_ret En Post) $
    sets ! (of_opd ! (get ! refl)) refl (tt, ((tt, (record { fits = are.1.0.1 }, tt)), ((tt, (record { fits = omega arith }, tt)), tt))) $
    returns ! (look_at ! 0 refl) $ free_all ! refl $
    let u : (memory.the_row).Denot = record { ptr = start; size = f; fits = ((large, even), omega arith) } in
    let w : (memory.the_row).Denot = record { ptr = back; size = n - f; fits = ((omega arith, omega arith), omega arith) } in
    use0 𝓛 (‵ (memory_own start f (memory_val start f ∷ []))) (memory_made 𝓛 start f are.1.0.1) $ fjoin ! $ move ! (1 ∷ []) $
    use0 𝓛 (‵ (memory_own back (n - f) (memory_val back (n - f) ∷ []))) (memory_made 𝓛 back (n - f) (omega arith)) $ fjoin ! $ move ! (1 ∷ 0 ∷ []) $
    use2 𝓛 (‵ ((Tuple (memory.the_row ∷ memory.the_row ∷ [])).own_val (u, w) (pair_val (memory_val start f) (memory_val back (n - f)) ∷ [])))
    (pair_of 𝓛 memory.the_row memory.the_row u w (memory_val start f) (memory_val back (n - f))) $
    use0 𝓛 (raw (fact 𝓤 ((b ≡ block_of p) × (n - f ≡ n - f)))) (fact_i 𝓤 ((b ≡ block_of p) × (n - f ≡ n - f)) (emp 𝓤) (sym (ap block_of at), refl)) $
    use0 𝓛 (raw (fact 𝓤 ((start ≡ p) × (f ≡ f)))) (fact_i 𝓤 ((start ≡ p) × (f ≡ f)) (emp 𝓤) (sym at, refl)) $ join ! $
    nothing ! $ nothing ! $ fjoin ! $ nothing ! $ fjoin ! $ move ! (3 ∷ 0 ∷ 2 ∷ 1 ∷ []) $
    by ! (leaves 𝓛 ended stays c z (pair_val (memory_val start f) (memory_val back (n - f))) (u, w) (tt, (tt, tt)) (tt, (tt, tt)))))))

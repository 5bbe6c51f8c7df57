-- `join` glues the units where the two touch. Assumes `Logic`.
use Rattle.leg_c_memory.proofs.Steps.{◌≡◌, ℕ, ◌+◌, ◌^◌, ◌<◌, List, [], ◌∷◌, ◌++◌, refl, sym, ap, subst, ◌∙◌, arith, lit<, eqb→eq, Ok, Err, Fn, Val, vcons, vnil, SProp, emp, never, id⊢, Env, WpFn, fact, fact_i, tables, ‵, raw, ◌⊛◌, prop, at_ret, ◌$◌, ◌∵◌, !, qed, by, move, drop, use0, use1, use2, split, rewrite, regoal, fsplit, fsplit3, fjoin, whole, sub, agg, live, stop, fld, lit, bin, of_opd, no_more, and_then, first, blocks, branches, exec, returns, enter, alloc_all, pass_all, free_all, look_at, get, get_in, sets, sets_last, env, owns, Ptr, block_ptr, block_of, count_of, in_a_block, tests_same, RattleType, types_at, type_at, nothing, heard, Tuple, alive, Stays, stay_dropped, walk_of, Goes-blank, after, head, inside, pair_of, pair_val, ok_of, err_of, proved_at, leaves, slot_at, then_runs, out_of_block}
use Rattle.leg_c_memory.proofs.Units.{glues}
use Rattle.leg_c_memory.proofs.Values.{memory_val, memory_own, memory_told, memory_made}
use Rattle.leg_c_memory.specs.Ownership.{bytes_at}
use Rattle.leg_c_memory.specs.contracts.memory.Memory as memory
use Rattle.leg_c_memory.specs.contracts.memory.Memory.join.{ended, clauses}
use Rattle.leg_c_memory.specs.contracts.memory.Memory.join.Key.{name}
use Rattle.leg_c_memory.proofs.memory.Memory.join.Statement.{statement}
use Rattle.leg_c_memory.proofs.memory.Memory.join.Code as compiled

pub join_spec : {M : Type 1} → statement M
join_spec 𝓤 𝓛 𝓜 𝓡 wired =
    let fn : Fn = compiled.function in
    let stays : Stays ended.signature.params ended.kept =
    (stay_dropped (slot_at 0 ended.signature.params) ended.kept.0, (stay_dropped (slot_at 1 ended.signature.params) ended.kept.1.0, tt)) in
    let c = clauses 𝓛 𝓜.mem 𝓡.returns in
    let C = (tables 𝓤 𝓛.H 𝓜 𝓡 𝓡.env).C in
    let Λ = (tables 𝓤 𝓛.H 𝓜 𝓡 𝓡.env).Λ in
    proved_at 𝓛 ended stays c 𝓜 𝓡 (
      Goes-blank 𝓛 0 (slot_at 0 ended.signature.params) ended.kept.0 (λ κs x f. tt),
      (Goes-blank 𝓛 0 (slot_at 1 ended.signature.params) ended.kept.1.0 (λ κs x f. tt), tt),
    ) name fn (compiled.unfolded 𝓤 𝓛.H 𝓜 𝓡 wired) (λ z are.
    let Post : Val → SProp 𝓤 = (walk_of 𝓛 ended stays c).post z in
    let a = z.0.3 in
    let vss = z.0.4 in
    let x = a.0 in
    let p = x.ptr in
    let n = x.size in
    let y = a.1.0 in
    let q = y.ptr in
    let m = y.size in
    let told = memory_told p n vss.0 are.0.0 in
    let told' = memory_told q m vss.1.0 are.1.0.0 in
    let fits = told.1 in
    let fits' = told'.1 in
    let Pair : RattleType = Tuple (memory.the_row ∷ memory.the_row ∷ []) in
    let Out : RattleType = type_at ended.signature.result z.0.0 in
    let Asked : Type 0 = block_of q ≡ block_of p in
    qed 𝓛 ((raw (alive 𝓛 ended.signature z.0.0 z.0.1) ⊛ ‵ (owns (types_at ended.signature.params z.0.0) a vss)) ∷ raw (fact 𝓤 Asked) ∷ []) ∵ move ! (1 ∷ []) $
    heard ! Asked (λ asked. split ! $ move ! (1 ∷ []) $
    fsplit3 ! $ fsplit ! $ drop ! $ move ! (2 ∷ []) $ drop ! $ move ! (1 ∷ []) $ fsplit ! $ drop ! $
    in_a_block ! q (λ u. bytes_at u m) (id⊢ 𝓤 (never 𝓤)) (λ b' o' at'. move ! (1 ∷ []) $ in_a_block ! p (λ u. bytes_at u n) (id⊢ 𝓤 (never 𝓤)) (λ b o at.
    let start : Ptr = block_ptr b o in
    let place : Ptr = block_ptr b o' in
    let same : b' ≡ b = sym (ap block_of at') ∙ asked ∙ ap block_of at in
    let lies : q ≡ place = at' ∙ ap (λ (k : ℕ). block_ptr k o') same in
    let top : o + n < 2 ^ 63 = subst (λ (u : Ptr). count_of u + n < 2 ^ 63) at x.fits.1 in
    let top' : o' + m < 2 ^ 63 = subst (λ (u : Ptr). count_of u + m < 2 ^ 63) at' y.fits.1 in
    let large = x.fits.0.0 in
    let even = x.fits.0.1 in
    let even' = y.fits.0.1 in
    rewrite ! 1 (λ (k : ℕ). ‵ (bytes_at (block_ptr k o') m)) same refl $
    regoal ! (λ (us : List Val). prop (WpFn 𝓤 𝓛.H C Λ fn us Post))
    (λ i. (told.0 ∙ ap (λ (u : Ptr). memory_val u n ∷ []) at) i ++ ((told'.0 ∙ ap (λ (u : Ptr). memory_val u m ∷ []) lies) i ++ [])) refl $
    enter ! C Λ fn (memory_val start n ∷ memory_val place m ∷ []) Post $
    alloc_all ! (λ l. pass_all ! refl ((tt, (tt, (record { fits = fits }, tt))), ((tt, (tt, (record { fits = fits' }, tt))), tt)) $
    let En : Env 𝓤 𝓛.H = env fn.locals l in
    sets ! (of_opd ! (get_in ! (fld ! refl (stop !)) (sub ! 0 refl (whole !)))) refl (tt, tt) $
    sets ! (of_opd ! (get_in ! (fld ! refl (stop !)) (sub ! 1 refl (whole !)))) refl (tt, record { fits = fits }) $
    sets ! (of_opd ! (get_in ! (fld ! refl (stop !)) (sub ! 0 refl (whole !)))) refl (tt, tt) $
    sets ! (of_opd ! (get_in ! (fld ! refl (stop !)) (sub ! 1 refl (whole !)))) refl (tt, record { fits = fits' }) $
    first ! $ blocks ! $
    sets ! (bin ! (get ! refl) (get ! refl) tt) refl (tt, tt) $
    sets ! (bin ! (get ! refl) (get ! refl) (tests_same b (n + o) o' (omega arith) (omega arith))) refl (tt, tt) $
    first ! $ branches ! (get ! refl)
    (λ yes. let touch : o + n ≡ o' = omega (arith, eqb→eq (n + o) o' yes) in
    sets ! (bin ! (get ! refl) (get ! refl) (record { fits = omega arith })) refl (tt, record { fits = omega arith }) $
    sets ! (agg ! (and_then ! (get ! refl) (and_then ! (get ! refl) (no_more !)))) refl (tt, (tt, (record { fits = omega arith }, tt))) $
    sets_last ! (agg ! (and_then ! (lit ! tt) (and_then ! (get ! refl) (no_more !)))) refl
    (tt, (record { fits = lit< tt }, ((tt, (record { fits = omega arith }, tt)), tt))) $
    exec ! C Λ En (after 3 (inside (head (after 4 fn.body)))) (out_of_block 𝓛 (then_runs 𝓛 C Λ En (after 5 fn.body) (at_ret En Post))) $
    sets_last ! (of_opd ! (get ! refl)) refl (tt, (record { fits = lit< tt }, ((tt, (record { fits = omega arith }, tt)), tt))) $
    exec ! C Λ En (after 5 fn.body) (at_ret En Post) $
    sets ! (of_opd ! (get ! refl)) refl (tt, (record { fits = lit< tt }, ((tt, (record { fits = omega arith }, tt)), tt))) $
    returns ! (look_at ! 0 refl) $ free_all ! refl $
    let w : (memory.the_row).Denot = record { ptr = start; size = n + m; fits = ((omega arith, omega arith), omega arith) } in
    let v : Val = memory_val start (n + m) in
    rewrite ! 1 (λ (k : ℕ). ‵ (bytes_at (block_ptr b k) m)) (sym touch) refl $ use2 𝓛 (‵ (bytes_at start (n + m))) (glues 𝓛 b o n m even) $
    use0 𝓛 (‵ (memory_own start (n + m) (v ∷ []))) (memory_made 𝓛 start (n + m) (omega arith)) $ fjoin ! $
    use1 𝓛 (‵ (Out.own_val (Ok w) (live 0 (vcons v vnil) ∷ []))) (ok_of 𝓛 memory.the_row Pair w v) $
    use0 𝓛 (raw (fact 𝓤 ((start ≡ p) × (n + m ≡ n + m)))) (fact_i 𝓤 ((start ≡ p) × (n + m ≡ n + m)) (emp 𝓤) (sym at, refl)) $
    nothing ! $ nothing ! $ fjoin ! $ nothing ! $ fjoin ! $ move ! (3 ∷ 0 ∷ 2 ∷ 1 ∷ []) $
    by ! (leaves 𝓛 ended stays c z (live 0 (vcons v vnil)) (Ok w) (tt, (tt, tt)) (tt, (tt, tt))))
    (λ no.
    sets ! (agg ! (and_then ! (get ! refl) (and_then ! (get ! refl) (no_more !)))) refl (tt, (tt, (record { fits = fits }, tt))) $
    sets ! (agg ! (and_then ! (get ! refl) (and_then ! (get ! refl) (no_more !)))) refl (tt, (tt, (record { fits = fits' }, tt))) $
    sets ! (agg ! (and_then ! (get ! refl) (and_then ! (get ! refl) (no_more !)))) refl
    (tt, ((tt, (record { fits = fits }, tt)), ((tt, (record { fits = fits' }, tt)), tt))) $
    sets_last ! (agg ! (and_then ! (lit ! tt) (and_then ! (get ! refl) (no_more !)))) refl
    (tt, (record { fits = lit< tt }, (((tt, (record { fits = fits }, tt)), ((tt, (record { fits = fits' }, tt)), tt)), tt))) $
    exec ! C Λ En (after 3 (inside (head (after 4 fn.body)))) (out_of_block 𝓛 (then_runs 𝓛 C Λ En (after 5 fn.body) (at_ret En Post))) $
    sets_last ! (of_opd ! (get ! refl)) refl (
      tt,
      (
        record { fits = lit< tt },
        (((tt, (record { fits = fits }, tt)), ((tt, (record { fits = fits' }, tt)), tt)), tt),
      ),
    ) $
    exec ! C Λ En (after 5 fn.body) (at_ret En Post) $
    sets ! (of_opd ! (get ! refl)) refl (
      tt,
      (
        record { fits = lit< tt },
        (((tt, (record { fits = fits }, tt)), ((tt, (record { fits = fits' }, tt)), tt)), tt),
      ),
    ) $
    returns ! (look_at ! 0 refl) $ free_all ! refl $
    let v : Val = pair_val (memory_val start n) (memory_val place m) in
    rewrite ! 0 (λ (u : Ptr). ‵ (bytes_at u n)) (sym at) refl $
    use0 𝓛 (‵ (memory_own p n (memory_val p n ∷ []))) (memory_made 𝓛 p n fits) $ rewrite ! 0 (λ (u : Ptr). ‵ (memory_own p n (memory_val u n ∷ []))) at refl $
    fjoin ! $ move ! (1 ∷ []) $
    rewrite ! 0 (λ (u : Ptr). ‵ (bytes_at u m)) (sym lies) refl $
    use0 𝓛 (‵ (memory_own q m (memory_val q m ∷ []))) (memory_made 𝓛 q m fits') $
    rewrite ! 0 (λ (u : Ptr). ‵ (memory_own q m (memory_val u m ∷ []))) lies refl $ fjoin ! $ move ! (1 ∷ 0 ∷ []) $
    use2 𝓛 (‵ (Pair.own_val (x, y) (v ∷ []))) (pair_of 𝓛 memory.the_row memory.the_row x y (memory_val start n) (memory_val place m)) $
    use1 𝓛 (‵ (Out.own_val (Err (x, y)) (live 1 (vcons v vnil) ∷ []))) (err_of 𝓛 memory.the_row Pair (x, y) v) $
    use0 𝓛 (raw (fact 𝓤 ((x, y) ≡ (x, y)))) (fact_i 𝓤 ((x, y) ≡ (x, y)) (emp 𝓤) refl) $
    nothing ! $ nothing ! $ fjoin ! $ nothing ! $ fjoin ! $ move ! (3 ∷ 0 ∷ 2 ∷ 1 ∷ []) $
    by ! (leaves 𝓛 ended stays c z (live 1 (vcons v vnil)) (Err (x, y)) (tt, (tt, tt)) (tt, (tt, tt)))))))))

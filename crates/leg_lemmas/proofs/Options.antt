-- Options, and results, by what is known of them.
use Rattle.std.proofs.Common.{◌≡◌, false, Option, None, Some, Result, Ok, Err, refl, sym}
use Rattle.std.specs.Option.{SomeIff, IsSome, is_some}
use Rattle.std.specs.Result.{OnErr}
use Rattle.std.proofs.lemmas.Bool.{false≢true}

-- what is there exactly where a fact holds: it is there, and it is this
pub there_where : {T : Type 0} (made : Option T) (P : Type 0) (v : T) → SomeIff made P v → P → IsSome made
there_where None P v iff holds = absurd (iff holds)
there_where (Some x) P v iff holds = refl

pub value_there : {T : Type 0} (made : Option T) (P : Type 0) (v x : T) → SomeIff made P v → made ≡ Some x → x ≡ v
value_there None P v x iff is = absurd (let e : ⊥ = cc in e)
value_there (Some y) P v x iff is = let same : y ≡ x = cc in rw (← same) iff.1

pub none_is : {X : Type 0} (o : Option X) → is_some o ≡ false → o ≡ None
none_is None none = refl
none_is (Some x) none = absurd (false≢true (sym none))

-- what holds anyway holds if there is an error
pub on_err_anyway : {T E P : Type 0} (r : Result T E) → P → OnErr r P
on_err_anyway (Ok done) holds = tt
on_err_anyway (Err refusal) holds = holds

-- From the calls at the places of a list to its elements.
use Rattle.std.proofs.Common.{◌≡◌, ℕ, zero, suc, ◌<◌, List, [], ◌∷◌, Result, Ok, Err, IfOk, Some, length, refl, subst, arith}
use Rattle.std.specs.Prelude.{slice_get}
use Rattle.std.proofs.lemmas.Option.{slice_get_within}
use denote.Ref.{MutBor}
use denote.Param.Members.{Shared}
use Rattle.thread_runs.specs.Runs.{ChangesEach}

pub an_element : {A : Type 0} (xs : List A) (i : ℕ) → i < length xs → (x : A) × (slice_get xs i ≡ Some x)
an_element [] i h = absurd (omega (arith, h))
an_element (x ∷ xs) zero h = (x, refl)
an_element (x ∷ xs) (suc i) h = an_element xs i (omega (arith, h))

-- what each call that answers Ok gives holds of each element, before and after
pub by_calls : {F T E : Type 0} (g : Shared F (ℕ × (MutBor T × Unit {0})) (Result (Unit {0}) E × (MutBor T × Unit {0}))) (f : F) (P : ℕ → T → T → Type 0)
    → ((i : ℕ) (p q : MutBor T) → g.post f (i, (p, tt)) (Ok tt, (q, tt)) → P i p.now q.now)
    → (xs ys : List T) (r : Result (Unit {0}) E) → IfOk r (λ _. ChangesEach g f xs ys)
    → IfOk r (λ _. (i : ℕ) (x y : T) → slice_get xs i ≡ Some x → slice_get ys i ≡ Some y → P i x y)
by_calls g f P gives xs ys (Ok _) changed = λ i x y before after.
    let it = changed i x y before after in
    subst (P i x) it.left (subst (λ z. P i z it.after_call.now) it.argument_is (gives i it.argument it.after_call it.call))
by_calls g f P gives xs ys (Err _) changed = tt

-- and what it gives of an element as it is afterwards
pub after_calls : {F T E : Type 0} (g : Shared F (ℕ × (MutBor T × Unit {0})) (Result (Unit {0}) E × (MutBor T × Unit {0}))) (f : F) (P : ℕ → T → Type 0)
    → ((i : ℕ) (p q : MutBor T) → g.post f (i, (p, tt)) (Ok tt, (q, tt)) → P i q.now)
    → (xs ys : List T) (r : Result (Unit {0}) E) → length ys ≡ length xs → IfOk r (λ _. ChangesEach g f xs ys)
    → IfOk r (λ _. (i : ℕ) (y : T) → slice_get ys i ≡ Some y → P i y)
after_calls g f P gives xs ys (Ok _) many changed = λ i y after.
    let within = slice_get_within ys i y after in
    let x = an_element xs i (omega (arith, within, many)) in
    let it = changed i x.0 y x.1 after in
    subst (P i) it.left (gives i it.argument it.after_call it.call)
after_calls g f P gives xs ys (Err _) many changed = tt

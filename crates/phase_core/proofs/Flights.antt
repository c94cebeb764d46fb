-- The flight on one thread: envelopes last first, and an outbox behind them.
use Rattle.std.proofs.Common.{◌≡◌, List, [], ◌∷◌, ◌++◌, Option, None, Some, IfSome, reverse, ap, sym, ◌∙◌}
use Rattle.std.specs.Option.{option_to_list}
use Rattle.std.proofs.lemmas.List.{append-nil, append_assoc, reverse-append, reverse-reverse}

-- the last of the first list is the first of the flight
pub popped : {A : Type 0} (flight next after out : List A) (taken : Option A) → flight ≡ reverse next ++ out → next ≡ after ++ option_to_list taken → IfSome taken (λ e. flight ≡ e ∷ reverse after ++ out)
popped flight next after out None is left = tt
popped {A} flight next after out (Some e) is left =
    let whole : List A → List A = λ xs. reverse xs ++ out in
    let behind : List A → List A = λ xs. xs ++ out in
    is ∙ (ap whole left ∙ ap behind (reverse-append after (e ∷ [])))

-- where the first list is used up, what waited behind it takes its place
pub turned : {A : Type 0} (flight next out first behind : List A) → flight ≡ reverse next ++ out → next ≡ [] → first ≡ reverse out → behind ≡ next → flight ≡ reverse first ++ behind
turned {A} flight next out first behind is none f b =
    let start : List A → List A = λ xs. reverse xs ++ out in
    let end : List A → List A = λ xs. reverse xs ++ behind in
    let last : List A → List A = λ xs. out ++ xs in
    is ∙ (ap start none ∙ sym (ap end f ∙ (ap (λ xs. xs ++ behind) (reverse-reverse out) ∙ (ap last (b ∙ none) ∙ append-nil out))))

-- what is sent goes behind the flight
pub sent_behind : {A : Type 0} (flight first out sent after : List A) → first ++ out ≡ flight → after ≡ out ++ sent → first ++ after ≡ flight ++ sent
sent_behind {A} flight first out sent after is went =
    let behind : List A → List A = λ xs. first ++ xs in
    let before : List A → List A = λ xs. xs ++ sent in
    ap behind went ∙ (sym (append_assoc first out sent) ∙ ap before is)

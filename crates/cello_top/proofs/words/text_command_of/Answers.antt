-- The one word is that of the command.
use Rattle.std.proofs.Common.{◌≡◌, [], ◌∷◌, arith, sym, ◌∙◌, inl, inr}
use Rattle.std.specs.String.{string_bytes}
use Rattle.std.proofs.lemmas.Bool.{false≢true}
use Rattle.std.proofs.lemmas.Slice.Eq.{bytes_eq-Decides}
use Rattle.cello_top.proofs.OneWord.{map-one}
use Rattle.cello_top.proofs.words.text_command_of.Goals as goal

pub returns-in-len1-clause-found : goal.returns-in-len1-clause-found
returns-in-len1-clause-found c =
    let bytes : string_bytes c.word-item.result ≡ 115 ∷ 111 ∷ 108 ∷ 111 ∷ [] = sym c.as_str.ensures.value ∙ (bytes_eq-Decides c.as_str.result.now (115 ∷ 111 ∷ 108 ∷ 111 ∷ [])).0 (sym c.eq.ensures ∙ c.if-eq.true) in
    map-one string_bytes c.args.words.now c.word-item.result (115 ∷ 111 ∷ 108 ∷ 111 ∷ []) (omega arith) (omega arith) c.word-item.is bytes

pub returns-in-len1-clause-none : goal.returns-in-len1-clause-none
returns-in-len1-clause-none c =
    let bytes : string_bytes c.word-item.result ≡ 115 ∷ 111 ∷ 108 ∷ 111 ∷ [] = sym c.as_str.ensures.value ∙ (bytes_eq-Decides c.as_str.result.now (115 ∷ 111 ∷ 108 ∷ 111 ∷ [])).0 (sym c.eq.ensures ∙ c.if-eq.true) in
    let full = map-one string_bytes c.args.words.now c.word-item.result (115 ∷ 111 ∷ 108 ∷ 111 ∷ []) (omega arith) (omega arith) c.word-item.is bytes in
    ((λ e. absurd (false≢true (sym e))), (λ other. absurd (other (inl full))))

pub returns-in-len1-2-clause-found : goal.returns-in-len1-2-clause-found
returns-in-len1-2-clause-found c =
    let bytes : string_bytes c.word-item-then-words-lt2.result ≡ 99 ∷ 104 ∷ 101 ∷ 99 ∷ 107 ∷ [] = sym c.as_str-then-words-lt2.ensures.value ∙ (bytes_eq-Decides c.as_str-then-words-lt2.result.now (99 ∷ 104 ∷ 101 ∷ 99 ∷ 107 ∷ [])).0 (sym c.eq-then-words-lt2.ensures ∙ c.if-eq-2.true) in
    map-one string_bytes c.args.words.now c.word-item-then-words-lt2.result (99 ∷ 104 ∷ 101 ∷ 99 ∷ 107 ∷ []) (omega arith) (omega arith) c.word-item-then-words-lt2.is bytes

pub returns-in-len1-2-clause-none : goal.returns-in-len1-2-clause-none
returns-in-len1-2-clause-none c =
    let bytes : string_bytes c.word-item-then-words-lt2.result ≡ 99 ∷ 104 ∷ 101 ∷ 99 ∷ 107 ∷ [] = sym c.as_str-then-words-lt2.ensures.value ∙ (bytes_eq-Decides c.as_str-then-words-lt2.result.now (99 ∷ 104 ∷ 101 ∷ 99 ∷ 107 ∷ [])).0 (sym c.eq-then-words-lt2.ensures ∙ c.if-eq-2.true) in
    let full = map-one string_bytes c.args.words.now c.word-item-then-words-lt2.result (99 ∷ 104 ∷ 101 ∷ 99 ∷ 107 ∷ []) (omega arith) (omega arith) c.word-item-then-words-lt2.is bytes in
    ((λ e. absurd (false≢true (sym e))), (λ other. absurd (other (inr full))))

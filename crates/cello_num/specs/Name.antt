-- How a name of at most 32 bytes lies in its 32 places: its bytes, and then zeros.
use Rattle.std.specs.Prelude.{◌≡◌, ℕ, ◌-◌, ◌≤◌, List, ◌++◌, length, take, drop, replicate}
use Rattle.std.proofs.Common.{arith, sym, ◌∙◌, ap, take-append-drop, length-take-le}
use Rattle.cello_num.specs.declared.name.Name.TheInside.{Inside}

-- the bytes of the name
abbrev pub name_bytes : Inside → List ℕ
name_bytes a = take a.length a.bytes

-- behind the name there are zeros only
abbrev pub IsPadded : Inside → Type 0
IsPadded a = (a.length ≤ 32) × (length a.bytes ≡ 32) × (drop a.length a.bytes ≡ replicate (32 - a.length) 0)

-- the places of a name with these bytes
abbrev pub padded : List ℕ → Inside
padded name = record { bytes = name ++ replicate (32 - length name) 0; length = length name }

-- a name's bytes give its places back
pub padded-name_bytes : (a : Inside) → IsPadded a → padded (name_bytes a) ≡ a
padded-name_bytes a h =
    let long : length (name_bytes a) ≡ a.length = length-take-le a.length a.bytes (omega (arith, h.0, h.1)) in
    let full : name_bytes a ++ replicate (32 - length (name_bytes a)) 0 ≡ a.bytes =
    ap (λ n. name_bytes a ++ replicate (32 - n) 0) long ∙ ap (λ (l : List ℕ). name_bytes a ++ l) (sym h.2) ∙ take-append-drop a.length a.bytes in
    λ i. record { bytes = full i; length = long i }

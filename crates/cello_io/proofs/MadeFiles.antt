-- The files that lie one after another in one room.
use Rattle.std.proofs.Common.{◌≡◌, ℕ, suc, ◌+◌, ◌<◌, ◌≤◌, true, false, ◌==◌, IsTrue, List, [], ◌∷◌, ◌++◌, length, take, drop, get_or, set, zero, refl, sym, ap, ◌∙◌, arith}
use Rattle.std.proofs.lemmas.List.{take_all, take-append-le, drop-append-le, length-drop, map-append}
use Rattle.std.proofs.lemmas.Bool.{and_parts, and_from, eqb-true, eq-eqb, false≢true}
use Rattle.std.proofs.Math.Seq.{take-append-add}
use Rattle.cello_io.specs.declared.files.WrittenFile.{WrittenFile}
use Rattle.cello_io.specs.Files.{MadeFile, with_last, is_last_open, new_file, grown, sealed_file}
use Rattle.cello_io.specs.StoredFiles.{made_of, made_files, lie_from, longer, complete}

-- ---- the last element

pub set-last : {A : Type 0} (change : A → A) (xs : List A) (i : ℕ) (x : A) → length xs ≡ i + 1 → x ≡ get_or xs i x → set xs i (change x) ≡ with_last change xs
set-last change [] i x long is = absurd (omega (arith, long))
set-last change (a ∷ []) zero x long is = ap (λ y. change y ∷ []) is
set-last change (a ∷ []) (suc i) x long is = absurd (omega (arith, long))
set-last change (a ∷ b ∷ xs) zero x long is = absurd (omega (arith, long))
set-last change (a ∷ b ∷ xs) (suc i) x long is = ap (λ l. a ∷ l) (set-last change (b ∷ xs) i x (omega (arith, long)) is)

pub length-with_last : {A : Type 0} (change : A → A) (xs : List A) → length (with_last change xs) ≡ length xs
length-with_last change [] = refl
length-with_last change (a ∷ []) = refl
length-with_last change (a ∷ b ∷ xs) = ap suc (length-with_last change (b ∷ xs))

pub is_last_open-some : (files : List MadeFile) → IsTrue (is_last_open files) → 0 < length files
is_last_open-some [] is_open = absurd (false≢true is_open)
is_last_open-some (file ∷ files) is_open = omega arith

pub is_last_open-added : (files : List MadeFile) (name : List ℕ) → is_last_open (files ++ new_file name ∷ []) ≡ true
is_last_open-added [] name = refl
is_last_open-added (a ∷ []) name = refl
is_last_open-added (a ∷ b ∷ files) name = is_last_open-added (b ∷ files) name

pub is_last_open-grown : (bytes : List ℕ) (files : List MadeFile) → is_last_open (with_last (grown bytes) files) ≡ is_last_open files
is_last_open-grown bytes [] = refl
is_last_open-grown bytes (a ∷ []) = refl
is_last_open-grown bytes (a ∷ b ∷ []) = refl
is_last_open-grown bytes (a ∷ b ∷ c ∷ files) = is_last_open-grown bytes (b ∷ c ∷ files)

pub is_last_open-sealed : (files : List MadeFile) → is_last_open (with_last sealed_file files) ≡ false
is_last_open-sealed [] = refl
is_last_open-sealed (a ∷ []) = refl
is_last_open-sealed (a ∷ b ∷ []) = refl
is_last_open-sealed (a ∷ b ∷ c ∷ files) = is_last_open-sealed (b ∷ c ∷ files)

-- ---- how files lie

lie_first : (at : ℕ) (file : WrittenFile) (files : List WrittenFile) (end : ℕ) → IsTrue (lie_from at (file ∷ files) end) → file.start ≡ at
lie_first at file files end lie = eqb-true file.start at (and_parts (file.start == at) (lie_from (at + file.length) files end) lie).0

lie_rest : (at : ℕ) (file : WrittenFile) (files : List WrittenFile) (end : ℕ) → IsTrue (lie_from at (file ∷ files) end) → IsTrue (lie_from (at + file.length) files end)
lie_rest at file files end lie = (and_parts (file.start == at) (lie_from (at + file.length) files end) lie).1

lie_both : (at : ℕ) (file : WrittenFile) (files : List WrittenFile) (end : ℕ) → file.start ≡ at → IsTrue (lie_from (at + file.length) files end) → IsTrue (lie_from at (file ∷ files) end)
lie_both at file files end starts rest = and_from (file.start == at) (lie_from (at + file.length) files end) (eq-eqb file.start at starts) rest

-- they end at or behind their begin
lie_up : (at : ℕ) (files : List WrittenFile) (end : ℕ) → IsTrue (lie_from at files end) → at ≤ end
lie_up at [] end lie = omega (arith, eqb-true at end lie)
lie_up at (file ∷ files) end lie = omega (arith, lie_up (at + file.length) files end (lie_rest at file files end lie))

-- no file is longer than the room is full
pub short_files : (at : ℕ) (files : List WrittenFile) (end : ℕ) → IsTrue (lie_from at files end) → (k : ℕ) → (d : WrittenFile) → k < length files → (get_or files k d).length ≤ end
short_files at [] end lie k d below = absurd (omega (arith, below))
short_files at (file ∷ files) end lie zero d below = omega (arith, lie_up (at + file.length) files end (lie_rest at file files end lie))
short_files at (file ∷ files) end lie (suc k) d below = short_files (at + file.length) files end (lie_rest at file files end lie) k d (omega (arith, below))

pub lie-added : (at : ℕ) (files : List WrittenFile) (end : ℕ) (file : WrittenFile) → IsTrue (lie_from at files end) → file.start ≡ end → file.length ≡ 0 → IsTrue (lie_from at (files ++ file ∷ []) end)
lie-added at [] end file lie starts empty = lie_both at file [] end (omega (arith, eqb-true at end lie, starts)) (eq-eqb (at + file.length) end (omega (arith, eqb-true at end lie, empty)))
lie-added at (a ∷ files) end file lie starts empty =
    lie_both at a (files ++ file ∷ []) end (lie_first at a files end lie) (lie-added (at + a.length) files end file (lie_rest at a files end lie) starts empty)

pub lie-longer : (at : ℕ) (files : List WrittenFile) (end count : ℕ) → 0 < length files → IsTrue (lie_from at files end) → IsTrue (lie_from at (with_last (longer count) files) (end + count))
lie-longer at [] end count some lie = absurd (omega (arith, some))
lie-longer at (a ∷ []) end count some lie =
    lie_both at (longer count a) [] (end + count) (lie_first at a [] end lie)
    (eq-eqb (at + (a.length + count)) (end + count) (omega (arith, eqb-true (at + a.length) end (lie_rest at a [] end lie))))
lie-longer at (a ∷ b ∷ files) end count some lie =
    lie_both at a (with_last (longer count) (b ∷ files)) (end + count) (lie_first at a (b ∷ files) end lie)
    (lie-longer (at + a.length) (b ∷ files) end count (omega arith) (lie_rest at a (b ∷ files) end lie))

pub lie-complete : (at : ℕ) (files : List WrittenFile) (end : ℕ) → IsTrue (lie_from at files end) → IsTrue (lie_from at (with_last complete files) end)
lie-complete at [] end lie = lie
lie-complete at (a ∷ []) end lie = lie
lie-complete at (a ∷ b ∷ files) end lie =
    lie_both at a (with_last complete (b ∷ files)) end (lie_first at a (b ∷ files) end lie) (lie-complete (at + a.length) (b ∷ files) end (lie_rest at a (b ∷ files) end lie))

-- ---- the bytes of files

-- a file whose bytes stand in the room keeps them where the room gets more
made_of-more : (room piece : List ℕ) (file : WrittenFile) → file.start + file.length ≤ length room → made_of (room ++ piece) file ≡ made_of room file
made_of-more room piece file within =
    let bytes : take file.length (drop file.start (room ++ piece)) ≡ take file.length (drop file.start room) =
    ap (take file.length) (drop-append-le file.start room piece (omega (arith, within)))
    ∙ take-append-le file.length (drop file.start room) piece (omega (arith, within, length-drop file.start room)) in
    ap (λ (l : List ℕ). record (made_of room file) { bytes = l }) bytes

-- the file at the room's end has the new bytes
made_of-longer : (room piece : List ℕ) (file : WrittenFile) → file.start + file.length ≡ length room → made_of (room ++ piece) (longer (length piece) file) ≡ grown piece (made_of room file)
made_of-longer room piece file ends =
    let old = drop file.start room in
    let long : length old ≡ file.length = omega (arith, ends, length-drop file.start room) in
    let bytes : take (file.length + length piece) (drop file.start (room ++ piece)) ≡ take file.length old ++ piece =
    ap (take (file.length + length piece)) (drop-append-le file.start room piece (omega (arith, ends)))
    ∙ ap (λ n. take (n + length piece) (old ++ piece)) (sym long)
    ∙ take-append-add old piece (length piece)
    ∙ ap (λ (l : List ℕ). old ++ l) (take_all (length piece) piece (omega arith))
    ∙ ap (λ (l : List ℕ). l ++ piece) (sym (take_all file.length old (omega (arith, long)))) in
    ap (λ (l : List ℕ). record (made_of room file) { bytes = l }) bytes

pub made_files-longer : (at : ℕ) (files : List WrittenFile) (room piece : List ℕ) → 0 < length files → IsTrue (lie_from at files (length room))
    → made_files (room ++ piece) (with_last (longer (length piece)) files) ≡ with_last (grown piece) (made_files room files)
made_files-longer at [] room piece some lie = absurd (omega (arith, some))
made_files-longer at (a ∷ []) room piece some lie =
    let starts = lie_first at a [] (length room) lie in
    let ends = eqb-true (at + a.length) (length room) (lie_rest at a [] (length room) lie) in
    ap (λ (f : MadeFile). f ∷ []) (made_of-longer room piece a (omega (arith, starts, ends)))
made_files-longer at (a ∷ b ∷ files) room piece some lie =
    let starts = lie_first at a (b ∷ files) (length room) lie in
    let rest = lie_rest at a (b ∷ files) (length room) lie in
    ap (λ (f : MadeFile). f ∷ made_files (room ++ piece) (with_last (longer (length piece)) (b ∷ files))) (made_of-more room piece a (omega (arith, starts, lie_up (at + a.length) (b ∷ files) (length room) rest)))
    ∙ ap (λ (l : List MadeFile). made_of room a ∷ l) (made_files-longer (at + a.length) (b ∷ files) room piece (omega arith) rest)

pub made_files-complete : (room : List ℕ) (files : List WrittenFile) → made_files room (with_last complete files) ≡ with_last sealed_file (made_files room files)
made_files-complete room [] = refl
made_files-complete room (a ∷ []) = refl
made_files-complete room (a ∷ b ∷ files) = ap (λ (l : List MadeFile). made_of room a ∷ l) (made_files-complete room (b ∷ files))

pub made_files-added : (room name : List ℕ) (files : List WrittenFile) (start : ℕ) → made_files room (files ++ record { name = name; start = start; length = 0; sealed = false } ∷ []) ≡ made_files room files ++ new_file name ∷ []
made_files-added room name files start = map-append (made_of room) files (record { name = name; start = start; length = 0; sealed = false } ∷ [])

pub some-files : (room : List ℕ) (files : List WrittenFile) → IsTrue (is_last_open (made_files room files)) → 0 < length files
some-files room [] is_open = absurd (false≢true is_open)
some-files room (a ∷ files) is_open = omega arith

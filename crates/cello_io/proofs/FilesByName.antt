-- The file of a name, found by looking at one after another.
use Rattle.std.proofs.Common.{◌≡◌, ℕ, ◌+◌, ◌<◌, cond, List, length, drop, get_or, Some, Option, sym, ap, subst, ◌∙◌}
use Rattle.std.specs.Prelude.{IfSome, IsTrue, IsFalse}
use Rattle.std.proofs.lemmas.List.{drop_more}
use Rattle.cello_io.specs.declared.files.StoredFile.{StoredFile}
use Rattle.cello_io.specs.StoredFiles.{same_name, file_named}

at_front : (files : List StoredFile) (i : ℕ) (file : StoredFile) (name : List ℕ) → i < length files → file ≡ get_or files i file
    → file_named (drop i files) name ≡ cond (same_name file.name name) (Some file.bytes) (file_named (drop (i + 1) files) name)
at_front files i file name below is =
    ap (λ l. file_named l name) (drop_more files i file below)
    ∙ ap (λ (f : StoredFile). cond (same_name f.name name) (Some f.bytes) (file_named (drop (i + 1) files) name)) (sym is)

pub file_named-found : (files : List StoredFile) (i : ℕ) (file : StoredFile) (name : List ℕ) → i < length files → file ≡ get_or files i file → IsTrue (same_name file.name name)
    → file_named (drop i files) name ≡ Some file.bytes
file_named-found files i file name below is same = at_front files i file name below is ∙ ap (λ b. cond b (Some file.bytes) (file_named (drop (i + 1) files) name)) same

pub file_named-next : (files : List StoredFile) (i : ℕ) (file : StoredFile) (name : List ℕ) → i < length files → file ≡ get_or files i file → IsFalse (same_name file.name name)
    → file_named (drop i files) name ≡ file_named (drop (i + 1) files) name
file_named-next files i file name below is differs = at_front files i file name below is ∙ ap (λ b. cond b (Some file.bytes) (file_named (drop (i + 1) files) name)) differs

pub if_found : (P : List ℕ → Type 0) (found : Option (List ℕ)) (bytes : List ℕ) → found ≡ Some bytes → P bytes → IfSome found P
if_found P found bytes is holds = subst (λ o. IfSome o P) (sym is) holds

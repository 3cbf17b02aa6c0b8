-- The files of a page, and which of them a path asks for.
use Rattle.std.specs.Prelude.{ℕ, ◌+◌, ◌==◌, cond, nat_le, nat_lt, List, [], ◌∷◌, Option, None, length, bytes_eq, codes}
use Rattle.std.specs.List.{find, sum_by}
use Rattle.terms.specs.Refusal.{first_refusal}
use Rattle.page.specs.declared.file.File.{File}
use Rattle.page.specs.declared.folder.FolderError.{FolderError}
use Rattle.page.specs.declared.folder.FolderError.TheVariants.{TooMany, TooLarge}

abbrev pub Files : Type 0
Files = List File

-- the file of this name with these bytes
abbrev pub file_of : (name bytes : List ℕ) → File
file_of name bytes = record { name = name; bytes = bytes }

-- how many bytes the files have together
abbrev pub size_of : Files → ℕ
size_of files = sum_by (λ f. length f.bytes) files

-- the first file with this name
abbrev pub file_named : List ℕ → Files → Option File
file_named name files = find (λ f. bytes_eq f.name name) files

-- the file that follows a slash: after a lone one it is index.html
abbrev pub file_behind : List ℕ → Files → Option File
file_behind [] files = file_named (codes "index.html") files
file_behind (b ∷ name) files = file_named (b ∷ name) files

-- the file that a path asks for, whose bytes count as they are
abbrev pub file_for : List ℕ → Files → Option File
file_for [] files = None
file_for (b ∷ name) files = cond (b == 47) (file_behind name files) None

-- why a file is not taken: there are a thousand, or the bytes would be more than 16 MiB
abbrev pub refusal : Files → File → Option FolderError
refusal files file =
    first_refusal
    ((nat_le 1000 (length files), TooMany)
    ∷ (nat_lt 16777216 (size_of files + length file.bytes), TooLarge)
    ∷ [])

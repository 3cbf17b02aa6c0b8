-- Why a folder can't be served.
use Rattle.std.specs.Prelude.{⊤}
use Rattle.page.specs.declared.folder.FolderError.{FolderError}
use Rattle.page.specs.declared.folder.FolderError.TheVariants as folder

-- an allocation was refused
abbrev pub IsMemory : FolderError → Type 0
IsMemory (folder.Memory refused) = ⊤
IsMemory _ = ⊥

-- Why files can't be written.
use Rattle.std.specs.Prelude.{ℕ, List, codes}
use Rattle.asl_host.specs.declared.outputs.Unwritable.{Unwritable}
use Rattle.asl_host.specs.declared.outputs.Unwritable.TheVariants.{Folderless, Folder, Forbidden, Failed}

-- what is told behind the name
abbrev pub unwritable_words : Unwritable → List ℕ
unwritable_words Folderless = codes ": there is no folder for it"
unwritable_words Folder = codes ": it is a folder"
unwritable_words Forbidden = codes ": permission denied"
unwritable_words Failed = codes ": a write failed"

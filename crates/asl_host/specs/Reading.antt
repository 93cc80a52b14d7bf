-- What the files of a machine may give, and why they can't be read.
use Rattle.std.specs.Prelude.{◌≡◌, ℕ, ◌==◌, Bool, true, false, ◌||◌, List, [], ◌∷◌, codes}
use Rattle.asl_host.specs.declared.files.Unreadable.{Unreadable}
use Rattle.asl_host.specs.declared.files.Unreadable.TheVariants.{Missing, Folder, Forbidden, TooLong, Spent, Failed}

-- which files can't be read, by their names, and why
abbrev pub Lacks : Type 1
Lacks = List ℕ → Unreadable → Type 0

-- what is told behind the name
abbrev pub unreadable_words : Unreadable → List ℕ
unreadable_words Missing = []
unreadable_words Folder = codes ": it is a folder"
unreadable_words Forbidden = codes ": permission denied"
unreadable_words TooLong = codes ": it has more than 16777216 bytes"
unreadable_words Spent = codes ": standard input was read before"
unreadable_words Failed = codes ": a read failed"

-- a JSON text in place of a name: it begins with a brace (123), a bracket (91) or a quotation mark (34)
abbrev pub is_text : List ℕ → Bool
is_text [] = false
is_text (b ∷ bs) = b == 123 || (b == 91 || b == 34)

-- a text gives itself; what a file gives isn't known
abbrev pub MayGive : List ℕ → List ℕ → Type 0
MayGive name bytes = is_text name ≡ true → bytes ≡ name

-- a text is read, unless it is too long; any file may be lacking
abbrev pub MayLack : List ℕ → Unreadable → Type 0
MayLack name why = is_text name ≡ true → why ≡ TooLong

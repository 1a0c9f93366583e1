-- Why a file cannot be read: the case of a number, the number of a case, and its words. These are definitions: they assume nothing.
use Rattle.std.specs.Prelude.{ℕ, ℤ, pos, negsuc, Option, unwrap_or, if◌then◌else◌, ◌==◌, List, codes}
use Rattle.files.specs.declared.unread.Unread.{Unread}
use Rattle.files.specs.declared.unread.Unread.TheVariants.{Empty, TooLong, NotText, Missing, Denied, Folder, NotFolder, Pipe, Refused}

-- errno's number, in Linux's numbers; 0 and -2 are no numbers of the system; of any other one there is nothing more to say
abbrev pub case_of : ℤ → Unread
case_of (pos n) =
    if n == 0 then Empty else
    if n == 2 then Missing else
    if n == 13 then Denied else
    if n == 20 then NotFolder else
    if n == 21 then Folder else
    if n == 29 then Pipe else
    if n == 36 then TooLong else
    Refused (pos n)
case_of (negsuc n) = if n == 1 then NotText else Refused (negsuc n)

-- the number of an error that has one, or -1
abbrev pub error_number : Option ℤ → ℤ
error_number number = unwrap_or number (negsuc 0)

-- the case of an error
abbrev pub reason_of : Option ℤ → Unread
reason_of number = case_of (error_number number)

-- the number of a case
abbrev pub number_of : Unread → ℤ
number_of Empty = pos 0
number_of TooLong = pos 36
number_of NotText = negsuc 1
number_of Missing = pos 2
number_of Denied = pos 13
number_of Folder = pos 21
number_of NotFolder = pos 20
number_of Pipe = pos 29
number_of (Refused z) = z

-- the words for a case
abbrev pub words_of : Unread → List ℕ
words_of Empty = codes "the name is empty"
words_of TooLong = codes "the name is too long"
words_of NotText = codes "the name is not UTF-8"
words_of Missing = codes "no such file"
words_of Denied = codes "permission denied"
words_of Folder = codes "it is a folder"
words_of NotFolder = codes "a part of the path is no folder"
words_of Pipe = codes "it is a pipe"
words_of (Refused z) = codes "the system refuses it"

-- the row of a case in the table of the words
abbrev pub row_number : Unread → ℕ
row_number Empty = 0
row_number TooLong = 1
row_number Missing = 2
row_number Denied = 3
row_number Folder = 4
row_number NotFolder = 5
row_number Pipe = 6
row_number NotText = 7
row_number (Refused z) = 8

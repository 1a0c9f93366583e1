-- The words of a reason are a row of the table, and UTF-8. Assumes nothing.
use Rattle.std.proofs.Common.{◌≡◌, ℕ, List, codes, refl, ap, ◌∙◌}
use lib.Utf8.{encode}
use Rattle.std.specs.Str.{IsUtf8}
use Rattle.files.specs.declared.unread.Unread.{Unread}
use Rattle.files.specs.declared.unread.Unread.TheVariants.{Empty, TooLong, NotText, Missing, Denied, Folder, NotFolder, Pipe, Refused}
use Rattle.files.specs.Reasons.{row_number, words_of}
use Rattle.files.specs.Words.{line_of, behind_line, behind_lines, row_of}

abbrev table : List ℕ
table = codes "the name is empty\nthe name is too long\nno such file\npermission denied\nit is a folder\na part of the path is no folder\nit is a pipe\nthe name is not UTF-8\nthe system refuses it\n"

row-words : (reason : Unread) → row_of table (row_number reason) ≡ words_of reason
unfolding row_of line_of behind_lines behind_line
row-words Empty = refl
row-words TooLong = refl
row-words NotText = refl
row-words Missing = refl
row-words Denied = refl
row-words Folder = refl
row-words NotFolder = refl
row-words Pipe = refl
row-words (Refused z) = refl

-- a row of the table, by its number
pub row_is : (words : List ℕ) (row : ℕ) (reason : Unread) → row ≡ row_number reason → words ≡ row_of table row → words ≡ words_of reason
row_is words row reason e r = r ∙ ap (row_of table) e ∙ row-words reason

-- ASCII is UTF-8
pub words_utf8 : (reason : Unread) → IsUtf8 (words_of reason)
unfolding encode
words_utf8 Empty = (words_of Empty, (refl, refl))
words_utf8 TooLong = (words_of TooLong, (refl, refl))
words_utf8 NotText = (words_of NotText, (refl, refl))
words_utf8 Missing = (words_of Missing, (refl, refl))
words_utf8 Denied = (words_of Denied, (refl, refl))
words_utf8 Folder = (words_of Folder, (refl, refl))
words_utf8 NotFolder = (words_of NotFolder, (refl, refl))
words_utf8 Pipe = (words_of Pipe, (refl, refl))
words_utf8 (Refused z) = (words_of (Refused z), (refl, refl))

-- The words of a refusal's number. These are definitions: they assume nothing.
use Rattle.std.specs.Prelude.{ℕ, ◌-◌, cond, ◌&&◌, leb, List, ◌++◌, codes}

-- the table of document 01, with a line for each number from 11 to 29, and one for any other number
abbrev pub refusals : List ℕ
refusals =
    codes "payload length above 65,535\n" ++
    codes "request id even\n" ++
    codes "stream id even\n" ++
    codes "stream flag 0x08 or higher\n" ++
    codes "type not 1, 2 or 9\n" ++
    codes "closed stream, no beginning flag\n" ++
    codes "open stream, beginning flag\n" ++
    codes "type's flags broken\n" ++
    codes "new: id active\n" ++
    codes "new: no free slot\n" ++
    codes "continuation: id not collecting\n" ++
    codes "0x08 differs from the first frame\n" ++
    codes "command longer than 2,048 in all\n" ++
    codes "whole command isn't one CBOR item of the subset\n" ++
    codes "whole command isn't a command map\n" ++
    codes "a key twice in the outer map or in `args`\n" ++
    codes "data: id neither waiting nor draining\n" ++
    codes "settings without beginning\n" ++
    codes "settings not identity\n" ++
    codes "not a rule of frames\n"

-- the row of a number, counted from 0
abbrev pub row_number : ℕ → ℕ
row_number n = cond (leb 11 n && leb n 29) (n - 11) 19

-- What is said of a whole line, by the part that it ended in. These are definitions: they assume nothing.
use Rattle.std.specs.Prelude.{ℕ, ◌/◌, ◌%◌, cond, List, [], ◌∷◌, take, eqb}
use Rattle.vectors.specs.declared.line.Part.{Part}
use Rattle.vectors.specs.declared.line.Part.TheVariants.{Digits, Note, Comment, NotHex, TooLong}
use Rattle.vectors.specs.Answer.{fault_of, answer_of}

-- `not hex`
abbrev pub not_hex : List ℕ
not_hex = 110 ∷ 111 ∷ 116 ∷ 32 ∷ 104 ∷ 101 ∷ 120 ∷ []

-- `longer than 4096 digits`
abbrev pub too_long : List ℕ
too_long = 108 ∷ 111 ∷ 110 ∷ 103 ∷ 101 ∷ 114 ∷ 32 ∷ 116 ∷ 104 ∷ 97 ∷ 110 ∷ 32 ∷ 52 ∷ 48 ∷ 57 ∷ 54 ∷ 32 ∷ 100 ∷ 105 ∷ 103 ∷ 105 ∷ 116 ∷ 115 ∷ []

-- `no digits`
abbrev pub no_digits : List ℕ
no_digits = 110 ∷ 111 ∷ 32 ∷ 100 ∷ 105 ∷ 103 ∷ 105 ∷ 116 ∷ 115 ∷ []

-- `an odd number of digits`
abbrev pub odd : List ℕ
odd = 97 ∷ 110 ∷ 32 ∷ 111 ∷ 100 ∷ 100 ∷ 32 ∷ 110 ∷ 117 ∷ 109 ∷ 98 ∷ 101 ∷ 114 ∷ 32 ∷ 111 ∷ 102 ∷ 32 ∷ 100 ∷ 105 ∷ 103 ∷ 105 ∷ 116 ∷ 115 ∷ []

-- of `held` digits, whose bytes stand at the start of the item
abbrev pub said_of_digits : ℕ → ℕ → List ℕ → List ℕ
said_of_digits number held item =
    cond (eqb held 0) (fault_of number no_digits)
    (cond (eqb (held % 2) 1) (fault_of number odd)
    (answer_of (take (held / 2) item)))

-- nothing of an empty line, nor of a comment
abbrev pub said_of : ℕ → Part → ℕ → List ℕ → List ℕ
said_of number Digits held item = cond (eqb held 0) [] (said_of_digits number held item)
said_of number Note held item = said_of_digits number held item
said_of number Comment held item = []
said_of number NotHex held item = fault_of number not_hex
said_of number TooLong held item = fault_of number too_long

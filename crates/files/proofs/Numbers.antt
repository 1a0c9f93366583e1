-- The case of a number has that number. Assumes nothing.
use Rattle.std.proofs.Common.{pos, negsuc, rules}
use Rattle.std.proofs.lemmas.Bool.Decides.{nat_tests}
use Rattle.files.specs.Laws.{NumberBack}

pub number_back : NumberBack
number_back (pos n) = search (nat_tests, rules)
number_back (negsuc n) = search (nat_tests, rules)

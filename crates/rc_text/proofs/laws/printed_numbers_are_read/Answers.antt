use Rattle.std.specs.Fmt.{decimal}
use Rattle.rc_text.specs.NumbersLaws.{u64_of-decimal, is_number-decimal, plain-number}
use Rattle.rc_text.proofs.laws.printed_numbers_are_read.Goals as goal

pub returns-clause-read : goal.returns-clause-read
returns-clause-read c = u64_of-decimal

pub returns-clause-plain : goal.returns-clause-plain
returns-clause-plain c = λ n small. plain-number (decimal n) (is_number-decimal n small)

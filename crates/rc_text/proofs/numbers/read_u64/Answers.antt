use Rattle.std.proofs.Common.{◌+◌, sym, arith}
use Rattle.rc_text.specs.NumbersLaws.{digits_of_number, number_of-more, out_of_range}
use Rattle.rc_text.proofs.numbers.read_u64.Goals as goal

pub returns-in-None : goal.returns-in-None
returns-in-None c =
    let number = sym c.if-not-is_number.ensures in
    let more = number_of-more c.args.word.now c.loop-byte.byte-index (digits_of_number c.args.word.now number) c.loop-byte-test.true in
    let large = c.in-None.ensures in
    sym (out_of_range c.args.word.now (c.loop-byte.byte-index + 1) number (omega (arith, large)))

pub loop-byte-preserved : goal.loop-byte-preserved
loop-byte-preserved c =
    let number = sym c.if-not-is_number.ensures in
    let more = number_of-more c.args.word.now c.loop-byte.byte-index (digits_of_number c.args.word.now number) c.loop-byte-test.true in
    let fits = c.in-Some.ensures in
    record { so_far = omega (arith, fits.1); small = omega (arith, fits.0, fits.1) }

use Rattle.std.proofs.Common.{arith, length-append}
use Rattle.text.proofs.Digits.{digits_bound}
use Rattle.text.proofs.Lines.{numeral_bound}
use Rattle.text.proofs.Text.push_number.Goals as goal

pub push-requires : goal.push-requires
push-requires c = rw (c.push_digits.ensures, length-append) (omega (arith, digits_bound c.args.n c.ranges.n.fits))

pub returns-clause-within : goal.returns-clause-within
returns-clause-within c = numeral_bound c.args.n c.args.end c.ranges.n.fits

-- `with_number` puts down n's digits: one alone (decimal_one), else those of n / 10 and then the last (decimal_more).
use Rattle.std.proofs.Common.{◌/◌, arith}
use Rattle.text.specs.Line.{text_of, decimal}
use Rattle.text.proofs.TextLaws.{fitted_then}
use Rattle.text.proofs.DecimalLaws.{decimal_one, decimal_more}
use Rattle.text.proofs.line.+with_number.Goals as goal

pub returns-then-n-lt10 : goal.returns-then-n-lt10
returns-then-n-lt10 t c = rw (decimal_one c.args.n (omega (arith, c.if-n-lt10.true))) c.with_byte.ensures

pub returns : goal.returns
returns t c =
    let n = c.args.n in
    rw (decimal_more n (omega (arith, c.if-n-lt10.false)) (omega arith))
    (fitted_then (text_of c.args.line) (decimal (n / 10)) _ c.with_number.ensures c.with_byte-2.ensures)

-- Its digits one by one.
use Rattle.text.specs.Line.{two_digits}
use Rattle.calendar_text.specs.Written.{date_text}
use Rattle.calendar_text.proofs.written.date_text.Goals as goal

pub returns : goal.returns
unfolding two_digits date_text
returns c = rw (c.digit-14.ensures, c.digit-13.ensures, c.digit-12.ensures, c.digit-11.ensures, c.digit-10.ensures, c.digit-9.ensures, c.digit-8.ensures, c.digit-7.ensures, c.digit-6.ensures, c.digit-5.ensures, c.digit-4.ensures, c.digit-3.ensures, c.digit-2.ensures, c.digit.ensures)

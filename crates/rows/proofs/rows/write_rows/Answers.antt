-- Each way out is the first row that fails.
use mathlib.Core.Path.{sym}
use Rattle.rows.proofs.RowLaws.{write_none, write_long, write_5, write_6, write_0}
use Rattle.rows.proofs.rows.write_rows.Goals as goal

pub returns-then-len-lt1 : goal.returns-then-len-lt1
returns-then-len-lt1 c = sym (write_none _ _ _ c.if-len-lt1.true)

pub returns-then-len-gt-MOST_WRITE : goal.returns-then-len-gt-MOST_WRITE
returns-then-len-gt-MOST_WRITE c = sym (write_long _ _ _ c.if-len-lt1.false c.if-len-gt-MOST_WRITE.true)

pub returns-then-not-on : goal.returns-then-not-on
returns-then-not-on c = sym (write_5 _ _ _ c.if-len-lt1.false c.if-len-gt-MOST_WRITE.false (c.if-not-on.true))

pub returns-then-not-free : goal.returns-then-not-free
returns-then-not-free c = sym (write_6 _ _ _ c.if-len-lt1.false c.if-len-gt-MOST_WRITE.false (c.if-not-on.false) (c.if-not-free.true))

pub returns : goal.returns
returns c = sym (write_0 _ _ _ c.if-len-lt1.false c.if-len-gt-MOST_WRITE.false (c.if-not-on.false) (c.if-not-free.false))

-- `?`; or the second's date, and the second from where its text ends: a date that was found turns back to it.
use Rattle.std.proofs.Common.{rules, ◌≡◌, sym, ap, ◌∙◌, Some, None, arith}
use Rattle.text.specs.Laid.{laid}
use Rattle.text.proofs.LaidLaws.{end_of, laid_on}
use Rattle.calendar_dates.specs.Dates.{seconds_of_date}
use Rattle.calendar_dates.specs.declared.dates.Date.{Date}
use Rattle.calendar_text.specs.Written.{dated_text, number_text}
use Rattle.calendar_text.proofs.LineLaws.{dated_short}
use Rattle.dates.proofs.MomentLaws.{line_none, line_back}
use Rattle.dates.proofs.put_moment.Goals as goal
use Rattle.dates.proofs.put_moment.Goals.{After-and_then}

-- what `and_then` says of a date, and of none
on : (c : After-and_then) (d : Date) → c.date_of_seconds-dated.result ≡ Some d → c.and_then.result ≡ seconds_of_date d
on c d e = let f = rw e at c.and_then.ensures in search (rules, f)

none : (c : After-and_then) → c.date_of_seconds-dated.result ≡ None → c.and_then.result ≡ None
none c e = let f = rw e at c.and_then.ensures in search (rules, f)

pub returns-in_default : goal.returns-in_default
returns-in_default c =
    let a = (goal.at.returns-in_default c).After-and_then in
    c.put_dated.ensures
    ∙ ap (laid c.args.out.now 0) (sym (line_none c.args.seconds _ _ c.date_of_seconds-dated.ensures (on a) (none a) c.in_default.is))

-- the date and the byte after it are 20 bytes at most, so the number has room
pub put_number_and-requires : goal.put_number_and-requires
put_number_and-requires c = omega (arith, end_of _ _ 0 c.put_dated-end.ensures, dated_short c.date_of_seconds-dated.result 32, c.requires)

pub returns : goal.returns
returns c =
    let a = (goal.at.returns c).After-and_then in
    let date = dated_text c.date_of_seconds-dated.result 32 in
    c.put_number_and.ensures
    ∙ laid_on c.args.out.now date 0 c.put_dated-end.ensures (number_text c.in-Some.back 10) (omega (arith, dated_short c.date_of_seconds-dated.result 32, c.requires))
    ∙ ap (laid c.args.out.now 0) (sym (line_back c.args.seconds _ _ c.date_of_seconds-dated.ensures (on a) (none a) _ c.in-Some.is))

-- Each direction undoes the other; the rest follows.
use borrow.Author.Tests.{leb-true}
use lib.Dec.{leb}
use Rattle.octets.proofs.Tests.{both_reads}
use Rattle.rules.specs.Fields.{first_base_time, base_b}
use Rattle.calendar_dates.specs.Dates.{seconds_to}
use Rattle.calendar_dates.proofs.DateLaws.{reckoned, dated_outside, no_such_date}
use Rattle.calendar_dates.proofs.LostLaws.{turns, its_date_exists, there_and_back, back_and_there, one_second, one_date}
use Rattle.calendar_dates.proofs.dates.nothing_lost.Goals as goal

pub returns : goal.returns
unfolding base_b
returns c =
    record {
      every_second = λ s h. ((turns s h).date, (turns s h).dated);
      every_base = λ s h. let r = turns s (leb-true _ _ (both_reads (leb first_base_time s) _ h).1) in (r.date, r.dated);
      there_and_back = there_and_back;
      one_second = one_second;
      every_date = λ d h. (seconds_to d, reckoned d h);
      back_and_there = back_and_there;
      one_date = one_date;
      in_month = λ s d e. let y = (its_date_exists s d e).of_day in (y.from, y.to);
      outside = dated_outside;
      no_such = no_such_date;
    }

-- One outcome of each call of the calendar's crates.
use Rattle.theorems_once.specs.Only.{Only, Door}
use Rattle.calendar_months.proofs.months.month_starts.Kinds as month-starts-kinds
use Rattle.calendar_months.proofs.months.month_starts.Reads as month-starts-reads
use Rattle.calendar_months.proofs.months.days_before.Kinds as days-before-kinds
use Rattle.calendar_months.proofs.months.days_before.Reads as days-before-reads
use Rattle.calendar_dates.proofs.dates.date_of_seconds.Kinds as date-of-seconds-kinds
use Rattle.calendar_dates.proofs.dates.date_of_seconds.Reads as date-of-seconds-reads
use Rattle.calendar_dates.proofs.dates.seconds_of_date.Kinds as seconds-of-date-kinds
use Rattle.calendar_dates.proofs.dates.seconds_of_date.Reads as seconds-of-date-reads
use Rattle.calendar_text.proofs.written.put_dated.Kinds as put-dated-kinds
use Rattle.calendar_text.proofs.written.put_dated.Reads as put-dated-reads
use Rattle.calendar_text.proofs.written.put_number_and.Kinds as put-number-and-kinds
use Rattle.calendar_text.proofs.written.put_number_and.Reads as put-number-and-reads
use Rattle.calendar_local.proofs.local.local_of.Kinds as local-of-kinds
use Rattle.calendar_local.proofs.local.local_of.Reads as local-of-reads
use Rattle.calendar_local.proofs.local.local_date.Kinds as local-date-kinds
use Rattle.calendar_local.proofs.local.local_date.Reads as local-date-reads
use Rattle.calendar_text.proofs.lines.put_record.Kinds as put-record-kinds
use Rattle.calendar_text.proofs.lines.put_record.Reads as put-record-reads
use Rattle.calendar_list.proofs.calendar.calendar.Kinds as calendar-kinds
use Rattle.calendar_list.proofs.calendar.calendar.Reads as calendar-reads

pub record OneOutcome : Type 0 where
  pub month_starts_lem : Door month-starts-kinds.ps month-starts-kinds.r month-starts-reads.Pre month-starts-reads.Post
  pub days_before_lem : Only days-before-kinds.ps days-before-kinds.r days-before-reads.Pre days-before-reads.Post
  pub date_of_seconds_lem : Door date-of-seconds-kinds.ps date-of-seconds-kinds.r date-of-seconds-reads.Pre date-of-seconds-reads.Post
  pub seconds_of_date_lem : Door seconds-of-date-kinds.ps seconds-of-date-kinds.r seconds-of-date-reads.Pre seconds-of-date-reads.Post
  pub put_dated : Only put-dated-kinds.ps put-dated-kinds.r put-dated-reads.Pre put-dated-reads.Post
  pub put_number_and : Only put-number-and-kinds.ps put-number-and-kinds.r put-number-and-reads.Pre put-number-and-reads.Post
  pub local_of_lem : Door local-of-kinds.ps local-of-kinds.r local-of-reads.Pre local-of-reads.Post
  pub local_date_lem : Door local-date-kinds.ps local-date-kinds.r local-date-reads.Pre local-date-reads.Post
  pub put_record : Only put-record-kinds.ps put-record-kinds.r put-record-reads.Pre put-record-reads.Post
  pub calendar : Door calendar-kinds.ps calendar-kinds.r calendar-reads.Pre calendar-reads.Post

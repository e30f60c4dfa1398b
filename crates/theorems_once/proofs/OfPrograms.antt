-- One outcome of each call of the programs' own crates. What is promised of a line is its text: the bytes past its `len` are left open,
-- so it is the text that is one.
use Rattle.theorems_once.specs.Only.{Only, OnlyPart, Door, DoorPart}
use Rattle.text.specs.Line.{text_of}
use Rattle.text.proofs.line.empty.Kinds as empty-kinds
use Rattle.text.proofs.line.empty.Reads as empty-reads
use Rattle.text.proofs.line.with_byte.Kinds as with-byte-kinds
use Rattle.text.proofs.line.with_byte.Reads as with-byte-reads
use Rattle.text.proofs.line.with_number.Kinds as with-number-kinds
use Rattle.text.proofs.line.with_number.Reads as with-number-reads
use Rattle.text.proofs.line.with_word.Kinds as with-word-kinds
use Rattle.text.proofs.line.with_word.Reads as with-word-reads
use Rattle.text.proofs.line.put_line.Kinds as put-line-kinds
use Rattle.text.proofs.line.put_line.Reads as put-line-reads
use Rattle.text.proofs.put.put_word.Kinds as put-word-kinds
use Rattle.text.proofs.put.put_word.Reads as put-word-reads
use Rattle.text.proofs.put.put_number.Kinds as put-number-kinds
use Rattle.text.proofs.put.put_number.Reads as put-number-reads
use Rattle.list_text.proofs.lines.refused_line.Kinds as refused-line-kinds
use Rattle.list_text.proofs.lines.refused_line.Reads as refused-line-reads
use Rattle.list_text.proofs.lines.head_line.Kinds as head-line-kinds
use Rattle.list_text.proofs.lines.head_line.Reads as head-line-reads
use Rattle.list_text.proofs.lines.record_line.Kinds as record-line-kinds
use Rattle.list_text.proofs.lines.record_line.Reads as record-line-reads
use Rattle.list_text.proofs.listing.listing.Kinds as listing-kinds
use Rattle.list_text.proofs.listing.listing.Reads as listing-reads
use Rattle.season_figures.proofs.figures.no_figures.Kinds as no-figures-kinds
use Rattle.season_figures.proofs.figures.no_figures.Reads as no-figures-reads
use Rattle.season_figures.proofs.figures.together.Kinds as together-kinds
use Rattle.season_figures.proofs.figures.together.Reads as together-reads
use Rattle.season_figures.proofs.figures.figures_in.Kinds as figures-in-kinds
use Rattle.season_figures.proofs.figures.figures_in.Reads as figures-in-reads
use Rattle.season_text.proofs.lines.put_table.Kinds as put-table-kinds
use Rattle.season_text.proofs.lines.put_table.Reads as put-table-reads
use Rattle.season_text.proofs.lines.put_refused.Kinds as put-refused-kinds
use Rattle.season_text.proofs.lines.put_refused.Reads as put-refused-reads
use Rattle.season_text.proofs.lines.put_ended.Kinds as put-ended-kinds
use Rattle.season_text.proofs.lines.put_ended.Reads as put-ended-reads
use Rattle.season_text.proofs.lines.put_total.Kinds as put-total-kinds
use Rattle.season_text.proofs.lines.put_total.Reads as put-total-reads
use Rattle.season_step.proofs.step.begun.Kinds as begun-kinds
use Rattle.season_step.proofs.step.begun.Reads as begun-reads
use Rattle.season_step.proofs.step.table_bytes.Kinds as table-bytes-kinds
use Rattle.season_step.proofs.step.table_bytes.Reads as table-bytes-reads
use Rattle.season_step.proofs.step.step.Kinds as step-kinds
use Rattle.season_step.proofs.step.step.Reads as step-reads
use Rattle.day_sheet.proofs.sheet.tag_line.Kinds as tag-line-kinds
use Rattle.day_sheet.proofs.sheet.tag_line.Reads as tag-line-reads
use Rattle.day_sheet.proofs.sheet.title_line.Kinds as title-line-kinds
use Rattle.day_sheet.proofs.sheet.title_line.Reads as title-line-reads
use Rattle.day_play.proofs.reader.started.Kinds as started-kinds
use Rattle.day_play.proofs.reader.started.Reads as started-reads
use Rattle.day_play.proofs.reader.lived.Kinds as lived-kinds
use Rattle.day_play.proofs.reader.lived.Reads as lived-reads
use Rattle.day_play.proofs.play.played.Kinds as played-kinds
use Rattle.day_play.proofs.play.played.Reads as played-reads
use Rattle.day_evening.proofs.fetch.fetched.Kinds as fetched-kinds
use Rattle.day_evening.proofs.fetch.fetched.Reads as fetched-reads
use Rattle.day_evening.proofs.fetch.sight.Kinds as sight-kinds
use Rattle.day_evening.proofs.fetch.sight.Reads as sight-reads
use Rattle.day_evening.proofs.fetch.ruling.Kinds as ruling-kinds
use Rattle.day_evening.proofs.fetch.ruling.Reads as ruling-reads

pub record OneOutcome : Type 0 where
  pub empty : DoorPart empty-kinds.ps empty-kinds.r (λ κs. text_of) empty-reads.Pre empty-reads.Post
  pub with_byte : DoorPart with-byte-kinds.ps with-byte-kinds.r (λ κs. text_of) with-byte-reads.Pre with-byte-reads.Post
  pub with_number : DoorPart with-number-kinds.ps with-number-kinds.r (λ κs. text_of) with-number-reads.Pre with-number-reads.Post
  pub with_word : DoorPart with-word-kinds.ps with-word-kinds.r (λ κs. text_of) with-word-reads.Pre with-word-reads.Post
  pub put_line : Only put-line-kinds.ps put-line-kinds.r put-line-reads.Pre put-line-reads.Post
  pub put_word : Only put-word-kinds.ps put-word-kinds.r put-word-reads.Pre put-word-reads.Post
  pub put_number : Only put-number-kinds.ps put-number-kinds.r put-number-reads.Pre put-number-reads.Post
  pub refused_line_lem : DoorPart refused-line-kinds.ps refused-line-kinds.r (λ κs. text_of) refused-line-reads.Pre refused-line-reads.Post
  pub head_line_lem : OnlyPart head-line-kinds.ps head-line-kinds.r (λ κs. text_of) head-line-reads.Pre head-line-reads.Post
  pub record_line_lem : DoorPart record-line-kinds.ps record-line-kinds.r (λ κs. text_of) record-line-reads.Pre record-line-reads.Post
  pub listing : Door listing-kinds.ps listing-kinds.r listing-reads.Pre listing-reads.Post
  pub no_figures : Door no-figures-kinds.ps no-figures-kinds.r no-figures-reads.Pre no-figures-reads.Post
  pub together : Door together-kinds.ps together-kinds.r together-reads.Pre together-reads.Post
  pub figures_in_lem : Only figures-in-kinds.ps figures-in-kinds.r figures-in-reads.Pre figures-in-reads.Post
  pub put_table : Only put-table-kinds.ps put-table-kinds.r put-table-reads.Pre put-table-reads.Post
  pub put_refused : Only put-refused-kinds.ps put-refused-kinds.r put-refused-reads.Pre put-refused-reads.Post
  pub put_ended : Only put-ended-kinds.ps put-ended-kinds.r put-ended-reads.Pre put-ended-reads.Post
  pub put_total : Only put-total-kinds.ps put-total-kinds.r put-total-reads.Pre put-total-reads.Post
  pub begun : Door begun-kinds.ps begun-kinds.r begun-reads.Pre begun-reads.Post
  pub table_bytes_lem : Door table-bytes-kinds.ps table-bytes-kinds.r table-bytes-reads.Pre table-bytes-reads.Post
  pub step : Door step-kinds.ps step-kinds.r step-reads.Pre step-reads.Post
  pub tag_line_lem : DoorPart tag-line-kinds.ps tag-line-kinds.r (λ κs. text_of) tag-line-reads.Pre tag-line-reads.Post
  pub title_line_lem : DoorPart title-line-kinds.ps title-line-kinds.r (λ κs. text_of) title-line-reads.Pre title-line-reads.Post
  pub started : Door started-kinds.ps started-kinds.r started-reads.Pre started-reads.Post
  pub lived : Door lived-kinds.ps lived-kinds.r lived-reads.Pre lived-reads.Post
  pub played : Door played-kinds.ps played-kinds.r played-reads.Pre played-reads.Post
  pub fetched : Door fetched-kinds.ps fetched-kinds.r fetched-reads.Pre fetched-reads.Post
  pub sight : Door sight-kinds.ps sight-kinds.r sight-reads.Pre sight-reads.Post
  pub ruling : Door ruling-kinds.ps ruling-kinds.r ruling-reads.Pre ruling-reads.Post

-- One outcome of each call of the crates of salvage. `salvage` and `tell` are doors.
use Rattle.text.specs.Line.{text_of}
use Rattle.theorems_once.specs.Only.{Only, OnlyPart, Door, DoorPart}
use Rattle.table_sound.proofs.sound.start_ok.Kinds as start-ok-kinds
use Rattle.table_sound.proofs.sound.start_ok.Reads as start-ok-reads
use Rattle.salvage_run.proofs.slot.found_in.Kinds as found-in-kinds
use Rattle.salvage_run.proofs.slot.found_in.Reads as found-in-reads
use Rattle.salvage_run.proofs.run.begin_of.Kinds as begin-of-kinds
use Rattle.salvage_run.proofs.run.begin_of.Reads as begin-of-reads
use Rattle.salvage_run.proofs.run.run_of.Kinds as run-of-kinds
use Rattle.salvage_run.proofs.run.run_of.Reads as run-of-reads
use Rattle.salvage_table.proofs.written.new_header.Kinds as new-header-kinds
use Rattle.salvage_table.proofs.written.new_header.Reads as new-header-reads
use Rattle.salvage_table.proofs.written.put_table.Kinds as put-table-kinds
use Rattle.salvage_table.proofs.written.put_table.Reads as put-table-reads
use Rattle.salvage_report.proofs.entry.get48.Kinds as get48-kinds
use Rattle.salvage_report.proofs.entry.get48.Reads as get48-reads
use Rattle.salvage_report.proofs.entry.entry.Kinds as entry-kinds
use Rattle.salvage_report.proofs.entry.entry.Reads as entry-reads
use Rattle.salvage_report.proofs.entry.put_entry.Kinds as put-entry-kinds
use Rattle.salvage_report.proofs.entry.put_entry.Reads as put-entry-reads
use Rattle.salvage_report.proofs.fields.put_fields.Kinds as put-fields-kinds
use Rattle.salvage_report.proofs.fields.put_fields.Reads as put-fields-reads
use Rattle.salvage_report.proofs.slots.unkept_length.Kinds as unkept-length-kinds
use Rattle.salvage_report.proofs.slots.unkept_length.Reads as unkept-length-reads
use Rattle.salvage_report.proofs.slots.put_unkept.Kinds as put-unkept-kinds
use Rattle.salvage_report.proofs.slots.put_unkept.Reads as put-unkept-reads
use Rattle.salvage_call.proofs.salvage.salvage.Kinds as salvage-kinds
use Rattle.salvage_call.proofs.salvage.salvage.Reads as salvage-reads
use Rattle.salvage_call.proofs.salvage.salvage_number.Kinds as salvage-number-kinds
use Rattle.salvage_call.proofs.salvage.salvage_number.Reads as salvage-number-reads
use Rattle.salvage_bytes.proofs.calls.salvage_at.Kinds as salvage-at-kinds
use Rattle.salvage_bytes.proofs.calls.salvage_at.Reads as salvage-at-reads
use Rattle.salvage_text.proofs.lines.entry_line.Kinds as entry-line-kinds
use Rattle.salvage_text.proofs.lines.entry_line.Reads as entry-line-reads
use Rattle.salvage_text.proofs.lines.refused_line.Kinds as refused-line-kinds
use Rattle.salvage_text.proofs.lines.refused_line.Reads as refused-line-reads
use Rattle.salvage_text.proofs.told.tell.Kinds as tell-kinds
use Rattle.salvage_text.proofs.told.tell.Reads as tell-reads

pub record OneOutcome : Type 0 where
  pub start_ok : Door start-ok-kinds.ps start-ok-kinds.r start-ok-reads.Pre start-ok-reads.Post
  pub found_in : Only found-in-kinds.ps found-in-kinds.r found-in-reads.Pre found-in-reads.Post
  pub begin_of_lem : Only begin-of-kinds.ps begin-of-kinds.r begin-of-reads.Pre begin-of-reads.Post
  pub run_of : Only run-of-kinds.ps run-of-kinds.r run-of-reads.Pre run-of-reads.Post
  pub new_header_lem : Only new-header-kinds.ps new-header-kinds.r new-header-reads.Pre new-header-reads.Post
  pub put_table : Only put-table-kinds.ps put-table-kinds.r put-table-reads.Pre put-table-reads.Post
  pub get48 : Only get48-kinds.ps get48-kinds.r get48-reads.Pre get48-reads.Post
  pub entry : Door entry-kinds.ps entry-kinds.r entry-reads.Pre entry-reads.Post
  pub put_entry : Only put-entry-kinds.ps put-entry-kinds.r put-entry-reads.Pre put-entry-reads.Post
  pub put_fields : Only put-fields-kinds.ps put-fields-kinds.r put-fields-reads.Pre put-fields-reads.Post
  pub unkept_length : Only unkept-length-kinds.ps unkept-length-kinds.r unkept-length-reads.Pre unkept-length-reads.Post
  pub put_unkept : Only put-unkept-kinds.ps put-unkept-kinds.r put-unkept-reads.Pre put-unkept-reads.Post
  pub salvage : Door salvage-kinds.ps salvage-kinds.r salvage-reads.Pre salvage-reads.Post
  pub salvage_number_lem : Door salvage-number-kinds.ps salvage-number-kinds.r salvage-number-reads.Pre salvage-number-reads.Post
  pub salvage_at_lem : Door salvage-at-kinds.ps salvage-at-kinds.r salvage-at-reads.Pre salvage-at-reads.Post
  pub entry_line_lem : OnlyPart entry-line-kinds.ps entry-line-kinds.r (λ κs. text_of) entry-line-reads.Pre entry-line-reads.Post
  pub refused_line_lem : DoorPart refused-line-kinds.ps refused-line-kinds.r (λ κs. text_of) refused-line-reads.Pre refused-line-reads.Post
  pub tell : Door tell-kinds.ps tell-kinds.r tell-reads.Pre tell-reads.Post

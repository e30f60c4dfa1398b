-- Reading the record that was joined, by the rule for all records (document 01, "Log table, a lent buffer").
use Rattle.record_read.specs.Reading.{read_of}
use Rattle.joining.specs.Joining.{joined_in}
use Rattle.joining.specs.declared.joining.Joining.{Joining}
use Rattle.record.specs.declared.kinds.Record.{Record}
use Rattle.std.specs.Prelude.{Option}

-- the record of the bytes that stand in the state, or 11
unfoldable pub read_joined_of : Joining → Option Record
read_joined_of j = read_of (joined_in j)

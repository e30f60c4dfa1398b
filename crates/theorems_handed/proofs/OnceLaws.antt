-- Every record once, of the right server: what is handed over, by number, and that nothing else is heard.
-- Assumes nothing.
use Rattle.theorems_reports.proofs.BeginLaws.{accepted}
use Rattle.theorems_handed.specs.Server.{right}
use Rattle.theorems_handed.specs.Once.{EveryRecordOnce}
use Rattle.theorems_handed.proofs.HandLaws.{is_accepted, hands_over}
use Rattle.theorems_handed.proofs.CountLaws.{counted}
use Rattle.theorems_handed.proofs.HistoryLaws.{nothing_else, after_ending}

pub every_record_once : EveryRecordOnce right
every_record_once =
    record {
      handed = hands_over;
      counted = λ v w o f ks hb a.
          counted f v.table _ (accepted v w o f hb (is_accepted v w o f a)).sound (hands_over v w o f ks hb a);
      after = after_ending;
      nothing_else = nothing_else;
    }

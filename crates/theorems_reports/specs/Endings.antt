-- How a report ends, one definition: by its closing response; by an Abort, a time fault or a disconnect (document 01, "RACP and
-- notifications", "Clock state"); or because the start call makes another reader of the buffer.
use Rattle.std.specs.Prelude.{Bool, true, false, Err, Ok, Result}
use Rattle.racp_request.specs.Request.{request_of}
use Rattle.theorems_reports.specs.World.{Call, seconds, switches, disconnect, fault, time_update, record_access, notify}
use Rattle.codes.specs.declared.response.Code.{Code}
use Rattle.racp_request.specs.declared.request.Request.{Request}
use Rattle.racp_request.specs.declared.request.Request.TheVariants.{Abort, Number, Report}

pub data Ending : Type 0 where
  ongoing : Ending
  closed : Ending
  aborted : Ending
  faulted : Ending
  disconnected : Ending
  restarted : Ending

-- an Abort that is answered 0x03 or 0x05, for its operator or operand, is none
abbrev pub ending_of_request : Result Request Code → Ending
ending_of_request (Ok (Report f)) = ongoing
ending_of_request (Ok (Number f)) = ongoing
ending_of_request (Ok Abort) = aborted
ending_of_request (Err k) = ongoing

-- how a call that is answered with 0 ends a report; `ongoing` where it ends none
unfoldable pub ending_by : Call → Ending
ending_by (seconds n) = ongoing
ending_by (switches a b d) = ongoing
ending_by disconnect = disconnected
ending_by (fault o) = faulted
ending_by (time_update w o h) = ongoing
ending_by (record_access w o) = ending_of_request (request_of w)
ending_by (notify p o) = ongoing

abbrev pub ended_b : Ending → Bool
ended_b ongoing = false
ended_b closed = true
ended_b aborted = true
ended_b faulted = true
ended_b disconnected = true
ended_b restarted = true

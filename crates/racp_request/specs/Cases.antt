-- Cases of writes to the Record Access Control Point, run by the checker on the definitions that the calls' promises cite. RA1 to RA63 are
-- test vectors worked out from document 01 and change request E1 apart from these definitions; a write that stands twice among them stands here once, and RA55's
-- is refused before it is read. What a request comes to on a table is no matter of this crate.
use Rattle.std.specs.Prelude.{◌≡◌, List, [], ◌∷◌, map, ℕ, Err, Ok, Result}
use Rattle.filter.specs.declared.filter.Filter.TheVariants.{All, AtMost, AtLeast, Range, First, Last}
use Rattle.codes.specs.Response.{code_of, code_bytes}
use Rattle.racp_request.specs.Request.{opcode_in, operand_bytes, typed_b, filter_at, filter_operand, asked_of, abort_of, request_of}
use Rattle.codes.specs.declared.response.Code.{Code}
use Rattle.racp_request.specs.declared.request.Request.{Request}
use Rattle.racp_request.specs.declared.request.Request.TheVariants.{Abort, Number, Report}

-- what a write comes to here: a request that goes on, or the response that refuses it
pub data Outcome : Type 0 where
  goes_on : Result Request Code → Outcome
  answers : List ℕ → Outcome

-- a case: the write, and its outcome
pub record Case : Type 0 where
  pub write : List ℕ
  pub outcome : Outcome

abbrev pub asks : List ℕ → Result Request Code → Case
asks w r = record { write = w; outcome = goes_on r }

abbrev pub refused : List ℕ → List ℕ → Case
refused w b = record { write = w; outcome = answers b }

-- `request_of` with all that it cites laid open, for the checker to compute
unfoldable pub requested : List ℕ → Result Request Code
unfolding request_of asked_of abort_of filter_operand filter_at typed_b operand_bytes
requested w = request_of w

unfoldable pub done : ℕ → Result Request Code → Outcome
unfolding code_bytes code_of
done opcode (Ok (Report f)) = goes_on (Ok (Report f))
done opcode (Ok (Number f)) = goes_on (Ok (Number f))
done opcode (Ok Abort) = goes_on (Ok Abort)
done opcode (Err k) = answers (code_bytes opcode k)

-- what the definitions give, and what the case says is right
unfoldable pub got : Case → Outcome
unfolding requested done
got k = done (opcode_in k.write) (requested k.write)

unfoldable pub expected : Case → Outcome
expected k = k.outcome

unfoldable pub table : List Case
table =
    -- RA1 to RA8: an unsupported opcode, whatever follows it
    refused (0x00 ∷ []) (0x06 ∷ 0x00 ∷ 0x00 ∷ 0x02 ∷ [])
    ∷ refused (0x02 ∷ []) (0x06 ∷ 0x00 ∷ 0x02 ∷ 0x02 ∷ [])
    ∷ refused (0x02 ∷ 0x01 ∷ []) (0x06 ∷ 0x00 ∷ 0x02 ∷ 0x02 ∷ [])
    ∷ refused (0x05 ∷ 0x00 ∷ 0x01 ∷ 0x00 ∷ []) (0x06 ∷ 0x00 ∷ 0x05 ∷ 0x02 ∷ [])
    ∷ refused (0x06 ∷ 0x00 ∷ 0x01 ∷ 0x01 ∷ []) (0x06 ∷ 0x00 ∷ 0x06 ∷ 0x02 ∷ [])
    ∷ refused (0x08 ∷ 0x00 ∷ 0x00 ∷ 0x00 ∷ []) (0x06 ∷ 0x00 ∷ 0x08 ∷ 0x02 ∷ [])
    ∷ refused (0x09 ∷ []) (0x06 ∷ 0x00 ∷ 0x09 ∷ 0x02 ∷ [])
    ∷ refused (0xff ∷ []) (0x06 ∷ 0x00 ∷ 0xff ∷ 0x02 ∷ [])
    -- RA9 to RA17: no operator, Null, or one that is not Null on Abort
    ∷ refused (0x01 ∷ []) (0x06 ∷ 0x00 ∷ 0x01 ∷ 0x03 ∷ [])
    ∷ refused (0x03 ∷ []) (0x06 ∷ 0x00 ∷ 0x03 ∷ 0x03 ∷ [])
    ∷ refused (0x04 ∷ []) (0x06 ∷ 0x00 ∷ 0x04 ∷ 0x03 ∷ [])
    ∷ refused (0x07 ∷ []) (0x06 ∷ 0x00 ∷ 0x07 ∷ 0x03 ∷ [])
    ∷ refused (0x04 ∷ 0x00 ∷ []) (0x06 ∷ 0x00 ∷ 0x04 ∷ 0x03 ∷ [])
    ∷ refused (0x07 ∷ 0x00 ∷ []) (0x06 ∷ 0x00 ∷ 0x07 ∷ 0x03 ∷ [])
    ∷ refused (0x03 ∷ 0x01 ∷ []) (0x06 ∷ 0x00 ∷ 0x03 ∷ 0x03 ∷ [])
    ∷ refused (0x03 ∷ 0x07 ∷ []) (0x06 ∷ 0x00 ∷ 0x03 ∷ 0x03 ∷ [])
    ∷ refused (0x03 ∷ 0xff ∷ 0x01 ∷ []) (0x06 ∷ 0x00 ∷ 0x03 ∷ 0x03 ∷ [])
    -- RA18 to RA20: an operator from 7 on
    ∷ refused (0x01 ∷ 0x07 ∷ []) (0x06 ∷ 0x00 ∷ 0x01 ∷ 0x04 ∷ [])
    ∷ refused (0x04 ∷ 0xff ∷ 0x09 ∷ 0x09 ∷ []) (0x06 ∷ 0x00 ∷ 0x04 ∷ 0x04 ∷ [])
    ∷ refused (0x07 ∷ 0x07 ∷ []) (0x06 ∷ 0x00 ∷ 0x07 ∷ 0x04 ∷ [])
    -- RA21 to RA28: the operand's length
    ∷ refused (0x01 ∷ 0x01 ∷ 0x00 ∷ []) (0x06 ∷ 0x00 ∷ 0x01 ∷ 0x05 ∷ [])
    ∷ refused (0x04 ∷ 0x05 ∷ 0x01 ∷ []) (0x06 ∷ 0x00 ∷ 0x04 ∷ 0x05 ∷ [])
    ∷ refused (0x04 ∷ 0x06 ∷ 0x01 ∷ 0x00 ∷ 0x00 ∷ []) (0x06 ∷ 0x00 ∷ 0x04 ∷ 0x05 ∷ [])
    ∷ refused (0x04 ∷ 0x02 ∷ []) (0x06 ∷ 0x00 ∷ 0x04 ∷ 0x05 ∷ [])
    ∷ refused (0x04 ∷ 0x02 ∷ 0x01 ∷ 0x00 ∷ []) (0x06 ∷ 0x00 ∷ 0x04 ∷ 0x05 ∷ [])
    ∷ refused (0x04 ∷ 0x03 ∷ 0x01 ∷ 0x00 ∷ 0x00 ∷ 0x00 ∷ []) (0x06 ∷ 0x00 ∷ 0x04 ∷ 0x05 ∷ [])
    ∷ refused (0x04 ∷ 0x04 ∷ 0x01 ∷ 0x00 ∷ 0x00 ∷ []) (0x06 ∷ 0x00 ∷ 0x04 ∷ 0x05 ∷ [])
    ∷ refused (0x03 ∷ 0x00 ∷ 0x00 ∷ []) (0x06 ∷ 0x00 ∷ 0x03 ∷ 0x05 ∷ [])
    -- RA29: the length before the filter type
    ∷ refused (0x04 ∷ 0x02 ∷ 0x02 ∷ []) (0x06 ∷ 0x00 ∷ 0x04 ∷ 0x05 ∷ [])
    -- RA30, RA31: the filter type
    ∷ refused (0x04 ∷ 0x02 ∷ 0x02 ∷ 0x01 ∷ 0x00 ∷ []) (0x06 ∷ 0x00 ∷ 0x04 ∷ 0x09 ∷ [])
    ∷ refused (0x04 ∷ 0x04 ∷ 0x02 ∷ 0x05 ∷ 0x00 ∷ 0x03 ∷ 0x00 ∷ []) (0x06 ∷ 0x00 ∷ 0x04 ∷ 0x09 ∷ [])
    -- RA32: a range's minimum above its maximum goes on
    ∷ asks (0x01 ∷ 0x04 ∷ 0x01 ∷ 0x05 ∷ 0x00 ∷ 0x03 ∷ 0x00 ∷ []) (Ok (Report (Range 5 3)))
    -- RA33 to RA46: the six operators with their values
    ∷ asks (0x04 ∷ 0x01 ∷ []) (Ok (Number All))
    ∷ asks (0x04 ∷ 0x05 ∷ []) (Ok (Number First))
    ∷ asks (0x04 ∷ 0x06 ∷ []) (Ok (Number Last))
    ∷ asks (0x04 ∷ 0x02 ∷ 0x01 ∷ 0x00 ∷ 0x00 ∷ []) (Ok (Number (AtMost 0)))
    ∷ asks (0x04 ∷ 0x03 ∷ 0x01 ∷ 0x01 ∷ 0x00 ∷ []) (Ok (Number (AtLeast 1)))
    ∷ asks (0x04 ∷ 0x04 ∷ 0x01 ∷ 0x01 ∷ 0x00 ∷ 0x01 ∷ 0x00 ∷ []) (Ok (Number (Range 1 1)))
    ∷ asks (0x04 ∷ 0x04 ∷ 0x01 ∷ 0x02 ∷ 0x00 ∷ 0x09 ∷ 0x00 ∷ []) (Ok (Number (Range 2 9)))
    ∷ asks (0x01 ∷ 0x03 ∷ 0x01 ∷ 0x02 ∷ 0x00 ∷ []) (Ok (Report (AtLeast 2)))
    ∷ asks (0x07 ∷ 0x03 ∷ 0x01 ∷ 0x02 ∷ 0x00 ∷ []) (Ok (Report (AtLeast 2)))
    ∷ asks (0x07 ∷ 0x05 ∷ []) (Ok (Report First))
    ∷ asks (0x01 ∷ 0x01 ∷ []) (Ok (Report All))
    ∷ asks (0x07 ∷ 0x03 ∷ 0x01 ∷ 0x01 ∷ 0x00 ∷ []) (Ok (Report (AtLeast 1)))
    ∷ asks (0x01 ∷ 0x06 ∷ []) (Ok (Report Last))
    -- RA47: Abort
    ∷ asks (0x03 ∷ 0x00 ∷ []) (Ok Abort)
    -- RA58 to RA63: numbers of two bytes; a range over the turn of the numbers goes on
    ∷ asks (0x04 ∷ 0x03 ∷ 0x01 ∷ 0xff ∷ 0xff ∷ []) (Ok (Number (AtLeast 65535)))
    ∷ asks (0x04 ∷ 0x02 ∷ 0x01 ∷ 0x01 ∷ 0x00 ∷ []) (Ok (Number (AtMost 1)))
    ∷ asks (0x04 ∷ 0x04 ∷ 0x01 ∷ 0x00 ∷ 0x00 ∷ 0xff ∷ 0xff ∷ []) (Ok (Number (Range 0 65535)))
    ∷ asks (0x04 ∷ 0x04 ∷ 0x01 ∷ 0xfe ∷ 0xff ∷ 0x01 ∷ 0x00 ∷ []) (Ok (Number (Range 65534 1)))
    ∷ asks (0x01 ∷ 0x02 ∷ 0x01 ∷ 0x01 ∷ 0x00 ∷ []) (Ok (Report (AtMost 1)))
    ∷ asks (0x01 ∷ 0x04 ∷ 0x01 ∷ 0x00 ∷ 0x00 ∷ 0xff ∷ 0xff ∷ []) (Ok (Report (Range 0 65535)))
    ∷ []

abbrev pub Computed : Type 0
Computed = map got table ≡ map expected table

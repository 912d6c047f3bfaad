-- The round trips, from the laws of the image.
-- Assumes nothing.
use Rattle.std.proofs.Common.{arith}
use Rattle.image.specs.Laws.RoundTrip.{decode_encode, valid_encode, bytes_encode, encode_decode, valid_decode, decode_sized}
use Rattle.answers.specs.Laws.ReadBack.{entries_back}
use Rattle.claims.specs.Laws.Calls.{numbered}
use Rattle.claims.specs.RoundTrips.{RoundTrips}

pub round_trips : RoundTrips
round_trips =
    record {
      zones = λ z s v. record { back = decode_encode z s v; valid = valid_encode z s v; bytes = bytes_encode z s v };
      images = λ s b v. record { back = encode_decode s v b; valid = valid_decode s v; sized = decode_sized s };
      entries = λ z es old few fit. entries_back z es old (omega arith) (numbered es fit);
    }

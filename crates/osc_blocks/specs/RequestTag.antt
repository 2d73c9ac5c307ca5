-- To be believed: the value of the Request-Tag option that a client makes for a body (RFC 9175, 3.2 and 3.4). first is the number of
-- the request that carries block number 0 of that body.
use Rattle.std.specs.Prelude.{ℕ, List}
use Rattle.osc_context.specs.PartialIv.{partial_iv_of}

-- the tag of a body: the bytes of the number of its first request, as a Partial IV has them (RFC 9175, 3.2.1; own rule: these bytes)
abbrev pub request_tag_of : ℕ → List ℕ
request_tag_of first = partial_iv_of first

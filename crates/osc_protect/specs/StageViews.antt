-- How the code is seen: the values that the stages of opening pass on. s is a security context, n a request's number, r whether that request
-- registers an observation, d, old and new are datagrams, o is the opened message, e a refusal.
use Rattle.std.specs.Prelude.{◌≡◌, ◌≢◌, ℕ, Bool, List, Option, Result, IfOk, IfErr, IsOk, IsErrOf}
use Rattle.std.specs.Option.{option_map}
use Rattle.osc_coap.specs.Inner.{InnerParts}
use Rattle.osc_context.specs.SecurityContext.{SecurityContext}
use Rattle.osc_context.specs.Views.{number_of}
use Rattle.osc_protect.specs.Protection.{Protection, Protects, ProtectsRequest, requests, responses_to}
use Rattle.osc_protect.specs.Refusals.{RefusesPlaintext, RefusesToOpen}
use Rattle.osc_protect.specs.Opening.{Opens}
use Rattle.osc_protect.specs.Stages.{Decrypts, HasPayloadOf, HasPlaintext, HasSealed}
use Rattle.osc_protect.specs.declared.opened.Opened.{Opened}
use Rattle.osc_protect.specs.declared.stages.DecryptedRequest.{DecryptedRequest}
use Rattle.osc_protect.specs.declared.stages.DecryptedResponse.{DecryptedResponse}
use Rattle.osc_protect.specs.declared.stages.ReadRequest.{ReadRequest}
use Rattle.osc_protect.specs.declared.stages.ReadResponse.{ReadResponse}
use Rattle.osc_protect.specs.declared.stages.SealedRequest.{SealedRequest}
use Rattle.osc_protect.specs.declared.stages.SealedResponse.{SealedResponse}
use Rattle.osc_protect.specs.declared.unprotect_error.UnprotectError.{UnprotectError}
use Rattle.osc_protect.specs.declared.unprotect_error.UnprotectError.TheVariants.{Inner, WrongContext}
use Rattle.osc_protect.specs.declared.usage.Usage.TheVariants.{Request, Response}

-- the value comes from the datagram's head, which names the context (how the code is seen)
abbrev pub IsSealedRequest : Protection ℕ → List ℕ → SealedRequest → Type 0
IsSealedRequest f d x = HasSealed f d (number_of x.number) x.len

-- the value comes from the datagram's head, which is one of a response (how the code is seen)
abbrev pub IsSealedResponse : Protection (Option ℕ) → List ℕ → SealedResponse → Type 0
IsSealedResponse f d x = HasSealed f d (option_map number_of x.number) x.len

-- the value says what the old datagram was decrypted to (how the code is seen)
abbrev pub DecryptsRequest : Protection ℕ → List ℕ → DecryptedRequest → List ℕ → Type 0
DecryptsRequest f old x new = (x.features ≡ f.features) × Decrypts f old (number_of x.number) x.len new

-- the value says what the old datagram was decrypted to, as a response (how the code is seen)
abbrev pub DecryptsResponse : Protection (Option ℕ) → List ℕ → DecryptedResponse → List ℕ → Type 0
DecryptsResponse f old x new = (x.features ≡ f.features) × Decrypts f old (option_map number_of x.number) x.len new

-- the datagram's payload is as long as the value's plaintext and a tag (how the code is seen)
abbrev pub FitsRequest : List ℕ → DecryptedRequest → Type 0
FitsRequest d x = HasPayloadOf d x.len

-- the same for a response (how the code is seen)
abbrev pub FitsResponse : List ℕ → DecryptedResponse → Type 0
FitsResponse d x = HasPayloadOf d x.len

-- each datagram that was decrypted to this one as a request protects what was read from it (RFC 8613, 8.2)
abbrev pub OpensRequestAfter : List ℕ → DecryptedRequest → Opened → Type 0
OpensRequestAfter new x o = (s : SecurityContext) (old : List ℕ) → DecryptsRequest (requests s) old x new → Opens (requests s) old o

-- each datagram that was decrypted to this one as a request protects a message (RFC 8613, 8.2)
abbrev pub AcceptsRequestAfter : List ℕ → DecryptedRequest → Type 0
AcceptsRequestAfter new x = (s : SecurityContext) (old : List ℕ) → DecryptsRequest (requests s) old x new → (n : ℕ) × (m : InnerParts) × ProtectsRequest s n m old

-- each datagram that was decrypted to this one as a request protects a bad plaintext (RFC 8613, 8.2)
abbrev pub RefusesRequestAfter : List ℕ → DecryptedRequest → Type 0
RefusesRequestAfter new x = (s : SecurityContext) (old : List ℕ) → DecryptsRequest (requests s) old x new → RefusesPlaintext (requests s) old

-- each datagram that was decrypted to this one as a response protects what was read from it (RFC 8613, 8.4)
abbrev pub OpensResponseAfter : List ℕ → DecryptedResponse → Opened → Type 0
OpensResponseAfter new x o = (s : SecurityContext) (r : Bool) (n : ℕ) (old : List ℕ) → DecryptsResponse (responses_to s r n) old x new → Opens (responses_to s r n) old o

-- each datagram that was decrypted to this one as a response protects a message (RFC 8613, 8.4)
abbrev pub AcceptsResponseAfter : List ℕ → DecryptedResponse → Type 0
AcceptsResponseAfter new x = (s : SecurityContext) (r : Bool) (n : ℕ) (old : List ℕ) → DecryptsResponse (responses_to s r n) old x new
    → (own : Option ℕ) × (m : InnerParts) × Protects (responses_to s r n) own m old

-- each datagram that was decrypted to this one as a response protects a bad plaintext (RFC 8613, 8.4)
abbrev pub RefusesResponseAfter : List ℕ → DecryptedResponse → Type 0
RefusesResponseAfter new x = (s : SecurityContext) (r : Bool) (n : ℕ) (old : List ℕ) → DecryptsResponse (responses_to s r n) old x new → RefusesPlaintext (responses_to s r n) old

-- the value was read from the datagram, which holds the good plaintext of the decrypted request (how the code is seen)
abbrev pub CanLendRequest : List ℕ → DecryptedRequest → ReadRequest → Type 0
CanLendRequest d x r = (r.number ≡ x.number) × (r.len ≡ x.len) × HasPlaintext Request x.features d r.len r.payload_len

-- the same for a response (how the code is seen)
abbrev pub CanLendResponse : List ℕ → DecryptedResponse → ReadResponse → Type 0
CanLendResponse d x r = (r.number ≡ x.number) × (r.len ≡ x.len) × HasPlaintext Response x.features d r.len r.payload_len

-- the old datagram was decrypted to the new one, and the value was read from that (how the code is seen)
abbrev pub LendsRequest : Protection ℕ → List ℕ → ReadRequest → List ℕ → Type 0
LendsRequest f old x new = (y : DecryptedRequest) × DecryptsRequest f old y new × CanLendRequest new y x

-- the same for a response (how the code is seen)
abbrev pub LendsResponse : Protection (Option ℕ) → List ℕ → ReadResponse → List ℕ → Type 0
LendsResponse f old x new = (y : DecryptedResponse) × DecryptsResponse f old y new × CanLendResponse new y x

-- what a refusal to open a request leaves: the datagram as it was, but at Inner it was decrypted to the bad plaintext (RFC 8613, 8.2)
pub record LeavesRequest (f : Protection ℕ) (old : List ℕ) (e : UnprotectError) (new : List ℕ) : Type 0 where
  pub same : e ≢ Inner → new ≡ old
  pub decrypted : e ≡ Inner → (y : DecryptedRequest) × DecryptsRequest f old y new

-- the same for a response (RFC 8613, 8.4)
pub record LeavesResponse (f : Protection (Option ℕ)) (old : List ℕ) (e : UnprotectError) (new : List ℕ) : Type 0 where
  pub same : e ≢ Inner → new ≡ old
  pub decrypted : e ≡ Inner → (y : DecryptedResponse) × DecryptsResponse f old y new

-- what a call that opens a datagram and borrows nothing answers and leaves, where Lends says what it read of which bytes, and Leaves what a
-- refusal leaves; otherwise it is as for a call that lends the message (RFC 8613, 8.2 and 8.4)
pub record UnprotectsExactly {I X : Type 0} (f : Protection I) (Lends : List ℕ → X → List ℕ → Type 0) (Leaves : List ℕ → UnprotectError → List ℕ → Type 0) (old new : List ℕ) (result : Result X UnprotectError) : Type 0 where
  pub lends : IfOk result (λ x. Lends old x new)
  pub accepts : (i : I) (m : InnerParts) → Protects f i m old → IsOk result
  pub refused : IfErr result (λ e. RefusesToOpen f old e)
  pub refuses : (e : UnprotectError) → RefusesToOpen f old e → IsErrOf result e
  pub no_wrong_context : f.usage ≡ Response → IfErr result (λ e. e ≢ WrongContext)
  pub left : IfErr result (λ e. Leaves old e new)

-- the same for a request (RFC 8613, 8.2)
abbrev pub UnprotectsRequest : Protection ℕ → List ℕ → List ℕ → Result ReadRequest UnprotectError → Type 0
UnprotectsRequest f old new result = UnprotectsExactly f (LendsRequest f) (LeavesRequest f) old new result

-- the same for a response (RFC 8613, 8.4)
abbrev pub UnprotectsResponse : Protection (Option ℕ) → List ℕ → List ℕ → Result ReadResponse UnprotectError → Type 0
UnprotectsResponse f old new result = UnprotectsExactly f (LendsResponse f) (LeavesResponse f) old new result

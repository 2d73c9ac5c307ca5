-- How the code is seen: what C reads of a message that was opened, or of a head. and what a refused opening leaves.
-- view is what it reads, o the message, h the head, f a protection, old and new a datagram.
use Rattle.std.specs.Prelude.{◌≡◌, ◌≢◌, ℕ, Bool, true, false, List, Option, Some, None, take}
use Rattle.osc_coap.specs.Datagram.{kind_number}
use Rattle.osc_coap.specs.OptionSpelling.{Entry}
use Rattle.osc_protect.specs.Head.{Head}
use Rattle.osc_protect.specs.Protection.{Protection}
use Rattle.osc_protect.specs.StageViews.{DecryptsRequest, DecryptsResponse}
use Rattle.osc_protect.specs.Usage.{value_of_request}
use Rattle.osc_protect.specs.Views.{message_of, opened_number, shown}
use Rattle.osc_protect.specs.declared.opened.Opened.{Opened}
use Rattle.osc_protect.specs.declared.stages.DecryptedRequest.{DecryptedRequest}
use Rattle.osc_protect.specs.declared.stages.DecryptedResponse.{DecryptedResponse}
use Rattle.osc_c.specs.declared.head_view.HeadView.{HeadView}
use Rattle.osc_c.specs.declared.opened_view.OpenedView.{OpenedView}
use Rattle.osc_c.specs.declared.opened_view.OptionView.{OptionView}
use Rattle.osc_status.specs.declared.status.Status.{Status}
use Rattle.osc_status.specs.declared.status.Status.TheVariants.{Inner}

-- number and value of an option that C reads (how the code is seen)
abbrev pub option_in : OptionView → Entry
option_in o = (o.number, o.value.now)

-- a number that C reads, if it is said to be there (how the code is seen)
abbrev pub number_given : Bool → ℕ → Option ℕ
number_given true number = Some number
number_given false number = None

-- bytes that C reads, if they are said to be there (how the code is seen)
abbrev pub bytes_given : Bool → List ℕ → Option (List ℕ)
bytes_given true bytes = Some bytes
bytes_given false bytes = None

-- C reads the message that was opened, except for its options (how the code is seen)
pub record Shows (view : OpenedView) (o : Opened) : Type 0 where
  pub kind : view.kind ≡ kind_number o.kind
  pub message_id : view.message_id ≡ o.message_id
  pub token : take view.token_len view.token ≡ o.token.items
  pub code : view.code ≡ (message_of o).code
  pub payload : view.payload.now ≡ (message_of o).payload
  pub number : number_given view.has_number view.number ≡ opened_number o
  pub uri_host : bytes_given view.has_uri_host view.uri_host.now ≡ shown o.uri_host
  pub uri_port : bytes_given view.has_uri_port view.uri_port.now ≡ shown o.uri_port

-- C reads the head that was read, except for the ciphertext (how the code is seen)
pub record ShowsHead (view : HeadView) (h : Head) : Type 0 where
  pub kind : view.kind ≡ kind_number h.kind
  pub message_id : view.message_id ≡ h.message_id
  pub token : take view.token_len view.token ≡ h.token
  pub parts : value_of_request view.number (bytes_given view.has_kid_context view.kid_context.now) view.kid.now ≡ h.parts

-- what a refused opening leaves in the datagram: at Inner it was decrypted to the bad plaintext, at any other status it is as it was (RFC 8613, 8.2)
pub record LeavesRequestIn (f : Protection ℕ) (old : List ℕ) (status : Status) (new : List ℕ) : Type 0 where
  pub same : status ≢ Inner → new ≡ old
  pub decrypted : status ≡ Inner → (y : DecryptedRequest) × DecryptsRequest f old y new

-- the same for a response (RFC 8613, 8.4)
pub record LeavesResponseIn (f : Protection (Option ℕ)) (old : List ℕ) (status : Status) (new : List ℕ) : Type 0 where
  pub same : status ≢ Inner → new ≡ old
  pub decrypted : status ≡ Inner → (y : DecryptedResponse) × DecryptsResponse f old y new

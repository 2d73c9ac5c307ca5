-- To be believed: which status and detail a refusal has, which number a status has, and which name a number has (own rules).
use Rattle.std.specs.Prelude.{ℕ, List, [], ◌∷◌, Option, Some, None, codes, slice_get}
use Rattle.osc_coap.specs.declared.format_error.Fault.{Fault}
use Rattle.osc_coap.specs.declared.format_error.Fault.TheVariants as faults
use Rattle.osc_context.specs.declared.context_error.ContextError.{ContextError}
use Rattle.osc_context.specs.declared.context_error.ContextError.TheVariants as contexts
use Rattle.osc_protect.specs.declared.head_error.HeadError.{HeadError}
use Rattle.osc_protect.specs.declared.head_error.HeadError.TheVariants as heads
use Rattle.osc_protect.specs.declared.protect_error.ProtectError.{ProtectError}
use Rattle.osc_protect.specs.declared.protect_error.ProtectError.TheVariants as seals
use Rattle.osc_protect.specs.declared.unprotect_error.UnprotectError.{UnprotectError}
use Rattle.osc_protect.specs.declared.unprotect_error.UnprotectError.TheVariants as opens
use Rattle.osc_proxy.specs.declared.ask_error.AskProxyError.{AskProxyError}
use Rattle.osc_proxy.specs.declared.ask_error.AskProxyError.TheVariants as asks
use Rattle.osc_proxy.specs.declared.split_error.SplitError.{SplitError}
use Rattle.osc_proxy.specs.declared.split_error.SplitError.TheVariants as splits
use Rattle.osc_proxy.specs.declared.uri_error.UriError.{UriError}
use Rattle.osc_proxy.specs.declared.uri_error.UriError.TheVariants as uris
use Rattle.osc_status.specs.declared.status.Status.{Status}
use Rattle.osc_status.specs.declared.status.Status.TheVariants.{BadHandle, BadNumber, OldRecord, SecretLength, SaltLength, IdTooLong, SameIds, IdContextLength, DatagramTooLong, Short, Version, TokenLength, EmptyWithRest, TokenCut, Nibble15, OptionCut, NumberTooLarge, EmptyPayload, OptionOrder, ValueTooLong, StaleTicket, SaveFirst, LivesExhausted, TicketSpent, NotObserving, NotThatKind, UnknownToken, NoOscore, Undecodable, NoContext, WrongContext, Replay, Old, Tag, Inner, Challenge, Unsupported, NotNotification, TokenInUse, PendingFull, SequenceExhausted, TooLong, NoRoom, NotPending, NotOneProxyUri, Mixed, Scheme, Fragment, Character, Authority, Userinfo, Host, Port, PartTooLong, Asked, SchemeLength}

-- the number of a status, as C reads it; a call that is done has 0, and 1 is Busy, which no call of the library answers (own rule)
abbrev pub code : Status → ℕ
code BadHandle = 2
code BadNumber = 3
code OldRecord = 4
code SecretLength = 5
code SaltLength = 6
code IdTooLong = 7
code SameIds = 8
code IdContextLength = 9
code DatagramTooLong = 10
code Short = 11
code Version = 12
code TokenLength = 13
code EmptyWithRest = 14
code TokenCut = 15
code Nibble15 = 16
code OptionCut = 17
code NumberTooLarge = 18
code EmptyPayload = 19
code OptionOrder = 20
code ValueTooLong = 21
code StaleTicket = 22
code SaveFirst = 23
code LivesExhausted = 24
code TicketSpent = 25
code NotObserving = 26
code NotThatKind = 27
code UnknownToken = 28
code NoOscore = 29
code Undecodable = 30
code NoContext = 31
code WrongContext = 32
code Replay = 33
code Old = 34
code Tag = 35
code Inner = 36
code Challenge = 37
code Unsupported = 38
code NotNotification = 39
code TokenInUse = 40
code PendingFull = 41
code SequenceExhausted = 42
code TooLong = 43
code NoRoom = 44
code NotPending = 45
code NotOneProxyUri = 46
code Mixed = 47
code Scheme = 48
code Fragment = 49
code Character = 50
code Authority = 51
code Userinfo = 52
code Host = 53
code Port = 54
code PartTooLong = 55
code Asked = 56
code SchemeLength = 57

-- the names of the statuses in the order of their numbers, from 0 (own rule)
abbrev pub status_names : List (List ℕ)
status_names = codes "Done" ∷ codes "Busy" ∷ codes "BadHandle" ∷ codes "BadNumber" ∷ codes "OldRecord" ∷ codes "SecretLength" ∷ codes "SaltLength" ∷ codes "IdTooLong" ∷ codes "SameIds" ∷ codes "IdContextLength" ∷ codes "DatagramTooLong" ∷ codes "Short" ∷ codes "Version" ∷ codes "TokenLength" ∷ codes "EmptyWithRest" ∷ codes "TokenCut" ∷ codes "Nibble15" ∷ codes "OptionCut" ∷ codes "NumberTooLarge" ∷ codes "EmptyPayload" ∷ codes "OptionOrder" ∷ codes "ValueTooLong" ∷ codes "StaleTicket" ∷ codes "SaveFirst" ∷ codes "LivesExhausted" ∷ codes "TicketSpent" ∷ codes "NotObserving" ∷ codes "NotThatKind" ∷ codes "UnknownToken" ∷ codes "NoOscore" ∷ codes "Undecodable" ∷ codes "NoContext" ∷ codes "WrongContext" ∷ codes "Replay" ∷ codes "Old" ∷ codes "Tag" ∷ codes "Inner" ∷ codes "Challenge" ∷ codes "Unsupported" ∷ codes "NotNotification" ∷ codes "TokenInUse" ∷ codes "PendingFull" ∷ codes "SequenceExhausted" ∷ codes "TooLong" ∷ codes "NoRoom" ∷ codes "NotPending" ∷ codes "NotOneProxyUri" ∷ codes "Mixed" ∷ codes "Scheme" ∷ codes "Fragment" ∷ codes "Character" ∷ codes "Authority" ∷ codes "Userinfo" ∷ codes "Host" ∷ codes "Port" ∷ codes "PartTooLong" ∷ codes "Asked" ∷ codes "SchemeLength" ∷ []

-- the name if there is one, or else Unknown (own rule)
abbrev pub name_or_unknown : Option (List ℕ) → List ℕ
name_or_unknown (Some name) = name
name_or_unknown None = codes "Unknown"

-- the name of the status that has this number, or Unknown if no status has it (own rule)
abbrev pub status_name : ℕ → List ℕ
status_name n = name_or_unknown (slice_get status_names n)

-- the status of a refusal to derive: the one with the same name (own rule)
abbrev pub context_status : ContextError → Status
context_status contexts.SecretLength = SecretLength
context_status contexts.SaltLength = SaltLength
context_status contexts.IdTooLong = IdTooLong
context_status contexts.SameIds = SameIds
context_status contexts.IdContextLength = IdContextLength

-- the status of a datagram's fault: the one with the same name (own rule)
abbrev pub format_status : Fault → Status
format_status faults.DatagramTooLong = DatagramTooLong
format_status faults.Short = Short
format_status faults.Version = Version
format_status faults.TokenLength = TokenLength
format_status faults.EmptyWithRest = EmptyWithRest
format_status faults.TokenCut = TokenCut
format_status faults.Nibble15 = Nibble15
format_status faults.OptionCut = OptionCut
format_status faults.NumberTooLarge = NumberTooLarge
format_status faults.EmptyPayload = EmptyPayload

-- the status of a refusal to read a head: the one with its name, or with the fault's name (own rule)
abbrev pub head_status : HeadError → Status
head_status (heads.Format e) = format_status e.fault
head_status heads.NotThatKind = NotThatKind
head_status heads.NoOscore = NoOscore
head_status heads.Undecodable = Undecodable

-- the detail of a refusal to read a head: the place of a fault, or else 0 (own rule)
abbrev pub head_detail : HeadError → ℕ
head_detail (heads.Format e) = e.place
head_detail heads.NotThatKind = 0
head_detail heads.NoOscore = 0
head_detail heads.Undecodable = 0

-- the status of a refusal to open: the one with its name, or with the fault's name (own rule)
abbrev pub open_status : UnprotectError → Status
open_status (opens.Format e) = format_status e.fault
open_status opens.NotThatKind = NotThatKind
open_status opens.NoOscore = NoOscore
open_status opens.Undecodable = Undecodable
open_status opens.WrongContext = WrongContext
open_status opens.Tag = Tag
open_status opens.Inner = Inner

-- the detail of a refusal to open: the place of a fault, or else 0 (own rule)
abbrev pub open_detail : UnprotectError → ℕ
open_detail (opens.Format e) = e.place
open_detail opens.NotThatKind = 0
open_detail opens.NoOscore = 0
open_detail opens.Undecodable = 0
open_detail opens.WrongContext = 0
open_detail opens.Tag = 0
open_detail opens.Inner = 0

-- the status of a refusal to seal: the one with the same name (own rule)
abbrev pub seal_status : ProtectError → Status
seal_status seals.NotThatKind = NotThatKind
seal_status (seals.Unsupported n) = Unsupported
seal_status seals.TooLong = TooLong
seal_status seals.NoRoom = NoRoom

-- the detail of a refusal to seal: the number of the option, or else 0 (own rule)
abbrev pub seal_detail : ProtectError → ℕ
seal_detail seals.NotThatKind = 0
seal_detail (seals.Unsupported n) = n
seal_detail seals.TooLong = 0
seal_detail seals.NoRoom = 0

-- the status of a URI's fault: the one with the same name (own rule)
abbrev pub uri_status : UriError → Status
uri_status uris.Scheme = Scheme
uri_status uris.Fragment = Fragment
uri_status uris.Character = Character
uri_status uris.Authority = Authority
uri_status uris.Userinfo = Userinfo
uri_status uris.Host = Host
uri_status uris.Port = Port

-- the status of a refusal to split a Proxy-Uri: the one with its name, or with the fault's name; NotThatKind for what is no request (own rule)
abbrev pub split_status : SplitError → Status
split_status (splits.Format e) = format_status e.fault
split_status splits.NotRequest = NotThatKind
split_status splits.NotOneProxyUri = NotOneProxyUri
split_status splits.Mixed = Mixed
split_status (splits.Uri e) = uri_status e
split_status splits.PartTooLong = PartTooLong
split_status splits.TooLong = TooLong
split_status splits.NoRoom = NoRoom

-- the detail of a refusal to split a Proxy-Uri: the place of a fault, or else 0 (own rule)
abbrev pub split_detail : SplitError → ℕ
split_detail (splits.Format e) = e.place
split_detail splits.NotRequest = 0
split_detail splits.NotOneProxyUri = 0
split_detail splits.Mixed = 0
split_detail (splits.Uri e) = 0
split_detail splits.PartTooLong = 0
split_detail splits.TooLong = 0
split_detail splits.NoRoom = 0

-- the status of a refusal to ask a proxy: the one with its name, or with the fault's name; NotThatKind for what is no request (own rule)
abbrev pub ask_status : AskProxyError → Status
ask_status (asks.Format e) = format_status e.fault
ask_status asks.NotRequest = NotThatKind
ask_status asks.Asked = Asked
ask_status asks.SchemeLength = SchemeLength
ask_status asks.TooLong = TooLong
ask_status asks.NoRoom = NoRoom

-- the detail of a refusal to ask a proxy: the place of a fault, or else 0 (own rule)
abbrev pub ask_detail : AskProxyError → ℕ
ask_detail (asks.Format e) = e.place
ask_detail asks.NotRequest = 0
ask_detail asks.Asked = 0
ask_detail asks.SchemeLength = 0
ask_detail asks.TooLong = 0
ask_detail asks.NoRoom = 0

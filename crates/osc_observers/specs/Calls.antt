-- How the code is seen: what each call of a list of observers does.
use Rattle.std.specs.Prelude.{◌≡◌, ◌≢◌, ◌^◌, ◌-◌, ℕ, List, Bool, true, false, Option, Some, None, codes}
use Rattle.osc_observers.specs.Finding.{IsFirstFrom, IsPlaceFor}
use Rattle.osc_message.specs.Slots.{IsAt, IsFreePlace, NonePasses}
use Rattle.osc_observers.specs.Table.{Ended, Failed, Forgotten, Noted, Registered, Replaced, Reset, Steps, Table}
use Rattle.osc_observers.specs.Watching.{Watching, is_failed, is_of, is_reset, needs_con}
use Rattle.osc_observers.specs.declared.observers.Observer.{Observer}
use Rattle.osc_observers.specs.declared.observers.RegisterError.{RegisterError}
use Rattle.osc_observers.specs.declared.observers.RegisterError.TheVariants.{Full, NumbersExhausted}

-- how a refusal prints (own rule)
abbrev pub register_error_text : RegisterError → List ℕ
register_error_text Full = codes "Full"
register_error_text NumbersExhausted = codes "NumbersExhausted"

-- this observer is listed (how the code is seen)
abbrev pub IsListed : Table → Observer → Watching → Type 0
IsListed t o x = IsAt t.places o.place x × (x.number ≡ o.number)

-- this observer isn't listed (how the code is seen)
abbrev pub IsUnlisted : Table → Observer → Type 0
IsUnlisted t o = (x : Watching) → IsListed t o x → ⊥

-- what a registration does, by what was at its place: it takes a free one, or that of the observer of the same address and token (RFC 7641, 4.1)
abbrev pub RegistersAt : Table → Table → List ℕ → List ℕ → ℕ → Observer → Option Watching → Type 0
RegistersAt old new from token now o None = Steps old (Registered o.place o.number from token now) new
RegistersAt old new from token now o (Some y) = (y.from ≡ from) × (y.token ≡ token) × Steps old (Replaced o.place y o.number now) new

-- an observer registers (RFC 7641, 4.1)
abbrev pub RegistersBy : Table → Table → List ℕ → List ℕ → ℕ → Observer → Type 0
RegistersBy old new from token now o = (before : Option Watching) × RegistersAt old new from token now o before

-- no place is free for this address and token, and none has them (how the code is seen)
abbrev pub HasNoPlace : Table → List ℕ → List ℕ → Type 0
HasNoPlace t from token = NonePasses (is_of from token) t.places × IsFreePlace t.places None

-- the first reason for which a registration can't be kept: no place is free for it; no number is left (own rule: the order)
abbrev pub IsFirstReason : Table → List ℕ → List ℕ → RegisterError → Type 0
IsFirstReason t from token Full = HasNoPlace t from token
IsFirstReason t from token NumbersExhausted = (HasNoPlace t from token → ⊥) × (t.next_number ≡ 2 ^ 64 - 1)

-- a registration can be kept: this is its place, and a number is left (how the code is seen)
abbrev pub MayRegister : Table → List ℕ → List ℕ → ℕ → Type 0
MayRegister t from token place = IsPlaceFor from token t.places (Some place) × (t.next_number ≢ 2 ^ 64 - 1)

-- whether the next notification to an observer has to be a CON; none where it isn't listed (RFC 7641, 4.5)
abbrev pub NeedsBy : Table → Observer → ℕ → Option Bool → Type 0
NeedsBy t o now None = IsUnlisted t o
NeedsBy t o now (Some needs) = (x : Watching) × IsListed t o x × (needs ≡ needs_con now x)

-- a notification is noted, if its observer is listed (RFC 7641, 4.2)
abbrev pub NotesBy : Table → Table → Observer → ℕ → Option ℕ → ℕ → Bool → Type 0
NotesBy old new o message_id call now false = (new ≡ old) × IsUnlisted old o
NotesBy old new o message_id call now true = (x : Watching) × (x.number ≡ o.number) × Steps old (Noted o.place x message_id call now) new

-- what an RST does: it ends the observer whose last notification it rejects (RFC 7641, 3.6 and 4.5)
abbrev pub Resets : Table → Table → List ℕ → ℕ → Option Observer → Type 0
Resets old new from message_id None = (new ≡ old) × NonePasses (is_reset from message_id) old.places
Resets old new from message_id (Some o) = (x : Watching) × (x.number ≡ o.number) × Steps old (Ended o.place x (Reset from message_id)) new

-- what the failure of a call does: it ends the observer whose last CON was that call's (RFC 7641, 4.5)
abbrev pub Fails : Table → Table → ℕ → Option Observer → Type 0
Fails old new call None = (new ≡ old) × NonePasses (is_failed call) old.places
Fails old new call (Some o) = (x : Watching) × (x.number ≡ o.number) × Steps old (Ended o.place x (Failed call)) new

-- the observer of this address and token (RFC 7641, 4.1)
abbrev pub FindsBy : Table → List ℕ → List ℕ → Option Observer → Type 0
FindsBy t from token None = NonePasses (is_of from token) t.places
FindsBy t from token (Some o) = (x : Watching) × IsListed t o x × (is_of from token x ≡ true)

-- an observer is forgotten, if it is listed (RFC 7641, 4.1)
abbrev pub Forgets : Table → Table → Observer → Bool → Type 0
Forgets old new o false = (new ≡ old) × IsUnlisted old o
Forgets old new o true = (x : Watching) × (x.number ≡ o.number) × Steps old (Ended o.place x Forgotten) new

-- the first observer from this place on (own rule)
abbrev pub IsNext : Table → ℕ → Option Observer → Type 0
IsNext t place None = IsFirstFrom t.places place None
IsNext t place (Some o) = IsFirstFrom t.places place (Some o.place) × ((x : Watching) → IsAt t.places o.place x → x.number ≡ o.number)

-- To be believed: one life of a server's context, from the moment at which it was added or restarted (RFC 8613, 7.4 and B.1.2), as told by
-- the answers in it. l is a life, marks are what its answers left, newest first, from_birth says whether it is open at its birth, n is the
-- number of a request, m the message that the request protects. Moments are in milliseconds.
use Rattle.std.specs.Prelude.{◌≡◌, ℕ, ◌+◌, ◌-◌, ◌<◌, ◌^◌, List, [], ◌∷◌, Bool, true, false, Option, Some, None, unwrap_or, if◌then◌else◌}
use Rattle.osc_coap.specs.Inner.{InnerParts}
use Rattle.osc_context.specs.SecurityContext.{SecurityContext}
use Rattle.osc_context.specs.Views.{number_of}
use Rattle.osc_window.specs.declared.window_size.WindowSize.{WindowSize}
use Rattle.osc_window.specs.Views.{places_of}
use Rattle.osc_window.specs.Window.{IsNew}
use Rattle.osc_window.specs.Gate.{challenge_in_force}
use Rattle.osc_coap.specs.OptionNumbers as numbers
use Rattle.osc_coap.specs.Interpreted.{interpreted}
use Rattle.osc_life.specs.Doubting.{IsNotBelow, OpensBy}
use Rattle.osc_life.specs.declared.doubt.Doubt.{Doubt}
use Rattle.osc_life.specs.declared.start.Start.{Start}
use Rattle.osc_life.specs.declared.start.Start.TheVariants.{Fresh, Restarted, Received, Reserved}

-- what an answer leaves: a delivered number, the number of a bad plaintext, a challenge, a reply or notification with a Partial IV of its own, or Sender Sequence
-- Numbers that were passed over, since another end of the same Sender Key has them (own rule)
pub data Mark : Type 0 where
  Delivered : (number : ℕ) → Mark
  Spoiled : (number : ℕ) → Mark
  Challenged : (echo : List ℕ) (issued : ℕ) → Mark
  Answered : Mark
  PassedOver : (count : ℕ) → Mark

-- a life: its context and window size, how many lives came before it, whether it is open at its birth, as a life that was added fresh is, and
-- from which number on, which numbers are in doubt until it is open, if any are, its first Sender Sequence Number, and its marks (RFC 8613, 3.1)
pub record Life : Type 0 where
  pub context : SecurityContext
  pub size : WindowSize
  pub count : ℕ
  pub open_at_birth : Bool
  pub least : ℕ
  pub doubt : Option Doubt
  pub first : ℕ
  pub marks : List Mark

-- the life was open at its birth, or a request was delivered in it (RFC 8613, B.1.2)
abbrev pub opened : Bool → List Mark → Bool
opened from_birth [] = from_birth
opened from_birth (Delivered n ∷ marks) = true
opened from_birth (mark ∷ marks) = opened from_birth marks

-- the number of the first request that was delivered (RFC 8613, B.1.2)
abbrev pub first_delivered : List Mark → Option ℕ
first_delivered [] = None
first_delivered (Delivered n ∷ marks) = Some (unwrap_or (first_delivered marks) n)
first_delivered (mark ∷ marks) = first_delivered marks

-- the least number that can be new: that of the birth if the life was open then, else the number of the first delivery (RFC 8613, 7.4 and B.1.2)
abbrev pub floor : ℕ → Bool → List Mark → ℕ
floor least from_birth marks = if from_birth then least else unwrap_or (first_delivered marks) 0

-- the numbers of what was delivered, and of bad plaintexts that came while the life was open (RFC 8613, 7.4)
abbrev pub spent : Bool → List Mark → List ℕ
spent from_birth [] = []
spent from_birth (Delivered n ∷ marks) = n ∷ spent from_birth marks
spent from_birth (Spoiled n ∷ marks) = if opened from_birth marks then n ∷ spent from_birth marks else spent from_birth marks
spent from_birth (mark ∷ marks) = spent from_birth marks

-- the value of the last challenge, and when it was issued (RFC 9175, 2.3)
abbrev pub challenge : List Mark → Option (List ℕ × ℕ)
challenge [] = None
challenge (Challenged echo issued ∷ marks) = Some (echo, issued)
challenge (mark ∷ marks) = challenge marks

-- how many Sender Sequence Numbers were used or passed over: one for each challenge, each notification, and each reply that asked for one, and those that
-- another end has (RFC 8613, 7.2.1)
abbrev pub own_count : List Mark → ℕ
own_count [] = 0
own_count (Challenged echo issued ∷ marks) = own_count marks + 1
own_count (Answered ∷ marks) = own_count marks + 1
own_count (PassedOver count ∷ marks) = own_count marks + count
own_count (mark ∷ marks) = own_count marks

-- requests are checked by their number (RFC 8613, B.1.2)
abbrev pub is_open : Life → Bool
is_open l = opened l.open_at_birth l.marks

-- the life is there, and open (RFC 8613, B.1.2)
abbrev pub is_open_life : Option Life → Bool
is_open_life None = false
is_open_life (Some l) = is_open l

-- the next Sender Sequence Number; from 2 ^ 40 on, none is left (RFC 8613, 7.2.1)
abbrev pub next_own : Life → ℕ
next_own l = l.first + own_count l.marks

-- a Sender Sequence Number is left (RFC 8613, 7.2.1)
abbrev pub HasOwn : Life → Type 0
HasOwn l = next_own l < 2 ^ 40

-- the number is new in this life, while the life is open (RFC 8613, 7.4)
abbrev pub IsNewIn : Life → ℕ → Type 0
IsNewIn l n = IsNew (places_of l.size) (floor l.least l.open_at_birth l.marks) (spent l.open_at_birth l.marks) n

-- the challenge that is in force at this moment; there is none once the life is open (RFC 9175, 2.3; own rule: the time)
abbrev pub in_force : Life → ℕ → Option (List ℕ × ℕ)
in_force l clock = if is_open l then None else challenge_in_force (challenge l.marks) clock

-- the message's inner Echo option, as it is interpreted, is the challenge's value (RFC 7252, 5.4.3; RFC 9175, 2.3)
abbrev pub Carries : Option (List ℕ × ℕ) → InnerParts → Type 0
Carries None m = ⊥
Carries (Some challenge) m = interpreted numbers.echo m.options ≡ Some challenge.0

-- the request isn't a replay: in an open life the number is new, in a closed one it isn't below those in doubt (RFC 8613, 7.4)
abbrev pub Passes : Life → ℕ → Type 0
Passes l n = (is_open l ≡ true → IsNewIn l n) × (is_open l ≡ false → IsNotBelow l.doubt n)

-- what decides whether a request is delivered: its number in an open life, else the challenge, or that its number is above those in doubt
-- (RFC 8613, 7.4 and B.1.2)
abbrev pub Admits : Life → ℕ → ℕ → InnerParts → Type 0
Admits l clock n m = Passes l n × (is_open l ≡ false → OpensBy l.doubt n (Carries (in_force l clock) m))

-- a life with one more mark, or with none added (own rule)
abbrev pub marked : Option Mark → Life → Life
marked None l = l
marked (Some mark) l = record l { marks = mark ∷ l.marks }

-- the life of a context that is added; above the highest number that it may have received each number is new. If the last `ahead` numbers up to there were kept
-- alone, they are in doubt, and the life is closed (RFC 8613, 7.4 and B.1)
abbrev pub born : SecurityContext → Start → WindowSize → Life
born context (Fresh next) size = record { context = context; size = size; count = 0; open_at_birth = true; least = 0; doubt = None; first = number_of next; marks = [] }
born context (Restarted next) size = record { context = context; size = size; count = 0; open_at_birth = false; least = 0; doubt = None; first = number_of next; marks = [] }
born context (Received next highest) size = record { context = context; size = size; count = 0; open_at_birth = true; least = number_of highest + 1; doubt = None; first = number_of next; marks = [] }
born context (Reserved next highest ahead) size = record {
  context = context;
  size = size;
  count = 0;
  open_at_birth = false;
  least = 0;
  doubt = Some (record { least = number_of highest + 1 - ahead; limit = number_of highest + 1 });
  first = number_of next;
  marks = [];
}

-- the life of a context that takes the place of the one that had life l: it is born as one that is added, and has one life more before it, so that older tickets are stale (own rule)
abbrev pub succeeding : SecurityContext → Start → WindowSize → Life → Life
succeeding context start size l = record (born context start size) { count = l.count + 1 }

-- the life that a restart begins (RFC 8613, B.1)
abbrev pub renewed : ℕ → Life → Life
renewed next l = record { context = l.context; size = l.size; count = l.count + 1; open_at_birth = false; least = 0; doubt = None; first = next; marks = [] }

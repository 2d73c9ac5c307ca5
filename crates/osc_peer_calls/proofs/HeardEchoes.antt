-- Echo values in plain messages, and those that a client heard. w is the list of what happens at two devices, v a later one, remembered a value, if there is one.
use Rattle.std.proofs.Common.{◌≡◌, ℕ, ◌∙◌, sym, ap, subst, refl, Bool, true, false, List, [], ◌∷◌, ◌⊎◌, inl, inr, ◌==◌, ◌&&◌, Option, Some, None}
use Rattle.std.specs.Prelude.{if◌then◌else◌, length}
use Rattle.std.specs.List.{cons_option}
use Rattle.std.specs.Option.{option_and_then}
use Rattle.std.proofs.lemmas.Bool.{eqb-true}
use Rattle.osc_coap.specs.Datagram.{Parts}
use Rattle.osc_coap.specs.Interpreted.{interpreted, is_valid_length}
use Rattle.osc_coap.specs.OptionNumbers as options
use Rattle.osc_coap.specs.OptionSpelling.{Entry}
use Rattle.osc_coap.specs.Search.{first_of, values_at}
use Rattle.osc_protect.specs.OptionSets.{counts_as_observe, is_observe, sought_behind}
use Rattle.osc_protect.specs.Protection.{as_notified, emptied}
use Rattle.osc_observe.specs.Received.{Received}
use Rattle.osc_client.specs.ClientHistory as client
use Rattle.osc_client.specs.Views.{ClientShows}
use Rattle.osc_client.specs.declared.client_outcome.ClientOutcome.{ClientOutcome}
use Rattle.osc_client.specs.declared.client_outcome.ClientOutcome.TheVariants as outcomes
use Rattle.osc_laws.proofs.Inside.{values_inside}
use Rattle.osc_kept.specs.EchoNumbers.{EchoesHeard, sealed_echo}
use Rattle.osc_kept.specs.World.{AtClient, Client, Draws, Event, Has, Reserves, Response, heard, heard_in}
use Rattle.osc_fresh.specs.Echoing.{EchoesOnly, echo_in, heard_after, latest}
use Rattle.osc_peers.specs.Peers.{PeerEvent, Forth, Back, Peers, More, forth}
use Rattle.osc_peer_calls.specs.GoingOn.{Adds, IsDrawn, IsPassed, client_skip}
use Rattle.osc_peer_calls.specs.Hearing.{StaysHeard, WasHeard}

-- ---- the Echo option of a plain message

abbrev valid_echo : Option (List ℕ) → Option (List ℕ)
valid_echo o = option_and_then (λ (v : List ℕ). if is_valid_length options.echo (length v) then Some v else None) o

same_inside : (p : Parts) → sealed_echo p ≡ valid_echo (echo_in p)
same_inside p = ap (λ (vs : List (List ℕ)). valid_echo (first_of vs)) (values_inside options.echo refl p.options)

pub no_echo : (p : Parts) → echo_in p ≡ None → sealed_echo p ≡ None
no_echo p e = same_inside p ∙ ap valid_echo e

left : (a b : Bool) → (a && b) ≡ true → a ≡ true
left true b e = refl
left false b e = cc

right : (a b : Bool) → (a && b) ≡ true → b ≡ true
right true b e = e
right false b e = cc

one_of : (b : Bool) → (b ≡ true) ⊎ (b ≡ false)
one_of true = inl refl
one_of false = inr refl

observed : (sought : Bool) (entry : Entry) → counts_as_observe sought entry ≡ true → (entry.0 == options.echo) ≡ false
observed sought entry counts =
    let is : entry.0 ≡ options.observe = eqb-true _ _ (left (is_observe entry.0) (is_valid_length options.observe (length entry.1)) (right sought _ counts)) in
    ap (λ k. k == options.echo) is

emptied_values : (sought : Bool) (entries : List Entry) → values_at options.echo (emptied sought entries) ≡ values_at options.echo entries
emptied_values sought [] = refl
emptied_values sought (entry ∷ entries) =
    let rest = emptied_values (sought_behind sought entry) entries in
    elim (one_of (counts_as_observe sought entry)) [
      | inl counts ↦ let other = observed sought entry counts in rw (counts, other) rest
      | inr counts ↦ elim (one_of (entry.0 == options.echo)) [
        | inl is ↦ rw (counts, is) (ap (λ vs. entry.1 ∷ vs) rest)
        | inr other ↦ rw (counts, other) rest
      ]
    ]

pub no_echo_notified : (p : Parts) → echo_in p ≡ None → sealed_echo (as_notified p) ≡ None
no_echo_notified p e = no_echo (as_notified p) (ap first_of (emptied_values true p.options) ∙ e)

chosen : (b : Bool) (v w : List ℕ) → (if b then Some v else None) ≡ Some w → v ≡ w
chosen true v w e = cc
chosen false v w e = cc

from_first : (o : Option (List ℕ)) (v : List ℕ) → valid_echo o ≡ Some v → o ≡ Some v
from_first None v e = let f : None ≡ Some v = e in cc
from_first (Some u) v e = ap Some (chosen (is_valid_length options.echo (length u)) u v e)

pub its_echo : (p : Parts) (v : List ℕ) → sealed_echo p ≡ Some v → echo_in p ≡ Some v
its_echo p v e = from_first (echo_in p) v (sym (same_inside p) ∙ e)

-- ---- what was heard

more : (o : Option Response) (xs : List Response) (x : Response) → Has x xs → Has x (cons_option o xs)
more None xs x h = h
more (Some y) xs x h = inr h

pub stays : StaysHeard
stays w (Forth event) remembered was = λ value e. let (x, has, is) = was value e in (x, more (heard_in event) (heard (forth w)) x has, is)
stays w (Back event) remembered was = was

passed : (w v : Peers) (remembered : Option (List ℕ)) → IsPassed client_skip w v → WasHeard w remembered → WasHeard v remembered
passed w v remembered (inl e) was = subst (λ u. WasHeard u remembered) (sym e) was
passed w v remembered (inr (count, e)) was = subst (λ u. WasHeard u remembered) (sym e) (stays w (client_skip count) remembered was)

drawn : (w v : Peers) (remembered : Option (List ℕ)) → IsDrawn w v → WasHeard w remembered → WasHeard v remembered
drawn w v remembered (inl e) was = subst (λ u. WasHeard u remembered) (sym e) was
drawn w v remembered (inr (inl e)) was = subst (λ u. WasHeard u remembered) (sym e) (stays w (Forth (Draws Client)) remembered was)
drawn w v remembered (inr (inr e)) was = subst (λ u. WasHeard u remembered) (sym e) (stays w (Forth (Reserves Client)) remembered was)

one_of_both : (a b : Option (List ℕ)) (value : List ℕ) → latest a b ≡ Some value → (a ≡ Some value) ⊎ (b ≡ Some value)
one_of_both None b value e = inr e
one_of_both (Some v) b value e = inl e

delivers : (w : Peers) (event : Event) (remembered : Option (List ℕ)) (x : Response) → heard_in event ≡ Some x → WasHeard w remembered
    → WasHeard (More w (Forth event)) (latest (interpreted options.echo x.message.options) remembered)
delivers w event remembered x is was = λ value e. elim (one_of_both (interpreted options.echo x.message.options) remembered value e) [
  | inl now ↦ (x, subst (λ o. Has x (cons_option o (heard (forth w)))) (sym is) (inl refl), now)
  | inr before ↦ stays w (Forth event) remembered was value before
]

pub hears : (w : Peers) (now : ℕ) (d : List ℕ) (outcome : ClientOutcome) (answer : client.Answer) (remembered : Option (List ℕ)) → ClientShows outcome answer → WasHeard w remembered
    → WasHeard (More w (Forth (AtClient (client.Datagram now d) (client.Took answer)))) (heard_after outcome remembered)
hears w now d (outcomes.Deliver o piv) (client.Deliver received number) remembered shows was =
    subst (λ (r : Received). WasHeard (More w (Forth (AtClient (client.Datagram now d) (client.Took (client.Deliver received number))))) (latest (interpreted options.echo r.message.options) remembered))
    (sym shows.0) (delivers w (AtClient (client.Datagram now d) (client.Took (client.Deliver received number))) remembered _ refl was)
hears w now d (outcomes.Notified o piv) (client.Notified received number) remembered shows was =
    subst (λ (r : Received). WasHeard (More w (Forth (AtClient (client.Datagram now d) (client.Took (client.Notified received number))))) (latest (interpreted options.echo r.message.options) remembered))
    (sym shows.0) (delivers w (AtClient (client.Datagram now d) (client.Took (client.Notified received number))) remembered _ refl was)
hears w now d (outcomes.Deliver o piv) answer remembered shows was = absurd shows
hears w now d (outcomes.Notified o piv) answer remembered shows was = absurd shows
hears w now d outcome answer remembered shows was = stays w (Forth (AtClient (client.Datagram now d) (client.Took answer))) remembered was

pub added : (w v : Peers) (event : PeerEvent) (before after : Option (List ℕ)) → Adds client_skip w event v → WasHeard w before
    → ((u : Peers) → WasHeard u before → WasHeard (More u event) after) → WasHeard v after
added w v event before after adds was step =
    subst (λ u. WasHeard u after) (sym adds.ends) (step adds.drawn (drawn adds.passed adds.drawn before adds.draws (passed w adds.passed before adds.passes was)))

pub only_heard : (w : Peers) (p : Parts) (now room : ℕ) (remembered : Option (List ℕ)) (entry : client.Entry) → EchoesOnly remembered p → WasHeard w remembered
    → EchoesHeard (forth w) (AtClient (client.Request now p room) entry)
only_heard w p now room remembered (client.Sent bytes) only was = λ value is. was value (only value (its_echo p value is))
only_heard w p now room remembered entry only was = tt

-- Bodies are joined of what was sealed. w is a world that meets the premises, taken are pieces.
use Rattle.std.proofs.Common.{sym, subst, refl, List, [], ◌∷◌, ◌++◌, inl, inr, true}
use Rattle.osc_context.specs.SecurityContext.{SecurityContext}
use Rattle.osc_protect.specs.Protection.{as_notified}
use Rattle.osc_life.specs.Replies.{challenge_message}
use Rattle.osc_life.specs.ServerHistory as server
use Rattle.osc_blocks.specs.InBlocks.{Piece}
use Rattle.osc_blocks.specs.Laws.{AreAmong, IsAmong, JoinedIsCut, taken_in}
use Rattle.osc_kept.specs.Claims.{AtEachHeard, DeliversOnce, IsForThatRequest, TwoEnds}
use Rattle.osc_kept.specs.Premises.{AtEach}
use Rattle.osc_kept.specs.World.{World, Event, Begin, Then, AtServer, Has, Request, Response, answered, heard, heard_in, response_in, sent, server_life}
use Rattle.osc_kept.proofs.WorldSteps.{heard_now, still_sent}
use Rattle.osc_obeyed.specs.Bodies.{AreIn, BodyIsCut, Delivers, RequestBodiesAreCut, RequestHas, ResponseBodiesAreCut, ResponseHas, WasDelivered}

-- ---- what is taken is among what is taken

one_more : (y : Piece) (sent taken : List Piece) → AreAmong sent taken → AreAmong (y ∷ sent) taken
one_more y sent [] h = tt
one_more y sent (piece ∷ later) h = (inr h.0, one_more y sent later h.1)

among_itself : (taken : List Piece) → AreAmong taken taken
among_itself [] = tt
among_itself (piece ∷ later) = (inl refl, one_more piece later later (among_itself later))

-- ---- what was taken was sealed

came_in : {A : Type 0} (holds : A → Type 0) (has : A → Piece → Type 0) (taken : List Piece) (piece : Piece) → AreIn holds has taken → IsAmong taken piece
    → (x : A) × holds x × has x piece
came_in holds has [] piece h among = absurd among
came_in holds has (first ∷ later) piece h (inl e) = let (x, came, is) = h.0 in (x, came, subst (has x) (sym e) is)
came_in holds has (first ∷ later) piece h (inr among) = came_in holds has later piece h.1 among

body_is_cut : {A : Type 0} (came sealed : A → Type 0) (has : A → Piece → Type 0) → JoinedIsCut → ((x : A) → came x → sealed x) → BodyIsCut came sealed has
body_is_cut came sealed has law all most first last calls bytes empty becomes are_in whole =
    let taken : List Piece = taken_in calls in
    let (older, begins, later, is, blocks, one) = law most first last calls taken bytes empty becomes (among_itself taken) whole in (
      older,
      begins,
      later,
      is,
      blocks,
      λ body of_body. one body (λ piece among same above. let (x, did, is_in) = came_in came has taken piece are_in among in of_body x piece (all x did) is_in same above),
    )

-- ---- requests

sent_before : (s : SecurityContext) (w : World) (event : Event) (r : Request) → DeliversOnce s w event → Delivers event r → Has r (sent s w)
sent_before s w (AtServer (server.Datagram now echo mid d) (server.Took (server.Deliver received ticket) reply)) r once e = subst (λ q. Has q (sent s w)) (sym e) once.0
sent_before s w event r once e = absurd e

was_sent : (s : SecurityContext) (w : World) (r : Request) → AtEach (DeliversOnce s) w → WasDelivered w r → Has r (sent s w)
was_sent s Begin r a h = absurd h
was_sent s (Then w event) r a (inl now) = still_sent s w event r (sent_before s w event r a.1 now)
was_sent s (Then w event) r a (inr before) = still_sent s w event r (was_sent s w r a.0 before)

-- ---- responses

behind : (xs ys : List Response) (x : Response) → Has x ys → Has x (xs ++ ys)
behind [] ys x h = h
behind (y ∷ xs) ys x h = inr (behind xs ys x h)

still_answered : (s : SecurityContext) (w : World) (event : Event) (x : Response) → Has x (answered s w) → Has x (answered s (Then w event))
still_answered s w (AtServer (server.Datagram now echo mid d) (server.Took (server.Challenge i n given issued) reply)) x h =
    behind (response_in (server_life s w) n true (challenge_message given)) (answered s w) x h
still_answered s w (AtServer (server.Reply t own mid p room) (server.Replied bytes)) x h = behind (response_in (server_life s w) t.number own p) (answered s w) x h
still_answered s w (AtServer (server.Notify t p room) (server.Replied bytes)) x h = behind (response_in (server_life s w) t.number true (as_notified p)) (answered s w) x h
still_answered s w event x h = h

was_answered : (s : SecurityContext) (w : World) (x : Response) → AtEachHeard (IsForThatRequest s) w → Has x (heard w) → Has x (answered s w)
was_answered s Begin x a h = absurd h
was_answered s (Then w event) x a h = elim (heard_now s w (heard_in event) x a.1 h) [
  | inl now ↦ still_answered s w event x now
  | inr before ↦ still_answered s w event x (was_answered s w x a.0 before)
]

-- ---- both

pub request_bodies : TwoEnds → JoinedIsCut → RequestBodiesAreCut
request_bodies two law operation n s w i =
    body_is_cut (λ r. WasDelivered w r) (λ r. Has r (sent s w)) (RequestHas operation) law (λ r did. was_sent s w r (two n s w i).once did)

pub response_bodies : TwoEnds → JoinedIsCut → ResponseBodiesAreCut
response_bodies two law operation n s w i =
    body_is_cut (λ x. Has x (heard w)) (λ x. Has x (answered s w)) (ResponseHas operation) law (λ x did. was_answered s w x (two n s w i).that_request did)

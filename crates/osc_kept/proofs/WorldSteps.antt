-- What an event adds to what was sent and heard. w is the world before the event.
use Rattle.std.proofs.Common.{sym, subst, Option, Some, None, List, ◌⊎◌, inl, inr}
use Rattle.std.specs.Prelude.{IfSome}
use Rattle.std.specs.List.{cons_option}
use Rattle.std.specs.Option.{option_map}
use Rattle.osc_context.specs.SecurityContext.{SecurityContext}
use Rattle.osc_protect.specs.Sealed.{inside}
use Rattle.osc_client.specs.ClientHistory as client
use Rattle.osc_kept.specs.Claims.{IsForThatRequest}
use Rattle.osc_kept.specs.World.{World, Event, Then, AtClient, Has, Request, Response, answered, client_history, heard, sent}

more_sent : (o : Option Request) (rs : List Request) (r : Request) → Has r rs → Has r (cons_option o rs)
more_sent None rs r h = h
more_sent (Some q) rs r h = inr h

pub still_sent : (s : SecurityContext) (w : World) (event : Event) (r : Request) → Has r (sent s w) → Has r (sent s (Then w event))
still_sent s w (AtClient (client.Request now p room) (client.Sent bytes)) r h =
    more_sent (option_map (λ (k : client.History). record { number = client.next k; message = inside p }) (client_history s w)) (sent s w) r h
still_sent s w event r h = h

-- what is heard now was sealed
pub heard_now : (s : SecurityContext) (w : World) (o : Option Response) (x : Response) → IfSome o (IsForThatRequest s w) → Has x (cons_option o (heard w)) → Has x (answered s w) ⊎ Has x (heard w)
heard_now s w None x a h = inr h
heard_now s w (Some y) x a (inl e) = inl (subst (λ z. Has z (answered s w)) (sym e) a.was_answered)
heard_now s w (Some y) x a (inr h) = inr h

pub more_heard : (o : Option Response) (xs : List Response) (x : Response) → Has x xs → Has x (cons_option o xs)
more_heard None xs x h = h
more_heard (Some y) xs x h = inr h

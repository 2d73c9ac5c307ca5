-- For the proofs: the table of a server's contexts. slots are its places, lives the present life of each context.
use Rattle.std.specs.Prelude.{◌≡◌, ℕ, List, Option, Some, None, slice_get}
use Rattle.std.specs.Option.{option_map}
use Rattle.osc_context.specs.SecurityContext.{AnswersTo, SecurityContext}
use Rattle.osc_protect.specs.Protection.{requests}
use Rattle.osc_protect.specs.StageViews.{IsSealedRequest}
use Rattle.osc_context.specs.Views.{as_server, number_of}
use Rattle.osc_protect.specs.Views.{context_of}
use Rattle.osc_life.specs.declared.decision.Decided.{Decided}
use Rattle.osc_life.specs.declared.judging.Named.{Named}
use Rattle.osc_life.specs.declared.slot.Slot.{Slot}
use Rattle.osc_endpoint.specs.Agrees.{TableAgrees}
use Rattle.osc_life.specs.Deciding.{Decides}
use Rattle.osc_life.specs.Judging.{arrival_of, IsNamed, LifeAnswer}
use Rattle.osc_life.specs.Life.{Life, marked}
use Rattle.osc_life.specs.ServerHistory as server
use Rattle.osc_life.specs.LifeAnswer.{Arrival}
use Rattle.osc_endpoint.specs.ServerAnswer.{IsRequestOf}

-- the context of a place (how the code is seen)
abbrev pub context_of_place : Option (Option Slot) → Option SecurityContext
context_of_place None = None
context_of_place (Some None) = None
context_of_place (Some (Some s)) = Some (as_server (context_of s.context))

-- the context at an index of the table (how the code is seen)
abbrev pub context_in : List (Option Slot) → ℕ → Option SecurityContext
context_in slots i = context_of_place (slice_get slots i)

-- the context at an index has this kid, and this kid context or none (RFC 8613, 8.2)
pub record FindsAt (contexts : ℕ → Option SecurityContext) (i : ℕ) (kid : List ℕ) (kid_context : Option (List ℕ)) : Type 0 where
  pub context : SecurityContext
  pub there : contexts i ≡ Some context
  pub answers : AnswersTo context kid kid_context

-- the head names the context at the request's index, and what has to be decrypted belongs to that head (RFC 8613, 8.2)
pub record NamesAt (contexts : ℕ → Option SecurityContext) (r : Named) (d : List ℕ) : Type 0 where
  pub context : SecurityContext
  pub there : contexts r.index ≡ Some context
  pub named : IsNamed context (number_of r.number) d
  pub sealed : IsSealedRequest (requests context) d r.sealed

-- the answer is that of the life that the request names, and the table is as the answer leaves it (how the code is seen)
pub record TableJudges (lives : ℕ → Option Life) (r : Named) (d : List ℕ) (result : Decided) (new reply : List ℕ) (slots : List (Option Slot)) : Type 0 where
  pub of : Life
  pub life_is : lives r.index ≡ Some of
  pub answer : server.Answer
  pub row : LifeAnswer of r.index (number_of r.number) (arrival_of r d) answer reply
  pub decides : Decides result.decision new answer
  pub agrees : TableAgrees slots (λ i. option_map (marked (server.mark_at i answer)) (lives i))

-- a row of the life that the head names, and its reply (RFC 8613, 7.4, 8.2 and B.1.2)
abbrev pub NamedAnswer : server.History → Arrival → server.Answer → List ℕ → Type 0
NamedAnswer h a answer reply = (i : ℕ) × (n : ℕ) × (of : Life) × IsRequestOf h a.bytes i n of × LifeAnswer of i n a answer reply

-- For the proofs: how both ends go through the list, a part at a time (RFC 8613, 8.1 to 8.4 and B.1.2): which calls there were between an end
-- before the part (client, server) and after it (left_client, left_server), each with its contract. echo is the fresh Echo value.
use Rattle.std.specs.Prelude.{◌≡◌, ℕ, List}
use Rattle.osc_coap.specs.Datagram.{Parts}
use Rattle.osc_context.specs.SecurityContext.{SecurityContext, IsUsable}
use Rattle.osc_context.specs.Views.{number_of}
use Rattle.osc_context.specs.declared.partial_iv.Piv.{Piv}
use Rattle.osc_window.specs.declared.window_size.WindowSize.TheVariants.{Places32}
use Rattle.osc_client.specs.declared.client.Client.{Client}
use Rattle.osc_endpoint.specs.declared.server.ServerOf.{ServerOf}
use Rattle.osc_life.specs.declared.start.Start.TheVariants as starts
use Rattle.osc_life.specs.declared.ticket.Ticket.{Ticket}
use Rattle.osc_client.specs.Agrees.{ClientAgrees}
use Rattle.osc_client.specs.ClientHistory as asking
use Rattle.osc_life.specs.ServerHistory as serving
use Rattle.osc_kept.specs.Examples.{Asked}
use Rattle.osc_callers.specs.Calls.{Asks, Challenges, Delivers, HasNoEcho, Hears, Replies, ServerGoes}

-- both ends have one context and start at 0, the server fresh (RFC 8613, B.1.1)
pub record Start (client : Client 8) (server : ServerOf 1) : Type 0 where
  pub context : SecurityContext
  pub usable : IsUsable context
  pub zero_number : Piv
  pub is_zero : number_of zero_number ≡ 0
  pub client_starts : ClientAgrees client (asking.New context 0 60000)
  pub server_starts : ServerGoes serving.Begin (serving.Add context (starts.Fresh zero_number) Places32 1) (serving.Added 0) server

-- the client asks, the server delivers and replies, and the client hears the reply (RFC 8613, 8.1 to 8.4)
pub record Exchange (client left_client : Client 8) (server left_server : ServerOf 1) (echo : List ℕ) : Type 0 where
  pub first : Asked
  pub first_plain : HasNoEcho first.plain
  pub reply : Parts
  pub room : ℕ
  pub response : List ℕ
  pub ticket : Ticket
  pub client_asked : Client 8
  pub server_delivered : ServerOf 1
  pub asks : Asks client first.plain first.room first.bytes client_asked
  pub delivers : Delivers server 0 echo first.bytes ticket server_delivered
  pub replies : Replies server_delivered ticket reply room response left_server
  pub hears : Hears client_asked 0 response left_client

-- the client asks, the server challenges, the client hears the challenge and asks again, and the server delivers (RFC 8613, B.1.2)
pub record GoesOn (client left_client : Client 8) (server left_server : ServerOf 1) (echo : List ℕ) : Type 0 where
  pub second : Asked
  pub again : Asked
  pub second_plain : HasNoEcho second.plain
  pub challenge : List ℕ
  pub last : Ticket
  pub client_asked : Client 8
  pub client_told : Client 8
  pub server_challenged : ServerOf 1
  pub asks : Asks client second.plain second.room second.bytes client_asked
  pub challenges : Challenges server echo second.bytes challenge server_challenged
  pub is_told : Hears client_asked 64 challenge client_told
  pub asks_again : Asks client_told again.plain again.room again.bytes left_client
  pub admits : Delivers server_challenged 65 echo again.bytes last left_server

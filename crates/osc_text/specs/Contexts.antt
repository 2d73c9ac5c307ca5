-- To be believed: what a call prints under a context that it derives first (RFC 8613, 3.2; own rule: the lines). g is
-- what the context is derived from, a what was agreed.
use Rattle.std.specs.Prelude.{◌≡◌, ℕ, List, [], ◌∷◌, codes}
use Rattle.osc_context.specs.ContextRefusal.{IsFirstParamsRefusal, RefusesParams, context_error_text}
use Rattle.osc_context.specs.SecurityContext.{SecurityContext}
use Rattle.osc_context.specs.Views.{client_context_of, server_context_of}
use Rattle.osc_context.specs.declared.context_error.ContextError.{ContextError}
use Rattle.osc_context.specs.declared.parameters.Params.{Params}
use Rattle.osc_text.specs.declared.agreed.Agreed.{Agreed}
use Rattle.osc_text.specs.Lines.{bytes_line, refused_line}

-- which lines and which status a call has (own rule)
abbrev pub Told : Type 1
Told = List (List ℕ) → ℕ → Type 0

-- what a call prints: the line of the first refusal of its context, or what is told under that context (RFC 8613, 3.2)
pub data InContext (g : Params) (told : Told) (lines : List (List ℕ)) (status : ℕ) : Type 0 where
  no_context : (e : ContextError) → IsFirstParamsRefusal g e → lines ≡ refused_line (context_error_text e) ∷ [] → status ≡ 2 → InContext g told lines status
  in_context : ((e : ContextError) → ¬ RefusesParams g e) → told lines status → InContext g told lines status

-- the context of a client with the sender's identifier, with the features that were agreed (RFC 8613, 3.1)
abbrev pub agreed_client : Agreed → SecurityContext
agreed_client a = record (client_context_of a.params) { features = a.features }

-- the context of a server with the sender's identifier, with the features that were agreed (RFC 8613, 3.1)
abbrev pub agreed_server : Agreed → SecurityContext
agreed_server a = record (server_context_of a.params) { features = a.features }

-- the lines with the Sender Key, the Recipient Key and the Common IV, with the client as the sender (own rule)
abbrev pub key_lines : SecurityContext → List (List ℕ)
key_lines s = bytes_line (codes "sender key") s.client_key ∷ bytes_line (codes "recipient key") s.server_key ∷ bytes_line (codes "common iv") s.common_iv ∷ []

-- what `derive` prints for a context, with status 0 (own rule)
abbrev pub KeyText : SecurityContext → Told
KeyText s lines status = (lines ≡ key_lines s) × (status ≡ 0)

-- what `derive` prints (RFC 8613, 3.2)
abbrev pub DeriveText : Agreed → Told
DeriveText a = InContext a.params (KeyText (agreed_client a))

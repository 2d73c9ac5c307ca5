-- For the proofs: the lines and the status for the result of opening, of sealing or of asking a proxy.
use Rattle.std.specs.Prelude.{ℕ, List, [], ◌∷◌, take, Result, Ok, Err}
use Rattle.osc_protect.specs.Text.{protect_error_text, unprotect_error_text}
use Rattle.osc_protect.specs.Views.{shown, message_of, opened_number}
use Rattle.osc_protect.specs.declared.opened.Opened.{Opened}
use Rattle.osc_protect.specs.declared.protect_error.ProtectError.{ProtectError}
use Rattle.osc_protect.specs.declared.unprotect_error.UnprotectError.{UnprotectError}
use Rattle.osc_proxy.specs.Text.{ask_error_text}
use Rattle.osc_proxy.specs.declared.ask_error.AskProxyError.{AskProxyError}
use Rattle.osc_text.specs.Lines.{hex_line, refused_line}
use Rattle.osc_text.specs.Opening.{Printed, opened_lines}

-- what was opened, as it is printed (how the code is seen)
abbrev pub seen : Opened → Printed
seen o = record { kind = o.kind; message_id = o.message_id; token = o.token.items; code = o.code; number = opened_number o; uri_host = shown o.uri_host; uri_port = shown o.uri_port; options = (message_of o).options; payload = o.payload.now }

-- the lines for the result of opening (how the code is seen)
abbrev pub open_lines : Result Opened UnprotectError → List (List ℕ)
open_lines (Ok o) = opened_lines (seen o)
open_lines (Err e) = refused_line (unprotect_error_text e) ∷ []

-- the status for the result of opening (how the code is seen)
abbrev pub open_status : Result Opened UnprotectError → ℕ
open_status (Ok o) = 0
open_status (Err e) = 2

-- the lines for the result of sealing into this buffer (how the code is seen)
abbrev pub seal_lines : List ℕ → Result ℕ ProtectError → List (List ℕ)
seal_lines buffer (Ok len) = hex_line (take len buffer) ∷ []
seal_lines buffer (Err e) = refused_line (protect_error_text e) ∷ []

-- the status for the result of sealing (how the code is seen)
abbrev pub seal_status : Result ℕ ProtectError → ℕ
seal_status (Ok len) = 0
seal_status (Err e) = 2

-- the lines for the result of asking a proxy, into this buffer (how the code is seen)
abbrev pub ask_lines : List ℕ → Result ℕ AskProxyError → List (List ℕ)
ask_lines buffer (Ok len) = hex_line (take len buffer) ∷ []
ask_lines buffer (Err e) = refused_line (ask_error_text e) ∷ []

-- the status for the result of asking a proxy (how the code is seen)
abbrev pub ask_status : Result ℕ AskProxyError → ℕ
ask_status (Ok len) = 0
ask_status (Err e) = 2

-- To be believed: what `protect --proxy` prints (RFC 8613, 4.1.3.3; own rule: the lines). client is the security context, with this end as
-- its client, i a number, name the name of a scheme, d a plain datagram.
use Rattle.std.specs.Prelude.{◌≡◌, ℕ, List, [], ◌∷◌}
use Rattle.osc_coap.specs.Datagram.{Parts, IsDatagram}
use Rattle.osc_context.specs.SecurityContext.{SecurityContext}
use Rattle.osc_protect.specs.Protection.{requests}
use Rattle.osc_protect.specs.Sealed.{IsSealed}
use Rattle.osc_protect.specs.SealRefusals.{RefusesToSeal}
use Rattle.osc_protect.specs.Text.{protect_error_text}
use Rattle.osc_protect.specs.declared.protect_error.ProtectError.{ProtectError}
use Rattle.osc_proxy.specs.AskRefusals.{FitsToAsk, RefusesToAsk}
use Rattle.osc_proxy.specs.Asking.{asked}
use Rattle.osc_proxy.specs.SplitRefusals.{FitsToSplit, RefusesToSplit}
use Rattle.osc_proxy.specs.Splitting.{split}
use Rattle.osc_proxy.specs.Text.{ask_error_text, split_error_text}
use Rattle.osc_proxy.specs.Uri.{UriParts, scheme_name}
use Rattle.osc_proxy.specs.declared.ask_error.AskProxyError.{AskProxyError}
use Rattle.osc_proxy.specs.declared.split_error.SplitError.{SplitError}
use Rattle.osc_text.specs.Contexts.{agreed_client, InContext, Told}
use Rattle.osc_text.specs.Lines.{hex_line, refused_line}
use Rattle.osc_text.specs.Protecting.{most_room}
use Rattle.osc_text.specs.declared.agreed.Agreed.{Agreed}

-- what is printed for a sealed request: with Proxy-Scheme in hex, or a refusal with status 2 (RFC 7252, 5.10.2; RFC 8613, 4.1.3.3)
pub data AskedText (name sealed : List ℕ) (lines : List (List ℕ)) (status : ℕ) : Type 0 where
  asking : (fits : FitsToAsk sealed name most_room) (bytes : List ℕ) → IsDatagram (asked name fits.parts) bytes → lines ≡ hex_line bytes ∷ [] → status ≡ 0 → AskedText name sealed lines status
  unasked : (e : AskProxyError) → RefusesToAsk sealed name most_room e → lines ≡ refused_line (ask_error_text e) ∷ [] → status ≡ 2 → AskedText name sealed lines status

-- the same for a request whose Proxy-Uri was split, which is sealed first (RFC 8613, 4.1.3.3 and 8.1)
pub data SplitText (client : SecurityContext) (i : ℕ) (name : List ℕ) (q : Parts) (lines : List (List ℕ)) (status : ℕ) : Type 0 where
  sealing : (bytes : List ℕ) → IsSealed (requests client) i q bytes → AskedText name bytes lines status → SplitText client i name q lines status
  unsealed : (e : ProtectError) → RefusesToSeal (requests client) i q most_room e → lines ≡ refused_line (protect_error_text e) ∷ [] → status ≡ 2 → SplitText client i name q lines status

-- the same for a plain datagram, whose Proxy-Uri is split first (RFC 7252, 5.10.2 and 6.4; RFC 8613, 4.1.3.3)
pub data RoutedText (client : SecurityContext) (i : ℕ) (d : List ℕ) (lines : List (List ℕ)) (status : ℕ) : Type 0 where
  splitting : (p : Parts) (u : UriParts) → FitsToSplit d most_room p u → SplitText client i (scheme_name u.scheme) (split u p) lines status → RoutedText client i d lines status
  unsplit : (e : SplitError) → RefusesToSplit d most_room e → lines ≡ refused_line (split_error_text e) ∷ [] → status ≡ 2 → RoutedText client i d lines status

-- what `protect --proxy` prints for a plain datagram (RFC 8613, 4.1.3.3)
abbrev pub ForwardText : Agreed → ℕ → List ℕ → Told
ForwardText g i d = InContext g.params (RoutedText (agreed_client g) i d)

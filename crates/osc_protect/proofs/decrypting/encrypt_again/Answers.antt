use Rattle.std.proofs.Common.{◌≡◌, ◌∙◌, ◌++◌, ◌-◌, ℕ, List, ap, arith, drop, length, length-append, length-drop, subst, take}
use Rattle.osc_context.specs.OscoreValue.{OscoreParts}
use Rattle.osc_context.specs.Views.{as_server, number_of}
use Rattle.osc_context.specs.declared.context.Context.{Context}
use Rattle.osc_protect.specs.Ends.{IsClientOf}
use Rattle.osc_protect.specs.Head.{Head}
use Rattle.osc_protect.specs.Protection.{request_cipher}
use Rattle.osc_protect.specs.Stages.{decrypted_head}
use Rattle.osc_protect.specs.Views.{context_of, opened_requests, seen_head}
use Rattle.osc_protect.proofs.Ciphers.{request_cipher_long}
use Rattle.osc_protect.proofs.Decrypted.{came_again}
use Rattle.osc_protect.proofs.Protections.{some_same}
use Rattle.osc_protect.proofs.decrypting.encrypt_again.Goals as goal

pub returns-in_default : goal.returns-in_default
returns-in_default c = λ came n len it. absurd (c.in_default.ensures.accepts (decrypted_head it.head it.plaintext) it.has)

pub returns-then-len-lt-TAG_LEN : goal.returns-then-len-lt-TAG_LEN
returns-then-len-lt-TAG_LEN c = λ came n len it.
    let same = c.in-Ok.ensures.accepts (decrypted_head it.head it.plaintext) it.has in
    let s = as_server (context_of c.args.context.now) in
    let size = ap (λ (h : Head). length h.payload) same in
    let sealed = ap length it.seals in
    let long = request_cipher_long c.protection_length.ensures s n it.plaintext in
    let short = c.if-len-lt-TAG_LEN.true in
    let parts = length-append it.plaintext (drop (length it.plaintext) it.head.payload) in
    let rest = length-drop (length it.plaintext) it.head.payload in
    absurd (omega (arith, size, sealed, long, short, parts, rest))

pub returns : goal.returns
returns c = λ came n len it.
    let context = context_of c.args.context.now in
    let s = as_server context in
    let d = c.args.datagram.now in
    let same : seen_head c.in-Ok.head ≡ decrypted_head it.head it.plaintext = c.in-Ok.ensures.accepts (decrypted_head it.head it.plaintext) it.has in
    let number : number_of c.in-Ok.head.number ≡ n = some_same (number_of c.in-Ok.head.number) n (ap (λ (h : Head). h.parts.piv) same ∙ ap (λ (v : OscoreParts). v.piv) it.names) in
    let size : length c.in-Ok.head.payload.now ≡ length (it.plaintext ++ drop (length it.plaintext) it.head.payload) = ap (λ (h : Head). length h.payload) same in
    let client : IsClientOf s c.end.result = subst (λ (x : Context). IsClientOf (as_server x) c.end.result) c.recipient-recipient.ensures c.end.ensures.client in
    let m = take (length c.in-Ok.head.payload.now - 8) (drop (length d - length c.in-Ok.head.payload.now) d) in
    let cipher = c.of_request-aead.ensures s m client (c.common_iv-common_iv.ensures ∙ ap (λ (x : Context). (as_server x).common_iv) c.recipient-recipient.ensures) in
    c.seal_payload.ensures
    ∙ ap (λ (z : List ℕ). take (length d - length c.in-Ok.head.payload.now) d ++ z) (cipher ∙ ap (λ (k : ℕ). request_cipher s k m) number)
    ∙ came_again c.payload_stands_last.ensures.last c.payload_stands_last.ensures.other c.one_text.ensures.datagram (opened_requests context) came d n len (length c.in-Ok.head.payload.now) it size
    (request_cipher_long c.protection_length.ensures s n it.plaintext)

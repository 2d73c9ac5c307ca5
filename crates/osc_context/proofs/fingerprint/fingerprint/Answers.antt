use Rattle.std.proofs.Common.{◌≡◌, List, [], ℕ, ◌++◌, ap, ◌∙◌, take, codes}
use Rattle.std.proofs.lemmas.List.{append-nil}
use Rattle.osc_hkdf.specs.Hmac.{hmac}
use Rattle.osc_context.specs.Fingerprint.{fingerprint_of}
use Rattle.osc_context.proofs.fingerprint.fingerprint.Goals as goal

-- src/fingerprint.rt:14:1
pub returns : goal.returns
unfolding fingerprint_of
returns c =
    let key = c.args.sender_key.now in
    let one : c.bytes.result.now ++ [] ≡ c.args.sender.now = append-nil c.bytes.result.now ∙ c.bytes.ensures.value in
    c.copy_from_slice.ensures.after ∙ ap (λ (code : List ℕ). take 8 code) (c.hmac_sha256-code.ensures ∙ ap (λ (m : List ℕ). hmac key (codes "OSCORE numbers" ++ m)) one)

use Rattle.std.proofs.Common.{ℕ, List, ◌++◌, ap, append-nil, ◌∙◌}
use Rattle.sha2.specs.Sha256.{sha256}
use Rattle.osc_hkdf.proofs.Pieces.{hmac_is}
use Rattle.osc_hkdf.proofs.mac.hmac_sha256.Goals as goal

pub returns : goal.returns
returns c =
    hmac_is c.args.key.now c.short_key-short.result _ _ _ _ _ c.short_key-short.ensures c.padded_key.ensures c.keyed_digest-inner.ensures
    c.padded_key-2.ensures
    (c.keyed_digest.ensures ∙ ap (λ (m : List ℕ). sha256 (c.padded_key-2.result ++ m)) (append-nil c.as_slice.result.now ∙ c.as_slice.ensures))

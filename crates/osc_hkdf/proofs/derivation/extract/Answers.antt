use Rattle.std.proofs.Common.{ap, ◌∙◌, append-nil}
use Rattle.osc_hkdf.specs.Hmac.{hmac}
use Rattle.osc_hkdf.specs.Hkdf.{extract_of}
use Rattle.osc_hkdf.proofs.derivation.extract.Goals as goal

pub returns : goal.returns
unfolding extract_of
returns c = c.hmac_sha256.ensures ∙ ap (hmac c.args.salt.now) (append-nil c.args.secret.now)

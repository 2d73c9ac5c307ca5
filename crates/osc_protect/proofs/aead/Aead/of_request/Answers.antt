use Rattle.osc_context.specs.Views.{number_of}
use Rattle.osc_protect.proofs.Ciphers.{is_request_cipher}
use Rattle.osc_protect.proofs.aead.Aead.of_request.Goals as goal

pub returns : goal.returns
returns c = λ s m is iv. is_request_cipher s (record { cipher = c.args.client.cipher; nonce = c.nonce.result; additional_data = c.aad.result }) c.args.common_iv.now c.args.client.kid.now (number_of c.args.number) m is.0 is.1 iv c.nonce.ensures c.aad.ensures.value

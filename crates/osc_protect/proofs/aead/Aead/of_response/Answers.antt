use Rattle.std.proofs.Common.{option_map}
use Rattle.osc_context.specs.Views.{number_of}
use Rattle.osc_protect.proofs.Ciphers.{is_response_cipher}
use Rattle.osc_protect.proofs.aead.Aead.of_response.Goals as goal

pub returns : goal.returns
returns c = λ s m is iv client. is_response_cipher s (record { cipher = c.args.server.cipher; nonce = c.nonce_of_response.result; additional_data = c.aad.result }) c.args.common_iv.now c.args.client.now c.args.server.kid.now (number_of c.args.request) (option_map number_of c.args.own) m is.0 is.1 iv client c.nonce_of_response.ensures c.aad.ensures.value

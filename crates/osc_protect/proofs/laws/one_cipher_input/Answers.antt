use Rattle.osc_protect.proofs.CipherInputs.{request_inputs, response_inputs}
use Rattle.osc_protect.proofs.laws.one_cipher_input.Goals as goal

pub returns : goal.returns
returns c =
    let laws = c.layer_laws.ensures in
    record {
      request = request_inputs laws.one_plaintext laws.inner_one c.one_additional_data.ensures;
      response = response_inputs laws.one_plaintext laws.inner_one c.one_nonce.ensures c.one_additional_data.ensures;
    }

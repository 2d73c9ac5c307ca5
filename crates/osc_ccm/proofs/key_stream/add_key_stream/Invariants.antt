use Rattle.std.proofs.Common.{◌≡◌}
use Rattle.osc_ccm.proofs.Streams.{encrypted_to}
use Rattle.osc_ccm.proofs.key_stream.add_key_stream.Given as goal

abbrev pub invariant-loop-i : goal.invariant-loop-i
invariant-loop-i g l = l.message ≡ encrypted_to (g.C.BlockCipher.cipher_key l.cipher) l.nonce l.initial.message l.i

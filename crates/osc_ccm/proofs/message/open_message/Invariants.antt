use Rattle.std.proofs.Common.{◌≡◌, ◌<◌, ◌≤◌, ◌+◌, fold, length, map}
use Rattle.std.specs.List.{range_with_len}
use Rattle.osc_ccm.specs.Ccm.{mac_step, padded_block, stream_block}
use Rattle.osc_ccm.proofs.Streams.{encrypted_to}
use Rattle.osc_ccm.proofs.message.open_message.Given as goal

abbrev pub invariant-loop-i : goal.invariant-loop-i
invariant-loop-i g l = record {
  long : length l.message ≡ length l.initial.message;
  message : l.message ≡ encrypted_to (g.C.BlockCipher.cipher_key l.cipher) l.nonce l.initial.message l.i;
  state : l.state ≡ fold (mac_step (g.C.BlockCipher.cipher_key l.cipher)) l.initial.state (map (padded_block l.message) (range_with_len 0 l.i));
  next : l.i < l.blocks → l.stream ≡ stream_block (g.C.BlockCipher.cipher_key l.cipher) l.nonce (l.i + 1);
  last : l.blocks ≤ l.i → l.stream ≡ stream_block (g.C.BlockCipher.cipher_key l.cipher) l.nonce 0;
}

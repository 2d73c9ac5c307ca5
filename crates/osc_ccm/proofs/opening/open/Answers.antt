use Rattle.std.proofs.Common.{ℕ, List, ◌≡◌, true, false, length, refl, ap, arith}
use Rattle.osc_ccm.proofs.Protections.{length-ccm, opens, opens_only, restored, right_tag}
use Rattle.osc_ccm.proofs.opening.open.Goals as goal

pub returns-then-buf-lt-TAG_LEN-clause-accepts : goal.returns-then-buf-lt-TAG_LEN-clause-accepts
returns-then-buf-lt-TAG_LEN-clause-accepts g c = λ m short e.
    let protection = length-ccm c.encrypted_length.ensures (g.C.BlockCipher.cipher_key c.args.cipher.now) c.args.nonce.now c.args.aad.now m in
    omega (arith, protection, ap (λ (l : List ℕ). length l) e)

pub returns-then-buf-clause-accepts : goal.returns-then-buf-clause-accepts
returns-then-buf-clause-accepts g c = λ m short e.
    let protection = length-ccm c.encrypted_length.ensures (g.C.BlockCipher.cipher_key c.args.cipher.now) c.args.nonce.now c.args.aad.now m in
    omega (arith, protection, ap (λ (l : List ℕ). length l) e)

pub returns-then-is_same_tag-clause-opened : goal.returns-then-is_same_tag-clause-opened
returns-then-is_same_tag-clause-opened g c =
    opens c.encrypted_length.ensures (g.C.BlockCipher.cipher_key c.args.cipher.now) c.args.nonce.now c.args.aad.now c.args.buf.now
    c.open_message-tag.new.message c.open_message-tag.result (omega arith) c.open_message-tag.ensures.message c.open_message-tag.ensures.tag
    (c.if-is_same_tag.ensures.0 refl)

pub returns-then-is_same_tag-clause-accepts : goal.returns-then-is_same_tag-clause-accepts
returns-then-is_same_tag-clause-accepts g c = λ m short e.
    opens_only c.encrypted_length.ensures (g.C.BlockCipher.cipher_key c.args.cipher.now) c.args.nonce.now c.args.aad.now c.args.buf.now
    c.open_message-tag.new.message c.open_message-tag.result (omega arith) c.open_message-tag.ensures.message c.open_message-tag.ensures.tag m e

pub returns-then-is_same_tag-clause-bad_tag : goal.returns-then-is_same_tag-clause-bad_tag
returns-then-is_same_tag-clause-bad_tag g c = (λ e. cc, λ none. absurd (none.2 _ (returns-then-is_same_tag-clause-opened g c)))

pub returns-clause-accepts : goal.returns-clause-accepts
returns-clause-accepts g c = λ m short e.
    let hit : false ≡ true = c.if-is_same_tag.ensures.1 (
    right_tag c.encrypted_length.ensures (g.C.BlockCipher.cipher_key c.args.cipher.now) c.args.nonce.now c.args.aad.now c.args.buf.now
    c.open_message-tag.new.message c.open_message-tag.result (omega arith) c.open_message-tag.ensures.message c.open_message-tag.ensures.tag m e
    ) in
    cc

pub returns-clause-bad_tag : goal.returns-clause-bad_tag
returns-clause-bad_tag g c = (
  λ _. (
    omega arith,
    omega arith,
    λ m e.
        let protection = length-ccm c.encrypted_length.ensures (g.C.BlockCipher.cipher_key c.args.cipher.now) c.args.nonce.now c.args.aad.now m in
        returns-clause-accepts g c m (omega (arith, protection, ap (λ (l : List ℕ). length l) e)) e,
  ),
  λ _. refl,
)

pub returns-clause-unchanged : goal.returns-clause-unchanged
returns-clause-unchanged g c =
    restored c.encrypted_length.ensures (g.C.BlockCipher.cipher_key c.args.cipher.now) c.args.nonce.now c.args.aad.now c.args.buf.now
    c.open_message-tag.new.message c.open_message-tag.result (omega arith) c.open_message-tag.ensures.message c.open_message-tag.ensures.tag
    c.add_key_stream.new.message c.add_key_stream.ensures

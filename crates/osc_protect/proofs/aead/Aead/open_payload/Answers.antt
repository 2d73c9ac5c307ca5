use Rattle.std.proofs.Common.{length, ◌-◌, arith}
use Rattle.osc_protect.specs.Views.{cipher_of}
use Rattle.osc_protect.proofs.Decrypted.{opens_payload, part_bytes, part_within, refuses_payload}
use Rattle.osc_protect.proofs.aead.Aead.open_payload.Goals as goal

pub returns-clause-decrypted : goal.returns-clause-decrypted
returns-clause-decrypted c = λ p x.
    let d = c.args.datagram.now in
    let len = c.args.len in
    let within = part_within c.payload_stands_last.ensures.last p d len x in
    opens_payload c.payload_stands_last.ensures.last c.payload_stands_last.ensures.other p d c.open.new.payload len (cipher_of c.args.self.now) x
    (part_bytes (length d - len) d c.open.new.payload (omega (arith, within)) (λ i. let fit = c.type_inv.datagram i in omega (arith, fit)))
    c.open.auto.payload c.open.result c.open.ensures.long c.open.ensures.sealed c.open.ensures.tag

pub returns-clause-refused : goal.returns-clause-refused
returns-clause-refused c = λ p x. refuses_payload c.payload_stands_last.ensures.last p c.args.datagram.now c.args.len (cipher_of c.args.self.now) x c.open.result c.open.ensures.refused

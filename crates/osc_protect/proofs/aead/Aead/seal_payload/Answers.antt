use Rattle.osc_protect.specs.Views.{cipher_of}
use Rattle.osc_protect.proofs.Decrypted.{part_within, sealed_last}
use Rattle.osc_protect.proofs.aead.Aead.seal_payload.Goals as goal

pub returns : goal.returns
returns c =
    let within = part_within c.payload_stands_last.ensures.last c.requires.payload.0 c.args.datagram.now c.args.len c.requires.payload.1 in
    sealed_last c.args.datagram.now c.seal.new.payload c.args.len (cipher_of c.args.self.now) within c.requires.room c.seal.ensures.sealed

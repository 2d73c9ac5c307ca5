use Rattle.osc_handle.proofs.Tables.{alone, opened_alone}
use Rattle.osc_handle.proofs.slot_handle.SlotHandle.encrypt_again.Goals as goal

pub returns : goal.returns
returns c = λ came opened.
    let (n, len, decrypts) = opened_alone c.slot-slot.result came c.args.datagram.now (opened _ (alone c.args.self.now c.slot-slot.result c.slot-slot.ensures)) in
    c.encrypt_again.ensures came n len decrypts

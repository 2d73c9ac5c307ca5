use Rattle.std.proofs.Common.{◌∙◌}
use Rattle.osc_file.proofs.RecordTexts.{after_generation, after_sender, after_received, after_fingerprint, after_device, after_inode, line_by_words, same_record}
use Rattle.osc_file.proofs.record_text.fields.Goals as goal

pub returns-in_err-generation : goal.returns-in_err-generation
returns-in_err-generation c r fits e = absurd (c.in_err-generation.ensures r.generation (after_generation r) fits.generation (e ∙ line_by_words r))

pub returns-in_err-sender : goal.returns-in_err-sender
returns-in_err-sender c r fits e =
    let one = c.in_ok-generation.ensures r.generation (after_generation r) fits.generation (e ∙ line_by_words r) in
    absurd (c.in_err-sender.ensures r.numbers.sender (after_sender r) fits.sender one.1)

pub returns-in_err-received : goal.returns-in_err-received
returns-in_err-received c r fits e =
    let one = c.in_ok-generation.ensures r.generation (after_generation r) fits.generation (e ∙ line_by_words r) in
    let two = c.in_ok-sender.ensures r.numbers.sender (after_sender r) fits.sender one.1 in
    absurd (c.in_err-received.ensures r.numbers.received (after_received r) fits.received two.1)

pub returns-in_err-fingerprint : goal.returns-in_err-fingerprint
returns-in_err-fingerprint c r fits e =
    let one = c.in_ok-generation.ensures r.generation (after_generation r) fits.generation (e ∙ line_by_words r) in
    let two = c.in_ok-sender.ensures r.numbers.sender (after_sender r) fits.sender one.1 in
    let three = c.in_ok-received.ensures r.numbers.received (after_received r) fits.received two.1 in
    absurd (c.in_err-fingerprint.ensures r.owner.fingerprint (after_fingerprint r) fits.fingerprint_length fits.fingerprint_bytes three.1)

pub returns-in_err-device : goal.returns-in_err-device
returns-in_err-device c r fits e =
    let one = c.in_ok-generation.ensures r.generation (after_generation r) fits.generation (e ∙ line_by_words r) in
    let two = c.in_ok-sender.ensures r.numbers.sender (after_sender r) fits.sender one.1 in
    let three = c.in_ok-received.ensures r.numbers.received (after_received r) fits.received two.1 in
    let four = c.in_ok-fingerprint.ensures r.owner.fingerprint (after_fingerprint r) fits.fingerprint_length fits.fingerprint_bytes three.1 in
    absurd (c.in_err-device.ensures r.owner.device (after_device r) fits.device four.1)

pub returns-in_err-inode : goal.returns-in_err-inode
returns-in_err-inode c r fits e =
    let one = c.in_ok-generation.ensures r.generation (after_generation r) fits.generation (e ∙ line_by_words r) in
    let two = c.in_ok-sender.ensures r.numbers.sender (after_sender r) fits.sender one.1 in
    let three = c.in_ok-received.ensures r.numbers.received (after_received r) fits.received two.1 in
    let four = c.in_ok-fingerprint.ensures r.owner.fingerprint (after_fingerprint r) fits.fingerprint_length fits.fingerprint_bytes three.1 in
    let five = c.in_ok-device.ensures r.owner.device (after_device r) fits.device four.1 in
    absurd (c.in_err-inode.ensures r.owner.inode (after_inode r) fits.inode five.1)

pub returns : goal.returns
returns c r fits e =
    let one = c.in_ok-generation.ensures r.generation (after_generation r) fits.generation (e ∙ line_by_words r) in
    let two = c.in_ok-sender.ensures r.numbers.sender (after_sender r) fits.sender one.1 in
    let three = c.in_ok-received.ensures r.numbers.received (after_received r) fits.received two.1 in
    let four = c.in_ok-fingerprint.ensures r.owner.fingerprint (after_fingerprint r) fits.fingerprint_length fits.fingerprint_bytes three.1 in
    let five = c.in_ok-device.ensures r.owner.device (after_device r) fits.device four.1 in
    let six = c.in_ok-inode.ensures r.owner.inode (after_inode r) fits.inode five.1 in
    same_record r c.in_ok-generation.generation c.in_ok-sender.sender c.in_ok-received.received c.in_ok-fingerprint.fingerprint c.in_ok-device.device c.in_ok-inode.inode one.0 two.0 three.0 four.0 five.0 six.0

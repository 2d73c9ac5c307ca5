use Rattle.std.proofs.Common.{length, ap, ◌∙◌, ◌+◌}
use Rattle.osc_coap.specs.OptionSpelling.{Entry, marked, spelling_length}
use Rattle.osc_coap.specs.Views.{options_left, parts_of}
use Rattle.osc_proxy.specs.Asking.{inserted}
use Rattle.osc_proxy.specs.Splitting.{between}
use Rattle.std.proofs.Common.{List, ℕ, [], ◌∷◌, ◌++◌}
use Rattle.osc_proxy.proofs.Askings.{counted, sum}
use Rattle.osc_proxy.proofs.asking.asked_len.Goals as goal

pub returns : goal.returns
returns c = λ scheme e.
    let p = parts_of c.args.request.now in
    let os : List Entry = options_left c.options.result in
    let qs : List Entry = options_left c.options-2.result in
    let options = counted p scheme os qs c.new.result.number c.new.result.len c.and_between.result.number c.and_between.result.len c.and.result.number c.and.result.len c.and_between-tally.result.number c.and_between-tally.result.len
    c.options.ensures c.options-2.ensures (c.options_ascend.ensures.held_message c.args.request.now) c.new.ensures.0 c.new.ensures.1
    (c.and_between.ensures.counted ((39, scheme) ∷ between 40 65535 qs))
    (c.and.ensures.counted scheme (between 40 65535 qs ++ []) e)
    (c.and_between-tally.ensures.counted []) in
    sum (length p.token) (spelling_length 0 (inserted (39, scheme) p.options)) c.and_between-tally.result.len _ c.head_len.result (length (marked p.payload)) options c.head_len.ensures.value
    (ap (λ (n : ℕ). c.head_len.result + n + c.marked_len.result) c.len.ensures ∙ ap (λ (n : ℕ). c.head_len.result + c.and_between-tally.result.len + n) (c.marked_len.ensures ∙ ap (λ (bytes : List ℕ). length (marked bytes)) c.payload.ensures))

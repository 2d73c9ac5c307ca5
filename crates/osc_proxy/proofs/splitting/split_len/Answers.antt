use Rattle.std.proofs.Common.{ℕ, List, [], ◌∷◌, ◌+◌, length, min, ap, refl, ◌∙◌}
use Rattle.osc_coap.specs.OptionSpelling.{Entry, marked, spelling_length}
use Rattle.osc_coap.specs.Views.{options_left, parts_of}
use Rattle.osc_proxy.specs.Splitting.{between, in_place}
use Rattle.osc_proxy.specs.UriViews.{parts_left}
use Rattle.osc_proxy.proofs.Askings.{sum}
use Rattle.osc_proxy.proofs.Splittings.{and_nothing, from_nothing, left3, left5, left6, left7, left8, left9, nothing_behind}
use Rattle.osc_proxy.proofs.splitting.split_len.Goals as goal

pub returns-clause-length : goal.returns-clause-length
returns-clause-length c =
    let p = parts_of c.args.request.now in
    let host = c.args.host.now in
    let port = c.args.port.now in
    let path = parts_left c.args.path in
    let query = parts_left c.args.query in
    let os : List Entry = options_left c.options-options.result in
    let last = between 36 65535 os in
    let options =
    and_nothing c.and_between-all.result.len
    ∙ c.and_between-all.ensures.counted []
    ∙ ap (λ (es : List Entry). min (c.and_between-t9.result.len + spelling_length c.and_between-t9.result.number es) 65536) (nothing_behind last)
    ∙ c.and_between-t9.ensures.counted last
    ∙ c.in_ok-t8.ensures.counted (left9 p host port path query os)
    ∙ c.and_between-t7.ensures.counted (left8 p host port path query os)
    ∙ c.in_ok-t6.ensures.counted (left7 p host port path query os)
    ∙ c.and_between-t5.ensures.counted (left6 p host port path query os)
    ∙ c.and-t4.ensures.counted port (left5 p host port path query os) refl
    ∙ c.and_between-t3.ensures.counted ((7, port) ∷ left5 p host port path query os)
    ∙ c.and-t2.ensures.counted host (left3 p host port path query os) refl
    ∙ c.and_between-t1.ensures.counted ((3, host) ∷ left3 p host port path query os)
    ∙ from_nothing c.new.result.number c.new.result.len (in_place host port path query os) c.new.ensures.0 c.new.ensures.1
    ∙ ap (λ (es : List Entry). min (spelling_length 0 (in_place host port path query es)) 65536) c.options-options.ensures in
    sum (length p.token) (spelling_length 0 (in_place host port path query p.options)) c.and_between-all.result.len _ c.head_len.result (length (marked p.payload)) options c.head_len.ensures.value
    (ap (λ (n : ℕ). c.head_len.result + n + c.marked_len.result) c.len.ensures ∙ ap (λ (n : ℕ). c.head_len.result + c.and_between-all.result.len + n) (c.marked_len.ensures ∙ ap (λ (bytes : List ℕ). length (marked bytes)) c.payload.ensures))

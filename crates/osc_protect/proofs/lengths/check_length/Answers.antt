use Rattle.std.proofs.Common.{rules, ◌≡◌, ◌+◌, length, refl, sym, arith}
use Rattle.osc_coap.specs.OptionSpelling.{option_length}
use Rattle.osc_coap.specs.Views.{parts_of}
use Rattle.osc_protect.specs.Checks.{Counts}
use Rattle.osc_protect.proofs.SealedLengths.{outside_sum, sealed_sum, sealed_beyond}
use Rattle.osc_protect.proofs.lengths.check_length.Goals as goal

pub returns-in_default-clause-refused : goal.returns-in_default-clause-refused
returns-in_default-clause-refused c = sealed_beyond c.args.family.features c.args.family.notifies (parts_of c.args.plain.now) c.args.value.now (parts_of c.args.plain.now).options refl (search rules)

pub returns-then-sealed-gt-MOST_DATAGRAM-clause-refused : goal.returns-then-sealed-gt-MOST_DATAGRAM-clause-refused
returns-then-sealed-gt-MOST_DATAGRAM-clause-refused c =
    let counts : Counts c.args.family (parts_of c.args.plain.now) c.in-Some.lists = search rules in
    let option : c.option_len-option.result ≡ option_length c.saturating_sub-delta.result (length c.args.value.now) = search rules in
    let front = outside_sum c.args.family.features c.args.family.notifies (parts_of c.args.plain.now) c.args.value.now (parts_of c.args.plain.now).options c.head_len.result c.in-Some.lists.outer.len c.in-Some.lists.outer.number c.saturating_sub-delta.result c.option_len-option.result c.in-Some.lists.behind.len refl c.head_len.ensures.value counts.outer counts.last c.saturating_sub-delta.ensures option counts.behind in
    let sum = sealed_sum c.args.family.features c.args.family.notifies (parts_of c.args.plain.now) c.args.value.now c.payload.result.now (parts_of c.args.plain.now).options (c.head_len.result + c.in-Some.lists.outer.len + c.option_len-option.result + c.in-Some.lists.behind.len) c.in-Some.lists.inner.len c.marked_len.result refl c.payload.ensures front counts.inner c.marked_len.ensures in
    omega (arith, sum)

pub returns-then-sealed-room-clause-refused : goal.returns-then-sealed-room-clause-refused
returns-then-sealed-room-clause-refused c =
    let counts : Counts c.args.family (parts_of c.args.plain.now) c.in-Some.lists = search rules in
    let option : c.option_len-option.result ≡ option_length c.saturating_sub-delta.result (length c.args.value.now) = search rules in
    let front = outside_sum c.args.family.features c.args.family.notifies (parts_of c.args.plain.now) c.args.value.now (parts_of c.args.plain.now).options c.head_len.result c.in-Some.lists.outer.len c.in-Some.lists.outer.number c.saturating_sub-delta.result c.option_len-option.result c.in-Some.lists.behind.len refl c.head_len.ensures.value counts.outer counts.last c.saturating_sub-delta.ensures option counts.behind in
    let sum = sealed_sum c.args.family.features c.args.family.notifies (parts_of c.args.plain.now) c.args.value.now c.payload.result.now (parts_of c.args.plain.now).options (c.head_len.result + c.in-Some.lists.outer.len + c.option_len-option.result + c.in-Some.lists.behind.len) c.in-Some.lists.inner.len c.marked_len.result refl c.payload.ensures front counts.inner c.marked_len.ensures in
    (omega (arith, sum), omega (arith, sum))

pub returns-clause-short : goal.returns-clause-short
returns-clause-short c = λ _.
    let counts : Counts c.args.family (parts_of c.args.plain.now) c.in-Some.lists = search rules in
    let option : c.option_len-option.result ≡ option_length c.saturating_sub-delta.result (length c.args.value.now) = search rules in
    let front = outside_sum c.args.family.features c.args.family.notifies (parts_of c.args.plain.now) c.args.value.now (parts_of c.args.plain.now).options c.head_len.result c.in-Some.lists.outer.len c.in-Some.lists.outer.number c.saturating_sub-delta.result c.option_len-option.result c.in-Some.lists.behind.len refl c.head_len.ensures.value counts.outer counts.last c.saturating_sub-delta.ensures option counts.behind in
    let sum = sealed_sum c.args.family.features c.args.family.notifies (parts_of c.args.plain.now) c.args.value.now c.payload.result.now (parts_of c.args.plain.now).options (c.head_len.result + c.in-Some.lists.outer.len + c.option_len-option.result + c.in-Some.lists.behind.len) c.in-Some.lists.inner.len c.marked_len.result refl c.payload.ensures front counts.inner c.marked_len.ensures in
    omega (arith, sum)

pub returns-clause-room : goal.returns-clause-room
returns-clause-room c = λ _.
    let counts : Counts c.args.family (parts_of c.args.plain.now) c.in-Some.lists = search rules in
    let option : c.option_len-option.result ≡ option_length c.saturating_sub-delta.result (length c.args.value.now) = search rules in
    let front = outside_sum c.args.family.features c.args.family.notifies (parts_of c.args.plain.now) c.args.value.now (parts_of c.args.plain.now).options c.head_len.result c.in-Some.lists.outer.len c.in-Some.lists.outer.number c.saturating_sub-delta.result c.option_len-option.result c.in-Some.lists.behind.len refl c.head_len.ensures.value counts.outer counts.last c.saturating_sub-delta.ensures option counts.behind in
    let sum = sealed_sum c.args.family.features c.args.family.notifies (parts_of c.args.plain.now) c.args.value.now c.payload.result.now (parts_of c.args.plain.now).options (c.head_len.result + c.in-Some.lists.outer.len + c.option_len-option.result + c.in-Some.lists.behind.len) c.in-Some.lists.inner.len c.marked_len.result refl c.payload.ensures front counts.inner c.marked_len.ensures in
    omega (arith, sum)

pub returns-clause-marker : goal.returns-clause-marker
returns-clause-marker c =
    let counts : Counts c.args.family (parts_of c.args.plain.now) c.in-Some.lists = search rules in
    let option : c.option_len-option.result ≡ option_length c.saturating_sub-delta.result (length c.args.value.now) = search rules in
    sym (outside_sum c.args.family.features c.args.family.notifies (parts_of c.args.plain.now) c.args.value.now (parts_of c.args.plain.now).options c.head_len.result c.in-Some.lists.outer.len c.in-Some.lists.outer.number c.saturating_sub-delta.result c.option_len-option.result c.in-Some.lists.behind.len refl c.head_len.ensures.value counts.outer counts.last c.saturating_sub-delta.ensures option counts.behind)

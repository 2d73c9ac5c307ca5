use Rattle.std.proofs.Common.{rules, ℕ, ◌+◌, ◌-◌, List, length, ap, refl, subst, inl, inr}
use Rattle.osc_coap.specs.Fault.{HasInnerFault}
use Rattle.osc_coap.specs.Inner.{IsInner}
use Rattle.osc_coap.specs.Views.{inner_parts_of}
use Rattle.osc_protect.proofs.Decrypted.{front_is}
use Rattle.osc_protect.proofs.reading.inspect.Goals as goal

pub returns-in_default-clause-refused : goal.returns-in_default-clause-refused
returns-in_default-clause-refused c =
    let front = front_is c.payload_stands_last.ensures.last c.requires.0 c.args.datagram.now c.args.len (length c.args.datagram.now - (c.args.len + 8)) c.requires.1 c.requires.2 refl in
    let e = c.in_default.field-0 in
    (c.requires.0, c.requires.1, inl (e.fault, e.place, subst (λ (b : List ℕ). HasInnerFault b e.fault e.place) front c.in_default.ensures.refused))

pub returns-then-not-is_code_of-clause-refused : goal.returns-then-not-is_code_of-clause-refused
returns-then-not-is_code_of-clause-refused c =
    let front = front_is c.payload_stands_last.ensures.last c.requires.0 c.args.datagram.now c.args.len (length c.args.datagram.now - (c.args.len + 8)) c.requires.1 c.requires.2 refl in
    let m = inner_parts_of c.in-Ok.inner in
    (c.requires.0, c.requires.1, inr (m, subst (λ (b : List ℕ). IsInner m b) front c.in-Ok.ensures.accepted, inl (search rules)))

pub returns-then-has_barred-clause-refused : goal.returns-then-has_barred-clause-refused
returns-then-has_barred-clause-refused c =
    let front = front_is c.payload_stands_last.ensures.last c.requires.0 c.args.datagram.now c.args.len (length c.args.datagram.now - (c.args.len + 8)) c.requires.1 c.requires.2 refl in
    let m = inner_parts_of c.in-Ok.inner in
    (c.requires.0, c.requires.1, inr (m, subst (λ (b : List ℕ). IsInner m b) front c.in-Ok.ensures.accepted, inr (search rules)))

pub returns-clause-accepted : goal.returns-clause-accepted
returns-clause-accepted c =
    let front = front_is c.payload_stands_last.ensures.last c.requires.0 c.args.datagram.now c.args.len (length c.args.datagram.now - (c.args.len + 8)) c.requires.1 c.requires.2 refl in
    let m = inner_parts_of c.in-Ok.inner in
    record {
      outer = c.requires.0;
      datagram = c.requires.1;
      room = c.requires.2;
      inner = m;
      spells = subst (λ (b : List ℕ). IsInner m b) front c.in-Ok.ensures.accepted;
      long = ap length c.payload.ensures;
      code = search rules;
      allowed = search rules;
    }

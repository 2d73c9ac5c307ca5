use Rattle.std.proofs.Common.{◌≡◌, ◌≢◌, ℕ, ◌+◌, ◌≤◌, List, [], ◌∷◌, ◌++◌, length, take, drop, sym, ap, subst, ◌∙◌, arith, length-take, length-drop}
use Rattle.std.proofs.lemmas.List.{length-append}
use Rattle.osc_ccm.specs.Laws.{ProtectionLength}
use Rattle.osc_coap.specs.Datagram.{IsDatagram}
use Rattle.osc_protect.specs.Views.{cipher_of}
use Rattle.osc_protect.specs.declared.aead.Aead.{Aead}
use Rattle.osc_protect.proofs.Placing.{behind, part_old, payload_bytes}
use Rattle.osc_protect.proofs.sealing.seal_behind.Goals as goal

longer : ProtectionLength → (a : Aead) (m : List ℕ) (len : ℕ) → length m ≡ len → length (cipher_of a m) ≡ len + 8
unfolding cipher_of
longer law a m len short = law _ _ _ m ∙ ap (λ (n : ℕ). n + 8) short

pub returns-clause-sealed : goal.returns-clause-sealed
returns-clause-sealed c = λ p h empty code.
    let old = c.args.out.now in
    let at = c.args.at in
    let len = c.args.len in
    let m : List ℕ = take len (drop (at + 1) old) in
    let cipher : List ℕ = cipher_of c.args.aead.now m in
    let short : length m ≡ len = omega (arith, length-take len (drop (at + 1) old), length-drop (at + 1) old) in
    let long : length cipher ≡ len + 8 = longer c.protection_length.ensures c.args.aead.now m len short in
    let made = (behind old c.seal-sealed.new.payload cipher at len (omega arith) long
    (part_old (cipher_of c.args.aead.now) old c.seal-sealed.new.payload at len (omega arith) c.seal-sealed.ensures.sealed)).0 in
    let fits : length (take at old ++ (255 ∷ cipher)) ≤ 65535 = omega (arith, length-append (take at old) (255 ∷ cipher), length-take at old) in
    let front : length (take at old) ≡ at = omega (arith, length-take at old) in
    let bytes = payload_bytes _ (take at old) cipher (at + 9 + len) at front made (λ i. let fit = c.type_inv.out i in omega (arith, fit)) in
    let some : cipher ≢ [] = λ none. let zero = ap length none in omega (arith, long, zero) in
    subst (λ (z : List ℕ). IsDatagram (record p { payload = cipher }) z) (sym made) (c.payload_stands_last.ensures.added p cipher (take at old) h empty code bytes some fits)

pub returns-clause-behind : goal.returns-clause-behind
returns-clause-behind c =
    let old = c.args.out.now in
    let at = c.args.at in
    let len = c.args.len in
    let m : List ℕ = take len (drop (at + 1) old) in
    let short : length m ≡ len = omega (arith, length-take len (drop (at + 1) old), length-drop (at + 1) old) in
    (behind old c.seal-sealed.new.payload (cipher_of c.args.aead.now m) at len (omega arith) (longer c.protection_length.ensures c.args.aead.now m len short)
    (part_old (cipher_of c.args.aead.now) old c.seal-sealed.new.payload at len (omega arith) c.seal-sealed.ensures.sealed)).1
